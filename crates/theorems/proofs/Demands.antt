-- THE THEOREMS OF THE DEFINITIONS, for every list s of octets; the three demands of the calls are Theorems, beside this file. The rules of writing (crate format) know no reader; the reading definition (crates read_names, read_items,
-- reader) is what the code is held to. Here the two meet. Each proof is a line or two; the files beside this one have what it rests on.
use Prim.Native.Nat.{ℕ, ◌+◌, ◌-◌, ◌*◌, ◌/◌, ◌%◌, ◌≤◌, ◌<◌}
use mathlib.Core.Path.{◌≡◌, sym, ap, ◌∙◌, subst, subst₂}
use mathlib.Core.Logic.{◌↔◌}
use mathlib.Core.List.{List, ◌++◌, map}
use native.Mathlib.Omega.{arith}
use lib.ListN.{length, get_or, length-map, length-append}
use Rattle.format.specs.Octets.{Octets, Halves, AreOctets}
use Rattle.format.specs.Numbers.{top, longest}
use Rattle.format.specs.Characters.{IsText}
use Rattle.format.specs.Events as E
use Rattle.format.specs.Events.{Item, IsDocument, strings_of, deepest}
use Rattle.format.specs.Tables.{Tables, Vocabulary, no_entries, Version, link, standard, InLimits}
use Rattle.format.specs.Head.{Head}
use Rattle.format.specs.Items.{State}
use Rattle.format.specs.Document.{beginning, known_after, Document, header}
use Rattle.format.specs.Uses.{acts, after, Known, Holds}
use Rattle.format.specs.Allowed.{All, Allowed}
use Rattle.fields.proofs.Characters.{one_list}
use Rattle.tables.specs.Located.{Located, plain, plain_tables, plain_state}
use Rattle.read_items.specs.Items.{Stand}
use Rattle.reader.specs.Reading.{EventRead, items_read, record_read, accepted, refusal, Mark, run, onward, opening, origin, fuel_of, reading, marks, number_of, check_of, Accepts}
use Rattle.events.specs.declared.Event.{Event}
use Rattle.events.specs.Records.{record_of, unplaced}
use Rattle.events.specs.WellMade.{WellMade}
use Rattle.write_head.specs.Given.{Given}
use Rattle.write_head.specs.Head.{tables_of, head_octets}
use Rattle.write_items.specs.Steps.{joined}
use Rattle.writer.specs.Writing.{written, writing, known_writing}
use Rattle.theorems.specs.Bounded.{Bounded}
use Rattle.theorems.specs.Heads.{headed, HeadAllowed}
use Rattle.theorems.specs.Places.{all_spelled, spelled_in, places_in}
use Rattle.theorems.specs.Verdicts.{head_of, WrittenAs, WrittenUnlessLong, WrittenWidely, OrPasses}
use Rattle.theorems.specs.Demands.{Wrote}
use Rattle.theorems.specs.Permitted.{PermitsAll}
use Rattle.theorems.proofs.Document as Whole
use Rattle.theorems.proofs.Document.{link_bounded}
use Rattle.theorems.proofs.Fits.{accepted_fits}
use Rattle.theorems.proofs.Opening.{OpensAt}
use Rattle.theorems.proofs.Heads.{opened_is}
use Rattle.theorems.proofs.Headed as Headed
use Rattle.theorems.proofs.Entries.{AtMost}
use Rattle.theorems.proofs.Effects.{document_done}
use Rattle.theorems.proofs.Earlier as Before
use Rattle.theorems.proofs.Documents as Tree
use Rattle.theorems.proofs.Plain as Plain
use Rattle.theorems.proofs.ReadEffects.{reading_done}
use Rattle.theorems.proofs.ReadRecords as Records
use Rattle.theorems.proofs.Every as Every
use Rattle.theorems.proofs.Permitted as Permitted
use Rattle.theorems.proofs.WriterDocument as Made
use Rattle.theorems.proofs.GivenHeads.{tables-headed, given-octets}
use Rattle.theorems.proofs.Given.{given_back}

module _ (ver : Version) (ok : Bounded ver) (s : Octets) (bytes : AreOctets s) where
  -- 1. SOUND: octets that are accepted are what the rules write, from some head and the items handed out, and the tables at the end are the rules'.
  pub accepted_is_written : (room : ℕ) (items : List (Item Octets)) (z : State Octets) → Accepts ver s room items z → (h : Head) × Document ver h items z s
  accepted_is_written room items z a =
      subst₂ (λ (l : List (Item Octets)) (y : State Octets). (h : Head) × Document ver h l y s) a.are a.end_is (subst (Whole.Means ver ok s bytes) a.reads (Whole.means ver ok s bytes room))

  --    COMPLETE: what the rules write is accepted, with those items, if there is a record for each event.
  pub written_is_accepted : (room : ℕ) (h : Head) (items : List (Item Octets)) (z : State Octets) → Document ver h items z s → length items ≤ room → Accepts ver s room items z
  written_is_accepted room h items z w few = Whole.accepts ver s h items z w room few

  --    EXACTLY: the octets are accepted with these events, choices and tables exactly when the rules write them so behind some head, within the limits and the room.
  pub exactly : (room : ℕ) (items : List (Item Octets)) (z : State Octets) → Accepts ver s room items z ↔ (((h : Head) × Document ver h items z s) × (length items ≤ room))
  exactly room items z = (λ a. (accepted_is_written room items z a, accepted_fits ver s room items z a), λ w. written_is_accepted room w.0.0 items z w.0.1 w.1)

  -- 2. UNIQUE: where the rules write two heads, each with events and choices, as the same octets, the heads are the same, and the events and choices too.
  pub one_pair : (g h : Head) (items others : List (Item Octets)) (y z : State Octets) → Document ver g items y s → Document ver h others z s → (g ≡ h) × (items ≡ others) × (y ≡ z)
  one_pair g h items others y z w u =
      let a = written_is_accepted (length items + length others) g items y w (omega arith) in
      let b = written_is_accepted (length items + length others) h others z u (omega arith) in
      let e : accepted a.events a.last ≡ accepted b.events b.last = sym a.reads ∙ b.reads in
      let p : a.events ≡ b.events = cc in
      let q : a.last ≡ b.last = cc in
      (Whole.one_head_read ver s w u, sym a.are ∙ ap (λ (l : List EventRead). map (plain s) (items_read l)) p ∙ b.are, sym a.end_is ∙ ap (λ (m : Stand). plain_state s m.state) q ∙ b.end_is)

--    And one head with one pair is written as one run of octets only.
pub one_document : (ver : Version) (h : Head) (items : List (Item Octets)) (y z : State Octets) (s t : Octets) → Document ver h items y s → Document ver h items z t → (s ≡ t) × (y ≡ z)
one_document ver h items y z s t w u = Headed.one_document w u

-- 3. ROOM: with too few records the answer is 14, at the place of the first event that has none (`marks` ends at the first fault, so no field before it is
--    faulty); with a record for each event, more room changes nothing.
pub room_short : (ver : Version) (s : Octets) (room : ℕ) → room < length (marks ver s) → reading ver s room ≡ refusal 14 (get_or (map (λ (k : Mark). k.place) (marks ver s)) room 0)
room_short ver s room h = Whole.too_short ver s room h

pub room_enough : (ver : Version) (s : Octets) (room : ℕ) → length (marks ver s) ≤ room → reading ver s room ≡ reading ver s (length (marks ver s))
room_enough ver s room h = Whole.long_enough ver s room h

-- 4. MADE EARLIER: every number, save the 0 of the empty string, is, when it is used, that of an entry made earlier in the document, listed in its head or built in; and the
--    entry is the very string, or the whole name, that the event says.
pub made_earlier : (ver : Version) (h : Head) (items : List (Item Octets)) (z : State Octets) (s : Octets) → Document ver h items z s
    → (begins : Tables Octets (E.Name Octets)) → Holds (headed ver h) begins → Known begins (acts items)
made_earlier ver h items z s w begins a = Before.earlier (subst (λ (v : Vocabulary Octets). Holds v begins) (sym (opened_is w.opens)) a) (document_done w)

--    LISTED: where the reader's body begins it has the built-in entries, and behind them the head's, each string at the very place and of the length at which the rules list it.
pub listed_places : (ver : Version) (h : Head) (items : List (Item Octets)) (z : State Octets) (s : Octets) (w : Document ver h items z s) → OpensAt ver s w.opens
listed_places ver h items z s w = Whole.opens ver s h items z w

--    PLACES: in what the reader hands out, the string behind a number has the very place and length of the entry made earlier or listed, or is built in; so each part of a
--    name behind a number.
module _ (ver : Version) (s : Octets) (room body : ℕ) (tables : Vocabulary Located) (begins : Tables Located (E.Name Located)) where
  pub made_earlier_places : opening ver s ≡ onward body tables → Holds tables begins → (events : List EventRead) (last : Stand) → reading ver s room ≡ accepted events last → Known begins (acts (items_read events))
  made_earlier_places o a events last e = Before.earlier a (reading_done ver s room body tables o events last e)

  --    MADE: the reader's tables at the end hold those with which its body begins, then what its events made, at the very places that these have, and nothing else.
  pub tables_made_places : opening ver s ≡ onward body tables → Holds tables begins → (events : List EventRead) (last : Stand) → reading ver s room ≡ accepted events last
      → Holds last.state.tables (after begins (acts (items_read events)))
  tables_made_places o a events last e = Before.made a (reading_done ver s room body tables o events last e)

--    And so the rules' tables: the built-in entries, the listed ones, then what the choices of the items make, in order.
pub tables_made : (ver : Version) (h : Head) (items : List (Item Octets)) (z : State Octets) (s : Octets) → Document ver h items z s
    → (begins : Tables Octets (E.Name Octets)) → Holds (headed ver h) begins → Holds z.tables (after begins (acts items))
tables_made ver h items z s w begins a = Before.made (subst (λ (v : Vocabulary Octets). Holds v begins) (sym (opened_is w.opens)) a) (document_done w)

--    SPELLED: the strings that the choices spell have, in order, the very places and lengths at which the rules write them.
pub spelled_places : (ver : Version) (h : Head) (items : List (Item Octets)) (z : State Octets) (s : Octets) (w : Document ver h items z s) (room : ℕ) → length items ≤ room
    → (events : List EventRead) (last : Stand) → reading ver s room ≡ accepted events last → all_spelled (items_read events) ≡ spelled_in w.rule
spelled_places ver h items z s w room few events last e = Whole.spelled_is ver s h items z w room few events last e

--    STANDING: the events that are handed out have, in order, the very places at which the rules write them.
pub standing_places : (ver : Version) (h : Head) (items : List (Item Octets)) (z : State Octets) (s : Octets) (w : Document ver h items z s) (room : ℕ) → length items ≤ room
    → (events : List EventRead) (last : Stand) → reading ver s room ≡ accepted events last → map (λ (e : EventRead). e.place) events ≡ places_in w.rule
standing_places ver h items z s w room few events last e = Whole.placed_is ver s h items z w room few events last e

-- 5. TABLES: what the reader knows after each event is what the rules know then.
pub tables : (ver : Version) (h : Head) (items : List (Item Octets)) (z : State Octets) (s : Octets) (w : Document ver h items z s)
    → map (λ (k : Mark). plain_state s k.stand.state) (marks ver s) ≡ known_after ver w.rule
tables ver h items z s w = Whole.known_is ver s h items z w

module _ (ver : Version) (ok : Bounded ver) (s : Octets) (bytes : AreOctets s) where
  -- 6. REFUSED means refused by a number that the requirements give a reader, at a place in the document or at its end.
  pub refused : (room n p : ℕ) → reading ver s room ≡ refusal n p → (1 ≤ n) × (n ≤ 15) × (p ≤ length s)
  refused room n p e = subst (Whole.Means ver ok s bytes) e (Whole.means ver ok s bytes room)

  --    The events are few (21,838 at most on the link), so the check's records never run out, and it need not hold them.
  pub events_few : length (marks ver s) ≤ 4 * (ver.octets - length (header ver)) / 3
  events_few = Whole.marks_few ver ok s bytes

  pub check_needs_none : (room : ℕ) → 4 * (ver.octets - length (header ver)) / 3 ≤ room → check_of ver s ≡ number_of (reading ver s room)
  unfolding check_of
  check_needs_none room h =
      let f = events_few in
      ap number_of (Whole.long_enough ver s (2 * ver.octets) (omega arith) ∙ sym (Whole.long_enough ver s room (omega arith)))

  --    So the check never answers 14.
  pub check_never_14 : check_of ver s % 32 ≡ 14 → ⊥
  unfolding check_of
  check_never_14 = Whole.number_never_14 ver ok s bytes (2 * ver.octets) (let f = events_few in omega arith)

  --    The bound on the steps never decides: behind a right header and head, more fuel changes nothing.
  pub steps_enough : (more room body : ℕ) (tables : Vocabulary Located) → opening ver s ≡ onward body tables → run ver s (more + fuel_of s) room (origin body tables) ≡ run ver s (fuel_of s) room (origin body tables)
  steps_enough more room body tables e = Whole.more_fuel ver ok s bytes more room body tables e

pub link_events_few : (s : Octets) → AreOctets s → length (marks link s) ≤ 21838
unfolding link header
link_events_few s bytes = events_few link link_bounded s bytes

-- 7. The limits of a version lie within the standard's: what the rules write within the first, they write within the second (2^20 entries; lengths to 2^32 are in the
--    rules; no limit on octets and open elements). It says nothing of documents that X.891 allows and the rules do not write: those of the parts that the version does not
--    carry, and those in which an identifying string or a name is spelled again that its table holds (the requirements' REPEAT is stricter than 7.13.7).
pub within-standard_limits : (ver : Version) → Bounded ver → (h : Head) (items : List (Item Octets)) (z : State Octets) (s : Octets) (depth octets : ℕ) → ver.octets ≤ octets → ver.depth ≤ depth
    → Document ver h items z s → Document (standard ver depth octets) h items z s
within-standard_limits ver ok h items z s depth octets long deep w = Headed.in_standard depth octets ok.few_entries long deep w

-- 8. What the rules write are documents in the sense of the requirements: comments and instructions, one root element, comments and instructions.
pub a_document : (ver : Version) (h : Head) (items : List (Item Octets)) (z : State Octets) (s : Octets) → Document ver h items z s → IsDocument (map (λ (i : Item Octets). i.event) items)
a_document ver h items z s w = Tree.is_document w

-- 9. Their strings are as the requirements allow: text; empty only where the requirements say so; a prefix only with a namespace.
pub allowed : (ver : Version) (h : Head) (items : List (Item Octets)) (z : State Octets) (s : Octets) → Document ver h items z s → All (λ (i : Item Octets). Allowed i.event) items
allowed ver h items z s w = Plain.all_allowed w

--    Text is the octets of one list of characters only.
pub text_says_one : (x : Octets) (s t : IsText x) → s.says ≡ t.says
text_says_one x s t = one_list s.says t.says s.are t.are (sym s.octets ∙ t.octets)

--    RECORDS: so is every record that the reader hands out; its stretches lie in the document, and what is built in stands only where it can.
pub records_well_made : (ver : Version) (h : Head) (items : List (Item Octets)) (z : State Octets) (s : Octets) → Document ver h items z s
    → (room : ℕ) (events : List EventRead) (last : Stand) → reading ver s room ≡ accepted events last → All (WellMade s) (map record_read events)
records_well_made ver h items z s w room events last e =
    let l = ap length (Whole.whole ver s h items z w) ∙ length-append w.before _ in
    Records.well_made ver s w.opens (listed_places ver h items z s w) (omega arith) room events last e

-- 10. THE RULES CAN WRITE EVERY DOCUMENT: a list that is a document, its events as the requirements allow them, no string over 2^32 octets, is written behind every allowed head with the required
--     choices within wide enough limits, if the events and the entries of each table behind the head are no more than 2^20 together.
module _ (ver : Version) (ok : Bounded ver) (h : Head) (right : HeadAllowed ver h) (es : List (E.Event Octets)) (doc : IsDocument es) (may : All Allowed es)
    (short : All (λ (e : E.Event Octets). All (λ (x : Octets). length x ≤ longest) (strings_of e)) es) where
  pub every_document : (n : ℕ) → AtMost n (headed ver h) → n + length es ≤ top → WrittenWidely ver h es
  every_document n most few = Every.every_document ver ok h right es doc may short most few

  --     If not within the version's own, then it passes one of them: on the link 32 open elements, 256 entries of a table, or 16,384 octets.
  pub beyond_limits : (w : WrittenWidely ver h es) → OrPasses ver h es w.last w.octets
  beyond_limits w = Every.beyond_limits ver ok h right es doc may short w

--     So it is without a head, if there are fewer than 2^20 events.
pub every_document_without_head : (ver : Version) → Bounded ver → (es : List (E.Event Octets)) → IsDocument es → All Allowed es
    → All (λ (e : E.Event Octets). All (λ (x : Octets). length x ≤ longest) (strings_of e)) es → length es < top → WrittenWidely ver no_entries es
every_document_without_head ver ok es doc may short few = every_document ver ok no_entries (Every.no_head_allowed ver ok) es doc may short 1 (Every.no_head_few ver) (omega arith)

--     AND WITH EVERY CHOICE: not only the requirements' own. Whatever choices are permitted (specs/Permitted: a chunk or value spelled again, added or not; any number that names the
--     string or name), the rules write these items behind every allowed head, and the tables behind them are those that the choices leave. So the rules, and the reader with them, are not narrowed to our writer.
module _ (ver : Version) (ok : Bounded ver) (h : Head) (items : List (Item Octets)) (w : Vocabulary Octets) (right : HeadAllowed ver h) where
  abbrev es : List (E.Event Octets)
  es = map (λ (i : Item Octets). i.event) items

  pub every_choice : IsDocument es → All Allowed es → All (λ (e : E.Event Octets). All (λ (x : Octets). length x ≤ longest) (strings_of e)) es → PermitsAll (headed ver h) items w
      → (n : ℕ) → AtMost n (headed ver h) → n + length items ≤ top → WrittenAs ver h items w
  every_choice doc may short permits n most few = Every.every_choice ver ok h right items doc may short permits most few

  --     Within the version's own limits too, unless there are too many octets: so they are not narrowed on the link alone.
  pub every_choice_within : IsDocument es → All Allowed es → All (λ (e : E.Event Octets). All (λ (x : Octets). length x ≤ longest) (strings_of e)) es → PermitsAll (headed ver h) items w
      → deepest 0 es ≤ ver.depth → InLimits ver w → WrittenUnlessLong ver h items w
  every_choice_within doc may short permits shallow i = Every.every_choice_within ver ok h right items doc may short permits shallow i

--     And no other choices: what the rules write is permitted, and leaves those tables.
pub permitted : (ver : Version) (h : Head) (items : List (Item Octets)) (z : State Octets) (s : Octets) → Document ver h items z s → PermitsAll (headed ver h) items z.tables
unfolding beginning
permitted ver h items z s d = Permitted.permitted (Headed.rule_headed d)

-- Reading s begins the body at this place with these tables, as octets.
abbrev pub BeginsAs : Version → Octets → (body : ℕ) → Vocabulary Octets → Type 0
BeginsAs ver s body v = (tables : Vocabulary Located) × (opening ver s ≡ onward body tables) × (plain_tables s tables ≡ v)

pub head_read_back : (ver : Version) (text : Octets) (g : Given) (items : List (Item Octets)) (z : State Octets) (s : Octets) → Document ver (head_of ver text g) items z s
    → BeginsAs ver s (length (head_octets ver text g)) (plain_tables text (tables_of ver g))
head_read_back ver text g items z s w =
    let o = listed_places ver (head_of ver text g) items z s w in
    (o.tables, o.answers ∙ ap (λ (l : Octets). onward (length l) o.tables) (given-octets ver text g w.opens), o.are ∙ opened_is w.opens ∙ sym (tables-headed ver text g))

-- DEMAND 2, of the definitions: the writer makes these items, halves and this last state of tables given for the head and of records, over a text area (no longer than a document).
module _ (ver : Version) (text : Octets) (room : ℕ) (g : Given) (es : List Event) (items : List (Item Located)) (hs : Halves) (z : State Located) (e : writing ver g text room es ≡ written items hs z) where
  abbrev pub document : Octets
  document = head_octets ver text g ++ joined hs

  -- 11. GIVEN: the events that were written are, as records, the very list that was given, but for the places.
  pub the_events_given : map (λ (i : Item Located). record_of i.event) items ≡ map unplaced es
  the_events_given = given_back ver text room g es items hs z e

  module _ (ok : Bounded ver) (short : length text ≤ ver.octets) where
    -- 12. WRITTEN BY THE RULES: its octets are those that the rules write from the plain events and the required choices, its tables are the rules', and they fit the output.
    pub written_by_the_rules : Document ver (head_of ver text g) (map (plain text) items) (plain_state text z) document × (length document ≤ room)
    written_by_the_rules = let m = Made.meant ver ok text short room g es items hs z e in (m.writes, m.fits)

    --     ROUND TRIP: reading what the writer wrote, with a record for each event, gives back the same events, and the reader's tables are the writer's.
    pub round_trip : (records : ℕ) → length items ≤ records → Accepts ver document records (map (plain text) items) (plain_state text z)
    round_trip records h =
        let l = length-map items (plain text) in
        Whole.accepts ver document (head_of ver text g) (map (plain text) items) (plain_state text z) written_by_the_rules.0 records (omega arith)

    --     HEAD: the reader begins the body behind the writer's head, and its tables then are those that were given, behind the built-in entries, as octets.
    pub same_head : BeginsAs ver document (length (head_octets ver text g)) (plain_tables text (tables_of ver g))
    same_head = head_read_back ver text g (map (plain text) items) (plain_state text z) document written_by_the_rules.0

    --     TABLES: after each event the reader's tables are the writer's, as octets.
    pub same_tables : map (λ (k : Mark). plain_state document k.stand.state) (marks ver document) ≡ map (plain_state text) (known_writing ver g text room es)
    same_tables = let m = Made.meant ver ok text short room g es items hs z e in tables ver (head_of ver text g) (map (plain text) items) (plain_state text z) document m.writes ∙ m.known

    --     And so they are what the rules know then.
    pub writer_tables : (w : Document ver (head_of ver text g) (map (plain text) items) (plain_state text z) document) → map (plain_state text) (known_writing ver g text room es) ≡ known_after ver w.rule
    writer_tables w = sym same_tables ∙ tables ver (head_of ver text g) (map (plain text) items) (plain_state text z) document w

    --     There are tables for each event.
    pub tables_for_each : length (known_writing ver g text room es) ≡ length es
    tables_for_each = Made.each-known ver ok text short room g es items hs z e ∙ sym (length-map items (λ (i : Item Located). record_of i.event)) ∙ ap length the_events_given ∙ length-map es unplaced

--     The tables, of what was written as the octets s.
pub wrote_same-tables : (ver : Version) (ok : Bounded ver) (g : Given) (es : List Event) (text : Octets) (room : ℕ) (s : Octets) (z : State Octets) → length text ≤ ver.octets → Wrote ver g es text room s z
    → (map (λ (k : Mark). plain_state s k.stand.state) (marks ver s) ≡ map (plain_state text) (known_writing ver g text room es)) × (length (known_writing ver g text room es) ≡ length es)
wrote_same-tables ver ok g es text room s z short w = (
  subst (λ (o : Octets). map (λ (k : Mark). plain_state o k.stand.state) (marks ver o) ≡ map (plain_state text) (known_writing ver g text room es)) w.octets
      (same_tables ver text room g es w.items w.halves w.last w.is ok short),
  tables_for_each ver text room g es w.items w.halves w.last w.is ok short,
)
