-- DEMAND 2: the writer accepts whatever the requirements give it no number to refuse, with the octets that the rules write from these events and the required choices; each refusal is the requirements'.
use Prim.Native.Nat.{ℕ, ◌+◌, ◌-◌, ◌≤◌, ◌<◌}
use mathlib.Core.Path.{◌≡◌, refl, sym, ap, ◌∙◌, subst}
use mathlib.Core.Logic.{◌↔◌}
use mathlib.Core.Bool.{true}
use mathlib.Core.List.{List, [], ◌∷◌, ◌++◌, map}
use native.Mathlib.Omega.{arith}
use borrow.Author.Tests.{le-leb, lt-leb, eq-eqb, ne_eqb}
use lib.ListN.{length, replicate, length-map, length-append}
use Rattle.format.specs.Octets.{Octets, Halves, Words}
use Rattle.format.specs.Events.{Name, Item}
use Rattle.format.specs.Tables.{Tables, Version}
use Rattle.format.specs.Head.{Head}
use Rattle.format.specs.Items.{State}
use Rattle.format.specs.Uses.{Holds}
use Rattle.format.specs.Allowed.{All}
use Rattle.tables.specs.Located.{Located, empty, plain_state}
use Rattle.tables.specs.Counts.{table_words}
use Rattle.tables.specs.Told.{Told, told_accepted, told_refused, entries_of}
use Rattle.events.specs.declared.Event.{Event}
use Rattle.events.specs.WellMade.{WellMade}
use Rattle.reader.specs.Reading.{Mark, marks}
use Rattle.write_head.specs.Given.{Given, is_given, given_of}
use Rattle.write_head.specs.Head.{tables_of, head_octets}
use Rattle.write_items.specs.Steps.{joined}
use Rattle.writer.specs.Writing.{Result, written, refusal, writing, Outcome, outcome, write_of, known_writing}
use Rattle.theorems.specs.Bounded.{Bounded}
use Rattle.theorems.specs.Heads.{headed}
use Rattle.theorems.specs.Verdicts.{plain_of, plains, items_of, head_of, Fault, not_an_event, not_text, too_deep, too_many, no_room, at_event, too_soon, no_room_for_end}
use Rattle.theorems.specs.Demands.{Acceptable, Wrote, LeavesWritten, RefusedBy, text_too_long, wrong_table_room, wrong_words, at_head, at_events, WritesExactly}
use Rattle.theorems.proofs.Words.{entries-map}
use Rattle.theorems.proofs.Demands.{the_events_given, wrote_same-tables}
use Rattle.theorems.proofs.DemandThree as Three
use Rattle.theorems.proofs.Entries.{chosen_events}
use Rattle.theorems.proofs.Heads.{opened_named, named_ranged, begins, holds_begins}
use Rattle.theorems.proofs.Headed.{opens-headed}
use Rattle.theorems.proofs.ReadRecords.{named_there}
use Rattle.theorems.proofs.HeadOctets.{octets_some}
use Rattle.theorems.proofs.GivenTests.{untrue}
use Rattle.theorems.proofs.GivenHeads.{tables-headed, fault_some}
use Rattle.theorems.proofs.Asked.{by_asked}
use Rattle.theorems.proofs.WriterDocument.{RefusedWith, by_head, by_event, meant, refused_by}
use Rattle.theorems.proofs.WriterTables.{strings-written}
use Rattle.theorems.proofs.WriterAccepts.{writes_it, refuses_head, refuses_it}

all_from : {A : Type 0} (P : A → Type 0) (l : List A) → ((b : List A) (x : A) (after : List A) → l ≡ b ++ (x ∷ after) → P x) → All P l
all_from P [] f = tt
all_from P (x ∷ l) f = (f [] x l refl, all_from P l (λ b y after e. f (x ∷ b) y after (ap (λ (k : List _). x ∷ k) e)))

-- a refusal has a number
event_some : {ver : Version} {h : Head} {text : Octets} {room : ℕ} {before : List Event} {e : Event} {n : ℕ} → Fault ver h text room before e n → 0 < n
event_some (not_an_event a) = omega arith
event_some (not_text i a) = omega arith
event_some (too_deep i t a) = omega arith
event_some (too_many i t s a) = omega arith
event_some (no_room i t s f a) = omega arith

refused_some : {ver : Version} {ok : Bounded ver} {text : Octets} {short : length text ≤ ver.octets} {room : ℕ} {g : Given} {es : List Event} {n p : ℕ} → RefusedWith ver ok text short room g es n p → 0 < n
refused_some {ver} {text = text} {room = room} {g = g} (by_head f) = fault_some ver text g room f
refused_some (by_event right (at_event after is all f)) = event_some f
refused_some (by_event right (too_soon all d)) = omega arith
refused_some (by_event right (no_room_for_end all d w)) = omega arith

module _ (ver : Version) (ok : Bounded ver) (given : Words) (es : List Event) (text : Octets) (room : ℕ) where
  abbrev g : Given
  g = given_of given

  abbrev head : Head
  head = head_of ver text g

  abbrev lead : Octets
  lead = head_octets ver text g

  module _ (short : length text ≤ ver.octets) (gives : is_given given ≡ true) where
    from_written : (items : List (Item Located)) (hs : Halves) (y : State Located) → writing ver g text room es ≡ written items hs y → Acceptable ver given es text room table_words (lead ++ joined hs) (plain_state text y)
    from_written items hs y q =
        let m = meant ver ok text short room g es items hs y q in
        record {
          text_size = short;
          table_room = refl;
          gives = gives;
          entries = m.right.are_entries;
          well_made = all_from (WellMade text) es (λ b e after k. (m.all_right b e after k).is_event.0);
          writes = rw m.chosen_by at m.writes;
          fits = m.fits;
        }

    -- OF THE DEFINITION: it writes s, with z known at the end, exactly when the given entries and the records are well made, the rules write s from the head that they stand for and the plain
    -- events with the requirements' choices, z being known then, and s fits.
    pub writes_exactly : (s : Octets) (z : State Octets) → Wrote ver g es text room s z ↔ Acceptable ver given es text room table_words s z
    writes_exactly s z = (
      λ w. subst (λ (u : State Octets). Acceptable ver given es text room table_words s u) w.known
          (subst (λ (o : Octets). Acceptable ver given es text room table_words o (plain_state text w.last)) w.octets (from_written w.items w.halves w.last w.is)),
      λ a. writes_it ver ok text room g es short a.entries a.well_made z s a.writes a.fits,
    )

  module _ (table : ℕ) where
    wrote : (s : Octets) (z : State Octets) → Acceptable ver given es text room table s z → Wrote ver g es text room s z
    wrote s z a = writes_it ver ok text room g es a.text_size a.entries a.well_made z s a.writes a.fits

    accepts : (s : Octets) (z : State Octets) → Acceptable ver given es text room table s z → LeavesWritten ver g es text room s z (write_of ver given es text room table)
    unfolding write_of
    accepts s z a =
        let w = wrote s z a in
        let first : Tables Located (Name Located) = begins empty (tables_of ver g) in
        let held : Holds (tables_of ver g) first = holds_begins empty (tables_of ver g) (named_ranged (named_there ver text (tables_of ver g) (λ t. rw (tables-headed ver text g) (opened_named (opens-headed a.writes) t)))) in
        rw (le-leb (length text) ver.octets a.text_size, eq-eqb table table_words a.table_room, a.gives, w.is)
        (record {
          items = w.items;
          tables = w.last.tables;
          answer = λ i. told_accepted (length (w.octets i)) ((sym (entries-map _ w.last.tables) ∙ ap (λ (u : State Octets). entries_of u.tables) w.known) i);
          octets = ap (λ (o : Octets). o ++ replicate (room - length o) 0) w.octets;
          table_words_lem = refl;
          tables_are = ap (λ (u : State Octets). u.tables) w.known;
          given = the_events_given ver text room g es w.items w.halves w.last w.is;
          chosen = (meant ver ok text a.text_size room g es w.items w.halves w.last w.is).chosen_by;
          begins = first;
          begins_with = held;
          strings_made = strings-written ver text room g es w.items w.halves w.last w.is first held;
        })

    abbrev Some : Type 0
    Some = (s : Octets) × (z : State Octets) × Acceptable ver given es text room table s z

    only_from : length text ≤ ver.octets → table ≡ table_words → is_given given ≡ true → (r : Result) → writing ver g text room es ≡ r → (outcome ver lead r room).told.number ≡ 0 → Some
    only_from short right gives (written items hs y) q e = (lead ++ joined hs, plain_state text y, rw right (from_written short gives items hs y q))
    only_from short right gives (refusal n p) q e = absurd (let k = refused_some (refused_by ver ok text short room g es n p q) in omega arith)

    only : (write_of ver given es text room table).told.number ≡ 0 → Some
    only =
        by_asked ver given es text room table (λ (o : Outcome). o.told.number ≡ 0 → Some)
        (λ short right gives. only_from short right gives (writing ver g text room es) refl)
        (λ l e. absurd (omega arith)) (λ l m e. absurd (omega arith)) (λ l m n e. absurd (omega arith))

    -- the refusals
    module _ (n p : ℕ) where
      refused_so : (short : length text ≤ ver.octets) → table ≡ table_words → is_given given ≡ true → {k i : ℕ} → RefusedWith ver ok text short room g es k i → RefusedBy ver given es text room table k i
      refused_so short right gives (by_head f) = at_head short right gives f
      refused_so short right gives (by_event h r) = at_events short right gives h r

      same-told : (k i : ℕ) → told_refused k i ≡ told_refused n p → RefusedBy ver given es text room table k i → RefusedBy ver given es text room table n p
      same-told k i e r =
          let en : k ≡ n = ap (λ (t : Told). t.number) e in
          let ep : i ≡ p = ap (λ (t : Told). t.place) e in
          rw (← en, ← ep) r

      told_from : length text ≤ ver.octets → table ≡ table_words → is_given given ≡ true → (r : Result) → writing ver g text room es ≡ r → (outcome ver lead r room).told ≡ told_refused n p → RefusedBy ver given es text room table n p
      unfolding head_octets
      told_from short right gives (written items hs y) q e = absurd (let k = ap (λ (t : Told). t.count) e in let l = length-append lead (joined hs) in let m = octets_some ver head in omega arith)
      told_from short right gives (refusal k i) q e = same-told k i e (refused_so short right gives (refused_by ver ok text short room g es k i q))

      refused_told : (write_of ver given es text room table).told ≡ told_refused n p → RefusedBy ver given es text room table n p
      refused_told =
          by_asked ver given es text room table (λ (o : Outcome). o.told ≡ told_refused n p → RefusedBy ver given es text room table n p)
          (λ short right gives. told_from short right gives (writing ver g text room es) refl)
          (λ l e. same-told 1 0 e (text_too_long l)) (λ l m e. same-told 14 0 e (wrong_table_room l m)) (λ l m nay e. same-told 16 0 e (wrong_words l m nay))

    told_refused_lem : {n p : ℕ} → RefusedBy ver given es text room table n p → (write_of ver given es text room table).told ≡ told_refused n p
    unfolding write_of
    told_refused_lem (text_too_long h) = rw (lt-leb (length text) ver.octets h)
    told_refused_lem (wrong_table_room h no_words) = rw (le-leb (length text) ver.octets h, ne_eqb table table_words no_words)
    told_refused_lem (wrong_words h right nay) = rw (le-leb (length text) ver.octets h, eq-eqb table table_words right, untrue (is_given given) nay)
    told_refused_lem (at_head h right gives f) = rw (le-leb (length text) ver.octets h, eq-eqb table table_words right, gives, refuses_head ver ok text room g es h f)
    told_refused_lem (at_events {n = n} {p = p} h right gives fine r) = rw (le-leb (length text) ver.octets h, eq-eqb table table_words right, gives, refuses_it ver ok text room g es h fine n p r)

  --     And the reader's tables after each event are the writer's.
  pub tables-same : (table : ℕ) (s : Octets) (z : State Octets) → Acceptable ver given es text room table s z
      → (map (λ (k : Mark). plain_state s k.stand.state) (marks ver s) ≡ map (plain_state text) (known_writing ver g text room es)) × (length (known_writing ver g text room es) ≡ length es)
  tables-same table s z a = wrote_same-tables ver ok g es text room s z a.text_size (wrote table s z a)

  -- OF THE CALL.
  pub write_exactly : (table : ℕ) → WritesExactly ver given es text room table (write_of ver given es text room table)
  write_exactly table =
      record {
        accepts = accepts table;
        only = only table;
        back = λ s z a records h.
            Three.accepts ver s records table_words head (items_of ver head (plains text es)) z a.writes
            (let l = ap length (chosen_events ver (headed ver head) (plains text es)) in
            let m = length-map (items_of ver head (plains text es)) (λ (i : Item Octets). i.event) in
            let n = length-map es (plain_of text) in
            omega arith) refl;
        refuses = λ n p. (refused_told table n p, told_refused_lem table);
      }
