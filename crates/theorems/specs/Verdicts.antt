-- What the requirements say of the tables and of each event that are given to the writer, in the words of the rules: which are right, and the refusal that the first wrong one gives.
use Rattle.std.specs.Prelude.{ℕ, ◌+◌, ◌*◌, ◌/◌, ◌≤◌, ◌<◌, min, ◌≡◌, true, List, [], ◌∷◌, ◌++◌, map, length}
use Rattle.format.specs.Octets.{Octets, Halves}
use Rattle.format.specs.Refusals.{TEXT, REPEAT, FULL, DEPTH, ROOM, EVENT}
use Rattle.format.specs.Characters.{IsText}
use Rattle.format.specs.Events as E
use Rattle.format.specs.Events.{Item, event_map, IsDocument, BeginsDocument, open_after, deepest, opens_element, strings_of}
use Rattle.format.specs.Tables.{StringTable, NameTable, Vocabulary, strings, names, no_entries, Version, standard, InLimits}
use Rattle.format.specs.Items.{State}
use Rattle.format.specs.Head.{is_identifying, Head, plain_head, Opens}
use Rattle.format.specs.Document.{aligned, beginning, Begun, Document}
use Rattle.format.specs.Allowed.{All}
use Rattle.tables.specs.Located.{octets_of, plain_tables}
use Rattle.events.specs.declared.Event.{Event}
use Rattle.events.specs.WellMade.{IsStretch, IsString, WellMade}
use Rattle.write_names.specs.Chosen.{chosen, tables_after}
use Rattle.write_head.specs.Given.{Given}
use Rattle.write_head.specs.Head.{head_for, listed_of}
use Rattle.write_items.specs.Events.{event_of}
use Rattle.theorems.specs.Heads.{headed, AllDistinct, NamesParts}

-- The plain event of a record over a text area; those of a list.
abbrev pub plain_of : Octets → Event → E.Event Octets
plain_of text e = event_map (octets_of text) (event_of e.kind e)

abbrev pub plains : Octets → List Event → List (E.Event Octets)
plains text es = map (plain_of text) es

-- A plain list with the required choices, behind a head.
abbrev pub items_of : Version → (head : Head) → List (E.Event Octets) → List (Item Octets)
items_of ver h es = chosen ver (headed ver h) es

-- The rules write these items behind this head as one document, however deep it is and however long, and these are the tables then.
pub record WrittenAs (ver : Version) (head : Head) (items : List (Item Octets)) (tables : Vocabulary Octets) : Type 0 where
  pub octets : Octets
  pub last : State Octets
  pub writes : (depth size : ℕ) → deepest 0 (map (λ (i : Item Octets). i.event) items) ≤ depth → length octets ≤ size → Document (standard ver depth size) head items last octets
  pub known : last.tables ≡ tables

-- The rules of a version write these items behind this head, and these are the tables then; it is a document of the version unless there are too many octets.
pub record WrittenUnlessLong (ver : Version) (head : Head) (items : List (Item Octets)) (tables : Vocabulary Octets) : Type 0 where
  pub octets : Octets
  pub last : State Octets
  pub writes : length octets ≤ ver.octets → Document ver head items last octets
  pub known : last.tables ≡ tables

-- The rules write these events behind this head, with the required choices, as one document, however deep it is and however long: within every limit on open elements and octets that
-- it keeps. The limit on the entries of a table is the standard's own.
pub record WrittenWidely (ver : Version) (head : Head) (es : List (E.Event Octets)) : Type 0 where
  pub octets : Octets
  pub last : State Octets
  pub writes : (depth size : ℕ) → deepest 0 es ≤ depth → length octets ≤ size → Document (standard ver depth size) head (items_of ver head es) last octets
  pub tables : last.tables ≡ tables_after ver (headed ver head) es

-- What is written of these events is a document of the version, or it is over one of its three limits: nothing else keeps it out.
pub data OrPasses (ver : Version) (head : Head) (es : List (E.Event Octets)) (last : State Octets) (octets : Octets) : Type 0 where
  within_limits : Document ver head (items_of ver head es) last octets → OrPasses ver head es last octets
  over_depth : ver.depth < deepest 0 es → OrPasses ver head es last octets
  over_entries : (InLimits ver (tables_after ver (headed ver head) es) → ⊥) → OrPasses ver head es last octets
  over_octets : ver.octets < length octets → OrPasses ver head es last octets

-- What stands before the body and these items, filled up to octets, fit the output lent and the limit of a document.
pub record FitsIn (ver : Version) (head : Head) (room : ℕ) (items : List (Item Octets)) : Type 0 where
  pub before : Octets
  pub opens : Opens ver head before (headed ver head)
  pub halves : Halves
  pub last : State Octets
  pub are : Begun ver (2 * length before) (beginning (headed ver head)) items halves last
  pub fit : aligned (2 * length before + length halves) / 2 ≤ min room ver.octets

-- The rules write these items behind the head, but what they write does not fit.
pub record Overflows (ver : Version) (head : Head) (room : ℕ) (items : List (Item Octets)) : Type 0 where
  pub before : Octets
  pub opens : Opens ver head before (headed ver head)
  pub halves : Halves
  pub last : State Octets
  pub are : Begun ver (2 * length before) (beginning (headed ver head)) items halves last
  pub over : min room ver.octets < aligned (2 * length before + length halves) / 2

-- The rules write the document of these items, and it fits the output lent.
pub record WrittenIn (ver : Version) (head : Head) (room : ℕ) (items : List (Item Octets)) : Type 0 where
  pub octets : Octets
  pub last : State Octets
  pub writes : Document ver head items last octets
  pub fit : length octets ≤ room

-- The tables g that are given for the head, over a text area: the requirements' tests of them, in their order, each of the whole head. A test that fails gives the number beside it.
module _ (ver : Version) (text : Octets) (g : Given) where
  -- The head that they stand for: their strings, in the forms that the writer chooses.
  abbrev pub head_of : Head
  head_of = head_for (plain_tables text (listed_of g))

  -- EVENT: each string is a stretch of the text area, an identifying one in utf-8, each name names entries that are there; none is given if the version has no heads
  pub record AreEntries : Type 0 where
    pub strings_are_lem : (t : StringTable) → All (IsString text) (strings g t)
    pub in_utf8 : (t : StringTable) → is_identifying t ≡ true → All (IsStretch text) (strings g t)
    pub names_are_lem : (t : NameTable) → All (NamesParts (headed ver head_of)) (names g t)
    pub none_given : (ver.heads ≡ true → ⊥) → head_of ≡ no_entries

  -- TEXT: the strings are text
  abbrev pub AreTexts : Type 0
  AreTexts = (t : StringTable) → All IsText (strings (plain_head head_of) t)

  -- REPEAT: no identifying string and no name is listed twice, or is built in
  abbrev pub AreNew : Type 0
  AreNew = AllDistinct (headed ver head_of)

  -- FULL: no table has an entry too many
  abbrev pub AreFew : Type 0
  AreFew = InLimits ver (headed ver head_of)

  -- ROOM: what the rules write before the body fits; without a head, that is asked with the first event
  module _ (room : ℕ) where
    pub record HeadFits : Type 0 where
      pub before : Octets
      pub opens : Opens ver head_of before (headed ver head_of)
      pub fit : (head_of ≡ no_entries → ⊥) → length before ≤ min room ver.octets

    pub record HeadOverflows : Type 0 where
      pub before : Octets
      pub opens : Opens ver head_of before (headed ver head_of)
      pub over : min room ver.octets < length before
      pub entries : head_of ≡ no_entries → ⊥

    pub record HeadRight : Type 0 where
      pub are_entries : AreEntries
      pub are_texts : AreTexts
      pub are_new : AreNew
      pub are_few : AreFew
      pub fits : HeadFits

    -- Its first fault.
    pub data HeadFault : ℕ → Type 0 where
      not_entries : (AreEntries → ⊥) → HeadFault EVENT
      not_texts : AreEntries → (AreTexts → ⊥) → HeadFault TEXT
      not_new : AreEntries → AreTexts → (AreNew → ⊥) → HeadFault REPEAT
      not_few : AreEntries → AreTexts → AreNew → (AreFew → ⊥) → HeadFault FULL
      not_room : AreEntries → AreTexts → AreNew → AreFew → HeadOverflows → HeadFault ROOM

-- Behind a head that is right.
module _ (ver : Version) (head : Head) (text : Octets) (room : ℕ) where
  -- The event e behind the events `before` and all these: the requirements' tests, in their order. A test that fails gives the number beside it.
  module _ (before : List Event) (e : Event) where
    abbrev pub up_to : List (E.Event Octets)
    up_to = plains text before ++ (plain_of text e ∷ [])

    -- EVENT: a record as under "Events", with which some document's list goes on
    abbrev pub IsEvent : Type 0
    IsEvent = WellMade text e × BeginsDocument up_to

    -- TEXT: its strings are text
    abbrev pub AreText : Type 0
    AreText = All IsText (strings_of (plain_of text e))

    -- DEPTH: it opens no element where as many are open as may be
    abbrev pub IsShallow : Type 0
    IsShallow = opens_element (plains text before) (plain_of text e) ≡ true → open_after 0 (plains text before) < ver.depth

    -- FULL: no table has an entry too many
    abbrev pub HasEntries : Type 0
    HasEntries = InLimits ver (tables_after ver (headed ver head) up_to)

    -- ROOM: what is written so far fits
    abbrev pub HasRoom : Type 0
    HasRoom = FitsIn ver head room (items_of ver head up_to)

    pub record Right : Type 0 where
      pub is_event : IsEvent
      pub is_text_lem : AreText
      pub is_shallow : IsShallow
      pub has-entries : HasEntries
      pub has_room : HasRoom

    -- Its first fault.
    pub data Fault : ℕ → Type 0 where
      not_an_event : (IsEvent → ⊥) → Fault EVENT
      not_text : IsEvent → (AreText → ⊥) → Fault TEXT
      too_deep : IsEvent → AreText → (IsShallow → ⊥) → Fault DEPTH
      too_many : IsEvent → AreText → IsShallow → (HasEntries → ⊥) → Fault FULL
      no_room : IsEvent → AreText → IsShallow → HasEntries → Overflows ver head room (items_of ver head up_to) → Fault ROOM

  -- Each event of the list is right behind those before it.
  abbrev pub AllRight : List Event → Type 0
  AllRight es = (before : List Event) (e : Event) (after : List Event) → es ≡ before ++ (e ∷ after) → Right before e

  -- The refusal of a list, its number and its place: the first event that is not right; behind the last event, a list that stops too soon (EVENT), or an end of
  -- the document that does not fit (ROOM).
  pub data Refused (es : List Event) : (number place : ℕ) → Type 0 where
    at_event : {before : List Event} {e : Event} {n : ℕ} (after : List Event) → es ≡ before ++ (e ∷ after) → AllRight before → Fault before e n → Refused es n (length before)
    too_soon : AllRight es → (IsDocument (plains text es) → ⊥) → Refused es EVENT (length es)
    no_room_for_end : AllRight es → IsDocument (plains text es) → (WrittenIn ver head room (items_of ver head (plains text es)) → ⊥) → Refused es ROOM (length es)
