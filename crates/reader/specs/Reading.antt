-- The reading definition: what a reader answers and leaves in the lent room, for every input.
use Rattle.std.specs.Prelude as Std
use Rattle.std.specs.Prelude.{Ok, Err, ℕ, zero, suc, ◌+◌, ◌-◌, ◌*◌, ◌/◌, ◌≡◌, Bool, ◌&&◌, List, [], ◌∷◌, ◌++◌, map, length, get_or, take, replicate, eqb, ltb, leb}
use Rattle.format.specs.Octets.{Octets, Words}
use Rattle.format.specs.Numbers.{pick}
use Rattle.format.specs.Events.{Item}
use Rattle.format.specs.Tables.{Vocabulary, same, Version}
use Rattle.format.specs.Items.{State}
use Rattle.format.specs.Document.{beginning}
use Rattle.format.specs.Refusals.{SIZE, TRUNCATED, HEADER, OPTIONAL_PART, PADDING, ROOM, refusal_number}
use Rattle.format.specs.declared.refusals.Fault.{Fault}
use Rattle.tables.specs.Counts.{table_words, entry_words, words_of}
use Rattle.tables.specs.Kept.{listed}
use Rattle.tables.specs.Told.{Told, told_accepted, told_refused, entries_of}
use Rattle.events.specs.declared.Event.{Event}
use Rattle.tables.specs.Located.{Located, plain, plain_state, start}
use Rattle.events.specs.Records.{blank, record_at}
use Rattle.reader.specs.declared.Accepted.{Accepted}
use Rattle.read_names.specs.Strings.{got, refused}
use Rattle.read_head.specs.Head.{Passed, head_at}
use Rattle.read_items.specs.Steps.{step}
use Rattle.read_items.specs.Items.{Stand, Step, more, quiet, done, stop}

-- An event that was read: its place, and its item.
pub record EventRead : Type 0 where
  pub place : ℕ
  pub item : Item Located

-- The record that is handed out for it.
abbrev pub record_read : EventRead → Event
record_read e = record_at e.place e.item.event

abbrev pub items_read : List EventRead → List (Item Located)
items_read = map (λ (e : EventRead). e.item)

-- Events in order and where the reader stands at the end; or a refusal.
pub data Result : Type 0 where
  accepted : List EventRead → Stand → Result
  refusal : (number place : ℕ) → Result

abbrev pub plus : EventRead → Result → Result
plus e (accepted es m) = accepted (e ∷ es) m
plus e (refusal n p) = refusal n p

-- A step's answer, and how to go on: the first event without a record is refused (14) at its place.
abbrev pub turn : (ℕ → Stand → Result) → ℕ → Stand → Step → Result
turn go zero m (more p i n) = refusal ROOM p
turn go (suc left) m (more p i n) = plus (record { place = p; item = i }) (go left n)
turn go room m (quiet n) = go room n
turn go room m done = accepted [] m
turn go room m (stop n p) = refusal n p

-- An event's place, and where the reader stands behind the event.
pub record Mark : Type 0 where
  pub place : ℕ
  pub stand : Stand

abbrev pub marked : (Stand → List Mark) → Step → List Mark
marked go (more p i n) = record { place = p; stand = n } ∷ go n
marked go (quiet n) = go n
marked go done = []
marked go (stop n p) = []

module _ (ver : Version) where
  -- Steps until the document's end, with records for `room` events. `fuel` bounds the steps.
  unfoldable pub run : Octets → (fuel room : ℕ) → Stand → Result
  run s zero room m = refusal TRUNCATED (m.at / 2)
  run s (suc fuel) room m = turn (λ left n. run s fuel left n) room m (step ver s m)

  -- The marks of the events, up to the document's end or the first fault.
  unfoldable pub trace : Octets → (fuel : ℕ) → Stand → List Mark
  trace s zero m = []
  trace s (suc fuel) m = marked (λ n. trace s fuel n) (step ver s m)

-- SIZE: a document is not empty, and not over the limit.
unfoldable pub sized : Version → Octets → Bool
sized ver s = leb 1 (length s) && leb (length s) ver.octets

-- What stands before the first item: the octet where the body starts, and the tables then; or a refusal.
pub data Opening : Type 0 where
  onward : (body : ℕ) → Vocabulary Located → Opening
  halt : (number place : ℕ) → Opening

-- A head lets the body be read from behind it, with its tables.
abbrev pub behind_head : Passed → Opening
behind_head (got b next v) = onward next v
behind_head (refused n p) = halt n p

-- SIZE (1). The identification: missing (2), other octets (3). The octet behind it: missing (2), its padding bit (6), a presence bit (4), unless it is that of a head
-- alone, which is read then.
unfoldable pub opening : Version → Octets → Opening
opening ver s =
    let n : ℕ = length ver.identification in
    pick (sized ver s)
    (pick (leb n (length s))
    (pick (same (take n s) ver.identification)
    (pick (leb (suc n) (length s))
    (pick (ltb (get_or s n 0) 0x80)
    (pick (eqb (get_or s n 0) 0) (onward (suc n) (start ver)) (pick (ver.heads && eqb (get_or s n 0) 0x20) (behind_head (head_at ver s (suc n) (start ver))) (halt OPTIONAL_PART n)))
    (halt PADDING n))
    (halt TRUNCATED n))
    (halt HEADER 0))
    (halt TRUNCATED 0))
    (halt SIZE 0)

-- Before the first item; each step takes a half, so the fuel suffices.
abbrev pub origin : (body : ℕ) → Vocabulary Located → Stand
origin body tables = record { at = 2 * body; state = beginning tables }

abbrev pub fuel_of : Octets → ℕ
fuel_of s = suc (2 * length s)

module _ (ver : Version) (s : Octets) where
  -- With these octets and records for `room` events: what the opening lets be read.
  abbrev pub result_from : (room : ℕ) → Opening → Result
  result_from room (onward body tables) = run ver s (fuel_of s) room (origin body tables)
  result_from room (halt n p) = refusal n p

  unfoldable pub reading : (room : ℕ) → Result
  reading room = result_from room (opening ver s)

  -- The marks of the events that the document hands out.
  abbrev pub marks_from : Opening → List Mark
  marks_from (onward body tables) = trace ver s (fuel_of s) (origin body tables)
  marks_from (halt n p) = []

  unfoldable pub marks : List Mark
  marks = marks_from (opening ver s)

  -- The octets s are accepted, with records for `room` events; these are the items handed out, and this is known at the end, with octets in place of places.
  pub record Accepts (room : ℕ) (items : List (Item Octets)) (z : State Octets) : Type 0 where
    pub events : List EventRead
    pub last : Stand
    pub reads : reading room ≡ accepted events last
    pub are : map (plain s) (items_read events) ≡ items
    pub end_is : plain_state s last.state ≡ z

-- What the requirements' table says of each answer.
abbrev pub told : Std.Result Accepted Fault → Told
told (Ok a) = told_accepted a.events (listed a.counts)
told (Err f) = told_refused (refusal_number f.refusal) f.at

-- What a call answers, in the requirements' numbers, and what it leaves: every event record, every table word.
pub record Outcome : Type 0 where
  pub told : Told
  pub row : List Event
  pub tables : Words

-- A call answered and left this. No two answers are told alike.
abbrev pub Leaves : Std.Result Accepted Fault → List Event → Words → Outcome → Type 0
Leaves r row tables o = (told r ≡ o.told) × (row ≡ o.row) × (tables ≡ o.tables)

-- A refusal blanks all the room that was lent.
abbrev pub refusing : ℕ → ℕ → ℕ → ℕ → Outcome
refusing n p room table = record { told = told_refused n p; row = replicate room blank; tables = replicate table 0 }

abbrev pub accepting : List Event → Vocabulary Located → ℕ → Outcome
accepting es v room =
    record {
      told = told_accepted (length es) (entries_of v);
      row = es ++ replicate (room - length es) blank;
      tables = words_of entry_words v;
    }

abbrev pub outcome : Result → ℕ → Outcome
outcome (accepted es m) room = accepting (map record_read es) m.state.tables room
outcome (refusal n p) room = refusing n p room table_words

-- Reading, with `room` event records and `table` table words lent: SIZE, then the table room (14), both at place 0, then the fields.
unfoldable pub read_of : Version → Octets → (room table : ℕ) → Outcome
read_of ver s room table =
    pick (sized ver s)
    (pick (eqb table table_words) (outcome (reading ver s room) room) (refusing ROOM 0 room table))
    (refusing SIZE 0 room table)

-- The number that comes back to C: 0, or the place times 32 plus the refusal's number.
abbrev pub number_of : Result → ℕ
number_of (accepted es m) = 0
number_of (refusal n p) = p * 32 + n

-- The check: as a reader with an event record for each half of the longest document, which are 32,768 on the link.
unfoldable pub check_of : Version → Octets → ℕ
check_of ver s = number_of (reading ver s (2 * ver.octets))
