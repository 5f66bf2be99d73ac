-- Contracts of the code, not definitions to be believed. What holds while a run is underway, and the quick lane as some steps of it.
use Rattle.std.specs.Prelude.{ℕ, ◌+◌, ◌-◌, ◌*◌, ◌%◌, ◌^◌, ◌≤◌, ◌<◌, ◌≡◌, Bool, true, false, ◌&&◌, length, get_or, eqb, ltb, Option, Some, None}
use Rattle.format.specs.Octets.{Octets, Words}
use Rattle.format.specs.Numbers.{numbers, top}
use Rattle.format.specs.Tables.{link}
use Rattle.format.specs.declared.StringForm.TheVariants.{Utf8}
use Rattle.fields.specs.declared.Read.{Read}
use Rattle.fields.specs.Fields.{field_at, got}
use Rattle.states.specs.declared.State.{State}
use Rattle.events.specs.declared.EventString.TheVariants.{Stretch}
use Rattle.events.specs.Records.{chunk_record}
use Rattle.events.specs.Kept.{kept}
use Rattle.read_names.specs.Promises.{Tidy, event_string_at}
use Rattle.read_names.specs.StringContracts.{added_of, added_counts, added_words}
use Rattle.read_items.specs.Items.{Stand}
use Rattle.read_items.specs.Promises.{Lent, lent, stand_of, Good}
use Rattle.reader.specs.declared.lane.Lane.{Lane}
use Rattle.reader.specs.Reading.{Result, run, fuel_of}
use Rattle.reader.specs.RunContracts.{ending_of, kept_from}

-- A run of a document s from its first item on, with records for `room` events.
abbrev pub whole : Octets → (room : ℕ) → Stand → Result
whole s room from = run link s (fuel_of s) room from

-- The words for records were v. There is fuel for `left` steps more, and there were n events; a is what is lent.
pub record Underway (s v : Words) (room : ℕ) (from : Stand) (left n : ℕ) (st : State) (a : Lent) : Type 0 where
  pub good : Good s st a
  pub fits : n ≤ room
  pub fuel : n + left ≤ 2 * length s + 1
  pub ends : ending_of n (run link s left (room - n) (stand_of st a)) ≡ ending_of 0 (whole s room from)
  pub keeps : 14 * room ≤ length v → kept_from a.records n (run link s left (room - n) (stand_of st a)) ≡ kept_from v 0 (whole s room from)
  pub same_length : length a.records ≡ length v

-- ---- the lane
-- The tables are in order, with an index that the lane does not touch.
pub record Tidied (s : Octets) (c t : Words) : Type 0 where
  pub index : Octets
  pub tidy : Tidy s c t index

-- From a state and n events to another, a step for each event: what was underway still is. `full` is the most events that there
-- may be: not more than there are records, and a step is left after them.
pub record Onward (s : Octets) (full : ℕ) (st : State) (n : ℕ) (t c r : Words) (st' : State) (n' : ℕ) (t' c' r' : Words) : Type 0 where
  pub less : n ≤ n'
  pub most : n' ≤ full
  pub tidied : Tidied s c' t'
  pub goes : {v : Words} {room : ℕ} {from : Stand} {left : ℕ} {x : Octets} → full ≤ room → full < n + left → Underway s v room from left n st (lent t c x r) → Underway s v room from (n + left - n') n' st' (lent t' c' x r')

-- Among children inside the root, at an octet.
abbrev pub in_lane : Lane → State
in_lane y = record { at = 2 * y.at; level = y.level; root = 1; mode = 0 }

unfoldable pub enters_lane : State → Bool
enters_lane st = eqb st.mode 0 && (eqb st.root 1 && (ltb 0 st.level && eqb (st.at % 2) 0))

-- An item may stand there, with another octet behind its first.
pub record Stands (s : Octets) (c t : Words) (y : Lane) : Type 0 where
  pub tidied : Tidied s c t
  pub more : y.at + 1 < length s
  pub inside : 1 ≤ y.level
  pub few : y.n < 65536

pub record Skims (s : Octets) (full : ℕ) (y : Lane) (t c r : Words) (z : Lane) (t' c' r' : Words) : Type 0 where
  pub onward : Onward s full (in_lane y) y.n t c r (in_lane z) z.n t' c' r'
  pub inside : 1 ≤ z.level
  pub near : z.at ≤ 16384

-- The lane takes an item, which makes one event or more and not more than `full` in all; or it takes none, and nothing changes.
abbrev pub Takes : Octets → (full : ℕ) → Lane → (t c r : Words) → Option Lane → (t' c' r' : Words) → Type 0
Takes s full y t c r (Some z) t' c' r' = Skims s full y t c r z t' c' r' × (y.n < z.n)
Takes s full y t c r None t' c' r' = (t' ≡ t) × (c' ≡ c) × (r' ≡ r)

-- What the lane comes to from any state, with records for `room` events and fuel for `left` steps.
pub record Advances (s : Octets) (room left : ℕ) (st : State) (n : ℕ) (t c r : Words) (st' : State) (n' : ℕ) (t' c' r' : Words) : Type 0 where
  pub less : n ≤ n'
  pub short : n' < n + left
  pub goes : {v : Words} {from : Stand} {x : Octets} → Underway s v room from left n st (lent t c x r) → Underway s v room from (n + left - n') n' st' (lent t' c' x r')

-- A number of one or two octets, from a bit of the octet: b is what its bits of the first octet hold, of which those below `ones` stand alone.
abbrev pub ReadsShort : Octets → (at b ones : ℕ) → Read ℕ → Type 0
ReadsShort s at b ones r =
    (bit : ℕ) → 1 ≤ bit → bit ≤ 6 → ones ≡ 2 ^ (8 - bit) → b ≡ get_or s at 0 % 2 ^ (9 - bit)
    → field_at (numbers bit) top bit s at ≡ got (r.value + 1) r.next.at

-- A row more of chunks, where one is to be added, as the reading of a string says it at any place k; or no room for it.
abbrev pub AddsChunk : Option (Unit {0}) → (c t : Words) → (place size : ℕ) → Bool → (c' t' : Words) → Type 0
AddsChunk (Some u) c t place size add c' t' =
    (k : ℕ) → (got (Stretch Utf8 place size) (place + size) ≡ added_of c 6 k Utf8 place size add)
    × (c' ≡ added_counts c 6 add) × (t' ≡ added_words c t 6 Utf8 place size add)
AddsChunk None c t place size add c' t' = (c' ≡ c) × (t' ≡ t)

-- The chunk in row i, which stands at octet k, is in record n, where there is one; or nothing has changed.
abbrev pub KeepsChunk : Option (Unit {0}) → (t : Words) (i : ℕ) (r : Words) (n k : ℕ) (r' : Words) → Type 0
KeepsChunk (Some u) t i r n k r' = r' ≡ kept r n k (chunk_record (event_string_at t 6 (i + 1)))
KeepsChunk None t i r n k r' = r' ≡ r
