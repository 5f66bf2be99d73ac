-- Contracts of the code, not definitions to be believed. The quick lane over words: what it remembers of Starts that were written, and how the records that it takes are events of the run.
use Rattle.std.specs.Prelude.{ℕ, ◌+◌, ◌-◌, ◌*◌, ◌/◌, ◌%◌, ◌<◌, ◌≤◌, ◌≡◌, Bool, true, false, List, map, length, get_or, drop, set, Option, Some, None}
use Rattle.std.proofs.Math.Option as M
use Rattle.format.specs.Octets.{Octets, Halves, Words}
use Rattle.format.specs.Numbers.{spell, numbers}
use Rattle.format.specs.Events.{Name}
use Rattle.format.specs.Tables.{StringTable, PREFIX, NAMESPACE_NAME, LOCAL_NAME, ELEMENT_NAME, Triple, Vocabulary, strings, names, link}
use Rattle.format.specs.Strings.{bit}
use Rattle.format.specs.Items as F
use Rattle.format.specs.Document.{aligned}
use Rattle.fields.specs.PutContracts.{Puts}
use Rattle.tables.specs.Located.{Located, octets_of}
use Rattle.tables.specs.Search.{number_in, number_of_triple}
use Rattle.events.specs.declared.Kind.TheVariants as K
use Rattle.events.specs.declared.Event.{Event}
use Rattle.events.specs.Records.{blank, placed, unplaced, end_record}
use Rattle.events.specs.FromWords.{record_at, records_of, begins_with}
use Rattle.write_names.specs.Choices.{within}
use Rattle.write_items.specs.Events.{well_made, name_of, name_text}
use Rattle.write_items.specs.OutputContracts.{Holds, end_octet}
use Rattle.writer.specs.declared.lane.Lane.{Lane}
use Rattle.writer.specs.declared.lane.Taken.{Taken}
use Rattle.writer.specs.declared.lane.Taken.TheVariants.{End, Start}
use Rattle.writer.specs.Writing.{run, Outcome}
use Rattle.writer.specs.RunContracts.{behind}

-- The three words from a on, of one list, and from b on, of another, are the same.
pub record SameWords (w : Words) (a : ℕ) (u : Words) (b : ℕ) : Type 0 where
  pub first : get_or w a 0 ≡ get_or u b 0
  pub second : get_or w (a + 1) 0 ≡ get_or u (b + 1) 0
  pub third : get_or w (a + 2) 0 ≡ get_or u (b + 2) 0

-- ---- names whose numbers are known
-- A string that may be absent has the number k in its table, 0 if it is absent.
abbrev pub HasNumber : Octets → StringTable → Vocabulary Located → M.Option Located → ℕ → Type 0
HasNumber text t v M.none k = k ≡ 0
HasNumber text t v (M.some x) k = (number_in (map (octets_of text) (strings v t)) (octets_of text x) ≡ k) × (1 ≤ k)

-- The tables hold the name of an element, with its strings, and k is its number.
pub record Known (text : Octets) (v : Vocabulary Located) (x : Name Located) (k : ℕ) : Type 0 where
  pub triple : Triple
  pub prefix : HasNumber text PREFIX v x.prefix triple.prefix
  pub namespace : HasNumber text NAMESPACE_NAME v x.namespace triple.namespace
  pub local : HasNumber text LOCAL_NAME v (M.some x.local) triple.local
  pub is : number_of_triple (names v ELEMENT_NAME) triple ≡ k
  pub held : 1 ≤ k

-- The record is a Start that is well made and text, and the tables hold its name with the number k.
pub record Taught (text : Octets) (v : Vocabulary Located) (e : Event) (k : ℕ) : Type 0 where
  pub kind : e.kind ≡ K.Start
  pub made : well_made text K.Start e ≡ true
  pub texts : name_text text (name_of e) ≡ true
  pub few : k ≤ 256
  pub known : Known text v (name_of e) k

-- Each word of the memory that is not 0 is the number of such a record, times 512, plus the number of its name.
unfoldable pub Remembered : List Event → Octets → Vocabulary Located → (memory : Words) → Type 0
Remembered es text v memory =
    (s : ℕ) → 0 < get_or memory s 0 → (get_or memory s 0 / 512 < length es) × Taught text v (get_or es (get_or memory s 0 / 512) blank) (get_or memory s 0 % 512)

-- What the code asks of the memory so that it is safe: n is the number of records.
unfoldable pub Filed : (memory : Words) (n : ℕ) → Type 0
Filed memory n = (s : ℕ) → 0 < get_or memory s 0 → (get_or memory s 0 / 512 < n) × (1 ≤ get_or memory s 0 % 512) × (get_or memory s 0 % 512 ≤ 256)

-- Record i is the same event as one that is remembered, and k is the number of its name.
pub record Recalled (w memory : Words) (i k : ℕ) : Type 0 where
  pub slot : ℕ
  pub filled : 0 < get_or memory slot 0
  pub number : get_or memory slot 0 % 512 ≡ k
  pub same : unplaced (record_at w (14 * i)) ≡ unplaced (record_at w (14 * (get_or memory slot 0 / 512)))

abbrev pub RecalledBy : (w memory : Words) (i : ℕ) → Option ℕ → Type 0
RecalledBy w memory i (Some k) = Recalled w memory i k
RecalledBy w memory i None = Unit {0}

-- Start i is remembered with the number k.
pub record Kept (memory : Words) (i k : ℕ) (memory' : Words) : Type 0 where
  pub slot : ℕ
  pub is : memory' ≡ set memory slot (i * 512 + k)

-- ---- the lane
-- What is known where the lane stands, inside the root.
abbrev pub standing : Vocabulary Located → Lane → F.State Located
standing v l = record { tables = v; level = l.level; root = true; mode = F.after_start l.listing }

-- The place and the level are no large numbers, nor is what is remembered.
pub record Safe (w memory : Words) (l : Lane) : Type 0 where
  pub at : l.at ≤ 32768
  pub level : l.level ≤ 32
  pub filed : Filed memory (length w / 14)

-- The output holds what was written, and the events from the lane's next record on lead to what the call is to leave, o.
pub record OnWay (o : Outcome) (text : Octets) (room : ℕ) (es : List Event) (v : Vocabulary Located) (l : Lane) (out : Octets) : Type 0 where
  pub hs : Halves
  pub holds : Holds (length out) hs l.at out
  pub small : l.i ≤ l.at
  pub leads : behind hs (run link text room l.at (standing v l) l.i (drop l.i es)) (length out) ≡ o

-- Records were taken: where the lane was on its way it is so still, further on or not. The tables are as they were.
abbrev pub Passes : (w memory : Words) (room : ℕ) → Lane → Octets → Lane → Octets → Type 0
Passes w memory room l out l' out' =
    (o : Outcome) (text : Octets) (v : Vocabulary Located) → within link v ≡ true → Remembered (records_of w) text v memory → OnWay o text room (records_of w) v l out → OnWay o text room (records_of w) v l' out'

-- From record i to record j, of n.
pub record Onward (i j n : ℕ) : Type 0 where
  pub on : i ≤ j
  pub inside : i ≤ n → j ≤ n

-- Something is next: it fits, and a record of the lane may stand there.
pub record Ahead (w : Words) (l : Lane) (room : ℕ) : Type 0 where
  pub among : l.listing ≡ false
  pub inside : 0 < l.level
  pub fits : l.at / 2 + 5 ≤ room
  pub limit : l.at / 2 + 5 ≤ 16384
  pub there : l.i < length w / 14

-- It is an End, or a Start whose name is remembered with this number.
abbrev pub Takes : (w memory : Words) → Lane → Taken → Type 0
Takes w memory l End = record_at w (14 * l.i) ≡ placed (get_or w (14 * l.i + 13) 0) end_record
Takes w memory l (Start k) = Recalled w memory l.i k × (l.level < 32)

abbrev pub Next : (w memory : Words) → Lane → (room : ℕ) → Option Taken → Type 0
Next w memory l room (Some x) = Ahead w l room × Takes w memory l x
Next w memory l room None = Unit {0}

-- Whether an attribute is behind record i.
abbrev pub listed : Words → ℕ → Bool
listed w i = begins_with 3 (drop (i + 1) (records_of w))

-- A Start by the number k was put, or an End.
pub record Started (w : Words) (l : Lane) (out : Octets) (k : ℕ) (l' : Lane) (out' : Octets) : Type 0 where
  pub octet : ℕ
  pub puts : Puts out (aligned l.at / 2) octet out' (spell (numbers 3) (64 * bit (listed w l.i)) k)
  pub few : octet ≤ aligned l.at / 2 + 4
  pub is : l' ≡ record { at = 2 * octet; level = l.level + 1; i = l.i + 1; listing = listed w l.i }

pub record Ended (l : Lane) (out : Octets) (l' : Lane) (out' : Octets) : Type 0 where
  pub puts : out' ≡ set out (l.at / 2) (end_octet l.at)
  pub is : l' ≡ record { at = l.at + 1; level = l.level - 1; i = l.i + 1; listing = false }

-- What is next may be put, and was.
abbrev pub Named : Lane → Taken → Type 0
Named l End = Unit {0}
Named l (Start k) = (1 ≤ k) × (k ≤ 256) × (l.level < 32)

pub record Passable (w : Words) (l : Lane) (x : Taken) : Type 0 where
  pub limit : l.at / 2 + 5 ≤ 16384
  pub inside : 0 < l.level
  pub level : l.level ≤ 32
  pub there : l.i < length w / 14
  pub name : Named l x

pub record Passed (w : Words) (l : Lane) (out : Octets) (x : Taken) (l' : Lane) (out' : Octets) : Type 0 where
  pub at : l'.at ≤ 32768
  pub level : l'.level ≤ 32
  pub next : l'.i ≡ l.i + 1
  pub passes : (memory : Words) (room : ℕ) → Ahead w l room → Takes w memory l x → Passes w memory room l out l' out'
