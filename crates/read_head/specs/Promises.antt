-- Contracts of the code, not definitions to be believed. How the code's answers stand for the reading definition of a
-- head: tables in lent words are the vocabulary that they hold.
use Rattle.std.specs.Prelude.{ℕ, ◌≤◌, ◌≡◌, Bool, true, length, eqb, ltb, Result, Ok, Err}
use Rattle.format.specs.Octets.{Octets, Words}
use Rattle.format.specs.Numbers.{pick, c21, top}
use Rattle.format.specs.Refusals.{refusal_number}
use Rattle.format.specs.Tables.{Vocabulary, link}
use Rattle.format.specs.Head.{Table, of_strings, of_names}
use Rattle.format.specs.declared.refusals.Fault.{Fault}
use Rattle.fields.specs.declared.Read.{Read}
use Rattle.fields.specs.Fields.{field_at}
use Rattle.tables.specs.Located.{Located}
use Rattle.tables.specs.Rows.{table_of, vocabulary}
use Rattle.tables.specs.Kept.{unlisted, count_of, name_table_of}
use Rattle.read_names.specs.Strings as S
use Rattle.read_names.specs.Promises.{Tidy, Left}
use Rattle.read_names.specs.NameContracts.{seen_number}
use Rattle.read_head.specs.Head.{Passed, part_at, entries_at}

-- The words of counts and tables are d and v then.
abbrev pub seen_passed : Result ℕ Fault → (d v : Words) → Passed
seen_passed (Ok next) d v = S.got tt next (vocabulary (unlisted d) v)
seen_passed (Err f) d v = S.refused (refusal_number f.refusal) f.at

-- What is in order still is; a refusal is a small number at a place of the document.
abbrev pub PassedLeft : Octets → (c w : Words) → Result ℕ Fault → (d v : Words) → Octets → Type 0
PassedLeft s c w (Ok next) d v x = Left s c w next d v x
PassedLeft s c w (Err f) d v x = (refusal_number f.refusal ≤ 15) × (f.at ≤ length s)

-- r is what f passes from the tables that words c and w of counts and tables hold; these are d and v then, and the index is x.
abbrev pub Passes : Octets → (c w : Words) → Result ℕ Fault → (d v : Words) → Octets → (Vocabulary Located → Passed) → Type 0
Passes s c w r d v x f = (seen_passed r d v ≡ f (vocabulary (unlisted c) w)) × PassedLeft s c w r d v x

-- Whatever the index is: a table that is not searched is not in it.
abbrev pub PassesBeside : Octets → (c w : Words) → Result ℕ Fault → (d v : Words) → (Vocabulary Located → Passed) → Type 0
PassesBeside s c w r d v f = (x : Octets) → Tidy s c w x → Passes s c w r d v x f

-- A part of a name: its number is that of an entry, 0 if it is not there.
abbrev pub PartThere : Octets → (c : Words) (table : ℕ) (there : Bool) → Result (Read ℕ) Fault → Type 0
PartThere s c table there (Ok r) =
    (r.value ≤ count_of (unlisted c) table) × (r.next.at ≤ length s) × (there ≡ true → 1 ≤ r.value)
PartThere s c table there (Err f) = Unit {0}

abbrev pub ReadsPart : Octets → (c : Words) (table at : ℕ) (there : Bool) → Result (Read ℕ) Fault → Type 0
ReadsPart s c table at there r =
    ((w : Words) → seen_number r c w ≡ part_at there (count_of (unlisted c) table) s at (vocabulary (unlisted c) w))
    × PartThere s c table there r

-- The ten tables by number, in the required order.
unfoldable pub table_at : ℕ → Table
table_at n = pick (ltb n 8) (of_strings (table_of n)) (of_names (name_table_of n))

-- One of the tables of the head, by its presence bit.
unfoldable pub present_at : Table → (bit : ℕ) → Octets → ℕ → Vocabulary Located → Passed
present_at t bit s k v = pick (eqb bit 1) (S.number (field_at c21 top 1 s k) λ n next. entries_at link t s n next v) (S.got tt k v)
