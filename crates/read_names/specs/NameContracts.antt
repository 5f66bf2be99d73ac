-- Contracts of the code, not definitions to be believed. What the functions that read and add names ask and answer.
use Rattle.std.specs.Prelude.{ℕ, suc, ◌+◌, ◌-◌, ◌*◌, ◌≤◌, ◌<◌, ◌≡◌, [], ◌∷◌, length, ltb, Result, Ok, Err}
use Rattle.format.specs.Numbers.{pick}
use Rattle.format.specs.Tables.{NameTable, Triple, Vocabulary, names, adding_name, holds_name, Version, link}
use Rattle.format.specs.Octets.{Octets, Words}
use Rattle.format.specs.Refusals.{refusal_number, REPEAT, FULL}
use Rattle.format.specs.declared.refusals.Fault.{Fault}
use Rattle.fields.specs.declared.Read.{Read}
use Rattle.tables.specs.declared.Row.{Row}
use Rattle.tables.specs.Located.{Located}
use Rattle.tables.specs.Counts.{table_words}
use Rattle.tables.specs.Search.{number_of_triple}
use Rattle.tables.specs.Rows.{triple_at, vocabulary}
use Rattle.tables.specs.Kept.{unlisted, count_of, Counted, name_table_of, layout_of, triple_of}
use Rattle.index.specs.Indexed.{NamesIndexed}
use Rattle.read_names.specs.Strings as S
use Rattle.read_names.specs.Names.{numbered_at}
use Rattle.read_names.specs.Promises.{Ranged, Tidy, IdLeft, seen_name, name_seen}

-- A name in parts whose strings end before `next`: its triple is there already (11), no room in the table (12), both at k; else its number.
unfoldable pub new_name : Version → NameTable → Triple → (k next : ℕ) → Vocabulary Located → S.Got ℕ
new_name ver t x k next v =
    pick (holds_name (names v t) x) (S.refused REPEAT k)
    (pick (ltb (length (names v t)) ver.entries) (S.got (suc (length (names v t))) next (adding_name v t x)) (S.refused FULL k))

abbrev pub seen_number : Result (Read ℕ) Fault → (d v : Words) → S.Got ℕ
seen_number (Ok r) d v = S.got r.value r.next.at (vocabulary (unlisted d) v)
seen_number (Err e) d v = S.refused (refusal_number e.refusal) e.at

-- The row that has the number is the triple's.
abbrev pub NewRow : Words → (table : ℕ) → Triple → Result (Read ℕ) Fault → Type 0
NewRow v table x (Ok r) = (1 ≤ r.value) × (triple_at v (768 * table + 3 * (r.value - 1)) ≡ x)
NewRow v table x (Err e) = Unit {0}

-- A name with the numbers x may be added: the tables of counts c and words w have room for a look at them, and the numbers name entries that are there.
abbrev pub Addable : (c w : Words) → Octets → (table : ℕ) → Row → Type 0
Addable c w index table x =
    (length w ≡ table_words) × (length c ≡ 10) × (length index ≡ 3840) × (8 ≤ table) × (table < 10) × Counted (unlisted c)
    × NamesIndexed w index table (count_of (unlisted c) table)
    × Ranged (unlisted c) (triple_of x ∷ [])

-- A name whose local name is above `locals` has no entry.
abbrev pub NewAbove : (c w : Words) → (table : ℕ) → Row → (locals : ℕ) → Type 0
NewAbove c w table x locals = locals < x.c → 0 ≡ number_of_triple (names (vocabulary (unlisted c) w) (name_table_of table)) (triple_of x)

-- It was added, or not, as the definition says; what was in order is, and the row is the name's.
abbrev pub AddsName : (c w : Words) → Octets → (table place next : ℕ) → Row → Result (Read ℕ) Fault → (d v : Words) → Octets → Type 0
AddsName c w index table place next x r d v index' =
    (seen_number r d v ≡ new_name link (name_table_of table) (triple_of x) place next (vocabulary (unlisted c) w))
    × ((s : Octets) → Tidy s c w index → next ≤ length s → IdLeft s c w table r d v index')
    × NewRow v table (triple_of x) r

-- A name by its number: it touches no table.
abbrev pub ReadsNumbered : Octets → (c : Words) (table at : ℕ) → Result (Read ℕ) Fault → Type 0
ReadsNumbered s c table at r =
    (w : Words) (x : Octets) → Tidy s c w x → at ≤ length s → (seen_name table r c w ≡ name_seen (numbered_at link (layout_of table) s at (vocabulary (unlisted c) w))) × IdLeft s c w table r c w x
