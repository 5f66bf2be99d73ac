-- Contracts of the code, not definitions to be believed. How the code's answers stand for the reading definition: the choices that were found are left out, tables in lent words are the vocabulary that they hold, and a number stands for the entry that has it.
use Rattle.std.specs.Prelude.{ℕ, zero, suc, ◌+◌, ◌-◌, ◌*◌, ◌≤◌, ◌<◌, ◌≡◌, Bool, ◌||◌, List, [], ◌∷◌, length, ltb, leb, Result, Ok, Err}
use Rattle.format.specs.Octets.{Octets, Words}
use Rattle.format.specs.Refusals.{refusal_number}
use Rattle.format.specs.declared.refusals.Fault.{Fault}
use Rattle.fields.specs.declared.Read.{Read}
use Rattle.format.specs.Tables.{NameTable, Triple, Vocabulary, names}
use Rattle.tables.specs.declared.Counts.{Counts}
use Rattle.tables.specs.Located.{Located}
use Rattle.tables.specs.Counts.{table_words}
use Rattle.tables.specs.Rows.{table_of, string_at, triple_at, vocabulary}
use Rattle.tables.specs.Kept.{count_of, unlisted, row_at}
use Rattle.index.specs.Ordered.{Ordered}
use Rattle.events.specs.declared.EventString.{EventString}
use Rattle.events.specs.declared.EventString.TheVariants.{Absent}
use Rattle.events.specs.Records.{event_string, optional_event_string}
use Rattle.read_names.specs.declared.Binding.{Binding}
use Rattle.read_names.specs.declared.Parts.{Parts}
use Rattle.read_names.specs.Strings as S
use Rattle.read_names.specs.Strings.{IdRead, OptionalRead, StringRead}
use Rattle.read_names.specs.Names.{NameRead, DeclaredRead}

-- The numbers of a triple name entries that are there; a name has a local name.
abbrev pub Ranged : Counts → List Triple → Type 0
Ranged c [] = Unit {0}
Ranged c (x ∷ xs) = (x.prefix ≤ c.prefix) × (x.namespace ≤ c.namespace) × (1 ≤ x.local) × (x.local ≤ c.local) × Ranged c xs

-- The tables that the reader searches: those of identifying strings, and those of names.
unfoldable pub searched : ℕ → Bool
searched table = ltb table 5 || leb 8 table

-- The tables of a document s in lent words are in order, and the numbers of names are those of entries: c are the words of the counts, w those of the tables, x the octets of the index.
abbrev pub Tidy : Octets → (c w : Words) → Octets → Type 0
Tidy s c w x = Ordered searched s c w x ((t : NameTable) → Ranged (unlisted c) (names (vocabulary (unlisted c) w) t))

-- Words c and w of counts and tables became d and v: the rows that were there are the same.
pub record Grown (c w d v : Words) : Type 0 where
  pub counts : (table : ℕ) → count_of (unlisted c) table ≤ count_of (unlisted d) table
  pub rows : (table i : ℕ) → table < 10 → i < count_of (unlisted c) table → row_at v (768 * table + 3 * i) ≡ row_at w (768 * table + 3 * i)

-- What is left behind a field that ends before `at`; and behind a refusal, whose tables nobody looks at.
pub record Left (s : Octets) (c w : Words) (at : ℕ) (d v : Words) (x : Octets) : Type 0 where
  pub tidy : Tidy s d v x
  pub within : at ≤ length s
  pub grown : Grown c w d v

abbrev pub Rooms : (d v : Words) → Type 0
Rooms d v = (length d ≡ 10) × (length v ≡ table_words)

-- ---- the string behind a number of a table; 0 is none. The strings behind a name's number
unfoldable pub event_string_at : Words → (table number : ℕ) → EventString
event_string_at w table zero = Absent
event_string_at w table (suc k) = event_string (string_at (table_of table) w (768 * table + 3 * k))

unfoldable pub event_strings_at : Words → Triple → Parts
event_strings_at w x = record { prefix = event_string_at w 0 x.prefix; namespace = event_string_at w 1 x.namespace; local = event_string_at w 2 x.local }

unfoldable pub name_strings_at : Words → (table number : ℕ) → Parts
name_strings_at w table n = event_strings_at w (triple_at w (768 * table + 3 * (n - 1)))

-- ---- an identifying string
pub record Seen : Type 0 where
  pub text : EventString
  pub number : ℕ

abbrev pub seen_id : (table : ℕ) → Result (Read ℕ) Fault → (d v : Words) → S.Got Seen
seen_id table (Ok r) d v = S.got (record { text = event_string_at v table r.value; number = r.value }) r.next.at (vocabulary (unlisted d) v)
seen_id table (Err e) d v = S.refused (refusal_number e.refusal) e.at

abbrev pub IdLeft : Octets → (c w : Words) → (table : ℕ) → Result (Read ℕ) Fault → (d v : Words) → Octets → Type 0
IdLeft s c w table (Ok r) d v x = Left s c w r.next.at d v x × (r.value ≤ count_of (unlisted d) table)
IdLeft s c w table (Err e) d v x = Rooms d v

-- Numbers start from 1.
abbrev pub Positive : Result (Read ℕ) Fault → Type 0
Positive (Ok r) = 1 ≤ r.value
Positive (Err e) = Unit {0}

abbrev pub id_seen : S.Got IdRead → S.Got Seen
id_seen (S.got b next v) = S.got (record { text = event_string b.string; number = b.number }) next v
id_seen (S.refused n p) = S.refused n p

abbrev pub optional_seen : S.Got OptionalRead → S.Got Seen
optional_seen (S.got b next v) = S.got (record { text = optional_event_string b.string; number = b.number }) next v
optional_seen (S.refused n p) = S.refused n p

-- ---- a string that has no number of its own
abbrev pub seen_field : Result (Read EventString) Fault → (d v : Words) → S.Got EventString
seen_field (Ok r) d v = S.got r.value r.next.at (vocabulary (unlisted d) v)
seen_field (Err e) d v = S.refused (refusal_number e.refusal) e.at

abbrev pub FieldLeft : Octets → (c w : Words) → Result (Read EventString) Fault → (d v : Words) → Octets → Type 0
FieldLeft s c w (Ok r) d v x = Left s c w r.next.at d v x
FieldLeft s c w (Err e) d v x = Rooms d v

abbrev pub string_seen : S.Got StringRead → S.Got EventString
string_seen (S.got b next v) = S.got (event_string b.string) next v
string_seen (S.refused n p) = S.refused n p

-- ---- a name, by its number
abbrev pub seen_name : (table : ℕ) → Result (Read ℕ) Fault → (d v : Words) → S.Got Parts
seen_name table (Ok r) d v = S.got (name_strings_at v table r.value) r.next.at (vocabulary (unlisted d) v)
seen_name table (Err e) d v = S.refused (refusal_number e.refusal) e.at

abbrev pub name_seen : S.Got NameRead → S.Got Parts
name_seen (S.got b next v) = S.got (record { prefix = optional_event_string b.name.prefix; namespace = optional_event_string b.name.namespace; local = event_string b.name.local }) next v
name_seen (S.refused n p) = S.refused n p

-- ---- a declaration, which has no local name
abbrev pub seen_declared : Result (Read Binding) Fault → (d v : Words) → S.Got Parts
seen_declared (Ok r) d v =
    S.got (record { prefix = event_string_at v 0 r.value.prefix; namespace = event_string_at v 1 r.value.namespace; local = Absent }) r.next.at (vocabulary (unlisted d) v)
seen_declared (Err e) d v = S.refused (refusal_number e.refusal) e.at

abbrev pub DeclaredLeft : Octets → (c w : Words) → Result (Read Binding) Fault → (d v : Words) → Octets → Type 0
DeclaredLeft s c w (Ok r) d v x = Left s c w r.next.at d v x × (r.value.prefix ≤ 256) × (r.value.namespace ≤ 256)
DeclaredLeft s c w (Err e) d v x = Rooms d v

abbrev pub declared_seen : S.Got DeclaredRead → S.Got Parts
declared_seen (S.got b next v) = S.got (record { prefix = optional_event_string b.prefix; namespace = optional_event_string b.namespace; local = Absent }) next v
declared_seen (S.refused n p) = S.refused n p

-- ---- what a function answers and leaves: r is what f reads from the tables that words c and w of counts and tables hold, these are d and v then, and the index is x
abbrev pub ReadsId : Octets → (c w : Words) (table : ℕ) → Result (Read ℕ) Fault → (d v : Words) → Octets → (Vocabulary Located → S.Got IdRead) → Type 0
ReadsId s c w table r d v x f = (seen_id table r d v ≡ id_seen (f (vocabulary (unlisted c) w))) × IdLeft s c w table r d v x × Positive r

abbrev pub ReadsOptional : Octets → (c w : Words) (table : ℕ) → Result (Read ℕ) Fault → (d v : Words) → Octets → (Vocabulary Located → S.Got OptionalRead) → Type 0
ReadsOptional s c w table r d v x f = (seen_id table r d v ≡ optional_seen (f (vocabulary (unlisted c) w))) × IdLeft s c w table r d v x

abbrev pub ReadsName : Octets → (c w : Words) (table : ℕ) → Result (Read ℕ) Fault → (d v : Words) → Octets → (Vocabulary Located → S.Got NameRead) → Type 0
ReadsName s c w table r d v x f = (seen_name table r d v ≡ name_seen (f (vocabulary (unlisted c) w))) × IdLeft s c w table r d v x × Positive r

abbrev pub ReadsDeclared : Octets → (c w : Words) → Result (Read Binding) Fault → (d v : Words) → Octets → (Vocabulary Located → S.Got DeclaredRead) → Type 0
ReadsDeclared s c w r d v x f = (seen_declared r d v ≡ declared_seen (f (vocabulary (unlisted c) w))) × DeclaredLeft s c w r d v x

-- Whatever the index is: a string without a number of its own is not looked up in it.
abbrev pub ReadsField : Octets → (c w : Words) → Result (Read EventString) Fault → (d v : Words) → (Vocabulary Located → S.Got StringRead) → Type 0
ReadsField s c w r d v f = (x : Octets) → Tidy s c w x → (seen_field r d v ≡ string_seen (f (vocabulary (unlisted c) w))) × FieldLeft s c w r d v x

-- A name's number is that of a row whose numbers are those of rows.
abbrev pub NameThere : Words → (table number : ℕ) → Type 0
NameThere t table n =
    (length t ≡ table_words) × (8 ≤ table) × (table < 10) × (1 ≤ n) × (n ≤ 256)
    × ((triple_at t (768 * table + 3 * (n - 1))).prefix ≤ 256)
    × ((triple_at t (768 * table + 3 * (n - 1))).namespace ≤ 256)
    × ((triple_at t (768 * table + 3 * (n - 1))).local ≤ 256)
