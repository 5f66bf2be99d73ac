-- Contracts of the code, not definitions to be believed. What ties the index to the tables.
use Rattle.std.specs.Prelude.{Result, Ok, Err, ℕ, ◌+◌, ◌*◌, ◌≤◌, ◌<◌, ◌≡◌, Bool, true, false, not, map, length, get_or, eqb}
use Rattle.format.specs.Octets.{Octets, Words}
use Rattle.format.specs.Tables.{Triple, same, same_triple}
use Rattle.format.specs.declared.StringForm.TheVariants.{Utf8}
use Rattle.tables.specs.Located.{stretch, octets_of}
use Rattle.tables.specs.Rows.{table_of, built_in, string_at, triple_at, entries}
use Rattle.tables.specs.Search.{number_in}
use Rattle.tables.specs.Counts.{table_words}
use Rattle.format.specs.declared.StringForm.{StringForm}
use Rattle.format.specs.Characters.{All}
use Rattle.tables.specs.declared.Row.{Row}
use Rattle.tables.specs.Kept.{stored, Inside, IsSound}
use Rattle.index.specs.Hash.{bucket, name_bucket}
use Rattle.index.specs.Chain.{Kind, reached, Chains}
use Rattle.format.specs.declared.refusals.Refusal.{Refusal}
use Rattle.format.specs.declared.refusals.Refusal.TheVariants.{Repeat, Full}

-- Octets in the index: 384 for each table.
abbrev pub slots : ℕ
slots = 3840

-- A table's strings as octets. The built-in string is not indexed: the search tests it apart.
unfoldable pub strings : Octets → ℕ → Kind Octets
strings s table = record { alike = same; bucket_of = bucket; indexed = λ (y : Octets). not (same (octets_of s (built_in (table_of table))) y) }

unfoldable pub strings_at : (s : Octets) (t : Words) (table at : ℕ) → Octets
strings_at s t table at = octets_of s (string_at (table_of table) t at)

-- A table's names.
unfoldable pub names : Kind Triple
names = record { alike = same_triple; bucket_of = name_bucket; indexed = λ (y : Triple). true }

-- The first n entries of one table are indexed.
unfoldable pub StringsIndexed : (s : Octets) (t : Words) (index : Octets) (table n : ℕ) → Type 0
StringsIndexed s t index table n = Chains (strings s table) (strings_at s t table) (768 * table) (reached n) index (384 * table)

unfoldable pub NamesIndexed : (t : Words) (index : Octets) (table n : ℕ) → Type 0
NamesIndexed t index table n = Chains names (triple_at t) (768 * table) (reached n) index (384 * table)

-- Counts that are words of a lent slice, as a function of the table; those of `Counts` are `count_of`.
abbrev pub in_words : Words → ℕ → ℕ
in_words w table = get_or w table 0

-- The tables that `only` names are indexed, with the counts that they have.
pub record Indexed (only : ℕ → Bool) (s : Octets) (count : ℕ → ℕ) (t : Words) (index : Octets) : Type 0 where
  pub size : length index ≡ slots
  pub within : (table : ℕ) → count table ≤ 256
  pub of_strings : (table : ℕ) → table < 8 → only table ≡ true → StringsIndexed s t index table (count table)
  pub of_names : (table : ℕ) → 8 ≤ table → table < 10 → only table ≡ true → NamesIndexed t index table (count table)

-- One table has one entry more, its n + 1st.
pub record OneMore (table n : ℕ) (count more : ℕ → ℕ) : Type 0 where
  pub was : count table ≡ n
  pub here : more table ≡ n + 1
  pub elsewhere : (k : ℕ) → (k ≡ table → ⊥) → more k ≡ count k

-- Words t and index became u and other when a table's entry n + 1 was added: what was indexed is.
pub record Keeps (s : Octets) (table n : ℕ) (t : Words) (index : Octets) (u : Words) (other : Octets) : Type 0 where
  pub still : (only : ℕ → Bool) (count more : ℕ → ℕ) → OneMore table n count more → Indexed only s count t index → Indexed only s more u other

-- The string of a row's words was added behind a table's n entries: what was indexed is. And the same of a name.
pub record StringEntered (s : Octets) (table n : ℕ) (x : Row) (t : Words) (index : Octets) (u : Words) (other : Octets) : Type 0 where
  pub words : u ≡ stored t table n x.a x.b x.c
  pub keeps : Keeps s table n t index u other

pub record NameEntered (s : Octets) (table n : ℕ) (x : Triple) (t : Words) (index : Octets) (u : Words) (other : Octets) : Type 0 where
  pub words : u ≡ stored t table n x.prefix x.namespace x.local
  pub keeps : Keeps s table n t index u other

-- The string at a place is one of a table's first n entries.
abbrev pub listed : (s t : Octets) (table n place len : ℕ) → Bool
listed s t table n place len = not (eqb (number_in (map (octets_of s) (entries (string_at (table_of table) t) (768 * table) n)) (octets_of s (stretch Utf8 place len))) 0)

-- A string that is to be a new entry behind a table's n: it is one already, or the table is full, and nothing moved; or it was added.
abbrev pub NewString : (s : Octets) (table n place len : ℕ) (t : Words) (index : Octets) → Result (Unit {0}) Refusal → (u : Words) (other : Octets) → Type 0
NewString s table n place len t index (Err Repeat) u other = (listed s t table n place len ≡ true) × (u ≡ t) × (other ≡ index)
NewString s table n place len t index (Err Full) u other = (listed s t table n place len ≡ false) × (256 ≤ n) × (u ≡ t) × (other ≡ index)
NewString s table n place len t index (Ok x) u other = (listed s t table n place len ≡ false) × (n < 256) × StringEntered s table n (record { a = place; b = len; c = 0 }) t index u other
NewString s table n place len t index (Err e) u other = ⊥

-- ---- what the functions ask
-- The string at a place can be looked for among the first n entries of a table of identifying strings: it is not empty, it and they lie in s, they are indexed, and h is its bucket.
abbrev pub Sought : (s : Octets) (t : Words) (index : Octets) (table n place len h : ℕ) → Type 0
Sought s t index table n place len h =
    (length t ≡ table_words) × (length index ≡ slots) × (table < 5) × (n ≤ 256) × (1 ≤ len) × (place + len ≤ length s)
    × Inside s (entries (string_at (table_of table) t) (768 * table) n)
    × StringsIndexed s t index table n
    × (h ≡ bucket (octets_of s (stretch Utf8 place len)))
    × (h < 128)

-- And it is not built in, so that it is in its chain or nowhere; and it can be added, so that its place fits a word.
abbrev pub SoughtInChain : (s : Octets) (t : Words) (index : Octets) (table n place len h : ℕ) → Type 0
SoughtInChain s t index table n place len h =
    (length t ≡ table_words) × (length index ≡ slots) × (table < 5) × (n ≤ 256) × (1 ≤ len) × (place + len ≤ length s)
    × Inside s (entries (string_at (table_of table) t) (768 * table) n)
    × StringsIndexed s t index table n
    × (h ≡ bucket (octets_of s (stretch Utf8 place len)))
    × (h < 128)
    × (same (octets_of s (built_in (table_of table))) (octets_of s (stretch Utf8 place len)) ≡ false)

abbrev pub SoughtToAdd : (s : Octets) (t : Words) (index : Octets) (table n place len h : ℕ) → Type 0
SoughtToAdd s t index table n place len h =
    (length t ≡ table_words) × (length index ≡ slots) × (table < 5) × (n ≤ 256) × (1 ≤ len) × (place + len ≤ length s)
    × Inside s (entries (string_at (table_of table) t) (768 * table) n)
    × StringsIndexed s t index table n
    × (h ≡ bucket (octets_of s (stretch Utf8 place len)))
    × (h < 128)
    × (length s < 0x1_0000_0000)

-- What a string says, in its form, can be looked for among the first n entries of a table of other strings: it is not empty, it and they lie in s and are strings in their forms, and they are indexed.
abbrev pub SoughtSaid : (s : Octets) (t : Words) (index : Octets) (table n : ℕ) → StringForm → (place len : ℕ) → Type 0
SoughtSaid s t index table n form place len =
    (length t ≡ table_words) × (length index ≡ slots) × (5 ≤ table) × (table < 8) × (n ≤ 256) × (1 ≤ len) × (place + len ≤ length s) × (length s ≤ 16384)
    × IsSound s (stretch form place len)
    × Inside s (entries (string_at (table_of table) t) (768 * table) n)
    × All (IsSound s) (entries (string_at (table_of table) t) (768 * table) n)
    × StringsIndexed s t index table n
