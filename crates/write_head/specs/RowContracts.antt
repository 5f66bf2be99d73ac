-- Contracts of the code, not definitions to be believed. Given tables row by row, by the number of their table: which rows are right, what they add, and their octets.
use Rattle.std.specs.Prelude.{ℕ, zero, suc, ◌+◌, ◌-◌, ◌*◌, ◌/◌, ◌%◌, ◌≤◌, ◌<◌, min, ◌≡◌, Bool, true, false, not, ◌&&◌, ◌||◌, [], ◌∷◌, ◌++◌, map, length, get_or, eqb, leb, ltb, Result, Ok, Err}
use Rattle.format.specs.Octets.{Octets, Words}
use Rattle.format.specs.Numbers.{pick}
use Rattle.format.specs.Tables.{Triple, Vocabulary, strings, names, same, same_triple, adding, adding_name, link}
use Rattle.format.specs.Head.{some?}
use Rattle.format.specs.declared.StringForm.{StringForm}
use Rattle.format.specs.Forms.{form_of}
use Rattle.format.specs.Refusals.{refusal_number}
use Rattle.format.specs.declared.refusals.Refusal.{Refusal}
use Rattle.format.specs.declared.refusals.Refusal.TheVariants.{Repeat}
use Rattle.fields.specs.Utf8.{is_text}
use Rattle.tables.specs.Located.{Located, stretch, octets_of, start}
use Rattle.tables.specs.Rows.{table_of, built_in, triple_at}
use Rattle.tables.specs.Search.{number_in, number_of_triple}
use Rattle.tables.specs.Kept.{name_table_of, IsSound}
use Rattle.events.specs.FromWords.{string_from}
use Rattle.events.specs.WellMade.{is_stretch, is_string}
use Rattle.write_names.specs.Promises.{value_most, tables_in, InOrder}
use Rattle.write_head.specs.Given.{entries_before, rows_of, given_of}
use Rattle.write_head.specs.Head.{entry_octets, listing, name_octets, count_octets, is_none, head_octets, fault_of_head}

-- ---- loops
-- All numbers below n pass; some number does; what f gives for each, one behind the other.
unfoldable pub below : (ℕ → Bool) → ℕ → Bool
below f zero = true
below f (suc n) = below f n && f n

unfoldable pub some_below : (ℕ → Bool) → ℕ → Bool
some_below f zero = false
some_below f (suc n) = some_below f n || f n

unfoldable pub join_below : (ℕ → Octets) → ℕ → Octets
join_below f zero = []
join_below f (suc n) = join_below f n ++ f n

-- ---- rows
-- The words have the length that their counts say.
abbrev pub Laid : Words → Type 0
Laid g = (10 ≤ length g) × (length g ≡ 10 + 3 * entries_before g 10)

-- The form of a tag; the string in the row at a word, if it is a stretch.
unfoldable pub form_given : ℕ → StringForm
form_given tag = form_of (tag - 4)

abbrev pub located : Words → (at : ℕ) → Located
located g at = stretch (form_given (get_or g at 0)) (get_or g (at + 1) 0) (get_or g (at + 2) 0)

-- The number of a table's built-in entries.
unfoldable pub start_count : ℕ → ℕ
start_count t = pick (ltb t 2) 1 0

-- EVENT: a row of strings is a stretch, of identifying ones in utf-8; a row of names has numbers of entries that are there.
unfoldable pub is_right_name : Words → Triple → Bool
is_right_name g x =
    leb x.prefix (1 + get_or g 0 0) && (leb x.namespace (1 + get_or g 1 0) && (leb 1 x.local && (leb x.local (get_or g 2 0) && leb (some? x.prefix) (some? x.namespace))))

unfoldable pub right_row : Octets → Words → (t at : ℕ) → Bool
right_row text g t at = pick (ltb t 5) (is_stretch text (string_from g at)) (pick (ltb t 8) (is_string text (string_from g at)) (is_right_name g (triple_at g at)))

-- TEXT
unfoldable pub text_row : Octets → Words → (t at : ℕ) → Bool
text_row text g t at = pick (ltb t 8) (is_text (octets_of text (located g at))) true

-- REPEAT: a row is built in, or the same as one before it.
unfoldable pub starts_row : Octets → Words → (t at : ℕ) → Bool
starts_row text g t at = pick (ltb t 8) (same (octets_of text (built_in (table_of t))) (octets_of text (located g at))) false

unfoldable pub same_row : Octets → Words → (t a b : ℕ) → Bool
same_row text g t a b = pick (ltb t 8) (same (octets_of text (located g a)) (octets_of text (located g b))) (same_triple (triple_at g a) (triple_at g b))

unfoldable pub held_row : Octets → Words → (t i : ℕ) → Bool
held_row text g t i = starts_row text g t (rows_of g t + 3 * i) || some_below (λ (j : ℕ). same_row text g t (rows_of g t + 3 * j) (rows_of g t + 3 * i)) i

unfoldable pub new_row : Octets → Words → (t i : ℕ) → Bool
new_row text g t i = (leb 5 t && ltb t 8) || not (held_row text g t i)

-- The row at a word is new in tables v, or may be a repeat.
unfoldable pub new_in : Octets → Words → Vocabulary Located → (t at : ℕ) → Bool
new_in text g v t at =
    (leb 5 t && ltb t 8)
    || pick (ltb t 8) (eqb (number_in (map (octets_of text) (strings v (table_of t))) (octets_of text (located g at))) 0) (eqb (number_of_triple (names v (name_table_of t)) (triple_at g at)) 0)

-- Row i of table t keeps to a rule, which is named by its refusal.
unfoldable pub keeps_row : (rule : ℕ) → Octets → Words → (t i : ℕ) → Bool
keeps_row rule text g t i = pick (eqb rule 16) (right_row text g t (rows_of g t + 3 * i)) (pick (eqb rule 9) (text_row text g t (rows_of g t + 3 * i)) (new_row text g t i))

unfoldable pub keeps_table : (rule : ℕ) → Octets → Words → (t : ℕ) → Bool
keeps_table rule text g t = below (keeps_row rule text g t) (get_or g t 0)

unfoldable pub keeps : (rule : ℕ) → Octets → Words → Bool
keeps rule text g = below (keeps_table rule text g) 10

-- FULL
unfoldable pub few_table : Words → (t : ℕ) → Bool
few_table g t = leb (start_count t + get_or g t 0) 256

abbrev pub Few : Words → Type 0
Few g = below (few_table g) 10 ≡ true

-- Every row is right: what the later rules ask.
abbrev pub Right : Octets → Words → Type 0
Right text g = keeps 16 text g ≡ true

-- Every string is text: what adding and writing ask beside, so that it is a string in its form.
abbrev pub Texts : Octets → Words → Type 0
Texts text g = keeps 9 text g ≡ true

-- The row of a table of strings at a word is a stretch that is a string in its form, of an identifying string in utf-8.
abbrev pub IsRow : Octets → Words → (t at : ℕ) → Type 0
IsRow text g t at = (0 < get_or g (at + 2) 0) × (get_or g (at + 1) 0 + get_or g (at + 2) 0 ≤ length text) × IsSound text (located g at) × (t < 5 → get_or g at 0 ≡ 2)

-- ---- what the rows add
unfoldable pub add_row : Words → Vocabulary Located → (t at : ℕ) → Vocabulary Located
add_row g v t at = pick (ltb t 8) (adding v (table_of t) (located g at)) (adding_name v (name_table_of t) (triple_at g at))

unfoldable pub add_rows : Words → Vocabulary Located → (t n : ℕ) → Vocabulary Located
add_rows g v t zero = v
add_rows g v t (suc n) = add_row g (add_rows g v t n) t (rows_of g t + 3 * n)

unfoldable pub add_tables : Words → (t : ℕ) → Vocabulary Located
add_tables g zero = start link
add_tables g (suc t) = add_rows g (add_tables g t) t (get_or g t 0)

-- Table t has n entries more, which are these; the counts of the others stay.
pub record Grown (text : Octets) (t n : ℕ) (v : Vocabulary Located) (c c' w' : Words) (x' : Octets) : Type 0 where
  pub order : InOrder text c' w' x'
  pub tables : tables_in c' w' ≡ v
  pub here : get_or c' t 0 ≡ get_or c t 0 + n
  pub elsewhere : (j : ℕ) → (j ≡ t → ⊥) → get_or c' j 0 ≡ get_or c j 0

-- What adding says of rows that are new, or held already.
abbrev pub Tells : (new : Bool) → Result (Unit {0}) Refusal → Type 0
Tells new (Ok done) = new ≡ true
Tells new (Err r) = (new ≡ false) × (r ≡ Repeat)

-- ---- octets
-- The most octets of a row, and of a table.
abbrev pub row_most : ℕ
row_most = value_most

abbrev pub table_most : ℕ
table_most = 3 + 256 * row_most

-- What the row at a word must hold so that its octets can be put.
abbrev pub Fits : Octets → Words → (t at : ℕ) → Type 0
Fits text g t at =
    (t < 8 → IsRow text g t at)
    × (8 ≤ t → (get_or g at 0 ≤ 257) × (get_or g (at + 1) 0 ≤ 257) × (get_or g (at + 2) 0 ≤ 256))

unfoldable pub row_octets : Octets → Words → (t at : ℕ) → Octets
row_octets text g t at = pick (ltb t 8) (entry_octets (table_of t) (listing (table_of t) (octets_of text (located g at)))) (name_octets (triple_at g at))

unfoldable pub rows_octets : Octets → Words → (t n : ℕ) → Octets
rows_octets text g t n = join_below (λ (i : ℕ). row_octets text g t (rows_of g t + 3 * i)) n

unfoldable pub table_octets_of : Octets → Words → (t : ℕ) → Octets
table_octets_of text g t = count_octets (get_or g t 0) ++ rows_octets text g t (get_or g t 0)

-- A presence bit for each table.
unfoldable pub presence_of : Words → ℕ
presence_of g =
    512 * some? (get_or g 0 0) + 256 * some? (get_or g 1 0) + 128 * some? (get_or g 2 0) + 64 * some? (get_or g 3 0) + 32 * some? (get_or g 4 0)
    + 16 * some? (get_or g 5 0) + 8 * some? (get_or g 6 0) + 4 * some? (get_or g 7 0) + 2 * some? (get_or g 8 0) + some? (get_or g 9 0)

unfoldable pub head_of : Octets → Words → Octets
head_of text g = 0xE0 ∷ 0x00 ∷ 0x00 ∷ 0x01 ∷ 0x20 ∷ presence_of g / 256 ∷ presence_of g % 256 ∷ join_below (table_octets_of text g) 10

-- ---- the judgement of all rows
-- Every row is right and every string is text, and no table would have an entry too many: only repeats and the room are left to judge.
pub record Passed (text : Octets) (g : Words) : Type 0 where
  pub right : Right text g
  pub texts : Texts text g
  pub few : Few g
  pub repeats : keeps 11 text g ≡ false → (room : ℕ) → fault_of_head link text (given_of g) room ≡ 11
  pub left : keeps 11 text g ≡ true → (room : ℕ) → fault_of_head link text (given_of g) room ≡ pick (is_none (given_of g) || leb (length (head_octets link text (given_of g))) (min room 16384)) 0 14

-- Or r is what is wrong with the entries, whatever the room.
abbrev pub Judged : Octets → Words → Result (Unit {0}) Refusal → Type 0
Judged text g (Ok done) = Passed text g
Judged text g (Err r) = (room : ℕ) → fault_of_head link text (given_of g) room ≡ refusal_number r
