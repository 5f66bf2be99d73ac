-- The tables and octets that the code makes of right rows are the definition's.
-- Assumes nothing.
use mathlib.Core.Path.{◌≡◌, refl, sym, ap, ◌∙◌}
use mathlib.Core.Bool.{Bool, true, false}
use mathlib.Core.List.{List, [], ◌∷◌, ◌++◌, map, append_assoc, append-nil}
use Prim.Native.Nat.{ℕ, zero, suc, ◌+◌, ◌*◌, ◌≤◌, ◌<◌}
use native.Mathlib.Omega.{arith}
use native.Mathlib.Numerals.{add-one}
use native.Mathlib.Decide.{ℕ_discrete}
use borrow.Author.Tests.{lt-ltb, le-ltb, eq-eqb, ne_eqb}
use lib.Dec.{eqb, ltb}
use lib.ListN.{length, get_or}
use Rattle.format.specs.Octets.{Octets}
use Rattle.format.specs.Numbers.{pick, from_bits}
use Rattle.format.specs.Tables.{StringTable, PREFIX, NAMESPACE_NAME, LOCAL_NAME, OTHER_NCNAME, OTHER_URI, ATTRIBUTE_VALUE, CONTENT_CHARACTER_CHUNK, OTHER_STRING, NameTable, ELEMENT_NAME, ATTRIBUTE_NAME}
use Rattle.format.specs.Tables.{Vocabulary, strings, names, vocabulary_map, starting, link}
use Rattle.format.specs.Head.{of_strings, of_names, Listed, Head, ten_tables, size_of, presence}
use Rattle.fields.proofs.Laws.{case}
use Rattle.tables.specs.Located.{Located, octets_of, plain_tables, start}
use Rattle.tables.specs.Rows.{table_of, place, triple_at, entries}
use Rattle.tables.specs.Kept.{name_table_of}
use Rattle.tables.proofs.ByNumber.{eight_nine, by_table_lem, place_of}
use Rattle.tables.proofs.Adding.{extended, same_names, strings-adding, names-adding, names-adding_name, strings-adding_name}
use Rattle.tables.proofs.Entries.{length-entries, entries-more}
use Rattle.tables.proofs.Search.{octets-entries}
use Rattle.write_head.specs.Given.{rows_of, given_of}
use Rattle.write_head.specs.Head.{entry_octets, name_octets, count_octets, joined_by, table_octets, is_none, octets_before, listing, head_for, head_octets, listed_of, tables_of}
use Rattle.write_head.specs.RowContracts.{join_below, located, add_row, add_rows, add_tables, row_octets, rows_octets, table_octets_of, presence_of, head_of, Right}
use Rattle.write_head.proofs.ListLaws.{map_rows, join_rows, join_same}
use Rattle.write_head.proofs.GivenLaws.{given-names, tables-names, given-length, listed_are, tables_are}

-- ---- tables
same_tables : {S : Type 0} (v w : Vocabulary S) → ((t : StringTable) → strings v t ≡ strings w t) → ((t : NameTable) → names v t ≡ names w t) → v ≡ w
unfolding strings names
same_tables v w a b =
    λ i. record {
      prefixes = a PREFIX i;
      namespaces = a NAMESPACE_NAME i;
      locals = a LOCAL_NAME i;
      ncnames = a OTHER_NCNAME i;
      uris = a OTHER_URI i;
      values = a ATTRIBUTE_VALUE i;
      chunks = a CONTENT_CHARACTER_CHUNK i;
      others = a OTHER_STRING i;
      elements = b ELEMENT_NAME i;
      attributes = b ATTRIBUTE_NAME i;
    }

-- a list with others behind it where the test is true
abbrev appended : {A : Type 0} → Bool → List A → List A → List A
appended true l m = l ++ m
appended false l m = l

appended_none : {A : Type 0} (b : Bool) (l : List A) → l ≡ appended b l []
appended_none true l = sym (append-nil l)
appended_none false l = refl

appended_more : {A : Type 0} (b : Bool) (l : List A) (f : ℕ → A) (at n : ℕ) → extended b (appended b l (entries f at n)) (f (at + 3 * n)) ≡ appended b l (entries f at (suc n))
appended_more true l f at n = append_assoc l (entries f at n) (f (at + 3 * n) ∷ []) ∙ ap (λ (m : List _). l ++ m) (sym (entries-more f at n) ∙ rw (add-one n))
appended_more false l f at n = refl

nested : (a b c d e f g h i j : List ℕ) → a ++ (b ++ (c ++ (d ++ (e ++ (f ++ (g ++ (h ++ (i ++ (j ++ []))))))))) ≡ ((((((((a ++ b) ++ c) ++ d) ++ e) ++ f) ++ g) ++ h) ++ i) ++ j
nested a b c d e f g h i j = simp (append_assoc, append-nil) refl

module _ (g : List ℕ) where
  module _ (t : ℕ) (h : t < 8) where
    string_row : (v : Vocabulary Located) (at : ℕ) (u : StringTable) → strings (add_row g v t at) u ≡ extended (eqb t (place u)) (strings v u) (located g at)
    unfolding add_row
    string_row v at u = rw (lt-ltb t 8 h) (strings-adding v (table_of t) (located g at) u ∙ ap (λ (k : ℕ). extended (eqb k (place u)) (strings v u) (located g at)) (place_of t h))

    name_kept : (v : Vocabulary Located) (at : ℕ) (u : NameTable) → names (add_row g v t at) u ≡ names v u
    unfolding add_row
    name_kept v at u = rw (lt-ltb t 8 h) (names-adding v (table_of t) (located g at) u)

    string_rows : (v : Vocabulary Located) (u : StringTable) (n : ℕ) → strings (add_rows g v t n) u ≡ appended (eqb t (place u)) (strings v u) (entries (located g) (rows_of g t) n)
    unfolding add_rows entries
    string_rows v u zero = appended_none (eqb t (place u)) (strings v u)
    string_rows v u (suc n) =
        string_row (add_rows g v t n) (rows_of g t + 3 * n) u
        ∙ ap (λ (l : List Located). extended (eqb t (place u)) l (located g (rows_of g t + 3 * n))) (string_rows v u n)
        ∙ appended_more (eqb t (place u)) (strings v u) (located g) (rows_of g t) n

    names-kept : (v : Vocabulary Located) (u : NameTable) (n : ℕ) → names (add_rows g v t n) u ≡ names v u
    unfolding add_rows
    names-kept v u zero = refl
    names-kept v u (suc n) = name_kept (add_rows g v t n) (rows_of g t + 3 * n) u ∙ names-kept v u n

  module _ (t : ℕ) (h : 8 ≤ t) where
    name_row : (v : Vocabulary Located) (at : ℕ) (u : NameTable) → names (add_row g v t at) u ≡ extended (same_names (name_table_of t) u) (names v u) (triple_at g at)
    unfolding add_row
    name_row v at u = rw (le-ltb t 8 h) (names-adding_name v (name_table_of t) (triple_at g at) u)

    string_kept : (v : Vocabulary Located) (at : ℕ) (u : StringTable) → strings (add_row g v t at) u ≡ strings v u
    unfolding add_row
    string_kept v at u = rw (le-ltb t 8 h) (strings-adding_name v (name_table_of t) (triple_at g at) u)

    name_rows_lem : (v : Vocabulary Located) (u : NameTable) (n : ℕ) → names (add_rows g v t n) u ≡ appended (same_names (name_table_of t) u) (names v u) (entries (triple_at g) (rows_of g t) n)
    unfolding add_rows entries
    name_rows_lem v u zero = appended_none (same_names (name_table_of t) u) (names v u)
    name_rows_lem v u (suc n) =
        name_row (add_rows g v t n) (rows_of g t + 3 * n) u
        ∙ ap (λ (l : List _). extended (same_names (name_table_of t) u) l (triple_at g (rows_of g t + 3 * n))) (name_rows_lem v u n)
        ∙ appended_more (same_names (name_table_of t) u) (names v u) (triple_at g) (rows_of g t) n

    strings-kept : (v : Vocabulary Located) (u : StringTable) (n : ℕ) → strings (add_rows g v t n) u ≡ strings v u
    unfolding add_rows
    strings-kept v u zero = refl
    strings-kept v u (suc n) = string_kept (add_rows g v t n) (rows_of g t + 3 * n) u ∙ strings-kept v u n

  -- the strings, table by table
  abbrev listed : ℕ → List Located
  listed j = entries (located g) (rows_of g j) (get_or g j 0)

  abbrev begun : ℕ → List Located
  begun j = strings (start link) (table_of j)

  strings_to : (t : ℕ) → t ≤ 8 → (j : ℕ) → j < 8 → strings (add_tables g t) (table_of j) ≡ begun j ++ pick (ltb j t) (listed j) []
  unfolding add_tables
  strings_to zero h j k = let z : 0 ≤ j = omega arith in rw (le-ltb j 0 z) (sym (append-nil (begun j)))
  strings_to (suc t) h j k =
      let small : t < 8 = omega arith in
      string_rows t small (add_tables g t) (table_of j) (get_or g t 0) ∙ rw (place_of j k, strings_to t (omega arith) j k)
      elim (ℕ_discrete t j) [
        | yes e ↦ let a : j ≤ j = omega arith in let b : j < suc j = omega arith in rw (e, eq-eqb j j refl, le-ltb j j a, lt-ltb j (suc j) b, append-nil (begun j))
        | no e ↦ rw (ne_eqb t j e) (case j t (λ a. let b : j < suc t = omega arith in rw (lt-ltb j t a, lt-ltb j (suc t) b)) (λ a. let b : suc t ≤ j = omega arith in rw (le-ltb j t a, le-ltb j (suc t) b)))
      ]

  names_to : (t : ℕ) → t ≤ 8 → (u : NameTable) → names (add_tables g t) u ≡ []
  unfolding add_tables start starting names
  names_to zero h ELEMENT_NAME = refl
  names_to zero h ATTRIBUTE_NAME = refl
  names_to (suc t) h u = names-kept t (omega arith) (add_tables g t) u (get_or g t 0) ∙ names_to t (omega arith) u

  strings_ten : (j : ℕ) → j < 8 → strings (add_tables g 10) (table_of j) ≡ begun j ++ listed j
  unfolding add_tables
  strings_ten j k =
      strings-kept 9 (omega arith) (add_tables g 9) (table_of j) (get_or g 9 0) ∙ strings-kept 8 (omega arith) (add_tables g 8) (table_of j) (get_or g 8 0)
      ∙ strings_to 8 (omega arith) j k ∙ rw (lt-ltb j 8 k)

  elements_ten : names (add_tables g 10) ELEMENT_NAME ≡ entries (triple_at g) (rows_of g 8) (get_or g 8 0)
  unfolding add_tables same_names name_table_of
  elements_ten =
      name_rows_lem 9 (omega arith) (add_tables g 9) ELEMENT_NAME (get_or g 9 0) ∙ name_rows_lem 8 (omega arith) (add_tables g 8) ELEMENT_NAME (get_or g 8 0)
      ∙ ap (λ (l : List _). l ++ entries (triple_at g) (rows_of g 8) (get_or g 8 0)) (names_to 8 (omega arith) ELEMENT_NAME)

  attributes_none : names (add_tables g 9) ATTRIBUTE_NAME ≡ []
  unfolding add_tables same_names name_table_of
  attributes_none = name_rows_lem 8 (omega arith) (add_tables g 8) ATTRIBUTE_NAME (get_or g 8 0) ∙ names_to 8 (omega arith) ATTRIBUTE_NAME

  attributes_ten : names (add_tables g 10) ATTRIBUTE_NAME ≡ entries (triple_at g) (rows_of g 9) (get_or g 9 0)
  unfolding add_tables same_names name_table_of
  attributes_ten = name_rows_lem 9 (omega arith) (add_tables g 9) ATTRIBUTE_NAME (get_or g 9 0) ∙ ap (λ (l : List _). l ++ entries (triple_at g) (rows_of g 9) (get_or g 9 0)) attributes_none

  -- table t with its first i rows, and the tables before it
  pub strings_with : (t : ℕ) → t < 8 → (i : ℕ) → strings (add_rows g (add_tables g t) t i) (table_of t) ≡ begun t ++ entries (located g) (rows_of g t) i
  strings_with t h i =
      let a : t ≤ t = omega arith in
      string_rows t h (add_tables g t) (table_of t) i ∙ rw (place_of t h, eq-eqb t t refl, strings_to t (omega arith) t h, le-ltb t t a, append-nil (begun t))

  none_yet : (t : ℕ) → 8 ≤ t → t < 10 → names (add_tables g t) (name_table_of t) ≡ []
  unfolding name_table_of
  none_yet = eight_nine (λ (t : ℕ). names (add_tables g t) (name_table_of t) ≡ []) (names_to 8 (omega arith) ELEMENT_NAME) attributes_none

  itself : (u : NameTable) → same_names u u ≡ true
  unfolding same_names
  itself ELEMENT_NAME = refl
  itself ATTRIBUTE_NAME = refl

  pub names_with : (t : ℕ) → 8 ≤ t → t < 10 → (i : ℕ) → names (add_rows g (add_tables g t) t i) (name_table_of t) ≡ entries (triple_at g) (rows_of g t) i
  names_with t l h i = name_rows_lem t l (add_tables g t) (name_table_of t) i ∙ rw (itself (name_table_of t), none_yet t l h)

  -- ---- presence bits
  presence_is : {S : Type 0} (h : Vocabulary S) → ((t : ℕ) → t < 8 → length (strings h (table_of t)) ≡ get_or g t 0) → ((t : ℕ) → 8 ≤ t → t < 10 → length (names h (name_table_of t)) ≡ get_or g t 0)
      → presence h ten_tables ≡ presence_of g
  unfolding presence from_bits ten_tables size_of strings names table_of name_table_of presence_of
  presence_is h a b =
      rw (a 0 (omega arith), a 1 (omega arith), a 2 (omega arith), a 3 (omega arith), a 4 (omega arith), a 5 (omega arith), a 6 (omega arith), a 7 (omega arith), b 8 (omega arith) (omega arith), b 9 (omega arith) (omega arith))
      (omega arith)

  names_of : (t : ℕ) → 8 ≤ t → t < 10 → length (names (given_of g) (name_table_of t)) ≡ get_or g t 0
  names_of t l h = rw (given-names g t l h) (length-entries (triple_at g) (rows_of g t) (get_or g t 0))

  -- none is given exactly where no bit is set
  pub none_is : is_none (given_of g) ≡ eqb (presence_of g) 0
  unfolding is_none
  none_is = rw (presence_is (given_of g) (given-length g) names_of)

  module _ (text : List ℕ) (right : Right text g) where
    pub added_is : add_tables g 10 ≡ tables_of link (given_of g)
    unfolding table_of name_table_of
    added_is =
        same_tables (add_tables g 10) (tables_of link (given_of g))
        (by_table_lem (λ (u : StringTable). strings (add_tables g 10) u ≡ strings (tables_of link (given_of g)) u) (of 0 (omega arith)) (of 1 (omega arith)) (of 2 (omega arith)) (of 3 (omega arith)) (of 4 (omega arith)) (of 5 (omega arith)) (of 6 (omega arith)) (of 7 (omega arith)))
        of_names_lem
      where
        of : (j : ℕ) → j < 8 → strings (add_tables g 10) (table_of j) ≡ strings (tables_of link (given_of g)) (table_of j)
        of j h = strings_ten j h ∙ sym (tables_are g text right j h)

        of_names_lem : (u : NameTable) → names (add_tables g 10) u ≡ names (tables_of link (given_of g)) u
        of_names_lem ELEMENT_NAME = elements_ten ∙ sym (tables-names g 8 (omega arith) (omega arith) ∙ given-names g 8 (omega arith) (omega arith))
        of_names_lem ATTRIBUTE_NAME = attributes_ten ∙ sym (tables-names g 9 (omega arith) (omega arith) ∙ given-names g 9 (omega arith) (omega arith))

    -- ---- octets
    abbrev plain : Vocabulary Octets
    plain = plain_tables text (listed_of (given_of g))

    abbrev H : Head
    H = head_for plain

    abbrev spelt : ℕ → List ℕ
    spelt at = octets_of text (located g at)

    plain_map : (u : StringTable) → strings plain u ≡ map (octets_of text) (strings (listed_of (given_of g)) u)
    unfolding vocabulary_map strings
    plain_map = by_table_lem _ refl refl refl refl refl refl refl refl

    plain-strings : (t : ℕ) → t < 8 → strings plain (table_of t) ≡ entries spelt (rows_of g t) (get_or g t 0)
    plain-strings t h = plain_map (table_of t) ∙ ap (λ (l : List Located). map (octets_of text) l) (listed_are g text right t h) ∙ octets-entries text (located g) (rows_of g t) (get_or g t 0)

    head_map : (u : StringTable) → strings H u ≡ map (listing u) (strings plain u)
    unfolding head_for strings
    head_map = by_table_lem _ refl refl refl refl refl refl refl refl

    abbrev listed_at : (t at : ℕ) → Listed
    listed_at t at = listing (table_of t) (spelt at)

    head_strings : (t : ℕ) → t < 8 → strings H (table_of t) ≡ entries (listed_at t) (rows_of g t) (get_or g t 0)
    head_strings t h =
        head_map (table_of t) ∙ ap (λ (l : List Octets). map (listing (table_of t)) l) (plain-strings t h)
        ∙ map_rows (listing (table_of t)) spelt (listed_at t) (rows_of g t) (get_or g t 0) (λ i l. refl)

    head_kept : (u : NameTable) → names H u ≡ names (given_of g) u
    unfolding head_for vocabulary_map names
    head_kept ELEMENT_NAME = refl
    head_kept ATTRIBUTE_NAME = refl

    head_names : (t : ℕ) → 8 ≤ t → t < 10 → names H (name_table_of t) ≡ entries (triple_at g) (rows_of g t) (get_or g t 0)
    head_names t l h = head_kept (name_table_of t) ∙ given-names g t l h

    string_octets_lem : (t at : ℕ) → t < 8 → entry_octets (table_of t) (listed_at t at) ≡ row_octets text g t at
    unfolding row_octets
    string_octets_lem t at h = rw (lt-ltb t 8 h)

    name_octets_lem : (t at : ℕ) → 8 ≤ t → name_octets (triple_at g at) ≡ row_octets text g t at
    unfolding row_octets
    name_octets_lem t at h = rw (le-ltb t 8 h)

    strings_table : (t : ℕ) → t < 8 → table_octets H (of_strings (table_of t)) ≡ table_octets_of text g t
    unfolding table_octets table_octets_of rows_octets
    strings_table t h =
        rw (head_strings t h, length-entries (listed_at t) (rows_of g t) (get_or g t 0), join_rows (entry_octets (table_of t)) (listed_at t) (rows_of g t) (get_or g t 0))
        (ap (λ (o : List ℕ). count_octets (get_or g t 0) ++ o)
        (join_same (λ (i : ℕ). entry_octets (table_of t) (listed_at t (rows_of g t + 3 * i))) (λ (i : ℕ). row_octets text g t (rows_of g t + 3 * i)) (get_or g t 0) (λ i l. string_octets_lem t (rows_of g t + 3 * i) h)))

    names_table : (t : ℕ) → 8 ≤ t → t < 10 → table_octets H (of_names (name_table_of t)) ≡ table_octets_of text g t
    unfolding table_octets table_octets_of rows_octets
    names_table t l h =
        rw (head_names t l h, length-entries (triple_at g) (rows_of g t) (get_or g t 0), join_rows name_octets (triple_at g) (rows_of g t) (get_or g t 0))
        (ap (λ (o : List ℕ). count_octets (get_or g t 0) ++ o)
        (join_same (λ (i : ℕ). name_octets (triple_at g (rows_of g t + 3 * i))) (λ (i : ℕ). row_octets text g t (rows_of g t + 3 * i)) (get_or g t 0) (λ i k. name_octets_lem t (rows_of g t + 3 * i) l)))

    joined_ten : joined_by (table_octets H) ten_tables ≡ join_below (table_octets_of text g) 10
    unfolding joined_by ten_tables join_below table_of name_table_of
    joined_ten =
        rw (
          strings_table 0 (omega arith),
          strings_table 1 (omega arith),
          strings_table 2 (omega arith),
          strings_table 3 (omega arith),
          strings_table 4 (omega arith),
          strings_table 5 (omega arith),
          strings_table 6 (omega arith),
          strings_table 7 (omega arith),
          names_table 8 (omega arith) (omega arith),
          names_table 9 (omega arith) (omega arith),
        )
        (nested (table_octets_of text g 0) (table_octets_of text g 1) (table_octets_of text g 2) (table_octets_of text g 3) (table_octets_of text g 4) (table_octets_of text g 5) (table_octets_of text g 6) (table_octets_of text g 7) (table_octets_of text g 8) (table_octets_of text g 9))

    head_length : (t : ℕ) → t < 8 → length (strings H (table_of t)) ≡ get_or g t 0
    head_length t h = rw (head_strings t h) (length-entries (listed_at t) (rows_of g t) (get_or g t 0))

    head_names-length : (t : ℕ) → 8 ≤ t → t < 10 → length (names H (name_table_of t)) ≡ get_or g t 0
    head_names-length t l h = rw (head_names t l h) (length-entries (triple_at g) (rows_of g t) (get_or g t 0))

    pub head_is : (presence_of g ≡ 0 → ⊥) → head_octets link text (given_of g) ≡ head_of text g
    unfolding head_octets octets_before is_none link head_of
    head_is ne = rw (presence_is H head_length head_names-length, ne_eqb (presence_of g) 0 ne, joined_ten)
