-- What the code judges row by row is what the definition says of the given tables.
-- Assumes nothing.
use mathlib.Core.Path.{◌≡◌, refl, sym, ap, ◌∙◌}
use mathlib.Core.Bool.{Bool, true, false, not, ◌&&◌, ◌||◌}
use mathlib.Core.List.{List, [], ◌∷◌, ◌++◌, map}
use Prim.Native.Nat.{ℕ, zero, suc, ◌+◌, ◌*◌, ◌≤◌, ◌<◌}
use native.Mathlib.Omega.{arith}
use borrow.Author.Tests.{lt-ltb, le-ltb, le-leb, lt-leb}
use lib.Dec.{leb, ltb}
use lib.ListN.{length, get_or, length-append, length-map}
use Rattle.format.specs.Numbers.{pick}
use Rattle.format.specs.Tables.{StringTable, PREFIX, NAMESPACE_NAME, LOCAL_NAME, OTHER_NCNAME, OTHER_URI, ATTRIBUTE_VALUE, CONTENT_CHARACTER_CHUNK, OTHER_STRING, NameTable, ELEMENT_NAME, ATTRIBUTE_NAME, Triple, strings, names, vocabulary_map, followed_by, starting, same, same_triple, xml_prefix, xml_namespace, link}
use Rattle.format.specs.Head.{is_identifying}
use Rattle.fields.specs.Utf8.{is_text}
use Rattle.fields.proofs.Laws.{case}
use Rattle.tables.specs.Located.{Located, octets_of, start}
use Rattle.tables.specs.Rows.{table_of, built_in, triple_at, entries}
use Rattle.tables.specs.Kept.{name_table_of}
use Rattle.tables.proofs.ByNumber.{by_number_lem, eight_nine, by_table_lem}
use Rattle.tables.proofs.Entries.{length-entries}
use Rattle.tables.proofs.Search.{octets-entries, not_same}
use Rattle.tables.proofs.SaidLaws.{says_some}
use Rattle.events.specs.FromWords.{string_from}
use Rattle.events.specs.Records.{located_of}
use Rattle.write_head.specs.Given.{Given, rows_of, given_of}
use Rattle.write_head.specs.Head.{in_strings, in_names, every, distinct, distinct_names, is_triple, is_entry, listed_of, tables_of, well_given, text_given, new_given, few_given}
use Rattle.write_head.specs.RowContracts.{below, some_below, form_given, located, start_count, is_right_name, right_row, text_row, starts_row, same_row, held_row, new_row, keeps_row, keeps_table, keeps, few_table, Right}
use Rattle.write_head.proofs.RowLaws.{IsTag, string_is, right_any, right_lies}
use Rattle.write_head.proofs.ListLaws.{and_true, or_false, below-same, some_same, every-rows, map_rows, held_by, distinct_by, held_rows, distinct-rows, distinct_is, distinct-names_is, same_either, triple_either}

-- ---- all tables, by number
abbrev by_table : (StringTable → Bool) → (NameTable → Bool) → ℕ → Bool
by_table f h t = pick (ltb t 8) (f (table_of t)) (h (name_table_of t))

left_nested : (a b c d e f g h i j : Bool)
    → ((((((((((true && a) && b) && c) && d) && e) && f) && g) && h) && i) && j) ≡ ((a && (b && (c && (d && (e && (f && (g && h))))))) && (i && j))
left_nested false b c d e f g h i j = refl
left_nested true false c d e f g h i j = refl
left_nested true true false d e f g h i j = refl
left_nested true true true false e f g h i j = refl
left_nested true true true true false f g h i j = refl
left_nested true true true true true false g h i j = refl
left_nested true true true true true true false h i j = refl
left_nested true true true true true true true false i j = refl
left_nested true true true true true true true true i j = refl

all_tables : (f : StringTable → Bool) (h : NameTable → Bool) → below (by_table f h) 10 ≡ (in_strings f && in_names h)
unfolding below in_strings in_names table_of name_table_of
all_tables f h =
    left_nested (f PREFIX) (f NAMESPACE_NAME) (f LOCAL_NAME) (f OTHER_NCNAME) (f OTHER_URI) (f ATTRIBUTE_VALUE) (f CONTENT_CHARACTER_CHUNK) (f OTHER_STRING) (h ELEMENT_NAME) (h ATTRIBUTE_NAME)

by_tables : (q : ℕ → Bool) (f : StringTable → Bool) (h : NameTable → Bool) → ((t : ℕ) → t < 8 → q t ≡ f (table_of t)) → ((t : ℕ) → 8 ≤ t → t < 10 → q t ≡ h (name_table_of t))
    → below q 10 ≡ (in_strings f && in_names h)
by_tables q f h a b =
    below-same q (by_table f h) 10 (λ t l. case t 8 (λ s. rw (lt-ltb t 8 s) (a t s)) (λ s. rw (le-ltb t 8 s) (b t s l))) ∙ all_tables f h

pub identifying : (t : ℕ) → t < 8 → is_identifying (table_of t) ≡ ltb t 5
unfolding is_identifying table_of
identifying t h = by_number_lem (λ (t : ℕ). is_identifying (table_of t) ≡ ltb t 5) 0 8 (refl, (refl, (refl, (refl, (refl, (refl, (refl, (refl, tt)))))))) t (omega arith) (omega arith)

pub start_count_lem : (t : ℕ) → t < 8 → length (strings (start link) (table_of t)) ≡ start_count t
unfolding start starting link strings table_of start_count
start_count_lem t h =
    by_number_lem (λ (t : ℕ). length (strings (start link) (table_of t)) ≡ start_count t) 0 8 (refl, (refl, (refl, (refl, (refl, (refl, (refl, (refl, tt)))))))) t (omega arith) (omega arith)

no_start : (x : Triple) (b : Bool) → b ≡ (held_by same_triple [] x || b)
unfolding held_by
no_start x b = refl

none_once : distinct_by same_triple [] ≡ true
unfolding distinct_by
none_once = refl

pub map_append : {A B : Type 0} (f : A → B) (l m : List A) → map f (l ++ m) ≡ map f l ++ map f m
map_append f [] m = refl
map_append f (x ∷ l) m = rw (map_append f l m)

below_all : (n : ℕ) → below (λ (i : ℕ). true) n ≡ true
unfolding below
below_all zero = refl
below_all (suc n) = rw (below_all n)

-- ---- the given tables, by number
module _ (g : List ℕ) where
  abbrev pub G : Given
  G = given_of g

  given-strings : (t : ℕ) → t < 8 → strings G (table_of t) ≡ entries (string_from g) (rows_of g t) (get_or g t 0)
  unfolding given_of strings table_of
  given-strings t h =
      by_number_lem (λ (t : ℕ). strings G (table_of t) ≡ entries (string_from g) (rows_of g t) (get_or g t 0)) 0 8 (refl, (refl, (refl, (refl, (refl, (refl, (refl, (refl, tt)))))))) t (omega arith) (omega arith)

  pub given-names : (t : ℕ) → 8 ≤ t → t < 10 → names G (name_table_of t) ≡ entries (triple_at g) (rows_of g t) (get_or g t 0)
  unfolding given_of names name_table_of
  given-names t l h = eight_nine (λ (t : ℕ). names G (name_table_of t) ≡ entries (triple_at g) (rows_of g t) (get_or g t 0)) refl refl t l h

  listed-map : (t : StringTable) → strings (listed_of G) t ≡ map located_of (strings G t)
  unfolding vocabulary_map strings
  listed-map = by_table_lem _ refl refl refl refl refl refl refl refl

  tables-strings : (t : StringTable) → strings (tables_of link G) t ≡ strings (start link) t ++ strings (listed_of G) t
  unfolding followed_by strings
  tables-strings = by_table_lem _ refl refl refl refl refl refl refl refl

  pub tables-names : (t : ℕ) → 8 ≤ t → t < 10 → names (tables_of link G) (name_table_of t) ≡ names G (name_table_of t)
  unfolding followed_by vocabulary_map names name_table_of start starting link
  tables-names t l h = eight_nine (λ (t : ℕ). names (tables_of link G) (name_table_of t) ≡ names G (name_table_of t)) refl refl t l h

  -- a row with the tag of a stretch
  is_located : (at : ℕ) → IsTag (get_or g at 0) → located_of (string_from g at) ≡ located g at
  is_located at e = ap located_of (string_is g at e)

  -- how many entries there are
  pub given-length : (t : ℕ) → t < 8 → length (strings G (table_of t)) ≡ get_or g t 0
  given-length t h = rw (given-strings t h) (length-entries (string_from g) (rows_of g t) (get_or g t 0))

  listed-length : (t : ℕ) → t < 8 → length (strings (listed_of G) (table_of t)) ≡ get_or g t 0
  listed-length t h = rw (listed-map (table_of t), length-map (strings G (table_of t)) located_of, given-strings t h) (length-entries (string_from g) (rows_of g t) (get_or g t 0))

  tables-length : (t : ℕ) → t < 8 → length (strings (tables_of link G) (table_of t)) ≡ start_count t + get_or g t 0
  tables-length t h = rw (tables-strings (table_of t), length-append (strings (start link) (table_of t)) (strings (listed_of G) (table_of t)), start_count_lem t h, listed-length t h)

  names-length : (t : ℕ) → 8 ≤ t → t < 10 → length (names (tables_of link G) (name_table_of t)) ≡ get_or g t 0
  names-length t l h = rw (tables-names t l h, given-names t l h) (length-entries (triple_at g) (rows_of g t) (get_or g t 0))

  -- a name's numbers
  right_triple : (x : Triple) → is_triple (tables_of link G) x ≡ is_right_name g x
  unfolding is_triple is_right_name strings table_of start_count
  right_triple x =
      let a : length (tables_of link G).prefixes ≡ 1 + get_or g 0 0 = tables-length 0 (omega arith) in
      let b : length (tables_of link G).namespaces ≡ 1 + get_or g 1 0 = tables-length 1 (omega arith) in
      let z : 0 + get_or g 2 0 ≡ get_or g 2 0 = omega arith in
      let d : length (tables_of link G).locals ≡ get_or g 2 0 = tables-length 2 (omega arith) ∙ z in
      rw (a, b, d)

  few_table_lem : (t : ℕ) → t < 8 → few_table g t ≡ leb (length (strings (tables_of link G) (table_of t))) 256
  unfolding few_table
  few_table_lem t h = rw (tables-length t h)

  few_names : (t : ℕ) → 8 ≤ t → t < 10 → few_table g t ≡ leb (length (names (tables_of link G) (name_table_of t))) 256
  unfolding few_table start_count
  few_names t l h = let k : 2 ≤ t = omega arith in let z : 0 + get_or g t 0 ≡ get_or g t 0 = omega arith in rw (names-length t l h, le-ltb t 2 k, z)

  module _ (text : List ℕ) where
    -- FULL
    pub few_is : below (few_table g) 10 ≡ few_given link text G
    unfolding few_given link
    few_is = by_tables (few_table g) (λ (t : StringTable). leb (length (strings (tables_of link G) t)) 256) (λ (t : NameTable). leb (length (names (tables_of link G) t)) 256) few_table_lem few_names

    -- EVENT
    right_one : (t i : ℕ) → t < 8 → keeps_row 16 text g t i ≡ is_entry (table_of t) text (string_from g (rows_of g t + 3 * i))
    unfolding keeps_row right_row is_entry
    right_one t i h = rw (identifying t h) (case t 5 (λ l. rw (lt-ltb t 5 l)) (λ l. rw (le-ltb t 5 l, lt-ltb t 8 h)))

    right_two : (t i : ℕ) → 8 ≤ t → keeps_row 16 text g t i ≡ is_triple (tables_of link G) (triple_at g (rows_of g t + 3 * i))
    unfolding keeps_row right_row
    right_two t i h = let l : 5 ≤ t = omega arith in rw (le-ltb t 5 l, le-ltb t 8 h, right_triple (triple_at g (rows_of g t + 3 * i)))

    right_strings : (t : ℕ) → t < 8 → keeps_table 16 text g t ≡ every (is_entry (table_of t) text) (strings G (table_of t))
    unfolding keeps_table
    right_strings t h =
        rw (given-strings t h, every-rows (is_entry (table_of t) text) (string_from g) (rows_of g t) (get_or g t 0))
        (below-same (keeps_row 16 text g t) (λ (i : ℕ). is_entry (table_of t) text (string_from g (rows_of g t + 3 * i))) (get_or g t 0) (λ i l. right_one t i h))

    right_names : (t : ℕ) → 8 ≤ t → t < 10 → keeps_table 16 text g t ≡ every (is_triple (tables_of link G)) (names G (name_table_of t))
    unfolding keeps_table
    right_names t l h =
        rw (given-names t l h, every-rows (is_triple (tables_of link G)) (triple_at g) (rows_of g t) (get_or g t 0))
        (below-same (keeps_row 16 text g t) (λ (i : ℕ). is_triple (tables_of link G) (triple_at g (rows_of g t + 3 * i))) (get_or g t 0) (λ i k. right_two t i l))

    pub right_is : keeps 16 text g ≡ well_given link text G
    unfolding keeps well_given link
    right_is = by_tables (keeps_table 16 text g) (λ (t : StringTable). every (is_entry t text) (strings G t)) (λ (t : NameTable). every (is_triple (tables_of link G)) (names G t)) right_strings right_names

    -- rows, as REPEAT looks at them
    same_spelt : (t : ℕ) → t < 8 → (a b : ℕ) → same_row text g t a b ≡ same (octets_of text (located g a)) (octets_of text (located g b))
    unfolding same_row
    same_spelt t h a b = rw (lt-ltb t 8 h)

    same_names_lem : (t : ℕ) → 8 ≤ t → (a b : ℕ) → same_row text g t a b ≡ same_triple (triple_at g a) (triple_at g b)
    unfolding same_row
    same_names_lem t h a b = rw (le-ltb t 8 h)

    new_one : (t i : ℕ) → t < 5 → keeps_row 11 text g t i ≡ not (held_row text g t i)
    unfolding keeps_row new_row
    new_one t i h = rw (lt-leb 5 t h)

    new_any : (t i : ℕ) → 5 ≤ t → t < 8 → keeps_row 11 text g t i ≡ true
    unfolding keeps_row new_row
    new_any t i l h = rw (le-leb 5 t l, lt-ltb t 8 h)

    new_name_lem : (t i : ℕ) → 8 ≤ t → keeps_row 11 text g t i ≡ not (held_row text g t i)
    unfolding keeps_row new_row
    new_name_lem t i h = let l : 5 ≤ t = omega arith in rw (le-leb 5 t l, le-ltb t 8 h)

    -- with every row right, the listed strings are stretches
    module _ (right : Right text g) where
      pub listed_are : (t : ℕ) → t < 8 → strings (listed_of G) (table_of t) ≡ entries (located g) (rows_of g t) (get_or g t 0)
      listed_are t h =
          rw (listed-map (table_of t), given-strings t h)
          (map_rows located_of (string_from g) (located g) (rows_of g t) (get_or g t 0) (λ i l. is_located (rows_of g t + 3 * i) (right_any text g right t i (omega arith) l h)))

      pub tables_are : (t : ℕ) → t < 8 → strings (tables_of link G) (table_of t) ≡ strings (start link) (table_of t) ++ entries (located g) (rows_of g t) (get_or g t 0)
      tables_are t h = rw (tables-strings (table_of t), listed_are t h)

      -- TEXT
      text_one : (t i : ℕ) → t < 8 → keeps_row 9 text g t i ≡ is_text (octets_of text (located g (rows_of g t + 3 * i)))
      unfolding keeps_row text_row
      text_one t i h = rw (lt-ltb t 8 h)

      text_two : (t i : ℕ) → 8 ≤ t → keeps_row 9 text g t i ≡ true
      unfolding keeps_row text_row
      text_two t i h = rw (le-ltb t 8 h)

      text_strings : (t : ℕ) → t < 8 → keeps_table 9 text g t ≡ every (λ (x : Located). is_text (octets_of text x)) (strings (listed_of G) (table_of t))
      unfolding keeps_table
      text_strings t h =
          rw (listed_are t h, every-rows (λ (x : Located). is_text (octets_of text x)) (located g) (rows_of g t) (get_or g t 0))
          (below-same (keeps_row 9 text g t) (λ (i : ℕ). is_text (octets_of text (located g (rows_of g t + 3 * i)))) (get_or g t 0) (λ i l. text_one t i h))

      text_names : (t : ℕ) → 8 ≤ t → t < 10 → keeps_table 9 text g t ≡ true
      unfolding keeps_table
      text_names t l h = below-same (keeps_row 9 text g t) (λ (i : ℕ). true) (get_or g t 0) (λ i k. text_two t i l) ∙ below_all (get_or g t 0)

      pub text_is : keeps 9 text g ≡ text_given link text G
      unfolding keeps text_given in_names
      text_is =
          by_tables (keeps_table 9 text g) (λ (t : StringTable). every (λ (x : Located). is_text (octets_of text x)) (strings (listed_of G) t)) (λ (t : NameTable). true) text_strings text_names
          ∙ and_true (in_strings (λ (t : StringTable). every (λ (x : Located). is_text (octets_of text x)) (strings (listed_of G) t)))

      -- REPEAT
      abbrev built : ℕ → List (List ℕ)
      built t = map (octets_of text) (strings (start link) (table_of t))

      abbrev spelt : ℕ → List ℕ
      spelt at = octets_of text (located g at)

      built_once : (t : ℕ) → t < 8 → distinct_by same (built t) ≡ true
      unfolding start starting link strings table_of distinct_by held_by
      built_once t h = by_number_lem (λ (t : ℕ). distinct_by same (built t) ≡ true) 0 8 (refl, (refl, (refl, (refl, (refl, (refl, (refl, (refl, tt)))))))) t (omega arith) (omega arith)

      no_octets : (x : List ℕ) → 0 < length x → same [] x ≡ false
      no_octets x h = not_same [] x (λ e. omega arith)

      starts_held : (t : ℕ) → t < 8 → (x : List ℕ) → 0 < length x → same (octets_of text (built_in (table_of t))) x ≡ held_by same (built t) x
      unfolding start starting link strings table_of built_in held_by octets_of
      starts_held t h x some =
          let n = no_octets x some in
          by_number_lem (λ (t : ℕ). same (octets_of text (built_in (table_of t))) x ≡ held_by same (built t) x) 0 8
          (sym (or_false (same xml_prefix x)), (sym (or_false (same xml_namespace x)), (n, (n, (n, (n, (n, (n, tt)))))))) t (omega arith) (omega arith)

      pub all_spelt : (t n : ℕ) → map (octets_of text) (strings (start link) (table_of t) ++ entries (located g) (rows_of g t) n) ≡ built t ++ entries spelt (rows_of g t) n
      all_spelt t n = map_append (octets_of text) (strings (start link) (table_of t)) (entries (located g) (rows_of g t) n) ∙ ap (λ (l : List (List ℕ)). built t ++ l) (octets-entries text (located g) (rows_of g t) n)

      pub held_is : (t i : ℕ) → t < 8 → i < get_or g t 0 → held_row text g t i ≡ held_by same (built t ++ entries spelt (rows_of g t) i) (spelt (rows_of g t + 3 * i))
      unfolding held_row starts_row
      held_is t i h l =
          let at : ℕ = rows_of g t + 3 * i in
          let lies = right_lies text g right t i (omega arith) l h in
          let some = says_some text (form_given (get_or g at 0)) (get_or g (at + 1) 0) (get_or g (at + 2) 0) lies.1 lies.0 in
          rw (lt-ltb t 8 h, starts_held t h (spelt at) some, held_rows same (built t) spelt (rows_of g t) i (spelt at), some_same (λ (j : ℕ). same_row text g t (rows_of g t + 3 * j) at) (λ (j : ℕ). same (spelt (rows_of g t + 3 * j)) (spelt at)) i (λ j k. same_spelt t h (rows_of g t + 3 * j) at))

      new_strings_lem : (t : ℕ) → t < 8 → keeps_table 11 text g t ≡ (not (is_identifying (table_of t)) || distinct (map (octets_of text) (strings (tables_of link G) (table_of t))))
      unfolding keeps_table
      new_strings_lem t h =
          rw (identifying t h)
          (case t 5
          (λ l. rw (lt-ltb t 5 l, tables_are t h, all_spelt t (get_or g t 0), distinct_is (built t ++ entries spelt (rows_of g t) (get_or g t 0)), distinct-rows same same_either (built t) spelt (rows_of g t) (get_or g t 0) (built_once t h))
          (below-same (keeps_row 11 text g t) (λ (i : ℕ). not (held_by same (built t ++ entries spelt (rows_of g t) i) (spelt (rows_of g t + 3 * i)))) (get_or g t 0) (λ i k. new_one t i l ∙ ap not (held_is t i h k))))
          (λ l. rw (le-ltb t 5 l) (below-same (keeps_row 11 text g t) (λ (i : ℕ). true) (get_or g t 0) (λ i k. new_any t i l h) ∙ below_all (get_or g t 0))))

      pub held_name : (t i : ℕ) → 8 ≤ t → held_row text g t i ≡ held_by same_triple ([] ++ entries (triple_at g) (rows_of g t) i) (triple_at g (rows_of g t + 3 * i))
      unfolding held_row starts_row
      held_name t i h =
          let at : ℕ = rows_of g t + 3 * i in
          rw (le-ltb t 8 h) (some_same (λ (j : ℕ). same_row text g t (rows_of g t + 3 * j) at) (λ (j : ℕ). same_triple (triple_at g (rows_of g t + 3 * j)) (triple_at g at)) i (λ j k. same_names_lem t h (rows_of g t + 3 * j) at)
          ∙ no_start (triple_at g at) (some_below (λ (j : ℕ). same_triple (triple_at g (rows_of g t + 3 * j)) (triple_at g at)) i) ∙ sym (held_rows same_triple [] (triple_at g) (rows_of g t) i (triple_at g at)))

      new_names : (t : ℕ) → 8 ≤ t → t < 10 → keeps_table 11 text g t ≡ distinct_names (names (tables_of link G) (name_table_of t))
      unfolding keeps_table
      new_names t l h =
          rw (tables-names t l h, given-names t l h, distinct-names_is (entries (triple_at g) (rows_of g t) (get_or g t 0)))
          (below-same (keeps_row 11 text g t) (λ (i : ℕ). not (held_by same_triple ([] ++ entries (triple_at g) (rows_of g t) i) (triple_at g (rows_of g t + 3 * i)))) (get_or g t 0) (λ i k. new_name_lem t i l ∙ ap not (held_name t i l))
          ∙ sym (distinct-rows same_triple triple_either [] (triple_at g) (rows_of g t) (get_or g t 0) none_once))

      pub new_is : keeps 11 text g ≡ new_given link text G
      unfolding keeps new_given
      new_is =
          by_tables (keeps_table 11 text g) (λ (t : StringTable). not (is_identifying t) || distinct (map (octets_of text) (strings (tables_of link G) t))) (λ (t : NameTable). distinct_names (names (tables_of link G) t)) new_strings_lem new_names
