-- Words that give right tables are those of the tables that they give: each string is a stretch, so its three words are its tag, place and length. No words give no entries.
use Prim.Native.Nat.{ℕ, zero, suc, ◌+◌, ◌-◌, ◌*◌, ◌≤◌, ◌<◌}
use mathlib.Core.Path.{◌≡◌, refl, sym, ap, ◌∙◌}
use mathlib.Core.Bool.{Bool, true, false, ◌&&◌, ◌||◌}
use mathlib.Core.List.{[], ◌∷◌, ◌++◌, append_assoc, append-nil}
use native.Mathlib.Omega.{arith}
use borrow.Author.Tests.{eqb-true, leb-true}
use lib.Dec.{eqb, leb}
use lib.ListN.{length, get_or, drop}
use lib.Seq.{drop-length, drop-cons}
use Rattle.format.specs.Octets.{Octets, Words}
use Rattle.format.specs.Tables.{StringTable, PREFIX, NAMESPACE_NAME, LOCAL_NAME, OTHER_NCNAME, OTHER_URI, ATTRIBUTE_VALUE, CONTENT_CHARACTER_CHUNK, OTHER_STRING}
use Rattle.format.specs.Tables.{NameTable, ELEMENT_NAME, ATTRIBUTE_NAME, Triple, strings, names, no_entries}
use Rattle.format.specs.Forms.{form_of}
use Rattle.format.specs.Allowed.{All}
use Rattle.fields.proofs.Utf8.{told}
use Rattle.tables.specs.Counts.{triple_words, rows_of}
use Rattle.tables.specs.Rows.{triple_at, entries}
use Rattle.tables.specs.Told.{entries_of}
use Rattle.tables.proofs.Entries.{length-entries}
use Rattle.tables.proofs.Found.{clash, both_true}
use Rattle.events.specs.Words.{form_tag, string_words}
use Rattle.events.specs.FromWords.{told_by_tag, told_by, string_from}
use Rattle.events.specs.WellMade.{IsString, is_string}
use Rattle.write_head.specs.Given.{entries_before, is_given, rows_of as row_of, given_of}
use Rattle.theorems.specs.Given.{given_words}
use Rattle.theorems.proofs.Sayable.{is_string_lem}
use Rattle.theorems.proofs.TenTables.{no_list}

-- ---- no words at all
pub given_none : (is_given [] ≡ true) × (given_of [] ≡ no_entries)
unfolding is_given given_of row_of entries_before entries no_entries
given_none = (refl, refl)

-- ---- one entry: a string that is a stretch has its three words, and so has a name
-- the tags of the forms but utf-8, from 5
form_tag_lem : (n : ℕ) → n < 6 → form_tag (form_of (n + 1)) ≡ n + 5
unfolding form_of
form_tag_lem zero h = refl
form_tag_lem (suc zero) h = refl
form_tag_lem (suc (suc zero)) h = refl
form_tag_lem (suc (suc (suc zero))) h = refl
form_tag_lem (suc (suc (suc (suc zero)))) h = refl
form_tag_lem (suc (suc (suc (suc (suc zero))))) h = refl
form_tag_lem (suc (suc (suc (suc (suc (suc n)))))) h = absurd (omega arith)

module _ (text : Octets) where
  no_string : (tag place size : ℕ) (b : Bool) → (eqb place 0 && eqb size 0) ≡ b → eqb tag 2 ≡ false → (leb 5 tag && leb tag 10) ≡ false → is_string text (string_from (tag ∷ place ∷ size ∷ []) 0) ≡ false
  unfolding string_from told_by told_by_tag
  no_string tag place size false e n m = rw (n, m, e)
  no_string zero place size true e n m = rw e
  no_string (suc zero) place size true e n m = rw e
  no_string (suc (suc zero)) place size true e n m = clash (sym n)
  no_string (suc (suc (suc zero))) place size true e n m = rw e
  no_string (suc (suc (suc (suc zero)))) place size true e n m = rw e
  no_string (suc (suc (suc (suc (suc k))))) place size true e n m = rw (n, m, e)

  three_words : (tag place size : ℕ) → IsString text (string_from (tag ∷ place ∷ size ∷ []) 0) → string_words (string_from (tag ∷ place ∷ size ∷ []) 0) ≡ tag ∷ place ∷ size ∷ []
  unfolding string_from told_by
  three_words tag place size s =
      told (eqb tag 2) (λ e. rw (eqb-true tag 2 e))
      (λ n. told (leb 5 tag && leb tag 10)
      (λ m.
      let r = both_true (leb 5 tag) (leb tag 10) m in
      let l : 5 ≤ tag = leb-true 5 tag r.0 in
      let h : tag ≤ 10 = leb-true tag 10 r.1 in
      let k : tag - 4 ≡ tag - 5 + 1 = omega arith in
      let back : tag - 5 + 5 ≡ tag = omega arith in
      rw (n, m, k) (ap (λ (i : ℕ). i ∷ place ∷ size ∷ []) (form_tag_lem (tag - 5) (omega arith) ∙ back)))
      (λ m. clash (sym (no_string tag place size (eqb place 0 && eqb size 0) refl n m) ∙ is_string_lem text s)))

  string_words_lem : (w : Words) (at : ℕ) → IsString text (string_from w at) → string_words (string_from w at) ≡ get_or w at 0 ∷ get_or w (at + 1) 0 ∷ get_or w (at + 2) 0 ∷ []
  unfolding string_from
  string_words_lem w at s = three_words (get_or w at 0) (get_or w (at + 1) 0) (get_or w (at + 2) 0) s

triple-words : (w : Words) (at : ℕ) → triple_words (triple_at w at) ≡ get_or w at 0 ∷ get_or w (at + 1) 0 ∷ get_or w (at + 2) 0 ∷ []
unfolding triple_at
triple-words w at = refl

-- ---- the rows of a table, and what stands behind them
module _ {A : Type 0} (readAt : Words → ℕ → A) (words : A → Words) (w : Words) (P : A → Type 0)
    (own : (at : ℕ) → P (readAt w at) → words (readAt w at) ≡ get_or w at 0 ∷ get_or w (at + 1) 0 ∷ get_or w (at + 2) 0 ∷ []) where
  front : (k j : ℕ) → suc k ≡ j → j ≤ length w → drop k w ≡ get_or w k 0 ∷ drop j w
  front k j e h = drop-cons w k 0 (omega arith) ∙ ap (λ (m : ℕ). get_or w k 0 ∷ drop m w) e

  rows_are : (at n : ℕ) → at + 3 * n ≤ length w → All P (entries (readAt w) at n) → drop at w ≡ rows_of words (entries (readAt w) at n) ++ drop (at + 3 * n) w
  unfolding rows_of entries
  rows_are at zero h a = let e : at ≡ at + 3 * 0 = omega arith in ap (λ (k : ℕ). drop k w) e
  rows_are at (suc n) h a =
      let x : Words = words (readAt w at) in
      let rows : Words = rows_of words (entries (readAt w) (at + 3) n) in
      let three : drop at w ≡ x ++ drop (at + 3) w =
      front at (at + 1) (omega arith) (omega arith)
      ∙ ap (λ (r : Words). get_or w at 0 ∷ r) (front (at + 1) (at + 2) (omega arith) (omega arith))
      ∙ ap (λ (r : Words). get_or w at 0 ∷ get_or w (at + 1) 0 ∷ r) (front (at + 2) (at + 3) (omega arith) (omega arith))
      ∙ ap (λ (l : Words). l ++ drop (at + 3) w) (sym (own at a.0)) in
      let e : at + 3 + 3 * n ≡ at + 3 * suc n = omega arith in
      let rest : drop (at + 3) w ≡ rows ++ drop (at + 3 * suc n) w = rows_are (at + 3) n (omega arith) a.1 ∙ ap (λ (k : ℕ). rows ++ drop k w) e in
      three ∙ ap (λ (r : Words). x ++ r) rest ∙ sym (append_assoc x rows (drop (at + 3 * suc n) w))

  -- those of table t, before the words r
  table_is : (t : ℕ) {r : Words} → row_of w (suc t) ≤ length w → All P (entries (readAt w) (row_of w t) (get_or w t 0)) → drop (row_of w (suc t)) w ≡ r
      → drop (row_of w t) w ≡ rows_of words (entries (readAt w) (row_of w t) (get_or w t 0)) ++ r
  unfolding row_of entries_before
  table_is t {r} h a e =
      let next : row_of w t + 3 * get_or w t 0 ≡ row_of w (suc t) = omega arith in
      rows_are (row_of w t) (get_or w t 0) (omega arith) a ∙ ap (λ (l : Words). rows_of words (entries (readAt w) (row_of w t) (get_or w t 0)) ++ l) (ap (λ (k : ℕ). drop k w) next ∙ e)

-- ---- the counts and the ten tables
module _ (w : Words) (whole : length w ≡ row_of w 10) where
  counted : (t : ℕ) {n : ℕ} {r : Words} → suc t ≤ 10 → n ≡ get_or w t 0 → drop (suc t) w ≡ r → drop t w ≡ n ∷ r
  unfolding row_of
  counted t {n} {r} h c e = drop-cons w t 0 (omega arith) ∙ (λ i. sym c i ∷ e i)

  module _ (text : Octets) (P : Triple → Type 0) (strings_are_lem : (t : StringTable) → All (IsString text) (strings (given_of w) t)) (names_are_lem : (t : NameTable) → All P (names (given_of w) t)) where
    abbrev strings_are : (t : ℕ) {r : Words} → row_of w (suc t) ≤ length w → All (IsString text) (entries (string_from w) (row_of w t) (get_or w t 0)) → drop (row_of w (suc t)) w ≡ r
        → drop (row_of w t) w ≡ rows_of string_words (entries (string_from w) (row_of w t) (get_or w t 0)) ++ r
    strings_are = table_is string_from string_words w (IsString text) (string_words_lem text w)

    abbrev names_are : (t : ℕ) {r : Words} → row_of w (suc t) ≤ length w → All P (entries (triple_at w) (row_of w t) (get_or w t 0)) → drop (row_of w (suc t)) w ≡ r
        → drop (row_of w t) w ≡ rows_of triple_words (entries (triple_at w) (row_of w t) (get_or w t 0)) ++ r
    names_are = table_is triple_at triple_words w P (λ at p. triple-words w at)

    rows : drop 10 w ≡ drop (length (entries_of (given_of w))) (given_words (given_of w))
    unfolding given_words given_of entries_of strings names row_of entries_before
    rows =
        strings_are 0 (omega arith) (strings_are_lem PREFIX)
        (strings_are 1 (omega arith) (strings_are_lem NAMESPACE_NAME)
        (strings_are 2 (omega arith) (strings_are_lem LOCAL_NAME)
        (strings_are 3 (omega arith) (strings_are_lem OTHER_NCNAME)
        (strings_are 4 (omega arith) (strings_are_lem OTHER_URI)
        (strings_are 5 (omega arith) (strings_are_lem ATTRIBUTE_VALUE)
        (strings_are 6 (omega arith) (strings_are_lem CONTENT_CHARACTER_CHUNK)
        (strings_are 7 (omega arith) (strings_are_lem OTHER_STRING)
        (names_are 8 (omega arith) (names_are_lem ELEMENT_NAME)
        (names_are 9 (omega arith) (names_are_lem ATTRIBUTE_NAME) (ap (λ (k : ℕ). drop k w) (sym whole) ∙ drop-length w) ∙ append-nil _)))))))))

    are_words : w ≡ given_words (given_of w)
    unfolding given_words given_of entries_of
    are_words =
        counted 0 (omega arith) (length-entries (string_from w) _ _)
        (counted 1 (omega arith) (length-entries (string_from w) _ _)
        (counted 2 (omega arith) (length-entries (string_from w) _ _)
        (counted 3 (omega arith) (length-entries (string_from w) _ _)
        (counted 4 (omega arith) (length-entries (string_from w) _ _)
        (counted 5 (omega arith) (length-entries (string_from w) _ _)
        (counted 6 (omega arith) (length-entries (string_from w) _ _)
        (counted 7 (omega arith) (length-entries (string_from w) _ _)
        (counted 8 (omega arith) (length-entries (triple_at w) _ _)
        (counted 9 (omega arith) (length-entries (triple_at w) _ _) rows)))))))))

pub given_only : (w : Words) (text : Octets) (P : Triple → Type 0) → is_given w ≡ true → ((t : StringTable) → All (IsString text) (strings (given_of w) t)) → ((t : NameTable) → All P (names (given_of w) t)) → (w ≡ [] → ⊥)
    → w ≡ given_words (given_of w)
unfolding is_given row_of
given_only w text P e strings_are_lem names_are_lem some = are_words w (whole (eqb (length w) 0) refl e) text P strings_are_lem names_are_lem
  where
    whole : (b : Bool) → eqb (length w) 0 ≡ b → (b || (leb 10 (length w) && eqb (length w) (10 + 3 * entries_before w 10))) ≡ true → length w ≡ row_of w 10
    whole true q e = absurd (some (no_list w (eqb-true (length w) 0 q)))
    whole false q e = eqb-true (length w) _ (both_true (leb 10 (length w)) _ e).1
