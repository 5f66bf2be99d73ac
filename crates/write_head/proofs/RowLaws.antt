-- Rows of given tables: a law for each way out of the functions that judge one, on plain values.
-- Assumes nothing.
use mathlib.Core.Path.{◌≡◌, refl, sym, ◌∙◌}
use mathlib.Core.Logic.{◌⊎◌, ⊎_elim, inl, inr}
use mathlib.Core.Bool.{Bool, true, false, not, ◌&&◌, ◌||◌}
use mathlib.Core.List.{List}
use Prim.Native.Nat.{ℕ, zero, suc, ◌+◌, ◌-◌, ◌*◌, ◌≤◌, ◌<◌}
use native.Mathlib.Omega.{arith}
use native.Mathlib.Numerals.{add-one}
use native.Mathlib.Decide.{ℕ_discrete}
use borrow.Author.Tests.{lt-ltb, le-ltb, le-leb, lt-leb, eq-eqb, ne_eqb, ltb-true, leb-true}
use mir.Val.{bool_byte as from_bool}
use lib.Dec.{eqb, leb, ltb, eqb-suc-zero}
use lib.ListN.{length, get_or}
use Rattle.format.specs.Numbers.{pick}
use Rattle.format.specs.Tables.{same, same_triple}
use Rattle.format.specs.Head.{some?}
use Rattle.format.specs.Forms.{form_of}
use Rattle.format.specs.declared.StringForm.{StringForm}
use Rattle.format.specs.declared.StringForm.TheVariants.{Utf8}
use Rattle.fields.specs.Utf8.{is_text}
use Rattle.fields.proofs.Laws.{case}
use Rattle.forms.specs.Reading.{said}
use Rattle.forms.specs.Streams.{part}
use Rattle.forms.proofs.Forms.{text_sound}
use Rattle.tables.specs.Located.{stretch, octets_of}
use Rattle.tables.specs.Rows.{table_of, built_in, triple_at}
use Rattle.tables.proofs.ByNumber.{by_number_lem}
use Rattle.tables.proofs.Search.{octets_stretch}
use Rattle.tables.proofs.SaidLaws.{octets-part}
use Rattle.tables.proofs.Found.{both_true, clash}
use Rattle.tables.specs.Kept.{IsSound}
use Rattle.events.specs.declared.EventString.{EventString}
use Rattle.events.specs.declared.EventString.TheVariants.{Absent, Empty, Stretch, XmlPrefix, XmlNamespace}
use Rattle.events.specs.FromWords.{string_from, told_by, told_by_tag}
use Rattle.events.specs.WellMade.{is_stretch, is_string}
use Rattle.write_names.specs.Promises.{Spells}
use Rattle.write_head.specs.Given.{entries_before, is_given, rows_of}
use Rattle.write_head.specs.RowContracts.{below, some_below, Laid, form_given, located, start_count, is_right_name, right_row, text_row, starts_row, same_row, held_row, new_row, keeps_row, keeps_table, keeps, few_table, Few, Right, Texts, IsRow, Fits, presence_of}

-- ---- loops
and_false : (b : Bool) → (b && false) ≡ false
and_false true = refl
and_false false = refl

pub or_true : (b : Bool) → (b || true) ≡ true
or_true true = refl
or_true false = refl

module _ (f : ℕ → Bool) where
  pub below_at : (n i : ℕ) → below f n ≡ true → i < n → f i ≡ true
  unfolding below
  below_at zero i e h = absurd (omega arith)
  below_at (suc n) i e h =
      let b = both_true (below f n) (f n) e in
      case i n (λ l. below_at n i b.0 l) (λ l. let q : i ≡ n = omega arith in rw q b.1)

  pub below_none : below f 0 ≡ true
  unfolding below
  below_none = refl

  pub below_more : (n : ℕ) → below f n ≡ true → f n ≡ true → below f (n + 1) ≡ true
  unfolding below
  below_more n e h = rw (add-one n, e, h)

  pub below_all : (n : ℕ) → ((i : ℕ) → i < n → f i ≡ true) → below f n ≡ true
  unfolding below
  below_all zero e = refl
  below_all (suc n) e = rw (below_all n (λ i h. e i (omega arith)), e n (omega arith))

  pub below_not : (n i : ℕ) → i < n → f i ≡ false → below f n ≡ false
  unfolding below
  below_not zero i h e = absurd (omega arith)
  below_not (suc n) i h e = case i n (λ l. rw (below_not n i l e)) (λ l. let q : i ≡ n = omega arith in rw (← q, e) (and_false (below f i)))

  pub below_end : (n i : ℕ) → below f i ≡ true → i ≤ n → n ≤ i → below f n ≡ true
  below_end n i e h k = let q : n ≡ i = omega arith in rw q e

  pub some_none : some_below f 0 ≡ false
  unfolding some_below
  some_none = refl

  pub some_more : (n : ℕ) → some_below f n ≡ false → f n ≡ false → some_below f (n + 1) ≡ false
  unfolding some_below
  some_more n e h = rw (add-one n, e, h)

  pub some_here : (n i : ℕ) → i < n → f i ≡ true → some_below f n ≡ true
  unfolding some_below
  some_here zero i h e = absurd (omega arith)
  some_here (suc n) i h e = case i n (λ l. rw (some_here n i l e)) (λ l. let q : i ≡ n = omega arith in rw (← q, e) (or_true (some_below f i)))

pub some_is : (x : ℕ) → from_bool (not (eqb x 0)) ≡ some? x
some_is zero = refl
some_is (suc x) = rw (eqb-suc-zero x)

-- ---- where the rows are
module _ (g : List ℕ) where
  pub before_none : 0 ≡ entries_before g 0
  unfolding entries_before
  before_none = refl

  pub before_more : (t n k : ℕ) → n ≡ entries_before g t → k ≡ get_or g t 0 → n + k ≡ entries_before g (t + 1)
  unfolding entries_before
  before_more t n k e h = rw (add-one t, e, h)

  -- the presence bits of the tables before t
  unfoldable pub bits_before : (t : ℕ) → ℕ
  bits_before zero = 0
  bits_before (suc t) = 2 * bits_before t + some? (get_or g t 0)

  pub bits_none : 0 ≡ bits_before 0
  unfolding bits_before
  bits_none = refl

  pub bits_more : (t n k : ℕ) → n ≡ bits_before t → k ≡ from_bool (not (eqb (get_or g t 0) 0)) → 2 * n + k ≡ bits_before (t + 1)
  unfolding bits_before
  bits_more t n k e h = rw (add-one t, e, h, some_is (get_or g t 0))

  pub bits_all : bits_before 10 ≡ presence_of g
  unfolding bits_before presence_of
  bits_all = omega arith

  bits_less : (t k : ℕ) → bits_before t ≤ bits_before (k + t)
  unfolding bits_before
  bits_less t zero = let z : 0 + t ≡ t = omega arith in rw z (omega arith)
  bits_less t (suc k) =
      let e : suc k + t ≡ suc (k + t) = omega arith in
      let h = bits_less t k in
      rw e (omega arith)

  before_less : (t k : ℕ) → entries_before g t ≤ entries_before g (k + t)
  unfolding entries_before
  before_less t zero = let z : 0 + t ≡ t = omega arith in rw z (omega arith)
  before_less t (suc k) =
      let e : suc k + t ≡ suc (k + t) = omega arith in
      let h = before_less t k in
      rw e (omega arith)

  before_next : (t : ℕ) → entries_before g (suc t) ≡ entries_before g t + get_or g t 0
  unfolding entries_before
  before_next t = refl

  pub rows_inside : Laid g → (t : ℕ) → t < 10 → rows_of g t + 3 * get_or g t 0 ≤ length g
  unfolding rows_of
  rows_inside laid t h =
      let e : 9 - t + suc t ≡ 10 = omega arith in
      let m = rw e at (before_less (suc t) (9 - t)) in
      let s : entries_before g (suc t) ≡ entries_before g t + get_or g t 0 = before_next t in
      let l = laid.1 in
      omega arith

  -- at most ten bits
  pub few_bits : (t : ℕ) → t ≤ 10 → bits_before t ≤ 1023
  unfolding presence_of
  few_bits t h =
      let e : 10 - t + t ≡ 10 = omega arith in
      let l = rw (e, bits_all) at (bits_less t (10 - t)) in
      omega (arith, some-few)
    where
      some-few : (x : ℕ) → some? x ≤ 1
      some-few zero = omega arith
      some-few (suc x) = omega arith

  pub given_none : length g ≡ 0 → true ≡ is_given g
  unfolding is_given
  given_none e = rw e

  pub given_short : length g < 10 → (length g ≡ 0 → ⊥) → false ≡ is_given g
  unfolding is_given
  given_short h z = rw (ne_eqb (length g) 0 z, lt-leb 10 (length g) h)

  pub given_laid : 10 ≤ length g → (n : ℕ) → n ≡ entries_before g 10 → eqb (length g) (10 + 3 * n) ≡ is_given g
  unfolding is_given
  given_laid h n e = let z : length g ≡ 0 → ⊥ = λ q. omega arith in rw (ne_eqb (length g) 0 z, le-leb 10 (length g) h, e)

-- ---- few
pub few_at : (g : List ℕ) (t : ℕ) → Few g → t < 10 → start_count t + get_or g t 0 ≤ 256
unfolding few_table
few_at g t few h = leb-true _ _ (below_at (few_table g) 10 t few h)

-- ---- tags
-- the tags of a stretch: in utf-8, in another form
abbrev pub IsTag : ℕ → Type 0
IsTag k = (k ≡ 2) ⊎ ((5 ≤ k) × (k ≤ 10))

pub form_two : (k : ℕ) → k ≡ 2 → form_given k ≡ Utf8
unfolding form_given form_of
form_two k e = rw e

module _ (g : List ℕ) (at : ℕ) where
  pub string_is : IsTag (get_or g at 0) → string_from g at ≡ Stretch (form_given (get_or g at 0)) (get_or g (at + 1) 0) (get_or g (at + 2) 0)
  unfolding string_from told_by form_given form_of
  string_is = ⊎_elim (λ e. rw e) (λ r. rw (ne_eqb (get_or g at 0) 2 (λ e. let l = r.0 in omega arith), le-leb 5 (get_or g at 0) r.0, le-leb (get_or g at 0) 10 r.1))

  pub located-utf8 : get_or g at 0 ≡ 2 → located g at ≡ stretch Utf8 (get_or g (at + 1) 0) (get_or g (at + 2) 0)
  located-utf8 e = rw (form_two (get_or g at 0) e)

  -- a test that no other string passes
  module _ (f : EventString → Bool) (a : f Absent ≡ false) (b : f Empty ≡ false) (c : f XmlPrefix ≡ false) (d : f XmlNamespace ≡ false) where
    by_tag : (b : Bool) → (eqb (get_or g (at + 1) 0) 0 && eqb (get_or g (at + 2) 0) 0) ≡ b → (k : ℕ) → get_or g at 0 ≡ k → (IsTag k → ⊥) → (leb 5 k && leb k 10) ≡ false → f (string_from g at) ≡ false
    unfolding string_from told_by told_by_tag
    by_tag false e k q n h = rw (q, ne_eqb k 2 (λ z. n (inl z)), h, e) a
    by_tag true e zero q n h = rw (q, e) a
    by_tag true e (suc zero) q n h = rw (q, e) b
    by_tag true e (suc (suc zero)) q n h = absurd (n (inl refl))
    by_tag true e (suc (suc (suc zero))) q n h = rw (q, e) c
    by_tag true e (suc (suc (suc (suc zero)))) q n h = rw (q, e) d
    by_tag true e (suc (suc (suc (suc (suc k))))) q n h = rw (q, ne_eqb (suc (suc (suc (suc (suc k))))) 2 (λ z. n (inl z)), h, e) a

    no_form : (k : ℕ) → (IsTag k → ⊥) → (leb 5 k && leb k 10) ≡ false
    no_form k n = case k 5 (λ l. rw (lt-leb 5 k l)) (λ l. case 10 k (λ h. rw (lt-leb k 10 h) (and_false (leb 5 k))) (λ h. absurd (n (inr (l, h)))))

    pub no_stretch : (IsTag (get_or g at 0) → ⊥) → f (string_from g at) ≡ false
    no_stretch n = by_tag (eqb (get_or g (at + 1) 0) 0 && eqb (get_or g (at + 2) 0) 0) refl (get_or g at 0) refl n (no_form (get_or g at 0) n)

-- the string in a row, in the form f
module _ (text g : List ℕ) (t at : ℕ) (row : IsRow text g t at) (f : StringForm) (e : f ≡ form_given (get_or g at 0)) where
  pub row_utf8 : t < 5 → f ≡ Utf8
  row_utf8 l = e ∙ form_two (get_or g at 0) (row.3 l)

  pub row_sound : IsSound text (stretch f (get_or g (at + 1) 0) (get_or g (at + 2) 0))
  row_sound = rw e row.2

  pub row_spells : Spells text (Stretch f (get_or g (at + 1) 0) (get_or g (at + 2) 0))
  row_spells = (row.0, row.1, row_sound)

module _ (text g : List ℕ) where
  other_form : (k p n : ℕ) → 5 ≤ k → k ≤ 10 → is_stretch text (Stretch (form_given k) p n) ≡ false
  unfolding form_given form_of
  other_form k p n l h = by_number_lem (λ (k : ℕ). is_stretch text (Stretch (form_given k) p n) ≡ false) 5 6 (refl, (refl, (refl, (refl, (refl, (refl, tt)))))) k l (omega arith)

  pub other_tag : (at : ℕ) → (get_or g at 0 ≡ 2 → ⊥) → false ≡ is_stretch text (string_from g at)
  other_tag at ne =
      sym
      (case 4 (get_or g at 0)
      (λ l.
      case (get_or g at 0) 11 (λ h. rw (string_is g at (inr (omega arith, omega arith))) (other_form (get_or g at 0) (get_or g (at + 1) 0) (get_or g (at + 2) 0) (omega arith) (omega arith)))
      (λ h. no_stretch g at (is_stretch text) refl refl refl refl (⊎_elim ne (λ r. let m = r.1 in omega arith))))
      (λ l. no_stretch g at (is_stretch text) refl refl refl refl (⊎_elim ne (λ r. let m = r.0 in omega arith))))

  abbrev lies : ℕ → Bool
  lies at = ltb 0 (get_or g (at + 2) 0) && leb (get_or g (at + 1) 0 + get_or g (at + 2) 0) (length text)

  pub stretch_tag : (at : ℕ) → get_or g at 0 ≡ 2 → lies at ≡ is_stretch text (string_from g at)
  unfolding string_from told_by
  stretch_tag at e = rw e

  -- a string in any form
  pub string_tag : (at : ℕ) → IsTag (get_or g at 0) → lies at ≡ is_string text (string_from g at)
  string_tag at e = rw (string_is g at e)

  pub no_string : (at : ℕ) → (IsTag (get_or g at 0) → ⊥) → false ≡ is_string text (string_from g at)
  no_string at n = sym (no_stretch g at (is_string text) refl refl refl refl n)

  pub right_identifying : (t at : ℕ) → t < 5 → (r : Bool) → r ≡ is_stretch text (string_from g at) → r ≡ right_row text g t at
  unfolding right_row
  right_identifying t at h r e = rw (lt-ltb t 5 h) e

  pub right_string : (t at : ℕ) → 5 ≤ t → t < 8 → (r : Bool) → r ≡ is_string text (string_from g at) → r ≡ right_row text g t at
  unfolding right_row
  right_string t at l h r e = rw (le-ltb t 5 l, lt-ltb t 8 h) e

  pub right_name : (t at : ℕ) → 8 ≤ t → (r : Bool) → r ≡ is_right_name g (triple_at g at) → r ≡ right_row text g t at
  unfolding right_row
  right_name t at h r e = let l : 5 ≤ t = omega arith in rw (le-ltb t 5 l, le-ltb t 8 h) e

  pub text_name : (t at : ℕ) → 8 ≤ t → true ≡ text_row text g t at
  unfolding text_row
  text_name t at h = rw (le-ltb t 8 h)

  pub text_string : (t at : ℕ) (f : StringForm) → t < 8 → f ≡ form_given (get_or g at 0) → (r : Bool)
      → r ≡ is_text (said f (part text (get_or g (at + 1) 0) (get_or g (at + 1) 0 + get_or g (at + 2) 0))) → r ≡ text_row text g t at
  unfolding text_row
  text_string t at f h d r q = rw (lt-ltb t 8 h, ← d, octets-part text f (get_or g (at + 1) 0) (get_or g (at + 2) 0)) q

  pub starts_name : (t at : ℕ) → 8 ≤ t → false ≡ starts_row text g t at
  unfolding starts_row
  starts_name t at h = rw (le-ltb t 8 h)

  pub starts_string : (t at : ℕ) → t < 8 → get_or g at 0 ≡ 2 → (r : Bool)
      → r ≡ same (octets_of text (built_in (table_of t))) (octets_of text (stretch Utf8 (get_or g (at + 1) 0) (get_or g (at + 2) 0))) → r ≡ starts_row text g t at
  unfolding starts_row
  starts_string t at h u r q = rw (lt-ltb t 8 h, located-utf8 g at u) q

  module _ (t a b : ℕ) where
    pub same_string : t < 8 → get_or g a 0 ≡ 2 → get_or g b 0 ≡ 2 → (r : Bool)
        → r ≡ same (octets_of text (stretch Utf8 (get_or g (a + 1) 0) (get_or g (a + 2) 0))) (octets_of text (stretch Utf8 (get_or g (b + 1) 0) (get_or g (b + 2) 0))) → r ≡ same_row text g t a b
    unfolding same_row
    same_string h u v r is = rw (lt-ltb t 8 h, located-utf8 g a u, located-utf8 g b v) is

  -- row i of table t is held
  module _ (t i : ℕ) where
    abbrev row : ℕ → ℕ
    row j = rows_of g t + 3 * j

    pub held_start : true ≡ starts_row text g t (row i) → true ≡ held_row text g t i
    unfolding held_row
    held_start e = rw (← e)

    pub held_before : (j : ℕ) → j < i → true ≡ same_row text g t (row j) (row i) → true ≡ held_row text g t i
    unfolding held_row
    held_before j h e =
        rw (some_here (λ (j : ℕ). same_row text g t (row j) (row i)) i j h (sym e)) (sym (or_true (starts_row text g t (row i))))

    pub held_not : false ≡ starts_row text g t (row i) → (j : ℕ) → j ≤ i → i ≤ j → some_below (λ (j : ℕ). same_row text g t (row j) (row i)) j ≡ false → false ≡ held_row text g t i
    unfolding held_row
    held_not e j h k s = let q : j ≡ i = omega arith in rw (← e) (sym (rw q at s))

    -- it is new where it may be a repeat, or is not held
    pub new_other : (5 ≤ t) × (t < 8) → true ≡ keeps_row 11 text g t i
    unfolding keeps_row new_row
    new_other h = rw (le-leb 5 t h.0, lt-ltb t 8 h.1)

    pub new_low : t < 5 → (r : Bool) → r ≡ held_row text g t i → not r ≡ keeps_row 11 text g t i
    unfolding keeps_row new_row
    new_low h r e = rw (lt-leb 5 t h, ← e)

    pub new_name_lem : 8 ≤ t → (r : Bool) → r ≡ held_row text g t i → not r ≡ keeps_row 11 text g t i
    unfolding keeps_row new_row
    new_name_lem h r e = let l : 5 ≤ t = omega arith in rw (le-leb 5 t l, le-ltb t 8 h, ← e)

  -- a table, and all of them, keep to a rule, or one row breaks it
  pub table_keeps : (rule t i : ℕ) → i ≡ get_or g t 0 → below (keeps_row rule text g t) i ≡ true → keeps_table rule text g t ≡ true
  unfolding keeps_table
  table_keeps rule t i e b = rw (← e) b

  pub table_breaks : (rule t i : ℕ) → i < get_or g t 0 → keeps_row rule text g t i ≡ false → keeps_table rule text g t ≡ false
  unfolding keeps_table
  table_breaks rule t i h b = below_not (keeps_row rule text g t) (get_or g t 0) i h b

  pub all_tables : (rule i : ℕ) → i ≡ 10 → below (keeps_table rule text g) i ≡ true → keeps rule text g ≡ true
  unfolding keeps
  all_tables rule i e b = rw e at b

  pub one_breaks : (rule i : ℕ) → i < 10 → keeps_table rule text g i ≡ false → keeps rule text g ≡ false
  unfolding keeps
  one_breaks rule i h b = below_not (keeps_table rule text g) 10 i h b

  pub all_keep : (rule : ℕ) → ((t i : ℕ) → t < 10 → i < get_or g t 0 → keeps_row rule text g t i ≡ true) → keeps rule text g ≡ true
  unfolding keeps keeps_table
  all_keep rule each = below_all (keeps_table rule text g) 10 (λ t h. below_all (keeps_row rule text g t) (get_or g t 0) (λ i l. each t i h l))

  pub row_breaks : (rule : ℕ) → (t : ℕ) × (i : ℕ) × (t < 10) × (i < get_or g t 0) × (keeps_row rule text g t i ≡ false) → keeps rule text g ≡ false
  row_breaks rule w = one_breaks rule w.0 w.2 (table_breaks rule w.0 w.1 w.3 w.4)

  -- ---- what right rows say
  module _ (right : Right text g) (t i : ℕ) (ten : t < 10) (h : i < get_or g t 0) where
    row_right : right_row text g t (rows_of g t + 3 * i) ≡ true
    unfolding keeps keeps_table keeps_row
    row_right = below_at (keeps_row 16 text g t) (get_or g t 0) i (below_at (keeps_table 16 text g) 10 t right ten) h

    abbrev here : ℕ
    here = rows_of g t + 3 * i

    is_stretch_lem : t < 5 → is_stretch text (string_from g here) ≡ true
    unfolding right_row
    is_stretch_lem k = rw (lt-ltb t 5 k) at row_right

    is_string_lem : 5 ≤ t → t < 8 → is_string text (string_from g here) ≡ true
    unfolding right_row
    is_string_lem l k = rw (le-ltb t 5 l, lt-ltb t 8 k) at row_right

    pub right_tag : t < 5 → get_or g here 0 ≡ 2
    right_tag k = elim (ℕ_discrete (get_or g here 0) 2) [ yes e ↦ e | no e ↦ clash (other_tag here e ∙ is_stretch_lem k) ]

    any_tag : 5 ≤ t → t < 8 → IsTag (get_or g here 0)
    any_tag l k =
        elim (ℕ_discrete (get_or g here 0) 2) [
          | yes e ↦ inl e
          | no e ↦ inr (case 4 (get_or g here 0) (λ a. case (get_or g here 0) 11 (λ b. (omega arith, omega arith)) (λ b. not_tag (⊎_elim e (λ r. let m = r.1 in omega arith)))) (λ a. not_tag (⊎_elim e (λ r. let m = r.0 in omega arith))))
        ]
      where
        not_tag : {X : Type 0} → (IsTag (get_or g here 0) → ⊥) → X
        not_tag n = clash (no_string here n ∙ is_string_lem l k)

    pub right_any : t < 8 → IsTag (get_or g here 0)
    right_any k = case t 5 (λ l. inl (right_tag l)) (λ l. any_tag l k)

    lies_true : t < 8 → lies here ≡ true
    lies_true k = case t 5 (λ l. stretch_tag here (right_tag l) ∙ is_stretch_lem l) (λ l. string_tag here (any_tag l k) ∙ is_string_lem l k)

    pub right_lies : t < 8 → (0 < get_or g (here + 2) 0) × (get_or g (here + 1) 0 + get_or g (here + 2) 0 ≤ length text)
    right_lies k = let b = both_true _ _ (lies_true k) in (ltb-true _ _ b.0, leb-true _ _ b.1)

    -- and text, so that it is a string in its form
    module _ (texts : Texts text g) where
      text_here : t < 8 → is_text (octets_of text (located g here)) ≡ true
      unfolding keeps keeps_table keeps_row text_row
      text_here k = rw (lt-ltb t 8 k) at (below_at (keeps_row 9 text g t) (get_or g t 0) i (below_at (keeps_table 9 text g) 10 t texts ten) h)

      pub right_row_lem : t < 8 → IsRow text g t here
      right_row_lem k =
          let l = right_lies k in
          let e = octets_stretch text (form_given (get_or g here 0)) (get_or g (here + 1) 0) (get_or g (here + 2) 0) in
          (l.0, l.1, text_sound (form_given (get_or g here 0)) _ (rw e at (text_here k)), right_tag)

    is_name_lem : 8 ≤ t → is_right_name g (triple_at g (rows_of g t + 3 * i)) ≡ true
    unfolding right_row
    is_name_lem k = let l : 5 ≤ t = omega arith in rw (le-ltb t 5 l, le-ltb t 8 k) at row_right

    right_numbers : 8 ≤ t → (get_or g (rows_of g t + 3 * i) 0 ≤ 1 + get_or g 0 0) × (get_or g (rows_of g t + 3 * i + 1) 0 ≤ 1 + get_or g 1 0) × (get_or g (rows_of g t + 3 * i + 2) 0 ≤ get_or g 2 0)
    unfolding is_right_name triple_at
    right_numbers k =
        let at : ℕ = rows_of g t + 3 * i in
        let p : ℕ = get_or g at 0 in
        let n : ℕ = get_or g (at + 1) 0 in
        let l : ℕ = get_or g (at + 2) 0 in
        let last : Bool = leb l (get_or g 2 0) && leb (some? p) (some? n) in
        let a = both_true (leb p (1 + get_or g 0 0)) (leb n (1 + get_or g 1 0) && (leb 1 l && last)) (is_name_lem k) in
        let b = both_true (leb n (1 + get_or g 1 0)) (leb 1 l && last) a.1 in
        let d = both_true (leb 1 l) last b.1 in
        let e = both_true (leb l (get_or g 2 0)) (leb (some? p) (some? n)) d.1 in
        (leb-true _ _ a.0, leb-true _ _ b.0, leb-true _ _ e.0)

    pub right_fits : Texts text g → Few g → Fits text g t here
    unfolding start_count
    right_fits texts few =
        let a : 1 + get_or g 0 0 ≤ 256 = few_at g 0 few (omega arith) in
        let b : 1 + get_or g 1 0 ≤ 256 = few_at g 1 few (omega arith) in
        let d : 0 + get_or g 2 0 ≤ 256 = few_at g 2 few (omega arith) in
        (right_row_lem texts, λ k. let n = right_numbers k in (omega arith, omega arith, omega arith))

-- ---- few
module _ (g : List ℕ) (t b : ℕ) (e : b ≡ from_bool (ltb t 2)) where
  starts : b ≡ start_count t
  unfolding start_count
  starts = e ∙ by (ltb t 2)
    where
      by : (c : Bool) → from_bool c ≡ pick c 1 0
      by true = refl
      by false = refl

  pub few_more : below (few_table g) t ≡ true → b + get_or g t 0 ≤ 256 → below (few_table g) (t + 1) ≡ true
  unfolding few_table
  few_more all h = below_more (few_table g) t all (le-leb _ _ (rw starts at h))

  pub few_not : t < 10 → 256 < b + get_or g t 0 → false ≡ below (few_table g) 10
  unfolding few_table
  few_not h l = sym (below_not (few_table g) 10 t h (lt-leb _ _ (rw starts at l)))
