-- Strings of any form compared: in one form by their octets as they stand, else by what they say; and a string that has octets says something.
-- Assumes nothing.
use mathlib.Core.Path.{◌≡◌, refl, sym, ◌∙◌}
use mathlib.Core.Bool.{true, false}
use mathlib.Core.List.{List, []}
use Prim.Native.Nat.{ℕ, ◌+◌, ◌-◌, ◌≤◌, ◌<◌}
use native.Mathlib.Omega.{arith}
use native.Mathlib.Decide.{dec_lt}
use borrow.Author.Tests.{eq-eqb, ne_eqb}
use lib.ListN.{length, get_or, take, drop}
use Rattle.format.specs.Tables.{OTHER_STRING, same}
use Rattle.format.specs.declared.StringForm.{StringForm}
use Rattle.format.specs.declared.StringForm.TheVariants.{Utf8, Utf16, Numeric, Dates, Short, Int, Long}
use Rattle.format.specs.Forms.{form_of}
use Rattle.fields.specs.Utf8.{is_text}
use Rattle.forms.specs.Reading.{said}
use Rattle.forms.specs.Streams.{part, Sound}
use Rattle.forms.proofs.Forms.{same-octets, said_some, test, tested}
use Rattle.tables.specs.Located.{stretch, octets_of}
use Rattle.tables.specs.Rows.{table_of, built_in, form_in, string_at}
use Rattle.tables.specs.Kept.{Ends, IsSound}
use Rattle.tables.proofs.FormLaws.{form_of_lem, form_in_lem}
use Rattle.tables.proofs.ByNumber.{by_number_lem}
use Rattle.tables.proofs.Search.{length-octets, not_same, no_octets}

-- a string as the part of s from its place to its end
pub octets-part : (s : List ℕ) (f : StringForm) (a m : ℕ) → octets_of s (stretch f a m) ≡ said f (part s a (a + m))
unfolding octets_of
octets-part s f a m = let u : a + m - a ≡ m = omega arith in rw u

-- ---- two strings of one form
is_text_lem : (f : StringForm) (o : List ℕ) → test f o ≡ true → is_text (said f o) ≡ true
is_text_lem f o e = sym (tested f f o true refl (sym e)).0

one_form : (f : StringForm) (o p : List ℕ) → Sound f o → Sound f p → same o p ≡ same (said f o) (said f p)
one_form Utf8 o p d e = refl
one_form Utf16 o p d e = sym (same-octets Utf16 o p (is_text_lem Utf16 o d) (is_text_lem Utf16 p e))
one_form Numeric o p d e = sym (same-octets Numeric o p (is_text_lem Numeric o d) (is_text_lem Numeric p e))
one_form Dates o p d e = sym (same-octets Dates o p (is_text_lem Dates o d) (is_text_lem Dates p e))
one_form Short o p d e = sym (same-octets Short o p (is_text_lem Short o d) (is_text_lem Short p e))
one_form Int o p d e = sym (same-octets Int o p (is_text_lem Int o d) (is_text_lem Int p e))
one_form Long o p d e = sym (same-octets Long o p (is_text_lem Long o d) (is_text_lem Long p e))

module _ (s : List ℕ) (g f : StringForm) (a m b n : ℕ) where
  pub same_form : g ≡ f → IsSound s (stretch g a m) → IsSound s (stretch f b n)
      → same (octets_of s (stretch Utf8 a m)) (octets_of s (stretch Utf8 b n)) ≡ same (octets_of s (stretch g a m)) (octets_of s (stretch f b n))
  unfolding octets_of
  same_form e x y = rw e (one_form f _ _ (rw e at x) y)

  -- and of any two, by their parts of s
  pub same-said : same (said g (part s a (a + m))) (said f (part s b (b + n))) ≡ same (octets_of s (stretch g a m)) (octets_of s (stretch f b n))
  same-said = rw (octets-part s g a m, octets-part s f b n)

module _ (s : List ℕ) (f : StringForm) (a m : ℕ) where
  pub sound_part : IsSound s (stretch f a m) → Sound f (part s a (a + m))
  sound_part h = let u : a + m - a ≡ m = omega arith in rw u h

  pub says_some : a + m ≤ length s → 1 ≤ m → 0 < length (octets_of s (stretch f a m))
  unfolding octets_of
  says_some h l = let q : length (take m (drop a s)) ≡ m = length-octets s a m h in said_some f (take m (drop a s)) (omega arith)

  -- the tables of other strings have no built-in one
  pub not_built_in : (table : ℕ) → 5 ≤ table → a + m ≤ length s → 1 ≤ m → same (octets_of s (built_in (table_of table))) (octets_of s (stretch f a m)) ≡ false
  not_built_in table k h l = let q = says_some h l in rw (no_octets s table (omega arith) (omega arith)) (not_same [] _ (λ e. omega arith))

-- so whether a string is built in can be told by its octets as they stand
pub built_in-said : (s : List ℕ) (table a m c : ℕ) → (table < 5 → c ≡ 0) → a + m ≤ length s → 1 ≤ m
    → same (octets_of s (built_in (table_of table))) (octets_of s (stretch Utf8 a m)) ≡ same (octets_of s (built_in (table_of table))) (octets_of s (stretch (form_of c) a m))
built_in-said s table a m c zero h l =
    elim (dec_lt table 5) [
      | yes k ↦ rw (form_of_lem c Utf8 (zero k))
      | no k ↦ not_built_in s Utf8 a m table (omega arith) h l ∙ sym (not_built_in s (form_of c) a m table (omega arith) h l)
    ]

-- ---- the row at word j of a table of other strings
-- one that has no length says nothing
pub none_row : (s t : List ℕ) (j : ℕ) (x : List ℕ) → get_or t (j + 1) 0 ≡ 0 → 0 < length x → false ≡ same (octets_of s (string_at OTHER_STRING t j)) x
unfolding string_at built_in octets_of
none_row s t j x z some = rw (eq-eqb _ 0 z) (sym (not_same [] x (λ e. omega arith)))

-- nor do its octets as they stand
pub none_spelled : (s : List ℕ) (a m : ℕ) (x : List ℕ) → m ≡ 0 → 0 < length x → false ≡ same (octets_of s (stretch Utf8 a m)) x
unfolding octets_of
none_spelled s a m x z some = rw z (sym (not_same [] x (λ e. omega arith)))

pub some_row : (t : List ℕ) (j : ℕ) → (get_or t (j + 1) 0 ≡ 0 → ⊥) → string_at OTHER_STRING t j ≡ stretch (form_of (get_or t (j + 2) 0)) (get_or t j 0) (get_or t (j + 1) 0)
unfolding string_at form_in
some_row t j z = rw (ne_eqb _ 0 z)

pub row_sound : (s t : List ℕ) (table j : ℕ) → 5 ≤ table → table < 8 → Ends s (string_at (table_of table) t j) → IsSound s (string_at (table_of table) t j) → (get_or t (j + 1) 0 ≡ 0 → ⊥)
    → (get_or t j 0 + get_or t (j + 1) 0 ≤ length s) × IsSound s (stretch (form_of (get_or t (j + 2) 0)) (get_or t j 0) (get_or t (j + 1) 0))
unfolding string_at
row_sound s t table j k l ends sound z = (rw (ne_eqb _ 0 z) at ends, rw (ne_eqb _ 0 z, form_in_lem table _ l (λ u. absurd (omega arith))) at sound)

-- the three tables have the same rows
same_rows : (t : List ℕ) (table j : ℕ) → 5 ≤ table → table < 8 → string_at OTHER_STRING t j ≡ string_at (table_of table) t j
unfolding string_at built_in form_in table_of
same_rows t table j k l = by_number_lem (λ (n : ℕ). string_at OTHER_STRING t j ≡ string_at (table_of n) t j) 5 3 (refl, (refl, (refl, tt))) table k (omega arith)

pub row_other : (s t : List ℕ) (table j : ℕ) (x : List ℕ) → 5 ≤ table → table < 8 → same (octets_of s (string_at OTHER_STRING t j)) x ≡ same (octets_of s (string_at (table_of table) t j)) x
row_other s t table j x k l = rw (same_rows t table j k l)
