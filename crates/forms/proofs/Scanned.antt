-- The laws of the code that looks for integers in a string and puts them, octet by octet.
-- Assumes nothing.
use mathlib.Core.Path.{◌≡◌, refl, sym, ◌∙◌}
use mathlib.Core.Bool.{true}
use mathlib.Core.Logic.{◌⊎◌, inl, inr}
use mathlib.Core.List.{List, [], ◌∷◌}
use Prim.Native.Nat.{ℕ, ◌+◌, ◌*◌, ◌≤◌}
use native.Mathlib.Nat.{mul-le-mul_right}
use native.Mathlib.Omega.{arith}
use lib.Dec.{eqb}
use lib.ListN.{length}
use Rattle.format.specs.Octets.{Octets}
use Rattle.format.specs.Forms.{width}
use Rattle.format.specs.declared.StringForm.{StringForm}
use Rattle.format.specs.declared.StringForm.TheVariants.{Utf8, Utf16, Numeric, Dates, Short, Int, Long}
use Rattle.fields.specs.PutContracts.{Puts}
use Rattle.fields.proofs.Puts.{puts_append}
use Rattle.fields.proofs.Utf8.{told, both}
use Rattle.decimal.specs.Words.{shape, integers_in, word_count}
use Rattle.decimal.specs.Machine.{stepped, ended, more, found, scanned, scanned_by, least_in, ended_octets, held_by, written, fitting}
use Rattle.decimal.specs.declared.scanning.Word.{Word}
use Rattle.decimal.specs.declared.scanning.Word.TheVariants.{Empty, NoWord}
use Rattle.std.specs.Prelude.{Option, Some, None}
use Rattle.decimal.specs.declared.scanning.Integers.{Integers}
use Rattle.decimal.specs.declared.scanning.Scan.{Scan}
use Rattle.decimal.proofs.Shapes.{length_in, few_words}
use Rattle.decimal.proofs.Scans.{written_is, fitting_is, at_end, at_space, at_octet}
use Rattle.forms.specs.Streams.{Lost}
use Rattle.forms.proofs.Puts.{Left}

-- ---- a text in which no integers are found any more
none_more : (f : Option Integers) → more f (ended NoWord) ≡ None
unfolding more ended
none_more (Some i) = refl
none_more None = refl

lost_found : (u : Scan) → Lost u → found u ≡ None
unfolding found
lost_found u (inl e) = rw e (none_more u.before)
lost_found u (inr e) = unfold more in rw e

lost_stays : (u : Scan) (o : ℕ) → Lost u → Lost (scanned u o)
unfolding scanned
lost_stays u o l = told (eqb o 0x20) (λ t. rw t (inr (lost_found u l))) (λ t. rw t (go l))
  where
    go : Lost u → (stepped u.word o ≡ NoWord) ⊎ (u.before ≡ None)
    go (inl e) = inl (unfold stepped in rw e)
    go (inr e) = inr e

lost_none : (u : Scan) (x : Octets) → Lost u → found (scanned_by u x) ≡ None
unfolding scanned_by
lost_none u [] l = lost_found u l
lost_none u (o ∷ x) l = lost_none (scanned u o) x (lost_stays u o l)

-- ---- what is found in the rest is found in all
module _ (u : Scan) (rest all : Octets) (i : found (scanned_by u rest) ≡ least_in all) where
  pub found_end : rest ≡ [] → found u ≡ least_in all
  unfolding scanned_by
  found_end e = rw e at i

  module _ (o : ℕ) (behind : Octets) (e : rest ≡ o ∷ behind) (v : Scan) (d : v ≡ scanned u o) where
    pub found_next : found (scanned_by v behind) ≡ least_in all
    unfolding scanned_by
    found_next = rw d (rw e at i)

    pub found_none : Lost v → None ≡ least_in all
    found_none l = sym (lost_none v behind l) ∙ found_next

-- ---- integers put, word by word
pub width-most : (f : StringForm) → width f ≤ 8
width-most Utf8 = omega arith
width-most Utf16 = omega arith
width-most Numeric = omega arith
width-most Dates = omega arith
width-most Short = omega arith
width-most Int = omega arith
width-most Long = omega arith

module _ (w : ℕ) (most : w ≤ 8) (x : Octets) (e : shape w x ≡ true) where
  pub all_fit : fitting w Empty x ≡ true
  all_fit = fitting_is w most x ∙ e

  pub all_written : written w Empty x ≡ integers_in w x
  all_written = written_is w most x e

  pub written-most : length (written w Empty x) ≤ 4 * length x + 4
  written-most =
      let n = length_in w x e in
      let k = few_words w x e in
      let m : w * word_count x ≤ 8 * word_count x = mul-le-mul_right (word_count x) most in
      rw all_written (omega arith)

module _ (w : ℕ) (out₀ : List ℕ) (at : ℕ) (all out : List ℕ) (i : ℕ) (u : Word) (rest : Octets) (fits : fitting w u rest ≡ true) (f : Left out₀ at all out i (written w u rest)) where
  module _ (e : rest ≡ []) where
    pub end_held : held_by w (ended u) ≡ true
    end_held = sym (at_end w u).0 ∙ (rw e at fits)

    pub end_put : (r : ℕ) (out₁ : List ℕ) → Puts out i r out₁ (ended_octets w (ended u)) → Puts out₀ at r out₁ all
    end_put r out₁ p = f r out₁ (rw (e, (at_end w u).1) p)

  module _ (o : ℕ) (behind : Octets) (e : rest ≡ o ∷ behind) where
    module _ (q : o ≡ 0x20) where
      space_fits : (held_by w (ended u) ≡ true) × (fitting w Empty behind ≡ true)
      space_fits = both (held_by w (ended u)) (fitting w Empty behind) (sym (at_space w u o behind q).0 ∙ (rw e at fits))

      pub space_held : held_by w (ended u) ≡ true
      space_held = space_fits.0

      pub space_behind : fitting w Empty behind ≡ true
      space_behind = space_fits.1

      pub space_put : (j : ℕ) (out₁ : List ℕ) → Puts out i j out₁ (ended_octets w (ended u)) → Left out₀ at all out₁ j (written w Empty behind)
      space_put j out₁ p r out' b = f r out' (rw (e, (at_space w u o behind q).1) (puts_append p b))

    pub octet-fits : (o ≡ 0x20 → ⊥) → fitting w (stepped u o) behind ≡ true
    octet-fits n = sym (at_octet w u o behind n).0 ∙ (rw e at fits)

    pub octet-left : (o ≡ 0x20 → ⊥) → Left out₀ at all out i (written w (stepped u o) behind)
    octet-left n r out' p = f r out' (rw (e, (at_octet w u o behind n).1) p)
