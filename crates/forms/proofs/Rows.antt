-- Characters by a table of rows, for any table: what stands at the front of octets, and how the test and the decoder go past it.
-- Assumes nothing.
use mathlib.Core.Path.{◌≡◌, refl, sym, ◌∙◌}
use mathlib.Core.Bool.{Bool, true, ◌&&◌}
use mathlib.Core.List.{List, [], ◌∷◌, ◌++◌}
use Prim.Native.Nat.{ℕ, zero, suc, ◌-◌, ◌<◌}
use native.Mathlib.Omega.{arith}
use borrow.Author.Tests.{leb-true, ne_eqb}
use lib.Dec.{ltb}
use lib.ListN.{length, get_or, take}
use lib.Seq.{take-append_seam}
use Rattle.format.specs.Characters.{Range, All}
use Rattle.fields.specs.Utf8.{fits}
use Rattle.fields.proofs.Utf8.{told, both}
use Rattle.fields.proofs.Characters.{In, Fits, fit, fit_back}
use Rattle.forms.specs.Reading.{size, whole, decoded}

-- two and four octets, in ranges
module _ (P : List ℕ → Type 0) (r s t u : Range) where
  pub fit2 : ((a b : ℕ) → In r a → In s b → P (a ∷ b ∷ [])) → (o : List ℕ) → Fits (r ∷ s ∷ []) o → P o
  fit2 p [] f = absurd f
  fit2 p (a ∷ []) f = absurd f.1
  fit2 p (a ∷ b ∷ []) f = p a b f.0 f.1.0
  fit2 p (a ∷ b ∷ c ∷ o) f = absurd f.1.1

  pub fit4 : ((a b c d : ℕ) → In r a → In s b → In t c → In u d → P (a ∷ b ∷ c ∷ d ∷ [])) → (o : List ℕ) → Fits (r ∷ s ∷ t ∷ u ∷ []) o → P o
  fit4 p [] f = absurd f
  fit4 p (a ∷ []) f = absurd f.1
  fit4 p (a ∷ b ∷ []) f = absurd f.1.1
  fit4 p (a ∷ b ∷ c ∷ []) f = absurd f.1.1.1
  fit4 p (a ∷ b ∷ c ∷ d ∷ []) f = p a b c d f.0 f.1.0 f.1.1.0 f.1.1.1.0
  fit4 p (a ∷ b ∷ c ∷ d ∷ e ∷ o) f = absurd f.1.1.1.1

-- no row is empty
abbrev pub proper : List (List Range) → Bool
proper [] = true
proper (row ∷ rows) = ltb 0 (length row) && proper rows

-- what is at the front, if there is something
pub size_is : (P : List ℕ → Type 0) (rows : List (List Range)) (x : List ℕ) (k : ℕ) → size rows x ≡ suc k → All (λ row. (o : List ℕ) → Fits row o → P o) rows
    → P (take (suc k) x) × (length (take (suc k) x) ≡ suc k)
unfolding size
size_is P [] x k e ps = absurd (omega arith)
size_is P (row ∷ rows) x k e ps =
    told (fits row x)
    (λ t.
    let l : length row ≡ suc k = rw t at e in
    let f = rw l at (fit_back row x t) in
    (ps.0 (take (suc k) x) f, sym (fit row (take (suc k) x) [] f).1 ∙ l))
    (λ t. size_is P rows x k (rw t at e) ps.1)

-- something is, where the octets fit row i
pub size_some : (rows : List (List Range)) (i : ℕ) (o x : List ℕ) → proper rows ≡ true → Fits (get_or rows i []) o → 0 < length o → 0 < size rows (o ++ x)
unfolding size
size_some [] zero [] x t f h = absurd (omega arith)
size_some [] zero (b ∷ o) x t f h = absurd f
size_some [] (suc i) [] x t f h = absurd (omega arith)
size_some [] (suc i) (b ∷ o) x t f h = absurd f
size_some (row ∷ rows) zero o x t f h = let p = fit row o x f in rw p.0 (omega arith)
size_some (row ∷ rows) (suc i) o x t f h =
    let p = both (ltb 0 (length row)) (proper rows) t in
    told (fits row (o ++ x)) (λ s. rw s (leb-true _ _ p.0)) (λ s. rw s (size_some rows i o x p.1 f h))

module _ (rows : List (List Range)) (value : List ℕ → ℕ) where
  passes : (y x : List ℕ) → (whole rows (length y) (y ++ x) ≡ whole rows 0 x) × (decoded rows value (length y) (y ++ x) ≡ decoded rows value 0 x)
  unfolding whole decoded
  passes [] x = (refl, refl)
  passes (b ∷ y) x = passes y x

  -- past one character
  pub step : (o x : List ℕ) → 0 < length o → size rows (o ++ x) ≡ length o
      → (whole rows 0 (o ++ x) ≡ whole rows 0 x) × (decoded rows value 0 (o ++ x) ≡ value o ∷ decoded rows value 0 x)
  unfolding whole decoded
  step [] x h e = absurd (omega arith)
  step (b ∷ o) x h e =
      let m : suc (length o) - 1 ≡ length o = omega arith in
      let p = passes o x in
      (rw (e, ne_eqb (suc (length o)) 0 (λ z. omega arith), m) p.0, rw (e, m, take-append_seam o x, p.1))
