-- What a width says: that of a form, and that of an integer that it holds.
-- Assumes nothing.
use mathlib.Core.Path.{◌≡◌, refl}
use Prim.Native.Nat.{ℕ, zero, suc, ◌<◌}
use native.Mathlib.Omega.{arith}
use lib.IntN.{ℤ}
use Rattle.format.specs.declared.StringForm.{StringForm}
use Rattle.format.specs.declared.StringForm.TheVariants.{Utf8, Utf16, Numeric, Dates, Short, Int, Long}
use Rattle.format.specs.Forms.{width}
use Rattle.format.specs.Integers.{half, Held}

-- the first four forms are no integers: their width is 0
pub no_integers : {X : Type 0} (f : StringForm) → (f ≡ Short → ⊥) → (f ≡ Int → ⊥) → (f ≡ Long → ⊥) → 0 < width f → X
no_integers Utf8 p q r h = absurd (omega arith)
no_integers Utf16 p q r h = absurd (omega arith)
no_integers Numeric p q r h = absurd (omega arith)
no_integers Dates p q r h = absurd (omega arith)
no_integers Short p q r h = absurd (p refl)
no_integers Int p q r h = absurd (q refl)
no_integers Long p q r h = absurd (r refl)

-- a width that holds an integer is not 0
pub held_some : (w : ℕ) (z : ℤ) → Held w z → 0 < w
unfolding half
held_some zero z h = absurd (omega arith)
held_some (suc w) z h = omega arith
