-- The text that `of` makes is the integer's.
-- Assumes nothing.
use mathlib.Core.Path.{◌≡◌, refl}
use Prim.Native.Nat.{ℕ}
use native.Mathlib.Omega.{arith}
use borrow.Author.Tests.{le-ltb}
use lib.IntN.{ℤ, pos, negsuc, nat_abs}
use lib.Signed.{lt_z}
use mir.Syntax.{w64}
use mir.Val.{to_z, of_z, SFits}
use mir.ValLaws.{to_z-of_z}
use Rattle.format.specs.Integers.{size, digits, decimal}
use Rattle.decimal.specs.Texts.{left}

written : (z : ℤ) → left (record { minus = lt_z z (pos 0); number = nat_abs z; count = size (nat_abs z) }) ≡ decimal z
unfolding left decimal digits
written (pos m) = rw (le-ltb m 0 (omega arith))
written (negsuc m) = refl

pub text_of : (z : ℤ) (n k : ℕ) → SFits w64 z → n ≡ nat_abs (to_z w64 (of_z w64 z)) → k ≡ size n
    → left (record { minus = lt_z (to_z w64 (of_z w64 z)) (pos 0); number = n; count = k }) ≡ decimal z
text_of z n k ok a s = rw (s, a, to_z-of_z w64 z ok) (written z)
