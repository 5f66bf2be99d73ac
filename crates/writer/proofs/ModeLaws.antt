-- The attribute bit by a mode's number: it is known, if declarations are in front of it.
-- Assumes nothing.
use mathlib.Core.Path.{◌≡◌, refl}
use mathlib.Core.Bool.{Bool, not}
use Prim.Native.Nat.{ℕ, ◌≤◌}
use native.Mathlib.Omega.{arith}
use borrow.Author.Tests.{ne_eqb, le-leb}
use lib.Dec.{eqb, leb}
use Rattle.format.specs.Numbers.{pick}
use Rattle.states.specs.States.{mode_of}
use Rattle.states.proofs.Modes.{by_mode}
use Rattle.writer.specs.RunContracts.{bit_of}

pub bit-known : (a : Bool) (m : ℕ) → bit_of (mode_of m) a ≡ pick (leb 3 m) (not (eqb m 3)) a
bit-known a =
    by_mode (λ m f. bit_of f a ≡ pick (leb 3 m) (not (eqb m 3)) a) refl refl refl refl
    (λ m h. let b : 3 ≤ m = omega arith in let d : m ≡ 3 → ⊥ = λ e. omega arith in rw (le-leb _ _ b, ne_eqb _ _ d))
