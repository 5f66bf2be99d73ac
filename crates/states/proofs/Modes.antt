-- What each mode's number says, and the root's.
-- Assumes nothing.
use mathlib.Core.Path.{◌≡◌, refl}
use mathlib.Core.Bool.{Bool, true, false, not}
use Prim.Native.Nat.{ℕ, ◌≤◌, ◌<◌}
use native.Mathlib.Decide.{ℕ_discrete}
use native.Mathlib.Omega.{arith}
use borrow.Author.Tests.{ne_eqb, lt-leb}
use lib.Dec.{eqb}
use Rattle.format.specs.Items as F
use Rattle.states.specs.States.{mode_of, root_of, coming, after_start, declaring_mode}

pub mode_content : mode_of 0 ≡ F.content
unfolding mode_of
mode_content = refl

pub mode_listing : mode_of 1 ≡ F.listing false
unfolding mode_of
mode_listing = refl

pub mode_listed : mode_of 2 ≡ F.listing true
unfolding mode_of
mode_listed = refl

pub mode_declaring : (a : Bool) → mode_of (declaring_mode a) ≡ F.declaring a
unfolding mode_of
mode_declaring true = refl
mode_declaring false = refl

-- A fact of each mode is one of every number: from 4 on all are one mode.
pub by_mode : (P : ℕ → F.Mode → Type 0) → P 0 F.content → P 1 (F.listing false) → P 2 (F.listing true) → P 3 (F.declaring false) → ((m : ℕ) → 4 ≤ m → P m (F.declaring true)) → (m : ℕ) → P m (mode_of m)
unfolding mode_of
by_mode P p q r s t m =
    elim (ℕ_discrete m 0) [
      | yes e ↦ rw e p
      | no a ↦ elim (ℕ_discrete m 1) [
        | yes e ↦ rw e q
        | no b ↦ elim (ℕ_discrete m 2) [
          | yes e ↦ rw e r
          | no c ↦ elim (ℕ_discrete m 3) [ yes e ↦ rw e s | no d ↦ rw (ne_eqb _ _ a, ne_eqb _ _ b, ne_eqb _ _ c, ne_eqb _ _ d) (t m (omega arith)) ]
        ]
      ]
    ]

-- ---- behind a Start, and among declarations
pub after_mode : (a : Bool) → mode_of (after_start a) ≡ F.after_start a
after_mode true = mode_listing
after_mode false = mode_content

pub after-coming : (a : Bool) → coming (after_start a) ≡ 0
unfolding coming
after-coming true = refl
after-coming false = refl

pub coming_low : (m : ℕ) → m < 3 → coming m ≡ 0
unfolding coming
coming_low m h = rw (lt-leb _ _ h)

pub declaring_coming : (a : Bool) → coming (declaring_mode a) ≡ 1
unfolding coming
declaring_coming true = refl
declaring_coming false = refl

-- ---- the root
twice : (b : Bool) → not (not b) ≡ b
twice true = refl
twice false = refl

pub root_none : (r : ℕ) → not (root_of r) ≡ eqb r 0
unfolding root_of
root_none r = twice (eqb r 0)

pub root_one : root_of 1 ≡ true
unfolding root_of
root_one = refl
