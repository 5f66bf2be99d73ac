-- What the writer's definition asks of a mode, by the mode's number.
-- Assumes nothing.
use mathlib.Core.Path.{◌≡◌, refl}
use mathlib.Core.Bool.{Bool, ◌||◌}
use mathlib.Core.List.{[], ◌∷◌}
use Prim.Native.Nat.{ℕ, ◌+◌, ◌*◌, ◌≤◌}
use native.Mathlib.Omega.{arith}
use borrow.Author.Tests.{ne_eqb, le-leb}
use lib.Dec.{eqb, leb}
use Rattle.format.specs.Numbers.{pick}
use Rattle.format.specs.Strings.{bit}
use Rattle.states.specs.States.{mode_of}
use Rattle.states.proofs.Modes.{by_mode}
use Rattle.write_items.specs.Events.{among_children, is_content, is_declaring, is_listing}
use Rattle.write_items.specs.Items.{before_declaration, before_name, name_lead}

pub is_among : (m : ℕ) → among_children (mode_of m) ≡ (eqb m 0 || eqb m 2)
is_among =
    by_mode (λ m f. among_children f ≡ (eqb m 0 || eqb m 2)) refl refl refl refl
    (λ m h. let a : m ≡ 0 → ⊥ = λ e. omega arith in let b : m ≡ 2 → ⊥ = λ e. omega arith in rw (ne_eqb _ _ a, ne_eqb _ _ b))

pub lists : (m : ℕ) → is_listing (mode_of m) ≡ (eqb m 1 || eqb m 2)
lists =
    by_mode (λ m f. is_listing f ≡ (eqb m 1 || eqb m 2)) refl refl refl refl
    (λ m h. let a : m ≡ 1 → ⊥ = λ e. omega arith in let b : m ≡ 2 → ⊥ = λ e. omega arith in rw (ne_eqb _ _ a, ne_eqb _ _ b))

pub is_content_lem : (m : ℕ) → is_content (mode_of m) ≡ eqb m 0
is_content_lem = by_mode (λ m f. is_content f ≡ eqb m 0) refl refl refl refl (λ m h. let a : m ≡ 0 → ⊥ = λ e. omega arith in rw (ne_eqb _ _ a))

pub declares : (m : ℕ) → is_declaring (mode_of m) ≡ leb 3 m
declares = by_mode (λ m f. is_declaring f ≡ leb 3 m) refl refl refl refl (λ m h. let a : 3 ≤ m = omega arith in rw (le-leb _ _ a))

-- ---- the octets around declarations
module _ (a : Bool) where
  pub first_declaration : (m : ℕ) → before_declaration (mode_of m) a ≡ pick (eqb m 0) ((64 * bit a + 0x38) ∷ []) []
  first_declaration =
      by_mode (λ m f. before_declaration f a ≡ pick (eqb m 0) ((64 * bit a + 0x38) ∷ []) []) refl refl refl refl
      (λ m h. let b : m ≡ 0 → ⊥ = λ e. omega arith in rw (ne_eqb _ _ b))

  pub lead_of_name : (m : ℕ) → name_lead (mode_of m) a ≡ pick (eqb m 0) (64 * bit a) 0
  lead_of_name = by_mode (λ m f. name_lead f a ≡ pick (eqb m 0) (64 * bit a) 0) refl refl refl refl (λ m h. let b : m ≡ 0 → ⊥ = λ e. omega arith in rw (ne_eqb _ _ b))

pub last_declaration : (m : ℕ) → before_name (mode_of m) ≡ pick (leb 3 m) (0xF0 ∷ []) []
last_declaration = by_mode (λ m f. before_name f ≡ pick (leb 3 m) (0xF0 ∷ []) []) refl refl refl refl (λ m h. let a : 3 ≤ m = omega arith in rw (le-leb _ _ a))
