-- The bits that begin a name in parts, by its table.
-- Assumes nothing.
use mathlib.Core.Path.{◌≡◌, refl}
use Prim.Native.Nat.{ℕ, ◌≤◌}
use native.Mathlib.Omega.{arith}
use borrow.Author.Tests.{eq-eqb, ne_eqb}
use Rattle.format.specs.Names.{of_element, of_attribute}
use Rattle.tables.specs.Kept.{layout_of}

pub element_parts : (t : ℕ) → t ≡ 8 → (0x3C ≡ (layout_of t).in_parts_bits) × (0x3C ≤ 0x78)
unfolding layout_of of_element
element_parts t e = rw (eq-eqb t 8 e) (refl, omega arith)

pub attribute_parts : (t : ℕ) → (t ≡ 8 → ⊥) → (0x78 ≡ (layout_of t).in_parts_bits) × (0x78 ≤ 0x78)
unfolding layout_of of_attribute
attribute_parts t e = rw (ne_eqb t 8 e) (refl, omega arith)
