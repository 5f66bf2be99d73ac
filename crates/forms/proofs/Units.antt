-- How many octets a character in UTF-16 has, by its first sixteen bits, and by the second.
-- Assumes nothing.
use mathlib.Core.Path.{◌≡◌, refl, sym}
use mathlib.Core.List.{List, [], ◌∷◌}
use Prim.Native.Nat.{ℕ, ◌+◌, ◌*◌, ◌≤◌, ◌<◌}
use native.Mathlib.Omega.{arith}
use lib.ListN.{length, get_or}
use Rattle.std.proofs.lemmas.Bool.Decides.{nat_tests}
use Rattle.format.specs.Octets.{AreOctets}
use Rattle.fields.specs.Utf8.{fits}
use Rattle.forms.specs.Reading.{size, rows16}

module _ (a b : ℕ) (h : a < 256) (k : b < 256) where
  abbrev n : ℕ
  n = a * 256 + b

  module _ (y : List ℕ) where
    two_octets : (n < 9 → ⊥) → (n ≡ 11 → ⊥) → (n ≡ 12 → ⊥) → (14 ≤ n → n < 0x20 → ⊥) → (0xD800 ≤ n → n < 0xE000 → ⊥) → n < 0xFFFE → size rows16 (a ∷ b ∷ y) ≡ 2
    unfolding size rows16 fits
    two_octets p q r s t u = grind (arith, nat_tests)

    no_octets : (n ≡ 9 → ⊥) → (n ≡ 10 → ⊥) → (n ≡ 13 → ⊥) → (0x20 ≤ n → n < 0xDC00 → ⊥) → (0xE000 ≤ n → n < 0xFFFE → ⊥) → size rows16 (a ∷ b ∷ y) ≡ 0
    unfolding size rows16 fits
    no_octets p q r s t = grind (arith, nat_tests)

  module _ (l : 0xD800 ≤ n) (m : n < 0xDC00) where
    high_alone : size rows16 (a ∷ b ∷ []) ≡ 0
    unfolding size rows16 fits
    high_alone = grind (arith, nat_tests)

    high_half : (c : ℕ) → size rows16 (a ∷ b ∷ c ∷ []) ≡ 0
    unfolding size rows16 fits
    high_half c = grind (arith, nat_tests)

    module _ (c d : ℕ) (y : List ℕ) (i : c < 256) (j : d < 256) where
      four_octets : 0xDC00 ≤ c * 256 + d → c * 256 + d < 0xE000 → size rows16 (a ∷ b ∷ c ∷ d ∷ y) ≡ 4
      unfolding size rows16 fits
      four_octets p q = grind (arith, nat_tests)

      high_other : (0xDC00 ≤ c * 256 + d → c * 256 + d < 0xE000 → ⊥) → size rows16 (a ∷ b ∷ c ∷ d ∷ y) ≡ 0
      unfolding size rows16 fits
      high_other p = grind (arith, nat_tests)

pub too_short : (s : List ℕ) → AreOctets s → length s < 2 → 0 ≡ size rows16 s
unfolding size rows16 fits
too_short [] o h = refl
too_short (a ∷ []) o h = let k = o 0 in grind (arith, nat_tests)
too_short (a ∷ b ∷ y) o h = absurd (omega arith)

abbrev unit_at : List ℕ → ℕ → ℕ
unit_at s at = get_or s at 0 * 256 + get_or s (at + 1) 0

pub two : (s : List ℕ) → AreOctets s → 2 ≤ length s → (n : ℕ) → n ≡ unit_at s 0
    → (n < 9 → ⊥) → (n ≡ 11 → ⊥) → (n ≡ 12 → ⊥) → (14 ≤ n → n < 0x20 → ⊥) → (0xD800 ≤ n → n < 0xE000 → ⊥) → n < 0xFFFE → 2 ≡ size rows16 s
two [] o l n e p q r s t u = absurd (omega arith)
two (a ∷ []) o l n e p q r s t u = absurd (omega arith)
two (a ∷ b ∷ y) o l n e p q r s t u = sym (two_octets a b (o 0) (o 1) y (rw e at p) (rw e at q) (rw e at r) (rw e at s) (rw e at t) (rw e at u))

pub no_character : (s : List ℕ) → AreOctets s → 2 ≤ length s → (n : ℕ) → n ≡ unit_at s 0
    → (n ≡ 9 → ⊥) → (n ≡ 10 → ⊥) → (n ≡ 13 → ⊥) → (0x20 ≤ n → n < 0xDC00 → ⊥) → (0xE000 ≤ n → n < 0xFFFE → ⊥) → 0 ≡ size rows16 s
no_character [] o l n e p q r s t = absurd (omega arith)
no_character (a ∷ []) o l n e p q r s t = absurd (omega arith)
no_character (a ∷ b ∷ y) o l n e p q r s t = sym (no_octets a b (o 0) (o 1) y (rw e at p) (rw e at q) (rw e at r) (rw e at s) (rw e at t))

pub lone : (s : List ℕ) → AreOctets s → 2 ≤ length s → length s < 4 → (n : ℕ) → n ≡ unit_at s 0 → 0xD800 ≤ n → n < 0xDC00 → 0 ≡ size rows16 s
lone [] o l h n e p q = absurd (omega arith)
lone (a ∷ []) o l h n e p q = absurd (omega arith)
lone (a ∷ b ∷ []) o l h n e p q = sym (high_alone a b (o 0) (o 1) (rw e at p) (rw e at q))
lone (a ∷ b ∷ c ∷ []) o l h n e p q = sym (high_half a b (o 0) (o 1) (rw e at p) (rw e at q) c)
lone (a ∷ b ∷ c ∷ d ∷ y) o l h n e p q = absurd (omega arith)

module _ (n m : ℕ) (p : 0xD800 ≤ n) (q : n < 0xDC00) where
  pub four : (s : List ℕ) → AreOctets s → 4 ≤ length s → n ≡ unit_at s 0 → m ≡ unit_at s 2 → 0xDC00 ≤ m → m < 0xE000 → 4 ≡ size rows16 s
  four [] o l e f r t = absurd (omega arith)
  four (a ∷ []) o l e f r t = absurd (omega arith)
  four (a ∷ b ∷ []) o l e f r t = absurd (omega arith)
  four (a ∷ b ∷ c ∷ []) o l e f r t = absurd (omega arith)
  four (a ∷ b ∷ c ∷ d ∷ y) o l e f r t = sym (four_octets a b (o 0) (o 1) (rw e at p) (rw e at q) c d y (o 2) (o 3) (rw f at r) (rw f at t))

  pub unpaired : (s : List ℕ) → AreOctets s → 4 ≤ length s → n ≡ unit_at s 0 → m ≡ unit_at s 2 → (0xDC00 ≤ m → m < 0xE000 → ⊥) → 0 ≡ size rows16 s
  unpaired [] o l e f r = absurd (omega arith)
  unpaired (a ∷ []) o l e f r = absurd (omega arith)
  unpaired (a ∷ b ∷ []) o l e f r = absurd (omega arith)
  unpaired (a ∷ b ∷ c ∷ []) o l e f r = absurd (omega arith)
  unpaired (a ∷ b ∷ c ∷ d ∷ y) o l e f r = sym (high_other a b (o 0) (o 1) (rw e at p) (rw e at q) c d y (o 2) (o 3) (rw f at r))
