-- The octets of an integer and the integer of octets: each gives the other back, on the integers that w octets hold.
-- Assumes nothing.
use mathlib.Core.Path.{◌≡◌, refl, sym, ap, ◌∙◌}
use Prim.Native.Nat.{ℕ, zero, suc, ◌+◌, ◌-◌, ◌*◌, ◌/◌, ◌%◌, ◌^◌, ◌≤◌, ◌<◌}
use native.Mathlib.Nat.{pow-suc}
use native.Mathlib.Omega.{arith}
use borrow.Author.Tests.{lt-ltb, le-ltb}
use lib.Dec.{lit<}
use lib.IntN.{ℤ, pos, negsuc}
use lib.ListN.{length}
use lib.Pow.{pow-add}
use Rattle.format.specs.Octets.{Octets}
use Rattle.format.specs.Numbers.{octets}
use Rattle.format.specs.Integers.{figures, half, Held, unsigned, octets_of}
use Rattle.fields.proofs.Laws.{case}
use Rattle.fields.proofs.Puts.{pow8}
use Rattle.decimal.specs.Reading.{number, signed, integer_of}
use Rattle.decimal.proofs.Figures.{Figures, figures-length, figures_are, number-figures, number_less, figures-number}

pub halves : (m : ℕ) → half (suc m) + half (suc m) ≡ 256 ^ suc m
unfolding half
halves m = let e = pow-suc 256 m in omega arith

-- in powers of two: the integers from -2 ^ (8 w - 1) to 2 ^ (8 w - 1) - 1
pub half_power : (w : ℕ) → 0 < w → half w ≡ 2 ^ (8 * w - 1)
unfolding half
half_power zero h = absurd (omega arith)
half_power (suc m) h =
    let e : 8 * suc m - 1 ≡ 8 * m + 7 = omega arith in
    let p = pow8 m in
    let q = pow-add 2 (8 * m) 7 in
    rw (e, pow-suc 256 m) (omega arith)

-- an integer that w octets hold: they are octets at all, and the half is half
held_halves : (w : ℕ) (z : ℤ) → Held w z → half w + half w ≡ 256 ^ w
unfolding half
held_halves zero z h = absurd (omega arith)
held_halves (suc m) z h = halves m

module _ (w v : ℕ) where
  pub signed_low : v < half w → pos v ≡ signed w v
  unfolding signed
  signed_low h = rw (lt-ltb _ _ h)

  pub signed_high : half w ≤ v → negsuc (256 ^ w - suc v) ≡ signed w v
  unfolding signed
  signed_high h = rw (le-ltb _ _ h)

unsigned_less : (w : ℕ) (z : ℤ) → Held w z → unsigned w z < 256 ^ w
unfolding unsigned
unsigned_less w (pos n) h = let e = held_halves w (pos n) h in omega arith
unsigned_less w (negsuc n) h = let e = held_halves w (negsuc n) h in omega arith

signed-unsigned : (w : ℕ) (z : ℤ) → Held w z → signed w (unsigned w z) ≡ z
unfolding unsigned
signed-unsigned w (pos n) h = sym (signed_low w n h)
signed-unsigned w (negsuc n) h =
    let e = held_halves w (negsuc n) h in
    let k : 256 ^ w - suc (256 ^ w - suc n) ≡ n = omega arith in
    sym (signed_high w (256 ^ w - suc n) (omega arith)) ∙ ap negsuc k

pub signed_held : (m v : ℕ) → v < 256 ^ suc m → Held (suc m) (signed (suc m) v)
signed_held m v h =
    let e = halves m in
    case v (half (suc m)) (λ l. rw (← signed_low (suc m) v l) l) (λ l. rw (← signed_high (suc m) v l) (omega arith))

unsigned_signed : (w v : ℕ) → v < 256 ^ w → unsigned w (signed w v) ≡ v
unfolding unsigned
unsigned_signed w v h = case v (half w) (λ l. rw (← signed_low w v l)) (λ l. rw (← signed_high w v l) (omega arith))

pub octets-length : (w : ℕ) (z : ℤ) → length (octets_of w z) ≡ w
unfolding octets_of
octets-length w z = figures-length 256 0 w (unsigned w z)

pub octets_are : (w : ℕ) (z : ℤ) → Figures 256 0 (octets_of w z)
unfolding octets_of
octets_are w z = figures_are 256 0 (lit< tt) w (unsigned w z)

-- as the output has them
octets_are_figures : (m v : ℕ) → octets m v ≡ figures 256 0 m v
unfolding octets figures
octets_are_figures zero v = refl
octets_are_figures (suc m) v = let e : 0 + v / 256 ^ m % 256 ≡ v / 256 ^ m % 256 = omega arith in rw (e, octets_are_figures m v)

pub octets_by : (w : ℕ) (z : ℤ) (v : ℕ) → v ≡ unsigned w z → octets w v ≡ octets_of w z
unfolding octets_of
octets_by w z v e = octets_are_figures w v ∙ ap (figures 256 0 w) e

-- ---- the two laws

pub integer-octets : (w : ℕ) (z : ℤ) → Held w z → integer_of w (octets_of w z) ≡ z
unfolding octets_of integer_of
integer-octets w z h = rw (number-figures 256 0 (lit< tt) w (unsigned w z) (unsigned_less w z h)) (signed-unsigned w z h)

module _ (w : ℕ) (o : Octets) (f : Figures 256 0 o) (n : length o ≡ w) where
  less : number 256 0 0 o < 256 ^ w
  less = let l = rw n at (number_less 256 0 (lit< tt) 0 o f) in omega arith

  pub octets-integer : octets_of w (integer_of w o) ≡ o
  unfolding octets_of integer_of
  octets-integer = rw (unsigned_signed w (number 256 0 0 o) less) (rw n at (figures-number 256 0 (lit< tt) 0 o f))

  pub integer_held : 0 < w → Held w (integer_of w o)
  unfolding integer_of
  integer_held h = held w h less
    where
      held : (w : ℕ) {v : ℕ} → 0 < w → v < 256 ^ w → Held w (signed w v)
      held zero h l = absurd (omega arith)
      held (suc m) {v} h l = signed_held m v l
