-- How many digits a number has: as many as the first power of ten above it says.
-- Assumes nothing.
use mathlib.Core.Path.{◌≡◌}
use Prim.Native.Nat.{ℕ, ◌-◌, ◌^◌, ◌≤◌, ◌<◌}
use native.Mathlib.Nat.{pow-le-pow_right}
use native.Mathlib.Omega.{arith}
use lib.Dec.{lit<}
use Rattle.format.specs.Integers.{size}
use Rattle.fields.proofs.Laws.{case}
use Rattle.decimal.proofs.Decimals.{size_bounds, size_one}

tens_grow : (i j : ℕ) → i ≤ j → 10 ^ i ≤ 10 ^ j
tens_grow i j h = pow-le-pow_right {n = 10} (lit< tt) {i = i} {j = j} h

-- ---- how many digits

pub size_some : (n : ℕ) → 1 ≤ size n
unfolding size
size_some n = (size_bounds n n (omega arith)).0

pub size-most : (n k : ℕ) → 1 ≤ k → n < 10 ^ k → size n ≤ k
unfolding size
size-most n k o h =
    case k (size n)
    (λ j. case 0 n
    (λ p. let v : 10 ^ (size n - 1) ≤ n = (size_bounds n n (omega arith)).2 p in let g = tens_grow k (size n - 1) (omega arith) in absurd (omega arith))
    (λ p. let e = size_one n (omega arith) in omega arith))
    (λ j. j)

-- between two powers
pub size_is : (n k : ℕ) → 1 ≤ k → n < 10 ^ k → (2 ≤ k → 10 ^ (k - 1) ≤ n) → k ≡ size n
unfolding size
size_is n k o h l =
    let m = size-most n k o h in
    let s = size_some n in
    let u : n < 10 ^ size n = (size_bounds n n (omega arith)).1 in
    case (size n) k
    (λ i. let v = l (omega arith) in let g = tens_grow (size n) (k - 1) (omega arith) in absurd (omega arith))
    (λ i. omega arith)
