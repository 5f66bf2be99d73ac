-- Which of up to eight octets are plain, from their weight: where `not_plain` has none of their high bits set, each is from 20 to 7F. By induction from the
-- lowest octet on: below the first that is not plain nothing is borrowed.
-- Assumes nothing.
use Rattle.std.proofs.Common.{◌≡◌, ℕ, zero, suc, ◌+◌, ◌-◌, ◌*◌, ◌/◌, ◌%◌, ◌^◌, ◌<◌, ◌≤◌, max, true, ◌&&◌, leb, List, [], ◌∷◌, length, get_or, take, drop, length-take, length-drop, ◌∙◌, subst, le_trans, arith, lit<, get_or-drop, get_or-take, pow_pos, pow-add, shr-shr, leb-true}
use native.Mathlib.Decide.{dec_lt}
use native.Mathlib.Nat.{le-min, max-le, le-max_left, min-le_left, min-le_right, zero-div}
use lib.Arith.{bin_ind}
use lib.Bits.{bit_and, bit_or, and_block, and_high, and_le_r, and_mod, and_step, and_zero_l, or_comm, or_step}
use Rattle.fields.specs.WeightContracts.{weight, Small, high_bits, spaces, not_plain, Plain}
use Rattle.fields.proofs.Utf8.{both}

-- a mask leaves no more of one number than of two
or_more : (a b h : ℕ) → bit_and a h ≤ bit_and (bit_or a b) h
or_more a =
    bin_ind (λ (n : ℕ). (b h : ℕ) → bit_and n h ≤ bit_and (bit_or n b) h) (λ b h. rw (and_zero_l h) (omega arith))
    (λ n ih b h.
    let o = or_step n b in
    let l = le-max_left (n % 2) (b % 2) in
    let u : max (n % 2) (b % 2) ≤ 1 = max-le (omega arith) (omega arith) in
    let half : bit_or n b / 2 ≡ bit_or (n / 2) (b / 2) = omega arith in
    let odd : n % 2 ≤ bit_or n b % 2 = omega arith in
    let m = le-min (le_trans (min-le_left (n % 2) (h % 2)) odd) (min-le_right (n % 2) (h % 2)) in
    let i = ih (b / 2) (h / 2) in
    let p = and_step n h in
    let q = rw half at (and_step (bit_or n b) h) in
    omega arith)
    a

pub neither : (a b h : ℕ) → bit_and (bit_or a b) h ≡ 0 → (bit_and a h ≡ 0) × (bit_and b h ≡ 0)
neither a b h z = let p = or_more a b h in let q = rw (or_comm b a) at (or_more b a h) in (omega arith, omega arith)

-- ---- the octets of a number, from the lowest on

abbrev octet : ℕ → ℕ → ℕ
octet v i = v / 2 ^ (8 * i) % 256

octet_next : (v i : ℕ) → octet v (suc i) ≡ octet (v / 256) i
octet_next v i = let e : 8 * suc i ≡ 8 + 8 * i = omega arith in rw (e, ← shr-shr v 8 (8 * i))

pow_next : (m : ℕ) → 2 ^ (8 * suc m) ≡ 256 * 2 ^ (8 * m)
pow_next m = let e : 8 * suc m ≡ 8 + 8 * m = omega arith in rw e (pow-add 2 8 (8 * m))

-- the high bits of a number, of which k + 1 are looked at: that of its lowest octet and those of the others
high_bits_next : (v k : ℕ) → bit_and v (high_bits (suc k)) ≡ 0 → (v % 256 < 0x80) × (bit_and (v / 256) (high_bits k) ≡ 0)
unfolding high_bits
high_bits_next v k z =
    let e : v / 256 * 2 ^ 8 + v % 256 ≡ v = omega arith in
    let f : bit_and (v % 256) 128 ≡ v % 256 / 128 * 128 = and_high (v % 256) 1 7 ∙ omega arith in
    let b = rw (e, f) at (and_block 8 (v / 256) (high_bits k) (v % 256) 128 (omega arith) (lit< tt)) in
    (omega arith, omega arith)

-- the high bits of n octets, j of them shifted out
high_bits-left : (n j k : ℕ) → n ≡ j + k → high_bits n / 2 ^ (8 * j) ≡ high_bits k
unfolding high_bits
high_bits-left n zero k h = let e : n ≡ k = omega arith in rw e (omega arith)
high_bits-left zero (suc j) k h = absurd (omega arith)
high_bits-left (suc n) (suc j) k h =
    let e : 8 * suc j ≡ 8 + 8 * j = omega arith in
    let f : (high_bits n * 256 + 128) / 256 ≡ high_bits n = omega arith in
    rw (e, ← shr-shr (high_bits n * 256 + 128) 8 (8 * j), f) (high_bits-left n j k (omega arith))

-- x is what is left of v + 2 ^ (8 * m) when m spaces are taken from it, one from each octet
octets-plain : (i k m v x : ℕ) → i < k → k ≤ m → x + spaces m ≡ v + 2 ^ (8 * m) → bit_and v (high_bits k) ≡ 0 → bit_and x (high_bits k) ≡ 0
    → (0x20 ≤ octet v i) × (octet v i ≤ 0x7F)
unfolding spaces
octets-plain i zero m v x h l e y z = absurd (omega arith)
octets-plain i (suc k) zero v x h l e y z = absurd (omega arith)
octets-plain zero (suc k) (suc m) v x h l e y z =
    let p = high_bits_next v k y in
    let q = high_bits_next x k z in
    let f = pow_next m in
    (omega arith, omega arith)
octets-plain (suc i) (suc k) (suc m) v x h l e y z =
    let p = high_bits_next v k y in
    let q = high_bits_next x k z in
    let f = pow_next m in
    rw (octet_next v i) (octets-plain i k m (v / 256) (x / 256) (omega arith) (omega arith) (omega arith) p.1 q.1)

high_bits-below : (k m : ℕ) → k ≤ m → high_bits k < 2 ^ (8 * m)
unfolding high_bits
high_bits-below zero m l = pow_pos (8 * m)
high_bits-below (suc k) zero l = absurd (omega arith)
high_bits-below (suc k) (suc m) l = let f = pow_next m in let h = high_bits-below k m (omega arith) in omega arith

-- what is above the mask does not count
modulo : (x h : ℕ) → h < 2 ^ 64 → bit_and (x % 2 ^ 64) h ≡ 0 → bit_and x h ≡ 0
modulo x h l z =
    let e : h % 2 ^ 64 ≡ h = omega arith in
    let m = rw e at (and_mod x h 64) in
    let b = and_le_r x h in
    omega arith

octets : (k v : ℕ) → k ≤ 8 → bit_and (not_plain v) (high_bits k) ≡ 0 → (i : ℕ) → i < k → (0x20 ≤ octet v i) × (octet v i ≤ 0x7F)
unfolding not_plain spaces
octets k v l z i h =
    let x : ℕ = v + 2 ^ 64 - spaces 8 in
    let n = neither v (x % 2 ^ 64) (high_bits k) z in
    octets-plain i k 8 v x h l (omega arith) n.0 (modulo x (high_bits k) (high_bits-below k 8 l) n.1)

-- ---- of a list

octet_at : (l : List ℕ) (i : ℕ) → Small l → octet (weight l) i ≡ get_or l i 0
unfolding weight
octet_at [] i h = rw (zero-div (2 ^ (8 * i)))
octet_at (o ∷ l) zero h = omega arith
octet_at (o ∷ l) (suc i) h =
    let e : (o + 256 * weight l) / 256 ≡ weight l = omega arith in
    rw (octet_next (o + 256 * weight l) i, e) (octet_at l i h.1)

pub plain-octets : (k : ℕ) (l : List ℕ) → Small l → k ≤ 8 → bit_and (not_plain (weight l)) (high_bits k) ≡ 0
    → (i : ℕ) → i < k → (0x20 ≤ get_or l i 0) × (get_or l i 0 ≤ 0x7F)
plain-octets k l s h z i p = rw (octet_at l i s) at (octets k (weight l) h z i p)

-- three octets and five spaces
weighed : (a b c : ℕ) → a + 256 * b + 65536 * c + 0x2020202020000000 ≡ weight (a ∷ b ∷ c ∷ 0x20 ∷ 0x20 ∷ 0x20 ∷ 0x20 ∷ 0x20 ∷ [])
unfolding weight
weighed a b c = omega arith

pub three_plain : (a b c : ℕ) → a < 256 → b < 256 → c < 256 → bit_and (not_plain (a + 256 * b + 65536 * c + 0x2020202020000000)) (high_bits 8) ≡ 0
    → ((0x20 ≤ a) × (a ≤ 0x7F)) × ((0x20 ≤ b) × (b ≤ 0x7F)) × ((0x20 ≤ c) × (c ≤ 0x7F))
three_plain a b c ha hb hc z =
    let l : List ℕ = a ∷ b ∷ c ∷ 0x20 ∷ 0x20 ∷ 0x20 ∷ 0x20 ∷ 0x20 ∷ [] in
    let s : Small l = (ha, (hb, (hc, (lit< tt, (lit< tt, (lit< tt, (lit< tt, (lit< tt, tt)))))))) in
    let p = plain-octets 8 l s (omega arith) (rw (weighed a b c) at z) in
    (p 0 (lit< tt), p 1 (lit< tt), p 2 (lit< tt))

-- ---- of a part

-- v is the eight octets from `at` on
abbrev pub Eight : List ℕ → (at v : ℕ) → Type 0
Eight x at v = (v ≡ weight (take 8 (drop at x))) × Small (take 8 (drop at x))

-- four octets and four more as one number
octet_low : (u v i : ℕ) → i < 4 → octet (u + 4294967296 * v) i ≡ octet u i
octet_low u v zero h = omega arith
octet_low u v (suc zero) h = omega arith
octet_low u v (suc (suc zero)) h = omega arith
octet_low u v (suc (suc (suc zero))) h = omega arith
octet_low u v (suc (suc (suc (suc i)))) h = absurd (omega arith)

octet_high : (u v i : ℕ) → u < 2 ^ 32 → octet (u + 4294967296 * v) (4 + i) ≡ octet v i
octet_high u v i h =
    let e : 8 * (4 + i) ≡ 32 + 8 * i = omega arith in
    let f : (u + 4294967296 * v) / 2 ^ 32 ≡ v = omega arith in
    rw (e, ← shr-shr (u + 4294967296 * v) 32 (8 * i), f)

module _ (x : List ℕ) where
  octet_of : (at n v j : ℕ) → v ≡ weight (take n (drop at x)) → Small (take n (drop at x)) → at ≤ j → j < at + n → octet v (j - at) ≡ get_or x j 0
  octet_of at n v j e s l u =
      let k : at + (j - at) ≡ j = omega arith in
      rw (e, octet_at (take n (drop at x)) (j - at) s, get_or-take n (drop at x) (j - at) 0 (omega arith), get_or-drop at x (j - at) 0, k)

  some_plain : (at n v : ℕ) → Eight x at v → n ≤ 8 → bit_and (not_plain v) (high_bits n) ≡ 0 → Plain x at (at + n)
  some_plain at n v h l z j p q = rw (octet_of at 8 v j h.0 h.1 p (omega arith)) at (octets n v l z (j - at) (omega arith))

  pub eight_plain : (at v : ℕ) → Eight x at v → bit_and (not_plain v) (high_bits 8) ≡ 0 → Plain x at (at + 8)
  eight_plain at v h z = some_plain at 8 v h (omega arith) z

  pub first_plain : (at n v : ℕ) → Eight x at v → n < 8 → bit_and (not_plain v) (high_bits 7 / 2 ^ (56 - 8 * n)) ≡ 0 → Plain x at (at + n)
  first_plain at n v h l z =
      let e : 56 - 8 * n ≡ 8 * (7 - n) = omega arith in
      some_plain at n v h (omega arith) (rw (e, high_bits-left 7 (7 - n) n (omega arith)) at z)

  pub fours_plain : (a b u v : ℕ) → (u ≡ weight (take 4 (drop a x))) × Small (take 4 (drop a x)) × (u < 0x1_0000_0000)
      → (v ≡ weight (take 4 (drop b x))) × Small (take 4 (drop b x)) × (v < 0x1_0000_0000)
      → bit_and (not_plain (u + 4294967296 * v)) (high_bits 8) ≡ 0 → Plain x a (a + 4) × Plain x b (b + 4)
  fours_plain a b u v h k z =
      let p = octets 8 (u + 4294967296 * v) (omega arith) z in (
        (λ j l m. rw (octet_low u v (j - a) (omega arith), octet_of a 4 u j h.0 h.1 l m) at (p (j - a) (omega arith))),
        (λ j l m. rw (octet_high u v (j - b) h.2, octet_of b 4 v j k.0 k.1 l m) at (p (4 + (j - b)) (omega arith))),
      )

  -- no octet is below one that is plain or above one that is
  pub between_plain : (low high from to : ℕ) → ((j : ℕ) → from ≤ j → j < to → (low ≤ get_or x j 0) × (get_or x j 0 ≤ high))
      → (leb 0x20 low && leb low 0x7F) ≡ true → (leb 0x20 high && leb high 0x7F) ≡ true → Plain x from to
  between_plain low high from to p e f j l h =
      let b = p j l h in
      let u : 0x20 ≤ low = leb-true 0x20 low (both (leb 0x20 low) (leb low 0x7F) e).0 in
      let v : high ≤ 0x7F = leb-true high 0x7F (both (leb 0x20 high) (leb high 0x7F) f).1 in
      (omega arith, omega arith)

-- ---- of a stretch

-- the octet at j is plain
abbrev pub At : List ℕ → ℕ → Type 0
At x j = (0x20 ≤ get_or x j 0) × (get_or x j 0 ≤ 0x7F)

-- a stretch that is longer by another stretch
module _ (P : ℕ → Type 0) (a b : ℕ) (p : (j : ℕ) → a ≤ j → j < b → P j) where
  pub joined : (c d : ℕ) → ((j : ℕ) → c ≤ j → j < d → P j) → c ≤ b → (j : ℕ) → a ≤ j → j < d → P j
  joined c d q m j l h = elim (dec_lt j b) [ yes k ↦ p j l k | no k ↦ q j (omega arith) h ]

-- two stretches from 0 and from `second` on, each of `half` octets, that overlap
pub two_stretches : (P : ℕ → Type 0) (half second : ℕ) → ((j : ℕ) → j < half → P j) → ((j : ℕ) → j < half → P (second + j)) → second ≤ half → (j : ℕ) → j < second + half → P j
two_stretches P half second p q h j l = elim (dec_lt j half) [ yes k ↦ p j k | no k ↦ subst P (let e : second + (j - second) ≡ j = omega arith in e) (q (j - second) (omega arith)) ]

-- what is plain as a part is plain where it stands
pub part_plain : (x : List ℕ) (from to : ℕ) → to ≤ length x → Plain (take (to - from) (drop from x)) 0 (length (take (to - from) (drop from x))) → Plain x from to
part_plain x from to l p j m h =
    let e : from + (j - from) ≡ j = omega arith in
    let i : j - from < to - from = omega arith in
    let n : length (take (to - from) (drop from x)) ≡ to - from = simp (length-take, length-drop) (omega arith) in
    rw (get_or-take (to - from) (drop from x) (j - from) 0 i, get_or-drop from x (j - from) 0, e) at (p (j - from) (omega arith) (omega arith))
