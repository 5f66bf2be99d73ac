-- Octets put one behind the other are put together: in a sequence, and by a loop.
-- Assumes nothing.
use Rattle.std.proofs.Common.{◌≡◌, ℕ, zero, suc, ◌+◌, ◌-◌, ◌*◌, ◌/◌, ◌%◌, ◌^◌, ◌<◌, ◌≤◌, min, List, [], ◌∷◌, ◌++◌, length, get_or, take, drop, set, sym, refl, pow-suc, add-one, arith, length-append, length-drop, take-append-drop, length-take-le, get_or-drop, take_all, get_or-take, take-suc, pow-add}
use native.Mathlib.Decide.{dec_lt}
use lib.Seq.{sets, length-sets, set_out}
use Rattle.format.specs.Numbers.{octets}
use Rattle.fields.specs.PutContracts.{Puts}

sets_append : (xs ys out : List ℕ) (at : ℕ) → sets out at (xs ++ ys) ≡ sets (sets out at xs) (at + length xs) ys
sets_append [] ys out at = let z : at + 0 ≡ at = omega arith in rw z
sets_append (x ∷ xs) ys out at = let z : at + suc (length xs) ≡ suc at + length xs = omega arith in rw z (sets_append xs ys (set out at x) (suc at))

sets_past : (xs out : List ℕ) (at : ℕ) → length out ≤ at → sets out at xs ≡ out
sets_past [] out at h = refl
sets_past (x ∷ xs) out at h = rw (set_out out at x h) (sets_past xs out (suc at) (omega arith))

pub puts_kept : {out out' os : List ℕ} {at r : ℕ} → Puts out at r out' os → length out' ≡ length out
puts_kept {out} {out'} {os} {at} p = rw p.is (length-sets out at os)

pub puts_nothing : {out : List ℕ} {at r : ℕ} → r ≡ at → Puts out at r out []
puts_nothing e = record { behind = omega arith; is = refl }

pub puts_one : {out out' : List ℕ} {at b : ℕ} → out' ≡ set out at b → Puts out at (at + 1) out' (b ∷ [])
puts_one e = record { behind = refl; is = e }

pub puts_append : {out out₁ out₂ xs ys : List ℕ} {at r q : ℕ} → Puts out at r out₁ xs → Puts out₁ r q out₂ ys → Puts out at q out₂ (xs ++ ys)
puts_append {out} {out₁} {out₂} {xs} {ys} {at} a b =
    record { behind = simp length-append (omega arith); is = rw (b.is, a.is, a.behind, sets_append xs ys out at) }

pub puts_octet : {out out₁ out₂ ys : List ℕ} {at q b : ℕ} → out₁ ≡ set out at b → Puts out₁ (at + 1) q out₂ ys → Puts out at q out₂ (b ∷ ys)
puts_octet e p = puts_append (puts_one e) p

-- ---- octets put by a loop

-- i of the octets are put
module _ (os : List ℕ) (i : ℕ) {out₀ out : List ℕ} {at : ℕ} (p : Puts out₀ at (at + i) out (take i os)) where
  pub puts_next : {out' : List ℕ} {b : ℕ} → i < length os → b ≡ get_or os i 0 → out' ≡ set out (at + i) b → Puts out₀ at (at + (i + 1)) out' (take (i + 1) os)
  puts_next h g e =
      let z : at + (i + 1) ≡ at + i + 1 = omega arith in
      rw (z, add-one i, take-suc os i 0 h, ← g) (puts_append p (puts_one e))

  pub puts_all : {n : ℕ} → length os ≡ n → i ≤ n → n ≤ i → Puts out₀ at (at + n) out os
  puts_all l h k =
      let z : i ≡ length os = omega arith in
      let t : take i os ≡ os = take_all i os (omega arith) in
      rw (← l, ← z) (rw t at p)

  -- the output has no room for those that are left
  past : {n : ℕ} → length os ≡ n → length out₀ ≤ at + i → i ≤ n → Puts out₀ at (at + n) out os
  past l h k =
      let q = rw (length-take-le i os (omega arith), ← p.is, sets_past (drop i os) out (at + i) (rw (puts_kept p) h), take-append-drop i os) at (sets_append (take i os) (drop i os) out₀ at) in
      record { behind = omega arith; is = sym q }

  pub puts_fitting : {n : ℕ} → length os ≡ n → i ≡ min n (length out₀ - at) → Puts out₀ at (at + n) out os
  puts_fitting {n} l e = elim (dec_lt i n) [ yes k ↦ past l (omega arith) (omega arith) | no k ↦ puts_all l (omega arith) (omega arith) ]

-- ---- which octet is the next one

pub pow8 : (k : ℕ) → 256 ^ k ≡ 2 ^ (8 * k)
pow8 zero = refl
pow8 (suc k) = let z : 8 * suc k ≡ 8 * k + 8 = omega arith in rw (pow-suc 256 k, pow8 k, z, pow-add 2 (8 * k) 8)

-- what stands of v above its m lowest octets
pub above : (m v : ℕ) → v / 2 ^ (8 * m) ≡ v / 256 ^ m
above m v = rw (pow8 m)

pub octet_at : (m v i : ℕ) → i < m → v / 2 ^ (8 * (m - 1 - i)) % 256 ≡ get_or (octets m v) i 0
unfolding octets
octet_at zero v i h = absurd (omega arith)
octet_at (suc m) v zero h = let z : suc m - 1 - 0 ≡ m = omega arith in rw (z, pow8 m)
octet_at (suc m) v (suc i) h = let z : suc m - 1 - suc i ≡ m - 1 - i = omega arith in rw z (octet_at m v i (omega arith))

pub part_length : (text : List ℕ) (place size : ℕ) → place + size ≤ length text → length (take size (drop place text)) ≡ size
part_length text place size h = length-take-le size (drop place text) (simp length-drop (omega arith))

pub part_at : (text : List ℕ) (place size i : ℕ) → i < size → get_or text (place + i) 0 ≡ get_or (take size (drop place text)) i 0
part_at text place size i h = rw (get_or-take, get_or-drop)
