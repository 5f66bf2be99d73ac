-- Annex C's forms and their shares: where the codes and the lowest numbers follow each other, what is spelled by the forms is what is spelled by the shares.
-- Assumes nothing.
use Rattle.std.proofs.Common.{◌≡◌, ℕ, zero, suc, ◌+◌, ◌-◌, ◌*◌, ◌/◌, ◌^◌, ◌<◌, ◌≤◌, List, [], ◌∷◌, map, sym, refl, ap, ◌∙◌, mul_assoc, mul_comm, add_comm, pow-suc, arith, lit<, pow-add, le-ltb, lt-ltb}
use native.Mathlib.Nat.{add-mul-div_right, add-mul-mod_self_right, pow-le-pow_right}
use Rattle.format.specs.Numbers.{Form, form, octets, from_bits, behind_first, following, spell, sizes}
use Rattle.fields.specs.Fields.{Share, share, share_of}
use Rattle.fields.proofs.Laws.{case, pos256, sizes_in, rooms_in, Roomy, spell_in}
use Rattle.fields.proofs.Puts.{pow8}

abbrev pub shares : List Form → List Share
shares fs = map share_of fs

-- how many values of the first octet's bits the forms take
abbrev pub rooms : List Form → ℕ
rooms fs = rooms_in (shares fs)

-- each code is the next of the first octet's values, from `first` on, and each lowest number is the next one, from `low` on
abbrev pub InOrder : ℕ → ℕ → List Form → Type 0
InOrder first low [] = Unit {0}
InOrder first low (form code zeros bits lowest ∷ fs) =
    (lowest ≡ low) × (8 * behind_first code zeros bits ≤ zeros + bits) × (from_bits code * 2 ^ (zeros + bits - 8 * behind_first code zeros bits) ≡ first)
    × InOrder (first + 2 ^ (zeros + bits - 8 * behind_first code zeros bits)) (low + 2 ^ bits) fs

abbrev pub Ordered : List Form → Type 0
Ordered fs = InOrder 0 1 fs

-- ---- one form, of which is known how many octets follow and how many bits behind its code are in the first

module _ (code : List ℕ) (zeros bits m b : ℕ) (e : behind_first code zeros bits ≡ m) (f : zeros + bits ≡ b + 8 * m) where
  pub share_is : (lowest : ℕ) → share_of (form code zeros bits lowest) ≡ share (2 ^ b) m (2 ^ bits)
  unfolding share_of
  share_is lowest = let d : zeros + bits - 8 * m ≡ b = omega arith in rw (e, d)

  -- what `InOrder` says of it
  pub room_is : (8 * behind_first code zeros bits ≤ zeros + bits) × (2 ^ (zeros + bits - 8 * behind_first code zeros bits) ≡ 2 ^ b)
  room_is = let d : zeros + bits - 8 * m ≡ b = omega arith in rw (e, d) (omega arith, refl)

-- ---- all forms

pub sizes_are : (fs : List Form) → sizes fs ≡ sizes_in (shares fs)
unfolding sizes sizes_in share_of
sizes_are [] = refl
sizes_are (form code _ bits low ∷ fs) = ap (λ (n : ℕ). 2 ^ bits + n) (sizes_are fs)

-- behind the code are so many bits of the first octet, and whole octets
all_bits : (n m : ℕ) → 8 * m ≤ n → 2 ^ n ≡ 2 ^ (n - 8 * m) * 256 ^ m
all_bits n m h = let d : n ≡ n - 8 * m + 8 * m = omega arith in ap (λ (k : ℕ). 2 ^ k) d ∙ pow-add 2 (n - 8 * m) (8 * m) ∙ ap (λ (k : ℕ). 2 ^ (n - 8 * m) * k) (sym (pow8 m))

pub ordered_roomy : (fs : List Form) (first low : ℕ) → InOrder first low fs → Roomy (shares fs)
unfolding share_of
ordered_roomy [] first low ok = tt
ordered_roomy (form code zeros bits lowest ∷ fs) first low ok =
    (rw (← all_bits (zeros + bits) (behind_first code zeros bits) ok.1) (pow-le-pow_right {n = 2} (lit< tt) {i = bits} {j = zeros + bits} (omega arith)), ordered_roomy fs _ _ ok.3)

octets_past : (m a x : ℕ) → octets m (x + a * 256 ^ m) ≡ octets m x
unfolding octets
octets_past zero a x = refl
octets_past (suc m) a x =
    let e : a * 256 ^ suc m ≡ a * 256 * 256 ^ m = rw (pow-suc 256 m, mul_comm (256 ^ m) 256, mul_assoc a 256 (256 ^ m)) in
    rw (e, add-mul-div_right x (a * 256) (pos256 m), add-mul-mod_self_right (x / 256 ^ m) a 256, octets_past m (a * 256) x)

-- a code, and v behind it
behind_code_lem : (m a lead v : ℕ) → following lead m (a * 256 ^ m + v) ≡ following (lead + a) m v
behind_code_lem m a lead v =
    let l : lead + (v / 256 ^ m + a) ≡ lead + a + v / 256 ^ m = omega arith in
    rw (add_comm (a * 256 ^ m) v, add-mul-div_right v a (pos256 m), octets_past m a v, l)

spell_from : (fs : List Form) (first low lead v : ℕ) → InOrder first low fs → spell fs lead (low + v) ≡ spell_in (shares fs) (lead + first) v
unfolding spell spell_in share_of
spell_from [] first low lead v ok = refl
spell_from (form code zeros bits lowest ∷ fs) first low lead v ok =
    let m : ℕ = behind_first code zeros bits in
    let room : ℕ = 2 ^ (zeros + bits - 8 * m) in
    let is : lowest ≡ low = ok.0 in
    case v (2 ^ bits)
    (λ y.
    let t : low + v < lowest + 2 ^ bits = omega arith in
    let d : low + v - lowest ≡ v = omega arith in
    let w : from_bits code * 2 ^ (zeros + bits) ≡ first * 256 ^ m = rw (all_bits (zeros + bits) m ok.1, ← mul_assoc (from_bits code) room (256 ^ m), ok.2) in
    rw (lt-ltb _ _ t, lt-ltb _ _ y, d, w) (behind_code_lem m first lead v))
    (λ n.
    let t : lowest + 2 ^ bits ≤ low + v = omega arith in
    let d : low + 2 ^ bits + (v - 2 ^ bits) ≡ low + v = omega arith in
    let l : lead + (first + room) ≡ lead + first + room = omega arith in
    rw (le-ltb _ _ t, le-ltb _ _ n) (rw (d, l) at (spell_from fs (first + room) (low + 2 ^ bits) lead (v - 2 ^ bits) ok.3)))

pub spell_is : (fs : List Form) (lead n : ℕ) → Ordered fs → 1 ≤ n → spell fs lead n ≡ spell_in (shares fs) lead (n - 1)
spell_is fs lead n ok p =
    let m : 1 + (n - 1) ≡ n = omega arith in
    let l : lead + 0 ≡ lead = omega arith in
    rw (m, l) at (spell_from fs 0 1 lead (n - 1) ok)
