-- What the reading of a number is, from any starting bit: a law for each way out of `Cursor::longer_number`.
-- Assumes nothing.
use Rattle.std.proofs.Common.{◌≡◌, ℕ, ◌+◌, ◌-◌, ◌*◌, ◌/◌, ◌%◌, ◌^◌, ◌<◌, ◌≤◌, List, [], ◌∷◌, map, length, get_or, take, drop, sym, refl, ◌∙◌, arith, pow_pos, pow-add}
use Rattle.format.specs.Numbers.{numbers, c21, c25, behind_first, from_bits}
use Rattle.format.specs.declared.refusals.Refusal.TheVariants.{Code, Padding}
use Rattle.fields.specs.Fields.{refused, bits_of, behind, Share, share, share_of, field_at}
use Rattle.fields.proofs.Laws.{sizes_in, rooms_in, Roomy}
use Rattle.fields.proofs.Forms.{Ordered, share_is, room_is}
use Rattle.fields.proofs.Cases.{field_code}
use Rattle.fields.proofs.FirstOctet.{split, rest_below, code_first, doubled, at_form, at_padding}

-- how many values stand behind each of the codes 100, 101, 110
abbrev pub behind_code : ℕ → ℕ
behind_code bit = 2 ^ (8 - (bit + 2))

abbrev pub number_shares : ℕ → List Share
number_shares bit =
    share (2 ^ (8 - bit)) 0 (2 ^ (8 - bit))
    ∷ share (behind_code bit) 1 (2 ^ (14 - bit))
    ∷ share (behind_code bit) 2 (2 ^ (22 - bit))
    ∷ share (behind_code bit) 3 (2 ^ 20)
    ∷ []

-- C.21
pub c21_are : map share_of c21 ≡ share 128 0 128 ∷ share 128 2 1048576 ∷ []
unfolding c21 share_of behind_first
c21_are = refl

pub c21_ordered : Ordered c21
unfolding c21 behind_first from_bits
c21_ordered = omega arith

-- after the padding of C.21 the value starts with the octet's last four bits
pub count_rest : (o x : ℕ) → bits_of o 2 4 ≡ 0 → x ≡ bits_of o 5 8 → x ≡ bits_of o 2 8
count_rest o x z e =
    let n : o / 1 ≡ o = omega arith in
    let p : 0 + o % 16 ≡ o % 16 = omega arith in
    e ∙ sym (rw n (rw (z, n) at (split o 2 4 (omega arith) (omega arith)) ∙ p))

-- C.25
pub c25_are : map share_of c25 ≡ share 64 0 64 ∷ share 32 1 8192 ∷ share 16 2 1048576 ∷ []
unfolding c25 share_of behind_first
c25_are = refl

pub c25_ordered : Ordered c25
unfolding c25 behind_first from_bits
c25_ordered = omega arith

octet-more : (n k : ℕ) → n ≡ 8 + k → 2 ^ n ≡ 256 * 2 ^ k
octet-more n k e = rw (e, pow-add 2 8 k)

module _ (bit : ℕ) (u : bit ≤ 6) where
  quarter : 2 ^ (8 - bit) ≡ 4 * behind_code bit
  quarter =
      let a = doubled (8 - bit) (7 - bit) (omega arith) in
      let b = doubled (7 - bit) (8 - (bit + 2)) (omega arith) in
      omega arith

  -- how many values the field's bits of the first octet have, how many of them stand behind each code, and how many one or two octets more make of these
  pub number_values : (2 ^ (9 - bit) ≡ 2 * 2 ^ (8 - bit)) × (2 ^ (8 - bit) ≡ 4 * behind_code bit) × (2 ^ (14 - bit) ≡ 256 * behind_code bit) × (2 ^ (22 - bit) ≡ 256 * 2 ^ (14 - bit)) × (1 ≤ behind_code bit)
  number_values =
      (doubled (9 - bit) (8 - bit) (omega arith), quarter, octet-more (14 - bit) (8 - (bit + 2)) (omega arith), octet-more (22 - bit) (14 - bit) (omega arith), pow_pos (8 - (bit + 2)))

module _ (bit : ℕ) (l : 1 ≤ bit) (u : bit ≤ 6) where
  pub numbers_are : map share_of (numbers bit) ≡ number_shares bit
  unfolding numbers behind_first
  numbers_are =
      rw (
        share_is (0 ∷ []) 0 (8 - bit) 0 (8 - bit) (omega arith) (omega arith) 1,
        share_is (1 ∷ 0 ∷ 0 ∷ []) 0 (14 - bit) 1 (8 - (bit + 2)) (omega arith) (omega arith) (1 + 2 ^ (8 - bit)),
        share_is (1 ∷ 0 ∷ 1 ∷ []) 0 (22 - bit) 2 (8 - (bit + 2)) (omega arith) (omega arith) (1 + 2 ^ (8 - bit) + 2 ^ (14 - bit)),
        share_is (1 ∷ 1 ∷ 0 ∷ []) (10 - bit) 20 3 (8 - (bit + 2)) (omega arith) (omega arith) (1 + 2 ^ (8 - bit) + 2 ^ (14 - bit) + 2 ^ (22 - bit)),
      )

  pub numbers_ordered : Ordered (numbers bit)
  unfolding numbers behind_first from_bits
  numbers_ordered =
      let q = number_values bit u in
      let a = room_is (0 ∷ []) 0 (8 - bit) 0 (8 - bit) (omega arith) (omega arith) in
      let b = room_is (1 ∷ 0 ∷ 0 ∷ []) 0 (14 - bit) 1 (8 - (bit + 2)) (omega arith) (omega arith) in
      let c = room_is (1 ∷ 0 ∷ 1 ∷ []) 0 (22 - bit) 2 (8 - (bit + 2)) (omega arith) (omega arith) in
      let d = room_is (1 ∷ 1 ∷ 0 ∷ []) (10 - bit) 20 3 (8 - (bit + 2)) (omega arith) (omega arith) in
      omega arith

module _ (top : ℕ) (s : List ℕ) (at : ℕ) (h : at < length s) (bit : ℕ) (l : 1 ≤ bit) (u : bit ≤ 6) where
  -- form k, behind a code that leaves all its values to it
  full_form : (k : ℕ) {code x low many more size : ℕ} {ss : List Share} → Roomy (take k (number_shares bit)) → drop k (number_shares bit) ≡ share (behind_code bit) more size ∷ ss
      → rooms_in (take k (number_shares bit)) ≡ code * behind_code bit → bits_of (get_or s at 0) bit (bit + 2) ≡ code → x ≡ bits_of (get_or s at 0) (bit + 3) 8
      → low ≡ 1 + sizes_in (take k (number_shares bit)) → many ≡ size → (x < behind_code bit → x * 256 ^ more < size) → field_at (numbers bit) top bit s at ≡ behind s at x more low many top
  full_form k ok d r c e n m f =
      at_form top s at h bit (bit + 2) k (numbers bit) _ _ (numbers_are bit l u) (omega arith, omega arith, ok) d r c (omega arith) e n m (f (rest_below (get_or s at 0) (bit + 2) (bit + 3) _ (omega arith) e))

  pub number_middle : {x low many : ℕ} → bits_of (get_or s at 0) bit (bit + 2) ≡ 4 → x ≡ bits_of (get_or s at 0) (bit + 3) 8
      → low ≡ 1 + 2 ^ (8 - bit) → many ≡ 2 ^ (14 - bit) → field_at (numbers bit) top bit s at ≡ behind s at x 1 low many top
  unfolding sizes_in rooms_in
  number_middle c e n m = let q = number_values bit u in full_form 1 (omega arith) refl (omega arith) c e (omega arith) m (λ g. omega arith)

  pub number_long : {x low many : ℕ} → bits_of (get_or s at 0) bit (bit + 2) ≡ 5 → x ≡ bits_of (get_or s at 0) (bit + 3) 8
      → low ≡ 1 + 2 ^ (8 - bit) + 2 ^ (14 - bit) → many ≡ 2 ^ (22 - bit) → field_at (numbers bit) top bit s at ≡ behind s at x 2 low many top
  unfolding sizes_in rooms_in
  number_long c e n m = let q = number_values bit u in full_form 2 (omega arith) refl (omega arith) c e (omega arith) m (λ g. omega arith)

  module _ (c : bits_of (get_or s at 0) bit (bit + 2) ≡ 6) where
    pub number-longest : {low : ℕ} → 0 ≡ bits_of (get_or s at 0) (bit + 3) 8 → low ≡ 1 + 2 ^ (8 - bit) + 2 ^ (14 - bit) + 2 ^ (22 - bit)
        → field_at (numbers bit) top bit s at ≡ behind s at 0 3 low 1048576 top
    unfolding sizes_in rooms_in
    number-longest e n =
        let q = number_values bit u in
        at_form top s at h bit (bit + 2) 3 (numbers bit) _ _ (numbers_are bit l u) (omega arith) refl (omega arith) c (omega arith) e (omega arith) refl (omega arith)

    pub number_padding : (bits_of (get_or s at 0) (bit + 3) 8 ≡ 0 → ⊥) → field_at (numbers bit) top bit s at ≡ refused Padding at
    unfolding sizes_in rooms_in
    number_padding n =
        let q = number_values bit u in
        let g = rest_below (get_or s at 0) (bit + 2) (bit + 3) _ (omega arith) refl in
        at_padding top s at h bit (bit + 2) 3 (numbers bit) _ _ (numbers_are bit l u) (omega arith) refl (omega arith) c (omega arith) (omega arith) g

  pub number_code : (bits_of (get_or s at 0) bit bit ≡ 0 → ⊥) → (bits_of (get_or s at 0) bit (bit + 2) ≡ 4 → ⊥) → (bits_of (get_or s at 0) bit (bit + 2) ≡ 5 → ⊥)
      → (bits_of (get_or s at 0) bit (bit + 2) ≡ 6 → ⊥) → field_at (numbers bit) top bit s at ≡ refused Code at
  unfolding sizes_in rooms_in
  number_code z a b c =
      let q = number_values bit u in
      let f = code_first (get_or s at 0) bit 2 (omega arith) in
      let e : bits_of (get_or s at 0) bit (bit + 2) ≡ 7 = omega arith in
      let d = rw e at (split (get_or s at 0) bit (bit + 2) (omega arith) (omega arith)) in
      field_code top bit s at (numbers bit) _ (numbers_are bit l u) h 4 (omega arith) refl (omega arith)
