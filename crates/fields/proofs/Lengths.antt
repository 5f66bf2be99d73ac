-- What the reading of a length is, from any starting bit: a law for each way out of `Cursor::length`.
-- Assumes nothing.
use Rattle.std.proofs.Common.{◌≡◌, ℕ, ◌+◌, ◌-◌, ◌*◌, ◌^◌, ◌<◌, ◌≤◌, List, [], ◌∷◌, map, length, get_or, refl, arith, pow_pos}
use Rattle.format.specs.Numbers.{lengths, behind_first, from_bits}
use Rattle.format.specs.declared.refusals.Refusal.TheVariants.{Padding}
use Rattle.fields.specs.Fields.{refused, bits_of, behind, Share, share, share_of, field_at}
use Rattle.fields.proofs.Laws.{case, sizes_in, rooms_in}
use Rattle.fields.proofs.Forms.{Ordered, share_is, room_is}
use Rattle.fields.proofs.FirstOctet.{rest_below, code_first, doubled, at_form, at_padding}

abbrev pub length_shares : ℕ → List Share
length_shares bit =
    share (2 ^ (8 - bit)) 0 (2 ^ (8 - bit))
    ∷ share (2 ^ (8 - (bit + 1))) 1 256
    ∷ share (2 ^ (8 - (bit + 1))) 4 4294967296
    ∷ []

pub half : (bit : ℕ) → bit ≤ 7 → (2 ^ (8 - bit) ≡ 2 * 2 ^ (8 - (bit + 1))) × (1 ≤ 2 ^ (8 - (bit + 1)))
half bit u = (doubled (8 - bit) (8 - (bit + 1)) (omega arith), pow_pos (8 - (bit + 1)))

module _ (bit : ℕ) (l : 1 ≤ bit) (u : bit ≤ 7) where
  pub lengths_are : map share_of (lengths bit) ≡ length_shares bit
  unfolding lengths behind_first
  lengths_are =
      rw (
        share_is (0 ∷ []) 0 (8 - bit) 0 (8 - bit) (omega arith) (omega arith) 1,
        share_is (1 ∷ 0 ∷ []) (7 - bit) 8 1 (8 - (bit + 1)) (omega arith) (omega arith) (1 + 2 ^ (8 - bit)),
        share_is (1 ∷ 1 ∷ []) (7 - bit) 32 4 (8 - (bit + 1)) (omega arith) (omega arith) (1 + 2 ^ (8 - bit) + 2 ^ 8),
      )

  pub lengths_ordered : Ordered (lengths bit)
  unfolding lengths behind_first from_bits
  lengths_ordered =
      let q = half bit u in
      let a = room_is (0 ∷ []) 0 (8 - bit) 0 (8 - bit) (omega arith) (omega arith) in
      let b = room_is (1 ∷ 0 ∷ []) (7 - bit) 8 1 (8 - (bit + 1)) (omega arith) (omega arith) in
      let c = room_is (1 ∷ 1 ∷ []) (7 - bit) 32 4 (8 - (bit + 1)) (omega arith) (omega arith) in
      omega arith

module _ (top : ℕ) (s : List ℕ) (at : ℕ) (h : at < length s) (bit : ℕ) (l : 1 ≤ bit) (u : bit ≤ 7) where
  module _ (e : 0 ≡ bits_of (get_or s at 0) (bit + 2) 8) where
    pub length_middle : {low : ℕ} → bits_of (get_or s at 0) bit (bit + 1) ≡ 2 → low ≡ 1 + 2 ^ (8 - bit) → field_at (lengths bit) top bit s at ≡ behind s at 0 1 low 256 top
    unfolding sizes_in rooms_in
    length_middle c n =
        let q = half bit u in
        at_form top s at h bit (bit + 1) 1 (lengths bit) _ _ (lengths_are bit l u) (omega arith) refl (omega arith) c (omega arith) e (omega arith) refl (omega arith)

    pub length_long : {low : ℕ} → (bits_of (get_or s at 0) bit bit ≡ 0 → ⊥) → (bits_of (get_or s at 0) bit (bit + 1) ≡ 2 → ⊥) → low ≡ 257 + 2 ^ (8 - bit)
        → field_at (lengths bit) top bit s at ≡ behind s at 0 4 low 4294967296 top
    unfolding sizes_in rooms_in
    length_long z a n =
        let q = half bit u in
        let f = code_first (get_or s at 0) bit 1 (omega arith) in
        let c : bits_of (get_or s at 0) bit (bit + 1) ≡ 3 = omega arith in
        at_form top s at h bit (bit + 1) 2 (lengths bit) _ _ (lengths_are bit l u) (omega arith) refl (omega arith) c (omega arith) e (omega arith) refl (omega arith)

  pub length_padding : (bits_of (get_or s at 0) bit bit ≡ 0 → ⊥) → (bits_of (get_or s at 0) (bit + 2) 8 ≡ 0 → ⊥) → field_at (lengths bit) top bit s at ≡ refused Padding at
  unfolding sizes_in rooms_in
  length_padding z n =
      let q = half bit u in
      let f = code_first (get_or s at 0) bit 1 (omega arith) in
      let g = rest_below (get_or s at 0) (bit + 1) (bit + 2) _ (omega arith) refl in
      case (bits_of (get_or s at 0) bit (bit + 1)) 3
      (λ m. at_padding top s at h bit (bit + 1) 1 (lengths bit) _ _ (lengths_are bit l u) {code = 2} (omega arith) refl (omega arith) (omega arith) (omega arith) (omega arith) g)
      (λ m. at_padding top s at h bit (bit + 1) 2 (lengths bit) _ _ (lengths_are bit l u) {code = 3} (omega arith) refl (omega arith) (omega arith) (omega arith) (omega arith) g)
