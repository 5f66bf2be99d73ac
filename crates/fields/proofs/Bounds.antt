-- What every answer keeps to: an accepted number has its bounds and ends within the octets, a refusal stands at the field.
-- Assumes nothing.
use Rattle.std.proofs.Common.{◌≡◌, ℕ, ◌+◌, ◌-◌, ◌*◌, ◌%◌, ◌^◌, ◌<◌, ◌≤◌, ltb, leb, List, [], ◌∷◌, map, length, get_or, refl, Result, Ok, Err, arith, ltb-true, leb-true}
use Rattle.format.specs.Numbers.{Form}
use Rattle.format.specs.Refusals.{refusal_number}
use Rattle.format.specs.declared.refusals.Fault.{Fault}
use Rattle.fields.specs.declared.Read.{Read}
use Rattle.fields.specs.Fields.{value_from, behind, Share, share, share_of, read_in, field_at}
use Rattle.fields.proofs.Laws.{picks}

module _ (top : ℕ) (s : List ℕ) (at : ℕ) where
  abbrev Kept : ℕ → Result (Read ℕ) Fault → Type 0
  Kept low (Ok x) = (low ≤ x.value) × (x.value ≤ top) × (at < x.next.at) × (x.next.at ≤ length s)
  Kept low (Err f) = (refusal_number f.refusal ≤ 7) × (f.at ≡ at)

  behind-kept : (x more low size : ℕ) → Kept low (behind s at x more low size top)
  unfolding behind
  behind-kept x more low size =
      let v = value_from s (at + 1) x more in
      picks (Kept low) (ltb (at + more) (length s)) _ _
      (λ t. picks (Kept low) (ltb v size) _ _
      (λ u. picks (Kept low) (leb (low + v) top) _ _
      (λ w. let l : at + more < length s = ltb-true _ _ t in (omega arith, leb-true _ _ w, omega arith, omega arith))
      (λ w. (omega arith, refl)))
      (λ u. (omega arith, refl)))
      (λ t. (omega arith, refl))

  lower : (low size : ℕ) (a : Result (Read ℕ) Fault) → Kept (low + size) a → Kept low a
  lower low size (Ok x) k = omega arith
  lower low size (Err f) k = k

  read_kept : (fs : List Share) (low b : ℕ) → Kept low (read_in fs top low s at b)
  unfolding read_in
  read_kept [] low b = (omega arith, refl)
  read_kept (share room more size ∷ fs) low b =
      picks (Kept low) (ltb (b * 256 ^ more) size) _ _ (λ t. behind-kept b more low size)
      (λ t. picks (Kept low) (ltb b room) _ _ (λ u. (omega arith, refl)) (λ u. lower low size (read_in fs top (low + size) s at (b - room)) (read_kept fs (low + size) (b - room))))

  module _ (fs : List Form) (bit : ℕ) where
    field_kept : Kept 1 (field_at fs top bit s at)
    unfolding field_at
    field_kept = picks (Kept 1) (ltb at (length s)) _ _ (λ t. read_kept (map share_of fs) 1 (get_or s at 0 % 2 ^ (9 - bit))) (λ t. (omega arith, refl))

    pub field_got : {x : Read ℕ} → field_at fs top bit s at ≡ Ok x → (1 ≤ x.value) × (x.value ≤ top) × (at < x.next.at) × (x.next.at ≤ length s)
    field_got e = rw e at field_kept

    pub field_refused : {f : Fault} → field_at fs top bit s at ≡ Err f → (refusal_number f.refusal ≤ 7) × (f.at ≡ at)
    field_refused e = rw e at field_kept
