-- Octets as one number: the weight of four, and of eight as that of four and four more.
-- Assumes nothing.
use Rattle.std.proofs.Common.{◌≡◌, ℕ, ◌+◌, ◌*◌, ◌≤◌, List, [], ◌∷◌, ◌++◌, length, get_or, take, drop, sym, refl, add-zero, arith, length-drop, length-take, get_or-drop, drop-drop, take-add}
use Rattle.fields.specs.WeightContracts.{weight, Small}

four_of : (l : List ℕ) → 4 ≤ length l → take 4 l ≡ get_or l 0 0 ∷ get_or l 1 0 ∷ get_or l 2 0 ∷ get_or l 3 0 ∷ []
four_of [] h = absurd (omega arith)
four_of (o ∷ []) h = absurd (omega arith)
four_of (o ∷ p ∷ []) h = absurd (omega arith)
four_of (o ∷ p ∷ q ∷ []) h = absurd (omega arith)
four_of (o ∷ p ∷ q ∷ r ∷ l) h = refl

pub four_octets : (x : List ℕ) (at : ℕ) → at + 4 ≤ length x
    → take 4 (drop at x) ≡ get_or x at 0 ∷ get_or x (at + 1) 0 ∷ get_or x (at + 2) 0 ∷ get_or x (at + 3) 0 ∷ []
four_octets x at h =
    rw (four_of (drop at x) (simp length-drop (omega arith)), get_or-drop at x 0 0, get_or-drop at x 1 0, get_or-drop at x 2 0, get_or-drop at x 3 0, add-zero)

weight_append : (l m : List ℕ) → length l ≡ 4 → weight (l ++ m) ≡ weight l + 4294967296 * weight m
unfolding weight
weight_append [] m h = absurd (omega arith)
weight_append (o ∷ []) m h = absurd (omega arith)
weight_append (o ∷ p ∷ []) m h = absurd (omega arith)
weight_append (o ∷ p ∷ q ∷ []) m h = absurd (omega arith)
weight_append (o ∷ p ∷ q ∷ r ∷ []) m h = omega arith
weight_append (o ∷ p ∷ q ∷ r ∷ s ∷ l) m h = absurd (omega arith)

small_append : (l m : List ℕ) → Small l → Small m → Small (l ++ m)
small_append [] m a b = b
small_append (o ∷ l) m a b = (a.0, small_append l m a.1 b)

pub eight_octets : (x : List ℕ) (at u v : ℕ) → at + 8 ≤ length x → (u ≡ weight (take 4 (drop at x))) × Small (take 4 (drop at x))
    → (v ≡ weight (take 4 (drop (at + 4) x))) × Small (take 4 (drop (at + 4) x))
    → (u + 4294967296 * v ≡ weight (take 8 (drop at x))) × Small (take 8 (drop at x))
eight_octets x at u v h e f =
    let n : length (take 4 (drop at x)) ≡ 4 = simp (length-take, length-drop) (omega arith) in
    rw (take-add 4 4 (drop at x), drop-drop 4 at x, e.0, f.0)
    (sym (weight_append _ _ n), small_append (take 4 (drop at x)) (take 4 (drop (at + 4) x)) e.1 f.1)
