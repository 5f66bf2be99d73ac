-- Two ways to take a list apart at an element: the same place, or one place is before the other.
use mathlib.Core.Path.{◌≡◌, refl, ap}
use mathlib.Core.List.{List, [], ◌∷◌, ◌++◌}
use Prim.Native.Nat.{◌+◌}
use native.Mathlib.Omega.{arith}
use lib.ListN.{length, length-append}

module _ {A : Type 0} where
  pub splits : {X : Type 0} (xs : List A) (x : A) (cs : List A) (ys : List A) (y : A) (bs : List A) → xs ++ (x ∷ cs) ≡ ys ++ (y ∷ bs)
      → (xs ≡ ys → x ≡ y → X) → ((mid : List A) → ys ≡ xs ++ (x ∷ mid) → X) → ((mid : List A) → xs ≡ ys ++ (y ∷ mid) → X) → X
  splits [] x cs [] y bs e same first second = same refl (cc)
  splits [] x cs (z ∷ ys) y bs e same first second = first ys (cc)
  splits (z ∷ xs) x cs [] y bs e same first second = second xs (cc)
  splits (z ∷ xs) x cs (u ∷ ys) y bs e same first second =
      splits xs x cs ys y bs (cc) (λ p q. same (cc) q) (λ mid p. first mid (cc)) (λ mid p. second mid (cc))

  -- at the last element, or before it
  pub splits_last : {X : Type 0} (xs : List A) (x : A) (ys : List A) (y : A) (bs : List A) → xs ++ (x ∷ []) ≡ ys ++ (y ∷ bs)
      → (xs ≡ ys → x ≡ y → X) → ((mid : List A) → xs ≡ ys ++ (y ∷ mid) → X) → X
  splits_last xs x ys y bs e same second =
      splits xs x [] ys y bs e same
      (λ mid p. absurd (let l = ap length e in let a = length-append xs (x ∷ []) in let b = length-append ys (y ∷ bs) in let c = ap length p in let d = length-append xs (x ∷ mid) in omega arith))
      second
