-- Two iterators compared octet by octet.
-- Assumes nothing.
use mathlib.Core.Path.{◌≡◌, refl, ap, ◌∙◌}
use mathlib.Core.Bool.{Bool, true, false}
use mathlib.Core.List.{List, [], ◌∷◌, ◌++◌}
use Prim.Native.Nat.{ℕ}
use lib.Dec.{eqb}
use Rattle.std.specs.Prelude.{Option, Some, None, MatchOption, IfSome}
use Rattle.std.specs.List.{AllZip}
use Rattle.std.specs.Iterator.{Yields, YieldsThen, YieldsFirst}
use Rattle.format.specs.Tables.{same}

skip : (xs ys a b : List ℕ) → AllZip (λ x y. eqb x y ≡ true) xs ys → same (xs ++ a) (ys ++ b) ≡ same a b
unfolding same
skip [] [] a b z = refl
skip [] (y ∷ ys) a b z = absurd z
skip (x ∷ xs) [] a b z = absurd z
skip (x ∷ xs) (y ∷ ys) a b z = rw z.0 (skip xs ys a b z.1)

module _ {S : Type 0} (rest : S → List ℕ) where
  yielded : (s t : S) (xs : List ℕ) → Yields (YieldsFirst rest) s xs t → rest s ≡ xs ++ rest t
  yielded s t [] e = ap rest e
  yielded s t (x ∷ xs) e = e.1 ∙ ap (λ (y : List ℕ). x ∷ y) (yielded e.0 t xs e.2)

  last : (s t u v : S) (o p : Option ℕ) (w : Bool) → YieldsFirst rest s o u → YieldsFirst rest t p v
      → MatchOption o (MatchOption p (w ≡ true) (λ _. w ≡ false)) (λ x. (w ≡ false) × IfSome p (λ y. eqb x y ≡ false)) → w ≡ same (rest s) (rest t)
  unfolding same
  last s t u v None None w g h e = rw (g.0, h.0) e
  last s t u v None (Some y) w g h e = rw (g.0, h) e
  last s t u v (Some x) None w g h e = rw (g, h.0) e.0
  last s t u v (Some x) (Some y) w g h e = rw (g, h, e.1) e.0

  pub compared : (s t u v : S) (xs ys : List ℕ) (o p : Option ℕ) (w : Bool) → YieldsThen (YieldsFirst rest) s xs o u → YieldsThen (YieldsFirst rest) t ys p v
      → AllZip (λ x y. eqb x y ≡ true) xs ys → MatchOption o (MatchOption p (w ≡ true) (λ _. w ≡ false)) (λ x. (w ≡ false) × IfSome p (λ y. eqb x y ≡ false)) → w ≡ same (rest s) (rest t)
  compared s t u v xs ys o p w g h z e = rw (yielded s g.0 xs g.1, yielded t h.0 ys h.1, skip xs ys (rest g.0) (rest h.0) z) (last g.0 h.0 u v o p w g.2 h.2 e)
