-- An entry of a table, and the element that `get_or` finds at its place.
-- Assumes nothing.
use mathlib.Core.Path.{◌≡◌, refl}
use mathlib.Core.List.{List, [], ◌∷◌}
use Prim.Native.Nat.{ℕ, zero, suc, ◌<◌}
use native.Mathlib.Omega.{arith}
use lib.ListN.{length, get_or}
use Rattle.format.specs.Tables.{Entry, first, later}

module _ {A : Type 0} where
  pub entry_made : {l : List A} {k : ℕ} {x : A} → Entry l k x → k < length l
  entry_made first = omega arith
  entry_made (later e) = let h = entry_made e in omega arith

  pub entry_is : {l : List A} {k : ℕ} {x : A} (d : A) → Entry l k x → get_or l k d ≡ x
  entry_is d first = refl
  entry_is d (later e) = entry_is d e

  pub entry_at : (l : List A) (k : ℕ) (d : A) → k < length l → Entry l k (get_or l k d)
  entry_at [] k d h = absurd (omega arith)
  entry_at (x ∷ l) zero d h = first
  entry_at (x ∷ l) (suc k) d h = later (entry_at l k d (omega arith))
