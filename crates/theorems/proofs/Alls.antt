-- What holds of all entries of a list: of one of them, of a part, and with entries more.
use Prim.Native.Nat.{ℕ}
use mathlib.Core.Path.{◌≡◌, refl}
use mathlib.Core.Bool.{Bool, true, false}
use mathlib.Core.Logic.{◌↔◌}
use mathlib.Core.List.{List, [], ◌∷◌, ◌++◌, map}
use Rattle.format.specs.Tables.{Entry, first, later}
use Rattle.format.specs.Allowed.{All}
use Rattle.tables.proofs.Adding.{extended}

module _ {A : Type 0} (P : A → Type 0) where
  all_last : (l : List A) (x : A) → All P l → P x → All P (l ++ (x ∷ []))
  all_last [] x a p = (p, tt)
  all_last (y ∷ l) x a p = (a.0, all_last l x a.1 p)

  pub all_extended : (b : Bool) (l : List A) (x : A) → All P l → (b ≡ true → P x) → All P (extended b l x)
  all_extended true l x a p = all_last l x a (p refl)
  all_extended false l x a p = a

  pub all_entry : {l : List A} {k : ℕ} {x : A} → All P l → Entry l k x → P x
  all_entry a first = a.0
  all_entry a (later e) = all_entry a.1 e

  pub all_both : (l m : List A) → All P l → All P m → All P (l ++ m)
  all_both [] m a b = b
  all_both (x ∷ l) m a b = (a.0, all_both l m a.1 b)

  pub both_all : (l m : List A) → All P (l ++ m) → All P l × All P m
  both_all [] m a = (tt, a)
  both_all (x ∷ l) m a = let b = both_all l m a.1 in ((a.0, b.0), b.1)

  pub all_so : {Q : A → Type 0} → ((x : A) → Q x → P x) → (l : List A) → All Q l → All P l
  all_so f [] a = tt
  all_so f (x ∷ l) a = (f x a.0, all_so f l a.1)

pub all_map : {A B : Type 0} (f : A → B) (P : B → Type 0) (l : List A) → All (λ (x : A). P (f x)) l ↔ All P (map f l)
all_map f P [] = (λ a. tt, λ a. tt)
all_map f P (x ∷ l) = let r = all_map f P l in (λ a. (a.0, r.0 a.1), λ a. (a.0, r.1 a.1))
