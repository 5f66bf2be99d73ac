-- That a table does not hold a string or a name, by its entries and by the test that reading and writing use.
-- Assumes nothing.
use mathlib.Core.Path.{◌≡◌, refl, sym, ap, ◌∙◌, subst}
use mathlib.Core.Logic.{◌↔◌}
use mathlib.Core.Bool.{Bool, true, false, ◌||◌}
use mathlib.Core.List.{List, [], ◌∷◌}
use Prim.Native.Nat.{ℕ, suc}
use Rattle.format.specs.Octets.{Octets}
use Rattle.format.specs.Tables.{Triple, same, holds, same_triple, holds_name, Entry, first, later, New}
use Rattle.tables.proofs.Found.{same_refl, same_eq, same-triple_refl, same-triple_eq, clash}

or_right : (a b : Bool) → (a || b) ≡ false → b ≡ false
or_right true b e = clash (sym e)
or_right false b e = e

-- for a test that is equality, and the search by it
module _ {A : Type 0} (f : A → A → Bool) (exact : (y x : A) → f y x ≡ true → y ≡ x) (itself : (x : A) → f x x ≡ true) (any : List A → A → Bool) (none : (x : A) → any [] x ≡ false)
    (more : (y : A) (l : List A) (x : A) → any (y ∷ l) x ≡ (f y x || any l x)) where
  no_entry : {l : List A} {x : A} {k : ℕ} → Entry l k x → any l x ≡ false → ⊥
  no_entry {x = x} (first {table = l}) e = clash (sym e ∙ more x l x ∙ ap (λ (b : Bool). b || any l x) (itself x))
  no_entry {x = x} (later {y = y} {table = l} en) e = no_entry en (or_right (f y x) (any l x) (sym (more y l x) ∙ e))

  one_more_lem : (y : A) (l : List A) (x : A) → New (y ∷ l) x → any l x ≡ false → (b : Bool) → f y x ≡ b → (b || any l x) ≡ false
  one_more_lem y l x new h true e = absurd (new 0 (subst (λ (z : A). Entry (y ∷ l) 0 z) (exact y x e) first))
  one_more_lem y l x new h false e = h

  not_held : (l : List A) (x : A) → New l x → any l x ≡ false
  not_held [] x new = none x
  not_held (y ∷ l) x new = more y l x ∙ one_more_lem y l x new (not_held l x (λ k en. new (suc k) (later en))) (f y x) refl

pub new_string : (table : List Octets) (x : Octets) → (holds table x ≡ false) ↔ New table x
unfolding holds
new_string table x = (λ e k en. no_entry same same_eq same_refl holds (λ y. refl) (λ y l z. refl) en e, not_held same same_eq same_refl holds (λ y. refl) (λ y l z. refl) table x)

pub new_name_lem : (table : List Triple) (x : Triple) → (holds_name table x ≡ false) ↔ New table x
unfolding holds_name
new_name_lem table x = (
  λ e k en. no_entry same_triple same-triple_eq same-triple_refl holds_name (λ y. refl) (λ y l z. refl) en e,
  not_held same_triple same-triple_eq same-triple_refl holds_name (λ y. refl) (λ y l z. refl) table x,
)
