-- Whether an element has attributes, record by record: a declaration leaves the question as it is.
-- Assumes nothing.
use mathlib.Core.Path.{◌≡◌, refl, sym, ◌∙◌}
use mathlib.Core.Bool.{Bool, true, false, ◌&&◌}
use mathlib.Core.List.{List, [], ◌∷◌}
use Prim.Native.Nat.{ℕ, zero, suc, ◌+◌}
use native.Mathlib.Numerals.{add-one}
use lib.Dec.{eqb}
use lib.ListN.{drop}
use Rattle.events.specs.declared.Kind.{Kind}
use Rattle.events.specs.declared.Kind.TheVariants.{Blank, Namespace, Start, Attribute, Chunk, Comment, Instruction, End}
use Rattle.events.specs.declared.Event.{Event}
use Rattle.events.specs.Words.{kind_number}
use Rattle.events.specs.FromWords.{begins_with}
use Rattle.tables.proofs.Found.{clash}
use Rattle.write_items.specs.Steps.{attribute_next, announced}

module _ (e : Event) (es : List Event) where
  pub announced_on : e.kind ≡ Namespace → announced (e ∷ es) ≡ announced es
  unfolding announced
  announced_on h = rw h

-- ---- records one by one
drop_suc : {A : Type 0} (n : ℕ) (xs : List A) → drop 1 (drop n xs) ≡ drop (suc n) xs
drop_suc zero xs = refl
drop_suc (suc n) [] = refl
drop_suc (suc n) (x ∷ xs) = drop_suc n xs

-- ---- by the kinds' numbers
declared_kind : (k : Kind) → eqb (kind_number k) 1 ≡ true → k ≡ Namespace
declared_kind Blank h = clash h
declared_kind Namespace h = refl
declared_kind Start h = clash h
declared_kind Attribute h = clash h
declared_kind Chunk h = clash h
declared_kind Comment h = clash h
declared_kind Instruction h = clash h
declared_kind End h = clash h

declared_past : (es : List Event) → begins_with 1 es ≡ true → announced es ≡ announced (drop 1 es)
declared_past [] h = clash h
declared_past (e ∷ es) h = announced_on e es (declared_kind e.kind h)

pub attribute_first : (es : List Event) → attribute_next es ≡ begins_with 3 es
attribute_first [] = refl
attribute_first (e ∷ es) = by e.kind
  where
    by : (k : Kind) → elim k [ Blank ↦ false | Namespace ↦ false | Start ↦ false | Attribute ↦ true | Chunk ↦ false | Comment ↦ false | Instruction ↦ false | End ↦ false ] ≡ eqb (kind_number k) 3
    by Blank = refl
    by Namespace = refl
    by Start = refl
    by Attribute = refl
    by Chunk = refl
    by Comment = refl
    by Instruction = refl
    by End = refl

-- what a kind that is no declaration's says of the records behind it, where an attribute is next there or not
started : (k : Kind) (next on : Bool) → eqb (kind_number k) 1 ≡ false
    → elim k [ Blank ↦ false | Namespace ↦ on | Start ↦ next | Attribute ↦ false | Chunk ↦ false | Comment ↦ false | Instruction ↦ false | End ↦ false ] ≡ (eqb (kind_number k) 2 && next)
started Blank next on h = refl
started Namespace next on h = clash (sym h)
started Start next on h = refl
started Attribute next on h = refl
started Chunk next on h = refl
started Comment next on h = refl
started Instruction next on h = refl
started End next on h = refl

declared_over : (es : List Event) → begins_with 1 es ≡ false → announced es ≡ (begins_with 2 es && begins_with 3 (drop 1 es))
unfolding announced
declared_over [] h = refl
declared_over (e ∷ es) h = rw (← attribute_first es) (started e.kind (attribute_next es) (announced es) h)

module _ (xs : List Event) (n : ℕ) where
  one_more_lem : drop 1 (drop n xs) ≡ drop (n + 1) xs
  one_more_lem = rw (add-one n) (drop_suc n xs)

  pub past_declared : begins_with 1 (drop n xs) ≡ true → announced (drop (n + 1) xs) ≡ announced (drop n xs)
  past_declared h = rw (← one_more_lem) (sym (declared_past (drop n xs) h))

  pub behind_declared : begins_with 1 (drop n xs) ≡ false → {w : Bool} → announced (drop n xs) ≡ w → (begins_with 2 (drop n xs) && begins_with 3 (drop (n + 1) xs)) ≡ w
  behind_declared h q = rw (← one_more_lem) (sym (declared_over (drop n xs) h) ∙ q)
