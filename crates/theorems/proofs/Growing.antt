-- The tables only grow: what a number or a triple names stays what it is.
use Prim.Native.Nat.{ℕ, ◌≤◌, ◌<◌}
use mathlib.Core.Path.{◌≡◌, refl, sym, ap, ◌∙◌}
use mathlib.Core.Bool.{Bool, true, false}
use mathlib.Core.Option.{Option, some}
use mathlib.Core.List.{List, [], ◌∷◌, ◌++◌}
use native.Mathlib.Omega.{arith}
use borrow.Author.Tests.{eq-eqb, eqb-true}
use lib.Dec.{eqb}
use lib.ListN.{length, length-append}
use Rattle.format.specs.Events.{Name, How}
use Rattle.format.specs.Tables.{StringTable, PREFIX, NAMESPACE_NAME, LOCAL_NAME}
use Rattle.format.specs.Tables.{NameTable, ELEMENT_NAME, ATTRIBUTE_NAME, Triple, Vocabulary, strings, adding, adding_name, Entry, first, later, Behind, nothing, an_entry, Means}
use Rattle.tables.specs.Rows.{table_of, place}
use Rattle.tables.proofs.Found.{clash}
use Rattle.tables.proofs.Adding.{extended, same_names, strings-adding, strings-adding_name}
use Rattle.tables.proofs.ByNumber.{by_table_lem}
use Rattle.theorems.proofs.Effects.{IdDone, id_made, id_used, PartDone, no_part, a_part}

-- ---- one entry more in one table: which it is, and how many entries there are then
place_back : (t : StringTable) → table_of (place t) ≡ t
unfolding table_of place
place_back = by_table_lem _ refl refl refl refl refl refl refl refl

pub same_table : (t u : StringTable) → eqb (place t) (place u) ≡ true → t ≡ u
same_table t u e = sym (place_back t) ∙ ap table_of (eqb-true (place t) (place u) e) ∙ place_back u

pub same_name_table : (t u : NameTable) → same_names t u ≡ true → t ≡ u
unfolding same_names
same_name_table ELEMENT_NAME ELEMENT_NAME e = refl
same_name_table ELEMENT_NAME ATTRIBUTE_NAME e = clash e
same_name_table ATTRIBUTE_NAME ELEMENT_NAME e = clash e
same_name_table ATTRIBUTE_NAME ATTRIBUTE_NAME e = refl

pub extended_few : {A : Type 0} (b : Bool) (m : ℕ) (l : List A) (x : A) → length l ≤ m → (b ≡ true → length l < m) → length (extended b l x) ≤ m
extended_few true m l x h f = let y = length-append l (x ∷ []) in let z = f refl in omega arith
extended_few false m l x h f = h

-- ---- an entry stays, and the one behind the others is there
module _ {A : Type 0} where
  entry_before : {l : List A} {k : ℕ} {x : A} (m : List A) → Entry l k x → Entry (l ++ m) k x
  entry_before m first = first
  entry_before m (later e) = later (entry_before m e)

  entry_last : (l : List A) (x : A) → Entry (l ++ (x ∷ [])) (length l) x
  entry_last [] x = first
  entry_last (y ∷ l) x = later (entry_last l x)

  entry_extended : {l : List A} {k : ℕ} {x : A} (b : Bool) (y : A) → Entry l k x → Entry (extended b l y) k x
  entry_extended true y e = entry_before (y ∷ []) e
  entry_extended false y e = e

-- an entry of v is one of w
pub record Keeps {S : Type 0} (v w : Vocabulary S) : Type 0 where
  pub kept : (t : StringTable) (k : ℕ) (x : S) → Entry (strings v t) k x → Entry (strings w t) k x

module _ {S : Type 0} where
  pub keeps-adding : (v : Vocabulary S) (t : StringTable) (x : S) → Keeps v (adding v t x)
  keeps-adding v t x = record { kept = λ u k y e. rw (strings-adding v t x u) (entry_extended (eqb (place t) (place u)) x e) }

  pub keeps-adding_name : (v : Vocabulary S) (t : NameTable) (x : Triple) → Keeps v (adding_name v t x)
  keeps-adding_name v t x = record { kept = λ u k y e. rw (strings-adding_name v t x u) e }

  behind-kept : {v w : Vocabulary S} {n : ℕ} {x : Option S} → Keeps v w → (t : StringTable) → Behind (strings v t) n x → Behind (strings w t) n x
  behind-kept g t nothing = nothing
  behind-kept g t (an_entry e) = an_entry (g.kept t _ _ e)

  pub means_kept : {v w : Vocabulary S} {x : Triple} {y : Name S} → Keeps v w → Means v x y → Means w x y
  unfolding strings
  means_kept g m = record { prefix = behind-kept g PREFIX m.prefix; namespace = behind-kept g NAMESPACE_NAME m.namespace; local = behind-kept g LOCAL_NAME m.local }

-- ---- what is done with a string
module _ {S : Type 0} {d : S} {Spelt : StringTable → S → Type 0} where
  id_keeps : {t : StringTable} {v : Vocabulary S} {x : S} {h : How} {n : ℕ} {w : Vocabulary S} → IdDone d Spelt t v x h n w → Keeps v w
  id_keeps {t} {v} (id_made {x = x} sp) = keeps-adding v t x
  id_keeps (id_used en) = record { kept = λ t k x e. e }

  part-keeps : {t : StringTable} {v w : Vocabulary S} {x : Option S} {h : Option How} {n : ℕ} → PartDone d Spelt t v x h n w → Keeps v w
  part-keeps no_part = record { kept = λ t k x e. e }
  part-keeps (a_part u) = id_keeps u

  id_behind : {t : StringTable} {v : Vocabulary S} {x : S} {h : How} {n : ℕ} {w : Vocabulary S} → IdDone d Spelt t v x h n w → Behind (strings w t) n (some x)
  id_behind {t} {v} (id_made {x = x} sp) = rw (strings-adding v t x t, eq-eqb (place t) (place t) refl) (an_entry (entry_last (strings v t) x))
  id_behind (id_used en) = an_entry en

  part-behind : {t : StringTable} {v w : Vocabulary S} {x : Option S} {h : Option How} {n : ℕ} → PartDone d Spelt t v x h n w → Behind (strings w t) n x
  part-behind no_part = nothing
  part-behind (a_part u) = id_behind u

  -- the triple of a name in parts names it
  pub parts_mean : {v v₁ v₂ v₃ : Vocabulary S} {p n : Option S} {l : S} {hp hn : Option How} {hl : How} {kp kn kl : ℕ}
      → PartDone d Spelt PREFIX v p hp kp v₁ → PartDone d Spelt NAMESPACE_NAME v₁ n hn kn v₂ → IdDone d Spelt LOCAL_NAME v₂ l hl kl v₃
      → Means v₃ (record { prefix = kp; namespace = kn; local = kl }) (record { prefix = p; namespace = n; local = l })
  unfolding strings
  parts_mean up un ul =
      let g = id_keeps ul in
      record { prefix = behind-kept g PREFIX (behind-kept (part-keeps un) PREFIX (part-behind up)); namespace = behind-kept g NAMESPACE_NAME (part-behind un); local = id_behind ul }
