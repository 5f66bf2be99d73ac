-- The tables when an entry is added: which table is longer then, and that the others stay.
-- Assumes nothing.
use mathlib.Core.Path.{◌≡◌, refl, ap, ◌∙◌}
use mathlib.Core.Bool.{Bool, true, false}
use mathlib.Core.List.{List, [], ◌∷◌, ◌++◌}
use lib.Dec.{eqb}
use Rattle.format.specs.Tables.{StringTable, NameTable, ELEMENT_NAME, ATTRIBUTE_NAME, Tables, strings, names, with_strings, adding, with_names, adding_name}
use Rattle.tables.specs.Rows.{place}
use Rattle.tables.proofs.ByNumber.{by_table_lem}

-- A list with one more entry where the test is true, and as it is where it is false.
abbrev pub extended : {A : Type 0} → Bool → List A → A → List A
extended true l x = l ++ (x ∷ [])
extended false l x = l

unfoldable pub same_names : NameTable → NameTable → Bool
same_names ELEMENT_NAME ELEMENT_NAME = true
same_names ELEMENT_NAME ATTRIBUTE_NAME = false
same_names ATTRIBUTE_NAME ELEMENT_NAME = false
same_names ATTRIBUTE_NAME ATTRIBUTE_NAME = true

module _ {S N : Type 0} (v : Tables S N) where
  -- ---- a string more: each table by its number, for where the number alone is known
  abbrev pub by_place : StringTable → S → Tables S N
  by_place t x =
      with_strings v (extended (eqb (place t) 0) v.prefixes x) (extended (eqb (place t) 1) v.namespaces x) (extended (eqb (place t) 2) v.locals x)
      (extended (eqb (place t) 3) v.ncnames x) (extended (eqb (place t) 4) v.uris x) (extended (eqb (place t) 5) v.values x)
      (extended (eqb (place t) 6) v.chunks x) (extended (eqb (place t) 7) v.others x)

  pub adding_is : (t : StringTable) (x : S) → adding v t x ≡ by_place t x
  unfolding adding place
  adding_is t x = by_table_lem (λ (t : StringTable). adding v t x ≡ by_place t x) refl refl refl refl refl refl refl refl t

  strings_by_place : (t : StringTable) (x : S) (u : StringTable) → strings (by_place t x) u ≡ extended (eqb (place t) (place u)) (strings v u) x
  unfolding strings place
  strings_by_place t x = by_table_lem _ refl refl refl refl refl refl refl refl

  pub strings-adding : (t : StringTable) (x : S) (u : StringTable) → strings (adding v t x) u ≡ extended (eqb (place t) (place u)) (strings v u) x
  strings-adding t x u = ap (λ (w : Tables S N). strings w u) (adding_is t x) ∙ strings_by_place t x u

  pub names-adding : (t : StringTable) (x : S) (u : NameTable) → names (adding v t x) u ≡ names v u
  unfolding names
  names-adding t x ELEMENT_NAME = rw (adding_is t x)
  names-adding t x ATTRIBUTE_NAME = rw (adding_is t x)

  -- ---- a name more
  pub names-adding_name : (t : NameTable) (x : N) (u : NameTable) → names (adding_name v t x) u ≡ extended (same_names t u) (names v u) x
  unfolding names adding_name same_names
  names-adding_name ELEMENT_NAME x ELEMENT_NAME = refl
  names-adding_name ELEMENT_NAME x ATTRIBUTE_NAME = refl
  names-adding_name ATTRIBUTE_NAME x ELEMENT_NAME = refl
  names-adding_name ATTRIBUTE_NAME x ATTRIBUTE_NAME = refl

  strings-with_names : (es ts : List N) (u : StringTable) → strings (with_names v es ts) u ≡ strings v u
  unfolding strings
  strings-with_names es ts = by_table_lem _ refl refl refl refl refl refl refl refl

  pub strings-adding_name : (t : NameTable) (x : N) (u : StringTable) → strings (adding_name v t x) u ≡ strings v u
  unfolding adding_name
  strings-adding_name ELEMENT_NAME x u = strings-with_names (v.elements ++ (x ∷ [])) v.attributes u
  strings-adding_name ATTRIBUTE_NAME x u = strings-with_names v.elements (v.attributes ++ (x ∷ [])) u
