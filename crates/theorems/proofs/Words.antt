-- Tables by places and tables by octets: the plain form of what is looked up and of what is added.
use mathlib.Core.Path.{◌≡◌, refl, sym, ap, ◌∙◌}
use mathlib.Core.Bool.{Bool, true, false}
use mathlib.Core.Option
use mathlib.Core.Option.{some}
use mathlib.Core.List.{List, [], ◌∷◌, ◌++◌, map}
use Prim.Native.Nat.{ℕ, zero, suc, ◌-◌}
use lib.Dec.{eqb}
use lib.ListN.{length, length-map, get_or-map}
use Rattle.format.specs.Events.{name_map}
use Rattle.format.specs.Numbers.{pick}
use Rattle.format.specs.Tables.{StringTable, NameTable, ELEMENT_NAME, ATTRIBUTE_NAME, Triple, Vocabulary, strings, names, adding, adding_name, vocabulary_map, starting, Entry, first, later, Version}
use Rattle.format.specs.Strings.{keeping}
use Rattle.tables.specs.Rows.{place}
use Rattle.tables.specs.Told.{entries_of}
use Rattle.tables.proofs.Adding.{extended, adding_is}
use Rattle.tables.proofs.ByNumber.{by_table_lem}
use Rattle.read_names.specs.Names.{part_of, name_of}

pub map_append : {A B : Type 0} (f : A → B) (a b : List A) → map f (a ++ b) ≡ map f a ++ map f b
map_append f [] b = refl
map_append f (x ∷ a) b = ap (λ (l : List _). f x ∷ l) (map_append f a b)

module _ {S T : Type 0} (f : S → T) where
  pub strings-map : (v : Vocabulary S) (t : StringTable) → strings (vocabulary_map f v) t ≡ map f (strings v t)
  unfolding strings vocabulary_map
  strings-map v = by_table_lem _ refl refl refl refl refl refl refl refl

  pub length-strings : (v : Vocabulary S) (t : StringTable) → length (strings (vocabulary_map f v) t) ≡ length (strings v t)
  length-strings v t = ap length (strings-map v t) ∙ length-map (strings v t) f

  pub names-map : (v : Vocabulary S) (t : NameTable) → names (vocabulary_map f v) t ≡ names v t
  unfolding names vocabulary_map
  names-map v ELEMENT_NAME = refl
  names-map v ATTRIBUTE_NAME = refl

  extended_map : (t : Bool) (l : List S) (x : S) → map f (extended t l x) ≡ extended t (map f l) (f x)
  extended_map true l x = map_append f l (x ∷ [])
  extended_map false l x = refl

  pub adding-map : (v : Vocabulary S) (t : StringTable) (x : S) → vocabulary_map f (adding v t x) ≡ adding (vocabulary_map f v) t (f x)
  unfolding vocabulary_map
  adding-map v t x =
      rw (adding_is v t x, adding_is (vocabulary_map f v) t (f x))
      (λ i. record {
        prefixes = extended_map (eqb (place t) 0) v.prefixes x i;
        namespaces = extended_map (eqb (place t) 1) v.namespaces x i;
        locals = extended_map (eqb (place t) 2) v.locals x i;
        ncnames = extended_map (eqb (place t) 3) v.ncnames x i;
        uris = extended_map (eqb (place t) 4) v.uris x i;
        values = extended_map (eqb (place t) 5) v.values x i;
        chunks = extended_map (eqb (place t) 6) v.chunks x i;
        others = extended_map (eqb (place t) 7) v.others x i;
        elements = v.elements;
        attributes = v.attributes;
      })

  pub keeping-map : (added : Bool) (v : Vocabulary S) (t : StringTable) (x : S) → vocabulary_map f (keeping added v t x) ≡ keeping added (vocabulary_map f v) t (f x)
  keeping-map true v t x = adding-map v t x
  keeping-map false v t x = refl

  pub adding-name-map : (v : Vocabulary S) (t : NameTable) (x : Triple) → vocabulary_map f (adding_name v t x) ≡ adding_name (vocabulary_map f v) t x
  unfolding vocabulary_map adding_name
  adding-name-map v ELEMENT_NAME x = refl
  adding-name-map v ATTRIBUTE_NAME x = refl

  one_map : (b : Bool) (x : S) → map f (pick b (x ∷ []) []) ≡ pick b (f x ∷ []) []
  one_map true x = refl
  one_map false x = refl

  pub starting-map : (ver : Version) (p n : S) → vocabulary_map f (starting ver p n) ≡ starting ver (f p) (f n)
  unfolding vocabulary_map starting
  starting-map ver p n = rw (one_map ver.built_in p, one_map ver.built_in n)

  -- an entry, a part of a name, a name
  entry_in : {l : List S} {k : ℕ} {x : S} → Entry l k x → Entry (map f l) k (f x)
  entry_in first = first
  entry_in (later e) = later (entry_in e)

  pub entry_map : (v : Vocabulary S) (t : StringTable) {k : ℕ} {x : S} → Entry (strings v t) k x → Entry (strings (vocabulary_map f v) t) k (f x)
  entry_map v t e = rw (strings-map v t) (entry_in e)

  part-map : (l : List S) (d : S) (n : ℕ) → Option.map f (part_of l d n) ≡ part_of (map f l) (f d) n
  part-map l d zero = refl
  part-map l d (suc k) = ap (λ (x : T). some x) (sym (get_or-map f l k d))

  pub name_map_lem : (v : Vocabulary S) (d : S) (x : Triple) → name_map f (name_of v d x) ≡ name_of (vocabulary_map f v) (f d) x
  unfolding name_of vocabulary_map
  name_map_lem v d x =
      λ i. record { prefix = part-map v.prefixes d x.prefix i; namespace = part-map v.namespaces d x.namespace i; local = sym (get_or-map f v.locals (x.local - 1) d) i }

  -- as many entries
  pub entries-map : (v : Vocabulary S) → entries_of (vocabulary_map f v) ≡ entries_of v
  unfolding entries_of vocabulary_map
  entries-map v =
      rw (
        length-map v.prefixes f,
        length-map v.namespaces f,
        length-map v.locals f,
        length-map v.ncnames f,
        length-map v.uris f,
        length-map v.values f,
        length-map v.chunks f,
        length-map v.others f,
      )
