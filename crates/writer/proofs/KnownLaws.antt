-- Names whose numbers are known: they are written by number and add nothing, they stay known while the tables grow, and a name that was added is known.
-- Assumes nothing.
use mathlib.Core.Path.{◌≡◌, refl, sym, ap, ◌∙◌}
use mathlib.Core.Bool.{Bool, true, false}
use mathlib.Core.Option.{Option, none, some}
use mathlib.Core.List.{List, [], ◌∷◌, ◌++◌, map, map-append, append_assoc, append-nil}
use Prim.Native.Nat.{ℕ, suc, ◌+◌, ◌≤◌, ◌<◌}
use native.Mathlib.Omega.{arith}
use borrow.Author.Tests.{eq-eqb, ne_eqb, eqb-true, eqb-false}
use lib.Dec.{eqb}
use lib.ListN.{length, length-append, length-map}
use Rattle.format.specs.Numbers.{pick, spell, numbers}
use Rattle.format.specs.Events as E
use Rattle.format.specs.Tables.{StringTable, PREFIX, NAMESPACE_NAME, LOCAL_NAME, NameTable, ELEMENT_NAME, Triple, Vocabulary, strings, names, adding, adding_name, link}
use Rattle.format.specs.Strings.{Layout, keeping}
use Rattle.format.specs.Names.{NameLayout, of_element}
use Rattle.format.specs.Items.{State}
use Rattle.tables.specs.Located.{Located, octets_of}
use Rattle.tables.specs.Rows.{place}
use Rattle.tables.specs.Search.{lowest, number_in, number_of_triple}
use Rattle.tables.proofs.Adding.{extended, same_names, strings-adding, names-adding, strings-adding_name, names-adding_name}
use Rattle.tables.proofs.Found.{same_refl, same-triple_refl}
use Rattle.write_names.specs.Choices.{Wrote, write_id, write_optional, write_name, write_literal, write_value, worth_adding}
use Rattle.write_items.specs.Items.{write_item}
use Rattle.writer.specs.LaneContracts.{HasNumber, Known}

-- ---- the lowest number in a list that grows
module _ {A : Type 0} (f : A → Bool) where
  lowest-more : (k : ℕ) (l ys : List A) → 1 ≤ lowest f (suc k) l → lowest f (suc k) (l ++ ys) ≡ lowest f (suc k) l
  unfolding lowest
  lowest-more k [] ys h = absurd (omega arith)
  lowest-more k (y ∷ l) ys h = by (f y) h (lowest-more (suc k) l ys)
    where
      by : (b : Bool) → 1 ≤ pick b (suc k) (lowest f (suc (suc k)) l) → (1 ≤ lowest f (suc (suc k)) l → lowest f (suc (suc k)) (l ++ ys) ≡ lowest f (suc (suc k)) l)
          → pick b (suc k) (lowest f (suc (suc k)) (l ++ ys)) ≡ pick b (suc k) (lowest f (suc (suc k)) l)
      by true h i = refl
      by false h i = i h

  lowest_last : (k : ℕ) (l : List A) (x : A) → f x ≡ true → lowest f (suc k) l ≡ 0 → lowest f (suc k) (l ++ (x ∷ [])) ≡ suc (k + length l)
  unfolding lowest
  lowest_last k [] x p e = rw p (omega arith)
  lowest_last k (y ∷ l) x p e = by (f y) e (lowest_last (suc k) l x p)
    where
      by : (b : Bool) → pick b (suc k) (lowest f (suc (suc k)) l) ≡ 0 → (lowest f (suc (suc k)) l ≡ 0 → lowest f (suc (suc k)) (l ++ (x ∷ [])) ≡ suc (suc k + length l))
          → pick b (suc k) (lowest f (suc (suc k)) (l ++ (x ∷ []))) ≡ suc (k + suc (length l))
      by true e i = absurd (omega arith)
      by false e i = i e ∙ omega arith

-- ---- tables that grow at their ends
pub record Longer {A : Type 0} (l m : List A) : Type 0 where
  pub rest : List A
  pub is : m ≡ l ++ rest

module _ {A : Type 0} where
  longer-same : (l : List A) → Longer l l
  longer-same l = record { rest = []; is = sym (append-nil l) }

  longer_on : {l m n : List A} → Longer l m → Longer m n → Longer l n
  longer_on {l} a b = record { rest = a.rest ++ b.rest; is = b.is ∙ rw a.is (append_assoc l a.rest b.rest) }

  longer_extended : (b : Bool) (l : List A) (x : A) → Longer l (extended b l x)
  longer_extended true l x = record { rest = x ∷ []; is = refl }
  longer_extended false l x = longer-same l

pub record Extends (u v : Vocabulary Located) : Type 0 where
  pub of_strings_lem : (t : StringTable) → Longer (strings u t) (strings v t)
  pub of_names_lem : (t : NameTable) → Longer (names u t) (names v t)

pub extends_same : (v : Vocabulary Located) → Extends v v
extends_same v = record { of_strings_lem = λ t. longer-same (strings v t); of_names_lem = λ t. longer-same (names v t) }

extends_on : {u v w : Vocabulary Located} → Extends u v → Extends v w → Extends u w
extends_on a b = record { of_strings_lem = λ t. longer_on (a.of_strings_lem t) (b.of_strings_lem t); of_names_lem = λ t. longer_on (a.of_names_lem t) (b.of_names_lem t) }

extends_string : (v : Vocabulary Located) (t : StringTable) (x : Located) → Extends v (adding v t x)
extends_string v t x =
    record {
      of_strings_lem = λ u. rw (strings-adding v t x u) (longer_extended (eqb (place t) (place u)) (strings v u) x);
      of_names_lem = λ u. rw (names-adding v t x u) (longer-same (names v u));
    }

extends_triple : (v : Vocabulary Located) (t : NameTable) (x : Triple) → Extends v (adding_name v t x)
extends_triple v t x =
    record {
      of_strings_lem = λ u. rw (strings-adding_name v t x u) (longer-same (strings v u));
      of_names_lem = λ u. rw (names-adding_name v t x u) (longer_extended (same_names t u) (names v u) x);
    }

extends_pick : {H : Type 0} {v : Vocabulary Located} (b : Bool) (p q : Wrote H) → Extends v p.tables → Extends v q.tables → Extends v (pick b p q).tables
extends_pick true p q a b = a
extends_pick false p q a b = b

-- ---- by what is written
module _ (text : List ℕ) (v : Vocabulary Located) where
  extends_id : (t : StringTable) (x : Located) → Extends v (write_id text t v x).tables
  unfolding write_id
  extends_id t x = extends_pick (eqb (number_in (map (octets_of text) (strings v t)) (octets_of text x)) 0) _ _ (extends_string v t x) (extends_same v)

  extends_optional : (t : StringTable) (x : Option Located) → Extends v (write_optional text t v x).tables
  unfolding write_optional
  extends_optional t none = extends_same v
  extends_optional t (some x) = extends_id t x

  extends_keeping : (b : Bool) (t : StringTable) (x : Located) → Extends v (keeping b v t x)
  extends_keeping true t x = extends_string v t x
  extends_keeping false t x = extends_same v

  extends_literal : (q : Layout) (t : StringTable) (x : Located) → Extends v (write_literal link q text t v x).tables
  unfolding write_literal
  extends_literal q t x =
      extends_pick (eqb (number_in (map (octets_of text) (strings v t)) (octets_of text x)) 0) _ _ (extends_keeping (worth_adding link (strings v t) (octets_of text x)) t x) (extends_same v)

  extends_value : (t : StringTable) (x : Located) → Extends v (write_value link text t v x).tables
  unfolding write_value
  extends_value t x = extends_pick (eqb (length (octets_of text x)) 0) _ _ (extends_same v) (extends_literal _ t x)

module _ (text : List ℕ) (v : Vocabulary Located) (x : E.Name Located) where
  abbrev prefixed : Vocabulary Located
  prefixed = (write_optional text PREFIX v x.prefix).tables

  abbrev spaced : Vocabulary Located
  spaced = (write_optional text NAMESPACE_NAME prefixed x.namespace).tables

  abbrev placed : Vocabulary Located
  placed = (write_id text LOCAL_NAME spaced x.local).tables

  abbrev numbers_of : Triple
  numbers_of =
      record {
        prefix = (write_optional text PREFIX v x.prefix).number;
        namespace = (write_optional text NAMESPACE_NAME prefixed x.namespace).number;
        local = (write_id text LOCAL_NAME spaced x.local).number;
      }

  extends_placed : Extends v placed
  extends_placed = extends_on (extends_optional text v PREFIX x.prefix) (extends_on (extends_optional text prefixed NAMESPACE_NAME x.namespace) (extends_id text spaced LOCAL_NAME x.local))

  extends_name : (q : NameLayout) (lead : ℕ) → Extends v (write_name q lead text v x).tables
  unfolding write_name
  extends_name q lead = extends_pick (eqb (number_of_triple (names placed q.table) numbers_of) 0) _ _ (extends_on extends_placed (extends_triple placed q.table numbers_of)) (extends_same v)

pub extends_item : (text : List ℕ) (a : Bool) (v : State Located) (e : E.Event Located) → Extends v.tables (write_item link text a v e).state.tables
unfolding write_item
extends_item text a v (E.Namespace p n) = extends_on (extends_optional text v.tables PREFIX p) (extends_optional text _ NAMESPACE_NAME n)
extends_item text a v (E.Start x) = extends_name text v.tables x _ _
extends_item text a v (E.Attribute x y) = extends_on (extends_name text v.tables x _ 0) (extends_value text _ _ y)
extends_item text a v (E.Text y) = extends_literal text v.tables _ _ y
extends_item text a v (E.Comment y) = extends_value text v.tables _ y
extends_item text a v (E.Instruction x y) = extends_on (extends_id text v.tables _ x) (extends_value text _ _ y)
extends_item text a v E.End = extends_same v.tables

-- ---- what has a number keeps it
module _ (text : List ℕ) (t : StringTable) (u v : Vocabulary Located) (g : Longer (strings u t) (strings v t)) where
  has_kept : (x : Option Located) (k : ℕ) → HasNumber text t u x k → HasNumber text t v x k
  unfolding number_in
  has_kept none k h = h
  has_kept (some x) k h =
      (rw (g.is, map-append (octets_of text) (strings u t) g.rest) (lowest-more _ 0 (map (octets_of text) (strings u t)) (map (octets_of text) g.rest) (rw h.0 h.1) ∙ h.0), h.1)

pub known_kept : {text : List ℕ} {u v : Vocabulary Located} {x : E.Name Located} {k : ℕ} → Extends u v → Known text u x k → Known text v x k
unfolding number_of_triple
known_kept {text} {u} {v} {x} {k} g n =
    record {
      triple = n.triple;
      prefix = has_kept text PREFIX u v (g.of_strings_lem PREFIX) x.prefix n.triple.prefix n.prefix;
      namespace = has_kept text NAMESPACE_NAME u v (g.of_strings_lem NAMESPACE_NAME) x.namespace n.triple.namespace n.namespace;
      local = has_kept text LOCAL_NAME u v (g.of_strings_lem LOCAL_NAME) (some x.local) n.triple.local n.local;
      is = rw (g.of_names_lem ELEMENT_NAME).is (lowest-more _ 0 (names u ELEMENT_NAME) (g.of_names_lem ELEMENT_NAME).rest (rw n.is n.held) ∙ n.is);
      held = n.held;
    }

-- ---- a name that is known is written by its number
module _ (text : List ℕ) (t : StringTable) (v : Vocabulary Located) where
  id_known : (x : Located) (k : ℕ) → HasNumber text t v (some x) k → ((write_id text t v x).number ≡ k) × ((write_id text t v x).tables ≡ v)
  unfolding write_id
  id_known x k h = let l = h.1 in let z : k ≡ 0 → ⊥ = λ e. omega arith in rw (h.0, ne_eqb k 0 z) (refl, refl)

  optional_known : (x : Option Located) (k : ℕ) → HasNumber text t v x k → ((write_optional text t v x).number ≡ k) × ((write_optional text t v x).tables ≡ v)
  unfolding write_optional
  optional_known none k h = (sym h, refl)
  optional_known (some x) k h = id_known x k h

pub known_written : (lead : ℕ) {text : List ℕ} {v : Vocabulary Located} {x : E.Name Located} {k : ℕ} → Known text v x k
    → ((write_name of_element lead text v x).octets ≡ spell (numbers 3) lead k) × ((write_name of_element lead text v x).tables ≡ v)
unfolding write_name of_element
known_written lead {text} {v} {x} {k} n =
    let p = optional_known text PREFIX v x.prefix _ n.prefix in
    let s = optional_known text NAMESPACE_NAME v x.namespace _ n.namespace in
    let l = id_known text LOCAL_NAME v x.local _ n.local in
    let h = n.held in
    let z : k ≡ 0 → ⊥ = λ e. omega arith in
    rw (p.1, p.0, s.1, s.0, l.1, l.0, n.is, ne_eqb k 0 z) (refl, refl)

-- ---- a name that was added is known
number_last : (table : List (List ℕ)) (x : List ℕ) → number_in table x ≡ 0 → number_in (table ++ (x ∷ [])) x ≡ suc (length table)
unfolding number_in
number_last table x e = lowest_last _ 0 table x (same_refl x) e ∙ omega arith

triple_last : (table : List Triple) (x : Triple) → number_of_triple table x ≡ 0 → number_of_triple (table ++ (x ∷ [])) x ≡ length (table ++ (x ∷ []))
unfolding number_of_triple
triple_last table x e = lowest_last _ 0 table x (same-triple_refl x) e ∙ simp length-append (omega arith)

module _ (text : List ℕ) (t : StringTable) (v : Vocabulary Located) where
  has_by : (x : Located) (b : Bool) → eqb (number_in (map (octets_of text) (strings v t)) (octets_of text x)) 0 ≡ b
      → HasNumber text t (write_id text t v x).tables (some x) (write_id text t v x).number
  unfolding write_id
  has_by x true e =
      let l = number_last (map (octets_of text) (strings v t)) (octets_of text x) (eqb-true _ 0 e) ∙ ap suc (length-map (strings v t) (octets_of text)) in
      rw e (rw (strings-adding v t x t, eq-eqb (place t) (place t) refl, map-append (octets_of text) (strings v t) (x ∷ [])) l, omega arith)
  has_by x false e = let z = eqb-false (number_in (map (octets_of text) (strings v t)) (octets_of text x)) 0 e in rw e (refl, omega arith)

  has_id : (x : Located) → HasNumber text t (write_id text t v x).tables (some x) (write_id text t v x).number
  has_id x = has_by x _ refl

  has_optional : (x : Option Located) → HasNumber text t (write_optional text t v x).tables x (write_optional text t v x).number
  unfolding write_optional
  has_optional none = refl
  has_optional (some x) = has_id x

module _ (text : List ℕ) (v : Vocabulary Located) (x : E.Name Located) where
  abbrev entered : Vocabulary Located
  entered = adding_name (placed text v x) ELEMENT_NAME (numbers_of text v x)

  known_entered : number_of_triple (names (placed text v x) ELEMENT_NAME) (numbers_of text v x) ≡ 0 → Known text entered x (length (names entered ELEMENT_NAME))
  unfolding same_names
  known_entered e =
      let added = names-adding_name (placed text v x) ELEMENT_NAME (numbers_of text v x) ELEMENT_NAME in
      let last = extends_triple (placed text v x) ELEMENT_NAME (numbers_of text v x) in
      let local = extends_on (extends_id text (spaced text v x) LOCAL_NAME x.local) last in
      let space = extends_on (extends_optional text (prefixed text v x) NAMESPACE_NAME x.namespace) local in
      record {
        triple = numbers_of text v x;
        prefix = has_kept text PREFIX _ _ (space.of_strings_lem PREFIX) x.prefix _ (has_optional text PREFIX v x.prefix);
        namespace = has_kept text NAMESPACE_NAME _ _ (local.of_strings_lem NAMESPACE_NAME) x.namespace _ (has_optional text NAMESPACE_NAME (prefixed text v x) x.namespace);
        local = has_kept text LOCAL_NAME _ _ (last.of_strings_lem LOCAL_NAME) (some x.local) _ (has_id text LOCAL_NAME (spaced text v x) x.local);
        is = rw added (triple_last (names (placed text v x) ELEMENT_NAME) (numbers_of text v x) e);
        held = rw added (simp length-append (omega arith));
      }

  module _ (lead : ℕ) where
    known_by : (b : Bool) → eqb (number_of_triple (names (placed text v x) ELEMENT_NAME) (numbers_of text v x)) 0 ≡ b
        → length (names v ELEMENT_NAME) < length (names (write_name of_element lead text v x).tables ELEMENT_NAME)
        → Known text (write_name of_element lead text v x).tables x (length (names (write_name of_element lead text v x).tables ELEMENT_NAME))
    unfolding write_name of_element
    known_by true e l = rw e (known_entered (eqb-true _ 0 e))
    known_by false e l = let z = rw e at l in absurd (omega arith)

    pub known_new : length (names v ELEMENT_NAME) < length (names (write_name of_element lead text v x).tables ELEMENT_NAME)
        → Known text (write_name of_element lead text v x).tables x (length (names (write_name of_element lead text v x).tables ELEMENT_NAME))
    known_new l = known_by _ refl l
