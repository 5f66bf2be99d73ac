-- Tables in order stay so when an entry is added; they only grow, so a table that has an entry too many keeps it.
-- Assumes nothing.
use mathlib.Core.Path.{◌≡◌, refl, ◌∙◌}
use mathlib.Core.Bool.{Bool, true, false}
use mathlib.Core.Option.{Option, none, some}
use mathlib.Core.List.{List, [], ◌∷◌, map}
use Prim.Native.Nat.{ℕ, zero, suc, ◌+◌, ◌*◌, ◌≤◌, ◌<◌}
use native.Mathlib.Omega.{arith}
use borrow.Author.Tests.{leb-true, le-leb}
use lib.Dec.{eqb}
use lib.ListN.{length, get_or, set, replicate, length-append, length-replicate}
use Rattle.format.specs.Numbers.{pick}
use Rattle.format.specs.Events.{How}
use Rattle.format.specs.Tables.{StringTable, PREFIX, NAMESPACE_NAME, LOCAL_NAME, OTHER_NCNAME, NameTable, ELEMENT_NAME, ATTRIBUTE_NAME, Triple, Vocabulary, strings, names, adding, adding_name, starting, link}
use Rattle.format.specs.Forms.{form_number}
use Rattle.format.specs.declared.StringForm.{StringForm}
use Rattle.tables.specs.Located.{Located, stretch, built_in_prefix, built_in_namespace, octets_of, start}
use Rattle.tables.specs.Search.{number_in}
use Rattle.tables.specs.Counts.{counts_of}
use Rattle.tables.specs.Rows.{table_of, place, string_at, triple_at, entries}
use Rattle.tables.specs.Kept.{name_table_of, listed, unlisted, count_of, Ends, IsSound, AllSound}
use Rattle.tables.proofs.Adding.{extended, adding_is}
use Rattle.tables.proofs.FormLaws.{MayHold}
use Rattle.tables.proofs.Laws.{strings_are_lem, names_are_lem, length-strings, length-names, counted_start, clean_start, all_start, all_string, all_name, vocabulary-start}
use Rattle.tables.proofs.Found.{both_true}
use Rattle.index.specs.Indexed.{slots, StringEntered, NameEntered}
use Rattle.index.proofs.Counted.{indexed_start, count_at, one_more-words}
use Rattle.index.proofs.Ordered.{string_more, ordered_string, name_more, ordered_name}
use Rattle.write_names.specs.Choices.{Wrote, write_id, write_optional, within}
use Rattle.write_names.specs.Promises.{tables_in, Begins, every, InOrder}

-- ---- in order
begins_extended : (b : Bool) (x y : Located) (l : List Located) → Begins x l → Begins x (extended b l y)
begins_extended false x y l h = h
begins_extended true x y [] h = absurd h
begins_extended true x y (z ∷ l) h = h

module _ (text : List ℕ) where
  -- what a writer keeps beside the order: two tables begin with their built-in entry, and each string is one in its form
  abbrev Kept : Vocabulary Located → Type 0
  Kept v = Begins built_in_prefix v.prefixes × Begins built_in_namespace v.namespaces × AllSound text v

  kept_string : (v : Vocabulary Located) (t : StringTable) (x : Located) → Kept v → IsSound text x → Kept (adding v t x)
  kept_string v t x k sound =
      let is = adding_is v t x in (
        rw is (begins_extended (eqb (place t) 0) built_in_prefix x v.prefixes k.0),
        rw is (begins_extended (eqb (place t) 1) built_in_namespace x v.namespaces k.1),
        all_string (IsSound text) v t x k.2 sound,
      )

  kept_name : (v : Vocabulary Located) (t : NameTable) (x : Triple) → Kept v → Kept (adding_name v t x)
  unfolding adding_name
  kept_name v ELEMENT_NAME x k = (k.0, k.1, all_name (IsSound text) v ELEMENT_NAME x k.2)
  kept_name v ATTRIBUTE_NAME x k = (k.0, k.1, all_name (IsSound text) v ATTRIBUTE_NAME x k.2)

-- the entries of a table of strings, and of a table of names, are as many as their count says
module _ (c w : List ℕ) (ten : length c ≡ 10) (t : ℕ) where
  pub entries_are : t < 8 → strings (tables_in c w) (table_of t) ≡ entries (string_at (table_of t) w) (768 * t) (get_or c t 0)
  entries_are small = strings_are_lem (unlisted c) w t small ∙ rw (count_at c ten t)

  pub entries_count : t < 8 → length (strings (tables_in c w) (table_of t)) ≡ get_or c t 0
  entries_count small = length-strings (unlisted c) w t small ∙ count_at c ten t

  pub triples_are : 8 ≤ t → t < 10 → names (tables_in c w) (name_table_of t) ≡ entries (triple_at w) (768 * t) (get_or c t 0)
  triples_are low high = names_are_lem (unlisted c) w t low high ∙ rw (count_at c ten t)

  pub triples_count : 8 ≤ t → t < 10 → length (names (tables_in c w) (name_table_of t)) ≡ get_or c t 0
  triples_count low high = length-names (unlisted c) w t low high ∙ count_at c ten t

pub counted_at : (text c w ix : List ℕ) (t : ℕ) → InOrder text c w ix → get_or c t 0 ≤ 256
counted_at text c w ix t order = let n = count_at c order.ten t in let f = order.counted t in omega arith

module _ (text c w ix : List ℕ) (t : ℕ) (order : InOrder text c w ix) (room : get_or c t 0 < 256) where
  abbrev then_counts : List ℕ
  then_counts = set c t (get_or c t 0 + 1)

  module _ (f : StringForm) (p n : ℕ) (small : t < 8) (may : MayHold t f) (some : 0 < n) (lies : p + n ≤ length text) (sound : IsSound text (stretch f p n)) where
    pub order_string : (v iv : List ℕ) → StringEntered text t (get_or c t 0) (record { a = p; b = n; c = form_number f }) w ix v iv → InOrder text then_counts v iv
    order_string v iv e =
        let more : tables_in then_counts v ≡ adding (tables_in c w) (table_of t) (stretch f p n) = rw e.words (string_more order t room f p n small may some) in
        ordered_string order t room f p n small may some lies v iv e.words
        (e.keeps.still every (count_of (unlisted c)) (count_of (unlisted then_counts)) (one_more-words c order.ten t (omega arith)) order.indexed)
        (rw more (kept_string text (tables_in c w) (table_of t) (stretch f p n) order.more sound))

  module _ (x : Triple) (low : 8 ≤ t) (high : t < 10) where
    pub order_name : (v iv : List ℕ) → NameEntered text t (get_or c t 0) x w ix v iv → InOrder text then_counts v iv
    order_name v iv e =
        let more : tables_in then_counts v ≡ adding_name (tables_in c w) (name_table_of t) x = rw e.words (name_more order t room x low high) in
        ordered_name order t room x low high v iv e.words
        (e.keeps.still every (count_of (unlisted c)) (count_of (unlisted then_counts)) (one_more-words c order.ten t high) order.indexed)
        (rw more (kept_name text (tables_in c w) (name_table_of t) x order.more))

pub order_start : (text ix : List ℕ) → length text ≤ 16384 → ix ≡ replicate slots 0 → InOrder text (listed (counts_of (start link))) (replicate 7680 0) ix
unfolding start starting link counts_of
order_start text ix h zeros =
    let is = vocabulary-start (replicate 7680 0) refl refl in
    record {
      size = h;
      ten = refl;
      room = length-replicate {A = ℕ} 7680 0;
      counted = counted_start;
      clean = clean_start;
      inside = rw is (all_start (Ends text) tt tt);
      more = rw is (refl, refl, all_start (IsSound text) tt tt);
      indexed = indexed_start every text (replicate 7680 0) ix refl refl zeros;
    }

-- ---- growing
pub record Grows (v w : Vocabulary Located) : Type 0 where
  pub prefixes : length v.prefixes ≤ length w.prefixes
  pub namespaces : length v.namespaces ≤ length w.namespaces
  pub locals : length v.locals ≤ length w.locals
  pub ncnames : length v.ncnames ≤ length w.ncnames
  pub elements : length v.elements ≤ length w.elements
  pub attributes : length v.attributes ≤ length w.attributes

pub grows_same : (v : Vocabulary Located) → Grows v v
grows_same v = record { prefixes = omega arith; namespaces = omega arith; locals = omega arith; ncnames = omega arith; elements = omega arith; attributes = omega arith }

pub grows_on : {u v w : Vocabulary Located} → Grows u v → Grows v w → Grows u w
grows_on {u} {v} {w} a b =
    let a₁ = a.prefixes in
    let b₁ = b.prefixes in
    let a₂ = a.namespaces in
    let b₂ = b.namespaces in
    let a₃ = a.locals in
    let b₃ = b.locals in
    let a₄ = a.ncnames in
    let b₄ = b.ncnames in
    let a₅ = a.elements in
    let b₅ = b.elements in
    let a₆ = a.attributes in
    let b₆ = b.attributes in
    record { prefixes = omega arith; namespaces = omega arith; locals = omega arith; ncnames = omega arith; elements = omega arith; attributes = omega arith }

longer : {A : Type 0} (b : Bool) (l : List A) (x : A) → length l ≤ length (extended b l x)
longer true l x = simp length-append (omega arith)
longer false l x = omega arith

grows_string : (v : Vocabulary Located) (t : StringTable) (x : Located) → Grows v (adding v t x)
grows_string v t x =
    rw (adding_is v t x)
    (record {
      prefixes = longer (eqb (place t) 0) v.prefixes x;
      namespaces = longer (eqb (place t) 1) v.namespaces x;
      locals = longer (eqb (place t) 2) v.locals x;
      ncnames = longer (eqb (place t) 3) v.ncnames x;
      elements = omega arith;
      attributes = omega arith;
    })

pub grows_name : (v : Vocabulary Located) (t : NameTable) (x : Triple) → Grows v (adding_name v t x)
unfolding adding_name
grows_name v ELEMENT_NAME x =
    record { prefixes = omega arith; namespaces = omega arith; locals = omega arith; ncnames = omega arith; elements = longer true v.elements x; attributes = omega arith }
grows_name v ATTRIBUTE_NAME x =
    record { prefixes = omega arith; namespaces = omega arith; locals = omega arith; ncnames = omega arith; elements = omega arith; attributes = longer true v.attributes x }

pub grows_id : (text : List ℕ) (t : StringTable) (v : Vocabulary Located) (x : Located) → Grows v (write_id text t v x).tables
unfolding write_id
grows_id text t v x = by (eqb (number_in (map (octets_of text) (strings v t)) (octets_of text x)) 0) _ _ (grows_string v t x) (grows_same v)
  where
    by : (c : Bool) (a b : Wrote How) → Grows v a.tables → Grows v b.tables → Grows v (pick c a b).tables
    by true a b p q = p
    by false a b p q = q

pub grows_optional : (text : List ℕ) (t : StringTable) (v : Vocabulary Located) (x : Option Located) → Grows v (write_optional text t v x).tables
unfolding write_optional
grows_optional text t v none = grows_same v
grows_optional text t v (some x) = grows_id text t v x

-- ---- an entry too many
-- each of the six tables that a writer must not overfill
within-lengths : (v : Vocabulary Located) → within link v ≡ true
    → (length v.prefixes ≤ 256) × (length v.namespaces ≤ 256) × (length v.locals ≤ 256) × (length v.ncnames ≤ 256) × (length v.elements ≤ 256)
    × (length v.attributes ≤ 256)
unfolding within link
within-lengths v e =
    let p = both_true _ _ e in
    let n = both_true _ _ p.1 in
    let l = both_true _ _ n.1 in
    let o = both_true _ _ l.1 in
    let m = both_true _ _ o.1 in
    (leb-true _ _ p.0, leb-true _ _ n.0, leb-true _ _ l.0, leb-true _ _ o.0, leb-true _ _ m.0, leb-true _ _ m.1)

not_within : (v : Vocabulary Located) → (within link v ≡ true → ⊥) → within link v ≡ false
not_within v h = by (within link v) refl
  where
    by : (b : Bool) → within link v ≡ b → within link v ≡ false
    by false q = q
    by true q = absurd (h q)

pub within_grown : {v w : Vocabulary Located} → Grows v w → within link v ≡ false → within link w ≡ false
unfolding within link
within_grown {v} {w} g e =
    not_within w λ q.
    let l = within-lengths w q in
    let g₁ = g.prefixes in
    let g₂ = g.namespaces in
    let g₃ = g.locals in
    let g₄ = g.ncnames in
    let g₅ = g.elements in
    let g₆ = g.attributes in
    let z : true ≡ false = rw (
      le-leb (length v.prefixes) 256 (omega arith),
      le-leb (length v.namespaces) 256 (omega arith),
      le-leb (length v.locals) 256 (omega arith),
      le-leb (length v.ncnames) 256 (omega arith),
      le-leb (length v.elements) 256 (omega arith),
      le-leb (length v.attributes) 256 (omega arith),
    ) at e in
    let y : ◌≡◌ {A = ℕ} 0 1 = cc in
    omega arith

-- tables in order are within
pub within_order : (text c w ix : List ℕ) → InOrder text c w ix → within link (tables_in c w) ≡ true
unfolding within link strings table_of names name_table_of
within_order text c w ix order =
    let l₀ = entries_count c w order.ten 0 (omega arith) in
    let l₁ = entries_count c w order.ten 1 (omega arith) in
    let l₂ = entries_count c w order.ten 2 (omega arith) in
    let l₃ = entries_count c w order.ten 3 (omega arith) in
    let l₈ = triples_count c w order.ten 8 (omega arith) (omega arith) in
    let l₉ = triples_count c w order.ten 9 (omega arith) (omega arith) in
    let c₀ = counted_at text c w ix 0 order in
    let c₁ = counted_at text c w ix 1 order in
    let c₂ = counted_at text c w ix 2 order in
    let c₃ = counted_at text c w ix 3 order in
    let c₈ = counted_at text c w ix 8 order in
    let c₉ = counted_at text c w ix 9 order in
    rw (
      le-leb (length (tables_in c w).prefixes) 256 (omega arith),
      le-leb (length (tables_in c w).namespaces) 256 (omega arith),
      le-leb (length (tables_in c w).locals) 256 (omega arith),
      le-leb (length (tables_in c w).ncnames) 256 (omega arith),
      le-leb (length (tables_in c w).elements) 256 (omega arith),
      le-leb (length (tables_in c w).attributes) 256 (omega arith),
    )

-- an entry behind 256 others
module _ (v : Vocabulary Located) where
  pub full_string : (t : ℕ) (x : Located) → t < 4 → 256 ≤ length (strings v (table_of t)) → within link (adding v (table_of t) x) ≡ false
  unfolding adding strings table_of
  full_string zero x h f = not_within (adding v PREFIX x) λ q. let l = within-lengths (adding v PREFIX x) q in let n = length-append v.prefixes (x ∷ []) in omega arith
  full_string (suc zero) x h f =
      not_within (adding v NAMESPACE_NAME x) λ q. let l = within-lengths (adding v NAMESPACE_NAME x) q in let n = length-append v.namespaces (x ∷ []) in omega arith
  full_string (suc (suc zero)) x h f =
      not_within (adding v LOCAL_NAME x) λ q. let l = within-lengths (adding v LOCAL_NAME x) q in let n = length-append v.locals (x ∷ []) in omega arith
  full_string (suc (suc (suc zero))) x h f =
      not_within (adding v OTHER_NCNAME x) λ q. let l = within-lengths (adding v OTHER_NCNAME x) q in let n = length-append v.ncnames (x ∷ []) in omega arith
  full_string (suc (suc (suc (suc t)))) x h f = absurd (omega arith)

  pub full_name : (t : NameTable) (x : Triple) → 256 ≤ length (names v t) → within link (adding_name v t x) ≡ false
  unfolding adding_name names
  full_name ELEMENT_NAME x f =
      not_within (adding_name v ELEMENT_NAME x) λ q. let l = within-lengths (adding_name v ELEMENT_NAME x) q in let n = length-append v.elements (x ∷ []) in omega arith
  full_name ATTRIBUTE_NAME x f =
      not_within (adding_name v ATTRIBUTE_NAME x) λ q. let l = within-lengths (adding_name v ATTRIBUTE_NAME x) q in let n = length-append v.attributes (x ∷ []) in omega arith
