-- A law for each way out of the functions that write names and namespace declarations, on plain values.
-- Assumes nothing.
use mathlib.Core.Path.{◌≡◌, refl, sym, ap, ◌∙◌}
use mathlib.Core.Bool.{Bool, true, false}
use mathlib.Core.Option.{Option, none, some}
use mathlib.Core.List.{List, ◌++◌, map, append_assoc}
use Rattle.std.specs.Prelude.{Result, Ok, Err}
use Prim.Native.Nat.{ℕ, suc, ◌+◌, ◌*◌, ◌≤◌, ◌<◌}
use native.Mathlib.Omega.{arith}
use borrow.Author.Tests.{eq-eqb, ne_eqb}
use lib.Dec.{eqb}
use lib.ListN.{length, get_or, set}
use Rattle.format.specs.Numbers.{pick, spell}
use Rattle.format.specs.Events.{Name, How, Choice}
use Rattle.format.specs.Tables.{StringTable, PREFIX, NAMESPACE_NAME, LOCAL_NAME, NameTable, ELEMENT_NAME, ATTRIBUTE_NAME, Triple, Vocabulary, strings, names, adding, adding_name, link}
use Rattle.format.specs.Names.{has, NameLayout, of_element, of_attribute}
use Rattle.format.specs.declared.refusals.Refusal.{Refusal}
use Rattle.fields.specs.PutContracts.{Puts}
use Rattle.fields.proofs.Puts.{puts_append, puts_octet}
use Rattle.tables.specs.declared.Row.{Row}
use Rattle.tables.specs.Located.{Located, octets_of}
use Rattle.tables.specs.Search.{number_in, number_of_triple}
use Rattle.tables.specs.Rows.{table_of, triple_at, entries}
use Rattle.tables.specs.Kept.{name_table_of, layout_of, triple_of}
use Rattle.tables.proofs.Adding.{names-adding}
use Rattle.tables.proofs.Laws.{name_number-within}
use Rattle.index.specs.Indexed.{slots, NamesIndexed}
use Rattle.index.proofs.Ordered.{name_more}
use Rattle.index.proofs.Counted.{count_at}
use Rattle.events.specs.declared.EventString.{EventString}
use Rattle.events.specs.declared.EventString.TheVariants.{Absent, Empty, Stretch, XmlPrefix, XmlNamespace}
use Rattle.events.specs.Records.{located_of, optional_of}
use Rattle.events.specs.Words.{string_tag}
use Rattle.write_names.specs.declared.Sought.{Sought}
use Rattle.write_names.specs.declared.naming.Numbers.{Numbers}
use Rattle.write_names.specs.declared.QualifiedName.{QualifiedName}
use Rattle.write_names.specs.Choices.{Wrote, write_id, write_optional, write_name, within}
use Rattle.write_names.specs.Promises.{string_most, pair_most, name_most, tables_in, InOrder, held_as, Looked, named_of, Held, number_then, triple_for, name_held_as, Proper, New, Tripled, pair_behind, declared_by, Stands, Meets}
use Rattle.write_names.proofs.Order.{entries_count, triples_are, triples_count, counted_at, order_name, grows_on, grows_id, grows_optional, grows_name, within_grown, full_name}
use Rattle.write_names.proofs.Stretches.{tagged}
use Rattle.write_names.proofs.StringLaws.{held_is, stands_put}

-- ---- a string's number once it is written
module _ (n : ℕ) (x : EventString) (k : ℕ) where
  pub then_held : (k ≡ 0 → ⊥) → k ≡ number_then n x k
  unfolding number_then
  then_held h = rw (ne_eqb k 0 h)

  pub then_absent : k ≡ 0 → string_tag x ≡ 0 → 0 ≡ number_then n x k
  unfolding number_then
  then_absent z e = rw (z, eq-eqb (string_tag x) 0 e)

  pub then_next : k ≡ 0 → (string_tag x ≡ 0 → ⊥) → n + 1 ≡ number_then n x k
  unfolding number_then
  then_next z e = rw (z, ne_eqb (string_tag x) 0 e) (omega arith)

id_number : (text : List ℕ) (t : StringTable) (v : Vocabulary Located) (x : Located) (k : ℕ) → k ≡ number_in (map (octets_of text) (strings v t)) (octets_of text x)
    → (write_id text t v x).number ≡ pick (eqb k 0) (suc (length (strings v t))) k
unfolding write_id
id_number text t v x k e = rw (← e) (by (eqb k 0) _ _)
  where
    by : (b : Bool) (p q : Wrote How) → (pick b p q).number ≡ pick b p.number q.number
    by true p q = refl
    by false p q = refl

module _ (text : List ℕ) (t : StringTable) (v : Vocabulary Located) (x : EventString) (n k : ℕ) (size : length (strings v t) ≡ n) (held : k ≡ held_as text t v x) where
  then_id : 1 ≤ string_tag x → number_then n x k ≡ (write_id text t v (located_of x)).number
  unfolding number_then
  then_id h =
      let z : string_tag x ≡ 0 → ⊥ = omega arith in
      rw (ne_eqb (string_tag x) 0 z, id_number text t v (located_of x) k (held ∙ held_is text t v x h), size)

then_optional : (text : List ℕ) (t : StringTable) (v : Vocabulary Located) (x : EventString) (n k : ℕ) → length (strings v t) ≡ n → k ≡ held_as text t v x
    → number_then n x k ≡ (write_optional text t v (optional_of x)).number
unfolding write_optional number_then held_as
then_optional text t v Absent n k size held = rw held
then_optional text t v Empty n k size held = then_id text t v Empty n k size held (omega arith)
then_optional text t v (Stretch f p m) n k size held = then_id text t v (Stretch f p m) n k size held (tagged (Stretch f p m) f p m refl)
then_optional text t v XmlPrefix n k size held = then_id text t v XmlPrefix n k size held (omega arith)
then_optional text t v XmlNamespace n k size held = then_id text t v XmlNamespace n k size held (omega arith)

-- ---- a string leaves the other tables as they are
module _ {A : Type 0} (f : Vocabulary Located → A) (text : List ℕ) (t : StringTable) (v : Vocabulary Located) (keeps : (x : Located) → f (adding v t x) ≡ f v) where
  id_keeps : (x : Located) → f (write_id text t v x).tables ≡ f v
  unfolding write_id
  id_keeps x = by (eqb (number_in (map (octets_of text) (strings v t)) (octets_of text x)) 0) _ _ (keeps x) refl
    where
      by : (b : Bool) (p q : Wrote How) → f p.tables ≡ f v → f q.tables ≡ f v → f (pick b p q).tables ≡ f v
      by true p q a b = a
      by false p q a b = b

  optional_keeps : (x : Option Located) → f (write_optional text t v x).tables ≡ f v
  unfolding write_optional
  optional_keeps none = refl
  optional_keeps (some x) = id_keeps x

held_by_lem : (text : List ℕ) (t : StringTable) (u v : Vocabulary Located) (x : EventString) → strings u t ≡ strings v t → held_as text t u x ≡ held_as text t v x
unfolding held_as
held_by_lem text t u v Absent e = refl
held_by_lem text t u v Empty e = rw e
held_by_lem text t u v (Stretch f p n) e = rw e
held_by_lem text t u v XmlPrefix e = rw e
held_by_lem text t u v XmlNamespace e = rw e

module _ (text : List ℕ) (v : Vocabulary Located) where
  namespaces_kept : (p : Option Located) → strings (write_optional text PREFIX v p).tables NAMESPACE_NAME ≡ strings v NAMESPACE_NAME
  unfolding adding strings
  namespaces_kept = optional_keeps (λ (u : Vocabulary Located). strings u NAMESPACE_NAME) text PREFIX v (λ x. refl)

  locals_kept : (p n : Option Located) → strings (write_optional text NAMESPACE_NAME (write_optional text PREFIX v p).tables n).tables LOCAL_NAME ≡ strings v LOCAL_NAME
  unfolding adding strings
  locals_kept p n =
      optional_keeps (λ (u : Vocabulary Located). strings u LOCAL_NAME) text NAMESPACE_NAME (write_optional text PREFIX v p).tables (λ x. refl) n
      ∙ optional_keeps (λ (u : Vocabulary Located). strings u LOCAL_NAME) text PREFIX v (λ x. refl) p

pub names-kept : (text : List ℕ) (v : Vocabulary Located) (q : NameTable) (p n : Option Located) (l : Located)
    → names (write_id text LOCAL_NAME (write_optional text NAMESPACE_NAME (write_optional text PREFIX v p).tables n).tables l).tables q ≡ names v q
names-kept text v q p n l =
    id_keeps (λ (u : Vocabulary Located). names u q) text LOCAL_NAME (write_optional text NAMESPACE_NAME (write_optional text PREFIX v p).tables n).tables (λ x. names-adding _ _ x q) l
    ∙ optional_keeps (λ (u : Vocabulary Located). names u q) text NAMESPACE_NAME (write_optional text PREFIX v p).tables (λ x. names-adding _ _ x q) n
    ∙ optional_keeps (λ (u : Vocabulary Located). names u q) text PREFIX v (λ x. names-adding _ _ x q) p

-- ---- a name's number
layout_table : (t : ℕ) → (layout_of t).table ≡ name_table_of t
unfolding layout_of name_table_of of_element of_attribute
layout_table t = by (eqb t 8)
  where
    by : (b : Bool) → (pick b of_element of_attribute).table ≡ pick b ELEMENT_NAME ATTRIBUTE_NAME
    by true = refl
    by false = refl

module _ (text c w ix : List ℕ) (order : InOrder text c w ix) (x : QualifiedName) (k : Row) (held : Held text (tables_in c w) x k) (is : 1 ≤ string_tag x.local) {a b d : ℕ}
    (prefix : a ≡ number_then (get_or c 0 0) x.prefix k.a) (namespace : b ≡ number_then (get_or c 1 0) x.namespace k.b) (local : d ≡ number_then (get_or c 2 0) x.local k.c) where
  triple_is : record { prefix = a; namespace = b; local = d } ≡ triple_for text (tables_in c w) (named_of x)
  unfolding triple_for table_of
  triple_is =
      let v = tables_in c w in
      let v₁ = (write_optional text PREFIX v (optional_of x.prefix)).tables in
      let v₂ = (write_optional text NAMESPACE_NAME v₁ (optional_of x.namespace)).tables in
      let k₁ = namespaces_kept text v (optional_of x.prefix) in
      let k₂ = locals_kept text v (optional_of x.prefix) (optional_of x.namespace) in
      let n₀ = entries_count c w order.ten 0 (omega arith) in
      let n₁ = entries_count c w order.ten 1 (omega arith) in
      let n₂ = entries_count c w order.ten 2 (omega arith) in
      let p = then_optional text PREFIX v x.prefix _ _ n₀ held.prefix in
      let n = then_optional text NAMESPACE_NAME v₁ x.namespace _ _ (ap length k₁ ∙ n₁) (held.namespace ∙ sym (held_by_lem text NAMESPACE_NAME v₁ v x.namespace k₁)) in
      let l = then_id text LOCAL_NAME v₂ x.local _ _ (ap length k₂ ∙ n₂) (held.local ∙ sym (held_by_lem text LOCAL_NAME v₂ v x.local k₂)) is in
      rw (prefix, namespace, local, p, n, l)

-- what `find_name` asks
pub names_ready : (text c w ix : List ℕ) (t : ℕ) → InOrder text c w ix → 8 ≤ t → t < 10
    → (length w ≡ 7680) × (length ix ≡ slots) × (t < 10) × (get_or c t 0 ≤ 256) × NamesIndexed w ix t (get_or c t 0)
names_ready text c w ix t order low high =
    let k = count_at c order.ten t in
    let indexed = order.indexed.of_names t low high refl in
    (order.room, order.indexed.size, high, counted_at text c w ix t order, rw k at indexed)

-- what is found of a name: its strings' numbers, those that they have then, and its own
module _ (text c w ix : List ℕ) (order : InOrder text c w ix) (x : QualifiedName) (proper : Proper text x) {k₁ k₂ k₃ a b d n : ℕ}
    (p₁ : (k₁ ≡ held_as text (table_of 0) (tables_in c w) x.prefix) × (k₁ ≤ 256)) (p₂ : (k₂ ≡ held_as text (table_of 1) (tables_in c w) x.namespace) × (k₂ ≤ 256))
    (p₃ : (k₃ ≡ held_as text (table_of 2) (tables_in c w) x.local) × (k₃ ≤ 256)) (q₁ : a ≡ number_then (get_or c 0 0) x.prefix k₁) (q₂ : b ≡ number_then (get_or c 1 0) x.namespace k₂)
    (q₃ : d ≡ number_then (get_or c 2 0) x.local k₃)
    (found : n ≡ number_of_triple (entries (triple_at w) (768 * x.table) (get_or c x.table 0)) (record { prefix = a; namespace = b; local = d })) where
  strings-found : Held text (tables_in c w) x (record { a = k₁; b = k₂; c = k₃ })
  unfolding table_of
  strings-found = record { prefix = p₁.0; namespace = p₂.0; local = p₃.0; few = (p₁.1, p₂.1, p₃.1) }

  triple-found : record { prefix = a; namespace = b; local = d } ≡ triple_for text (tables_in c w) (named_of x)
  triple-found = triple_is text c w ix order x _ strings-found proper.6 q₁ q₂ q₃

  pub name_found : n ≡ name_held_as (layout_of x.table) text (tables_in c w) (named_of x)
  unfolding name_held_as
  name_found = rw (layout_table x.table, triples_are c w order.ten x.table proper.0 proper.1, ← triple-found) found

  pub name_few : n ≤ 256
  name_few =
      let y : Triple = record { prefix = a; namespace = b; local = d } in
      let q : n ≡ number_of_triple (names (tables_in c w) (name_table_of x.table)) y = rw (triples_are c w order.ten x.table proper.0 proper.1) found in
      let l = name_number-within (names (tables_in c w) (name_table_of x.table)) y in
      let f = triples_count c w order.ten x.table proper.0 proper.1 in
      let g = counted_at text c w ix x.table order in
      omega arith

  pub name_new : n ≡ 0 → New text (tables_in c w) x (record { found = record { a = k₁; b = k₂; c = k₃ }; then = record { a = a; b = b; c = d } })
  name_new z = record { held = strings-found; is = triple-found; new = sym z ∙ name_found }

-- ---- what a name is written as
module _ (q : NameLayout) (lead : ℕ) (text : List ℕ) (v : Vocabulary Located) (x : Name Located) where
  number_is : number_of_triple (names (write_id text LOCAL_NAME (write_optional text NAMESPACE_NAME (write_optional text PREFIX v x.prefix).tables x.namespace).tables x.local).tables q.table)
      (triple_for text v x)
      ≡ name_held_as q text v x
  unfolding name_held_as
  number_is = rw (names-kept text v q.table x.prefix x.namespace x.local)

  module _ (k : ℕ) (is : k ≡ name_held_as q text v x) (n : k ≡ 0 → ⊥) where
    numbered-octets : (write_name q lead text v x).octets ≡ spell q.number_forms lead k
    unfolding write_name triple_for
    numbered-octets = let z = number_is in rw (z, ← is, ne_eqb k 0 n)

    numbered-words : (write_name q lead text v x).tables ≡ v
    unfolding write_name triple_for
    numbered-words = let z = number_is in rw (z, ← is, ne_eqb k 0 n)

  module _ (new : 0 ≡ name_held_as q text v x) (b : ℕ) where
    parts-octets : b ≡ lead + q.in_parts_bits + 2 * has x.prefix + has x.namespace
        → (write_name q lead text v x).octets
        ≡ (pair_behind b text v x.prefix x.namespace).octets ++ (write_id text LOCAL_NAME (pair_behind b text v x.prefix x.namespace).tables x.local).octets
    unfolding write_name pair_behind triple_for
    parts-octets e = let z = number_is in rw (z, ← new, e, append_assoc)

    parts-words : (write_name q lead text v x).tables ≡ adding_name (write_id text LOCAL_NAME (pair_behind b text v x.prefix x.namespace).tables x.local).tables q.table (triple_for text v x)
    unfolding write_name pair_behind triple_for
    parts-words = let z = number_is in rw (z, ← new)

pub name_numbered : (text c w ix : List ℕ) (order : InOrder text c w ix) (x : QualifiedName) (n : ℕ) → n ≡ name_held_as (layout_of x.table) text (tables_in c w) (named_of x) → (n ≡ 0 → ⊥)
    → {out out' : List ℕ} {at r : ℕ} → Puts out at r out' (spell (layout_of x.table).number_forms x.lead n) × (r ≤ at + 4)
    → Stands text out at name_most r out' c w ix (write_name (layout_of x.table) x.lead text (tables_in c w) (named_of x))
name_numbered text c w ix order x n is ne p =
    let o = numbered-octets (layout_of x.table) x.lead text (tables_in c w) (named_of x) n is ne in
    let v = numbered-words (layout_of x.table) x.lead text (tables_in c w) (named_of x) n is ne in
    stands_put text c w ix order _ (rw o p.0) (let l = p.1 in omega arith) (sym v)

-- ---- a prefix and a namespace behind an octet
module _ (text : List ℕ) (v : Vocabulary Located) (b : ℕ) (p n : Option Located) where
  pub pair_full : within link (write_optional text (table_of 0) v p).tables ≡ false → within link (pair_behind b text v p n).tables ≡ false
  unfolding pair_behind table_of
  pair_full e = within_grown (grows_optional text NAMESPACE_NAME _ n) e

  pub pair-behind : (out : List ℕ) (at h : ℕ) {out₁ out₂ c₁ w₁ i₁ : List ℕ} → out₁ ≡ set out at b → Stands text out₁ (at + 1) string_most h out₂ c₁ w₁ i₁ (write_optional text (table_of 0) v p)
      → (r : Result ℕ Refusal) (out₃ c₂ w₂ i₂ : List ℕ) → Meets text out₂ h string_most r out₃ c₂ w₂ i₂ (write_optional text (table_of 1) (tables_in c₁ w₁) n)
      → Meets text out at pair_most r out₃ c₂ w₂ i₂ (pair_behind b text v p n)
  unfolding pair_behind table_of
  pair-behind out at h e s (Err f) out₃ c₂ w₂ i₂ m = rw s.tables at m
  pair-behind out at h e s (Ok r) out₃ c₂ w₂ i₂ m =
      let f = s.few in
      let g = m.few in
      let q = rw s.tables at m in
      record { puts = puts_octet e (puts_append s.puts q.puts); few = omega arith; tables = q.tables; order = q.order }

-- the namespace's number is the same once the prefix is written
pair_held : (text c w : List ℕ) (v : Vocabulary Located) (p : Option Located) (n : EventString) (k : ℕ) → tables_in c w ≡ (write_optional text (table_of 0) v p).tables
    → k ≡ held_as text (table_of 1) v n → k ≡ held_as text (table_of 1) (tables_in c w) n
unfolding table_of
pair_held text c w v p n k is held = rw is (held ∙ sym (held_by_lem text NAMESPACE_NAME (write_optional text PREFIX v p).tables v n (namespaces_kept text v p)))

pub pair_looked : (text c w ix : List ℕ) → InOrder text c w ix → (c₁ w₁ i₁ : List ℕ) → InOrder text c₁ w₁ i₁ → (p : Option Located) (x : Sought) → x.table ≡ 1 → tables_in c₁ w₁ ≡ (write_optional text (table_of 0) (tables_in c w) p).tables → Looked text c w x
    → Looked text c₁ w₁ x
pair_looked text c w ix order c₁ w₁ i₁ order₁ p x e is (small, suits, held, few) =
    let k : x.number ≡ held_as text (table_of 1) (tables_in c w) x.string = rw e at held in
    (small, suits, rw e (pair_held text c₁ w₁ (tables_in c w) p x.string x.number is k), few)

pub declared_is : (text : List ℕ) (v : Vocabulary Located) (p n : Option Located) {a b : ℕ} → a ≡ has p → b ≡ has n → declared_by text v p n ≡ pair_behind (0xCC + 2 * a + b) text v p n
unfolding declared_by
declared_is text v p n a b = rw (a, b)

-- ---- a name in parts, that its table does not hold; b is its first octet
abbrev begun : ℕ → List ℕ → Vocabulary Located → QualifiedName → Wrote Choice
begun b text v x = pair_behind b text v (optional_of x.prefix) (optional_of x.namespace)

pub local_held : (text c w ix : List ℕ) → InOrder text c w ix → (v : Vocabulary Located) (b : ℕ) (p n : Option Located) (l : EventString) (k : ℕ) → tables_in c w ≡ (pair_behind b text v p n).tables
    → k ≡ held_as text LOCAL_NAME v l → k ≡ held_as text (table_of 2) (tables_in c w) l
unfolding table_of pair_behind
local_held text c w ix order v b p n l k is held =
    rw is (held ∙ sym (held_by_lem text LOCAL_NAME (write_optional text NAMESPACE_NAME (write_optional text PREFIX v p).tables n).tables v l (locals_kept text v p n)))

module _ (text : List ℕ) (v : Vocabulary Located) (b : ℕ) (x : QualifiedName) (k : Numbers) (new : New text v x k) where
  words_are : (write_name (layout_of x.table) x.lead text v (named_of x)).tables
      ≡ adding_name (write_id text LOCAL_NAME (begun b text v x).tables (located_of x.local)).tables (name_table_of x.table) (triple_of k.then)
  words_are = rw (← layout_table x.table, new.is) (parts-words (layout_of x.table) x.lead text v (named_of x) new.new b)

  pub parts_full : within link (begun b text v x).tables ≡ false → within link (write_name (layout_of x.table) x.lead text v (named_of x)).tables ≡ false
  parts_full e = rw words_are (within_grown (grows_on (grows_id text LOCAL_NAME _ (located_of x.local)) (grows_name _ (name_table_of x.table) _)) e)

  module _ {out : List ℕ} {at h : ℕ} {out₁ c₁ w₁ i₁ : List ℕ} (stands : Stands text out at pair_most h out₁ c₁ w₁ i₁ (begun b text v x)) where
    pub local_full : within link (write_id text (table_of 2) (tables_in c₁ w₁) (located_of x.local)).tables ≡ false
        → within link (write_name (layout_of x.table) x.lead text v (named_of x)).tables ≡ false
    unfolding table_of
    local_full e = rw words_are (within_grown (grows_name _ (name_table_of x.table) _) (rw stands.tables at e))

    module _ (proper : Proper text x) {l : ℕ} {out₂ c₂ w₂ i₂ : List ℕ} (then : Stands text out₁ h string_most l out₂ c₂ w₂ i₂ (write_id text (table_of 2) (tables_in c₁ w₁) (located_of x.local))) where
      tables_then : tables_in c₂ w₂ ≡ (write_id text LOCAL_NAME (begun b text v x).tables (located_of x.local)).tables
      unfolding table_of
      tables_then = then.tables ∙ rw stands.tables

      pub parts-behind : b ≡ x.lead + (layout_of x.table).in_parts_bits + 2 * has (optional_of x.prefix) + has (optional_of x.namespace) → (r : Result ℕ Refusal) (c₃ w₃ i₃ : List ℕ)
          → Tripled l c₂ w₂ i₂ x.table k.then r c₃ w₃ i₃ → Meets text out at name_most r out₂ c₃ w₃ i₃ (write_name (layout_of x.table) x.lead text v (named_of x))
      unfolding table_of
      parts-behind eb (Err f) c₃ w₃ i₃ (is, full) =
          let n = triples_count c₂ w₂ then.order.ten x.table proper.0 proper.1 in
          rw (words_are, ← tables_then) (is, full_name (tables_in c₂ w₂) (name_table_of x.table) (triple_of k.then) (omega arith))
      parts-behind eb (Ok r) c₃ w₃ i₃ (er, room, ec, e) =
          let q = rw stands.tables at then.puts in
          let f = stands.few in
          let g = then.few in
          let o = parts-octets (layout_of x.table) x.lead text v (named_of x) new.new b eb in
          rw (er, ec)
          (record {
            puts = rw o (puts_append stands.puts q);
            few = omega arith;
            tables = rw (words_are, ← tables_then, (e text).words) (name_more then.order x.table room (triple_of k.then) proper.0 proper.1);
            order = order_name text c₂ w₂ i₂ x.table then.order room (triple_of k.then) proper.0 proper.1 w₃ i₃ (e text);
          })

      -- the strings leave the names as they are, so the name is new then too
      pub triple_new : 0 ≡ number_of_triple (entries (triple_at w₂) (768 * x.table) (get_or c₂ x.table 0)) (triple_of k.then)
      unfolding pair_behind name_held_as
      triple_new =
          rw (
            new.is,
            ← triples_are c₂ w₂ then.order.ten x.table proper.0 proper.1,
            tables_then,
            names-kept text v (name_table_of x.table) (optional_of x.prefix) (optional_of x.namespace) (located_of x.local),
            ← layout_table x.table,
          ) new.new
