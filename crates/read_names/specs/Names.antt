-- Reading a name (C.17, C.18) and a namespace declaration (C.12), each field's tests in the required order.
use Rattle.std.specs.Prelude.{ℕ, zero, suc, ◌-◌, ◌%◌, Bool, List, length, get_or, eqb, ltb, leb}
use Rattle.std.proofs.Math.Option.{Option, none, some}
use Rattle.format.specs.Octets.{Octets}
use Rattle.format.specs.Numbers.{pick, top}
use Rattle.format.specs.Events.{Name, How, NameHow, in_parts, by_number}
use Rattle.format.specs.Tables.{PREFIX, NAMESPACE_NAME, LOCAL_NAME, NameTable, ELEMENT_NAME, ATTRIBUTE_NAME, Triple, Vocabulary, names, adding_name, holds_name, Version}
use Rattle.format.specs.Names.{NameLayout}
use Rattle.format.specs.Refusals.{TRUNCATED, CODE, PADDING, INDEX, REPEAT, FULL, STRUCTURE}
use Rattle.fields.specs.Fields.{field_at}
use Rattle.tables.specs.Located.{Located, empty}
use Rattle.read_names.specs.Strings.{Got, got, refused, then, number, id_at, optional_at}

pub record NameRead : Type 0 where
  pub name : Name Located
  pub how : NameHow

pub record DeclaredRead : Type 0 where
  pub prefix : Option Located
  pub namespace : Option Located
  pub prefix_how : Option How
  pub namespace_how : Option How

-- The two presence bits p and n, and p without n.
abbrev pub prefix_bit : ℕ → Bool
prefix_bit b = leb 2 (b % 4)

abbrev pub namespace_bit : ℕ → Bool
namespace_bit b = eqb (b % 2) 1

abbrev pub lone_prefix : ℕ → Bool
lone_prefix b = eqb (b % 4) 2

-- The bit where a name's number starts: C.18, C.17.
abbrev pub name_bit : NameTable → ℕ
name_bit ELEMENT_NAME = 3
name_bit ATTRIBUTE_NAME = 2

-- The string behind a number and the name behind a triple. The numbers of a triple are of entries that are there, so it does not matter what d is.
abbrev pub part_of : {S : Type 0} → List S → S → ℕ → Option S
part_of table d zero = none
part_of table d (suc k) = some (get_or table k d)

unfoldable pub name_of : {S : Type 0} → Vocabulary S → S → Triple → Name S
name_of v d x = record { prefix = part_of v.prefixes d x.prefix; namespace = part_of v.namespaces d x.namespace; local = get_or v.locals (x.local - 1) d }

abbrev pub no_triple : Triple
no_triple = record { prefix = 0; namespace = 0; local = 0 }

module _ (ver : Version) where
  -- A name in parts, its p and n in the octet b at k: p without n (15); the strings; then the triple is there already (11), no room in the table (12).
  unfoldable pub parts_at : NameLayout → Octets → ℕ → ℕ → Vocabulary Located → Got NameRead
  parts_at q s b k v =
      pick (lone_prefix b) (refused STRUCTURE k)
      (then (optional_at ver (prefix_bit b) s PREFIX (suc k) v)
      λ p k₁ v₁. then (optional_at ver (namespace_bit b) s NAMESPACE_NAME k₁ v₁)
      λ n k₂ v₂. then (id_at ver s LOCAL_NAME k₂ v₂)
      λ l k₃ v₃.
      let x : Triple = record { prefix = p.number; namespace = n.number; local = l.number } in
      pick (holds_name (names v₃ q.table) x) (refused REPEAT k)
      (pick (ltb (length (names v₃ q.table)) ver.entries)
      (got (record { name = record { prefix = p.string; namespace = n.string; local = l.string }; how = in_parts p.how n.how l.how }) k₃ (adding_name v₃ q.table x))
      (refused FULL k)))

  -- A name by number: 2, 5, 6, 2, 6, 7, then beyond the table (10).
  unfoldable pub numbered_at : NameLayout → Octets → ℕ → Vocabulary Located → Got NameRead
  numbered_at q s k v =
      number (field_at q.number_forms top (name_bit q.table) s k)
      λ n next. pick (leb n (length (names v q.table)))
      (got (record { name = name_of v empty (get_or (names v q.table) (n - 1) no_triple); how = by_number n }) next v)
      (refused INDEX k)

  -- A name whose part of its first octet is b: by number, or in parts.
  unfoldable pub name_at : NameLayout → Octets → ℕ → ℕ → Vocabulary Located → Got NameRead
  name_at q s b k v = pick (ltb b q.in_parts_bits) (numbered_at q s k v) (parts_at q s b k v)

  -- A namespace declaration at octet k: missing (2); not 110011pn (5), but 1111 ends a list that has no member: bits 5 to 8 (6), then 15.
  unfoldable pub declared_at : Octets → ℕ → Vocabulary Located → Got DeclaredRead
  declared_at s k v =
      pick (ltb k (length s))
      (pick (ltb (get_or s k 0) 0xCC) (refused CODE k)
      (pick (ltb (get_or s k 0) 0xD0)
      (then (optional_at ver (prefix_bit (get_or s k 0)) s PREFIX (suc k) v)
      λ p k₁ v₁. then (optional_at ver (namespace_bit (get_or s k 0)) s NAMESPACE_NAME k₁ v₁)
      λ n k₂ v₂. got (record { prefix = p.string; namespace = n.string; prefix_how = p.how; namespace_how = n.how }) k₂ v₂)
      (pick (ltb (get_or s k 0) 0xF0) (refused CODE k)
      (pick (eqb (get_or s k 0) 0xF0) (refused STRUCTURE k) (refused PADDING k)))))
      (refused TRUNCATED k)
