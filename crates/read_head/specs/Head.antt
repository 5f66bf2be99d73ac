-- Reading a document's head, the initial vocabulary (C.2.5), each field's tests in the required order. What it lists is in the tables then.
use Rattle.std.specs.Prelude.{ℕ, zero, suc, ◌+◌, ◌*◌, ◌/◌, ◌%◌, ◌^◌, Bool, true, false, List, [], ◌∷◌, length, get_or, eqb, ltb, leb}
use Rattle.format.specs.Octets.{Octets}
use Rattle.format.specs.Numbers.{pick, c21, c25, top}
use Rattle.format.specs.Tables.{StringTable, NameTable, Triple, Vocabulary, names, adding_name, holds_name, Version}
use Rattle.format.specs.Head.{Table, of_strings, of_names, ten_tables, is_identifying, c19}
use Rattle.format.specs.Refusals.{TRUNCATED, OPTIONAL_PART, CODE, PADDING, INDEX, REPEAT, FULL, STRUCTURE}
use Rattle.fields.specs.Fields.{field_at}
use Rattle.tables.specs.Located.{Located}
use Rattle.read_names.specs.Strings.{Got, got, refused, then, number, id_at, spelled_at}
use Rattle.read_names.specs.Names.{prefix_bit, namespace_bit, lone_prefix}

-- What a field of the head leaves is the place behind it and the tables then.
abbrev pub Passed : Type 0
Passed = Got (Unit {0})

abbrev pub passing : {B : Type 0} → Got B → Passed
passing g = then g λ b next w. got tt next w

-- A part of a name surrogate at octet k, if its presence bit says that it is there: missing (2), the code 111 (5), bit 1 (6), octets missing (2), a number over the
-- top (7), beyond the table (10). Its number is 0 where it is absent.
unfoldable pub part_at : Bool → (entries : ℕ) → Octets → ℕ → Vocabulary Located → Got ℕ
part_at false entries s k v = got 0 k v
part_at true entries s k v =
    pick (eqb (get_or s k 0 / 16 % 8) 7) (refused CODE k)
    (pick (ltb (get_or s k 0) 0x80)
    (number (field_at c25 top 2 s k)
    λ n next. pick (leb n entries) (got n next v) (refused INDEX k))
    (refused PADDING k))

module _ (ver : Version) where
  -- C.2.5.3: an entry of a table of identifying strings. Missing (2), bit 1 (6); then as one that is spelled in the body.
  unfoldable pub identifying_at : StringTable → Octets → ℕ → Vocabulary Located → Passed
  identifying_at t s k v = pick (ltb (get_or s k 0) 0x80) (passing (id_at ver s t k v)) (refused PADDING k)

  -- C.2.5.4: an entry of another table of strings. Missing (2), bits 1 and 2 (6); then as a value that is spelled and added in the body, chunks too.
  unfoldable pub another_at : StringTable → Octets → ℕ → Vocabulary Located → Passed
  another_at t s k v = pick (ltb (get_or s k 0) 0x40) (passing (spelled_at ver c19.length_bit s t k true v)) (refused PADDING k)

  -- C.2.5.5, C.16: a name. Missing (2), bits 1 to 6 (6), p without n (15); the parts; then the triple is there already (11), no room in the table (12).
  unfoldable pub surrogate_at : NameTable → Octets → ℕ → Vocabulary Located → Passed
  surrogate_at t s k v =
      pick (ltb k (length s))
      (pick (ltb (get_or s k 0) 4)
      (pick (lone_prefix (get_or s k 0)) (refused STRUCTURE k)
      (then (part_at (prefix_bit (get_or s k 0)) (length v.prefixes) s (suc k) v)
      λ p k₁ v₁. then (part_at (namespace_bit (get_or s k 0)) (length v.namespaces) s k₁ v₁)
      λ n k₂ v₂. then (part_at true (length v.locals) s k₂ v₂)
      λ l k₃ v₃.
      let x : Triple = record { prefix = p; namespace = n; local = l } in
      pick (holds_name (names v t) x) (refused REPEAT k)
      (pick (ltb (length (names v t)) ver.entries) (got tt k₃ (adding_name v t x)) (refused FULL k))))
      (refused PADDING k))
      (refused TRUNCATED k)

  unfoldable pub entry_at : Table → Octets → ℕ → Vocabulary Located → Passed
  entry_at (of_strings t) s k v = pick (is_identifying t) (identifying_at t s k v) (another_at t s k v)
  entry_at (of_names t) s k v = surrogate_at t s k v

  -- n entries from octet k on.
  unfoldable pub entries_at : Table → Octets → (n : ℕ) → ℕ → Vocabulary Located → Passed
  entries_at t s zero k v = got tt k v
  entries_at t s (suc n) k v = then (entry_at t s k v) λ b next w. entries_at t s n next w

  -- The tables whose presence bit in b is 1; the last one's is the lowest. How many entries a table lists: missing (2), padding (6), octets missing (2), too many (7).
  unfoldable pub tables_at : List Table → (b : ℕ) → Octets → ℕ → Vocabulary Located → Passed
  tables_at [] b s k v = got tt k v
  tables_at (t ∷ ts) b s k v =
      pick (eqb (b / 2 ^ length ts % 2) 1)
      (number (field_at c21 top 1 s k)
      λ n next. then (entries_at t s n next v)
      λ e k₁ v₁. tables_at ts b s k₁ v₁)
      (tables_at ts b s k v)

  -- The head at octet k; its presence bits are one field of two octets. Missing (2), bits 1 to 3 (6), a component that is not read (4), the second octet missing (2), no
  -- table (15); then the tables.
  unfoldable pub head_at : Octets → ℕ → Vocabulary Located → Passed
  head_at s k v =
      pick (ltb k (length s))
      (pick (ltb (get_or s k 0) 0x20)
      (pick (ltb (get_or s k 0) 4)
      (pick (ltb (suc k) (length s))
      (pick (eqb (256 * get_or s k 0 + get_or s (suc k) 0) 0) (refused STRUCTURE k) (tables_at ten_tables (256 * get_or s k 0 + get_or s (suc k) 0) s (suc (suc k)) v))
      (refused TRUNCATED k))
      (refused OPTIONAL_PART k))
      (refused PADDING k))
      (refused TRUNCATED k)
