-- Reading a string or a name stays within the octets: the place behind it, and a refusal's place. A refusal's number is at most 15.
-- Assumes nothing.
use mathlib.Core.Path.{◌≡◌, refl}
use mathlib.Core.Bool.{Bool, true, false, not, ◌||◌}
use mathlib.Core.List.{List, map}
use Prim.Native.Nat.{ℕ, suc, ◌+◌, ◌-◌, ◌*◌, ◌/◌, ◌%◌, ◌^◌, ◌≤◌, ◌<◌}
use native.Mathlib.Omega.{arith}
use borrow.Author.Tests.{ltb-true, leb-true, eqb-true}
use lib.Dec.{eqb, ltb, leb}
use lib.ListN.{length, get_or}
use Rattle.std.specs.Prelude.{Result, Ok, Err}
use Rattle.format.specs.Refusals.{refusal_number}
use Rattle.format.specs.declared.refusals.Fault as Faults
use Rattle.format.specs.Numbers.{Form, lengths, c25, top}
use Rattle.fields.specs.Utf8.{is_text}
use Rattle.format.specs.Tables.{StringTable, PREFIX, NAMESPACE_NAME, LOCAL_NAME, Vocabulary, strings, holds, names, holds_name, Version}
use Rattle.format.specs.Strings.{Layout, c14}
use Rattle.format.specs.Names.{NameLayout}
use Rattle.format.specs.declared.StringForm.{StringForm}
use Rattle.format.specs.declared.StringForm.TheVariants.{Utf8, Utf16}
use Rattle.fields.specs.declared.Read.{Read}
use Rattle.fields.specs.Fields.{field_at, no_top}
use Rattle.fields.proofs.Bounds.{field_got, field_refused}
use Rattle.tables.specs.Located.{Located, stretch, octets_of}
use Rattle.read_names.specs.Strings.{Got, got, refused, then, number, spelling, method_at, is_read, form_by, method_behind, method_length, id_at, optional_at, number_bit, formed_at, spelled_at, literal_at, value_at}
use Rattle.read_names.specs.Names.{prefix_bit, namespace_bit, lone_prefix, name_bit, parts_at, numbered_at, name_at, declared_at}
use Rattle.read_names.proofs.StringLaws.{tests, there_is}

module _ (s : List ℕ) where
  abbrev pub Fault : ℕ → ℕ → Type 0
  Fault n p = (n ≤ 15) × (p ≤ length s)

  -- a field's answer
  abbrev pub Within : {B : Type 0} → Got B → Type 0
  Within (got b next v) = next ≤ length s
  Within (refused n p) = Fault n p

  then-within : {B C : Type 0} (g : Got B) (f : B → ℕ → Vocabulary Located → Got C) → Within g → ((b : B) (next : ℕ) (v : Vocabulary Located) → next ≤ length s → Within (f b next v))
      → Within (then g f)
  then-within (got b next v) f h k = k b next v h
  then-within (refused n p) f h k = h

  pub number-within : {C : Type 0} (fs : List Form) (max bit k : ℕ) (f : ℕ → ℕ → Got C) → k ≤ length s → ((n next : ℕ) → next ≤ length s → Within (f n next))
      → Within (number (field_at fs max bit s k) f)
  number-within fs max bit k f h g = go (field_at fs max bit s k) refl
    where
      go : (a : Result (Read ℕ) Faults.Fault) → field_at fs max bit s k ≡ a → Within (number a f)
      go (Ok r) e = let b = field_got max s k fs bit e in g r.value r.next.at (omega arith)
      go (Err r) e = let b = field_refused max s k fs bit e in omega arith

  -- ---- strings
  spelling-within : {C : Type 0} (form : StringForm) (k next n : ℕ) (a : Got C) → k ≤ length s → (next + n ≤ length s → Within a) → Within (spelling form s k next n a)
  unfolding spelling
  spelling-within form k next n a h f =
      tests Within (leb (next + n) (length s)) _ _ (λ e. tests Within (is_text (octets_of s (stretch form next n))) _ _ (λ _. f (leb-true _ _ e)) (λ _. omega arith)) (λ _. omega arith)

  -- a length, where it is refused
  abbrev Judged : Result (Read ℕ) Faults.Fault → Type 0
  Judged (Ok r) = Unit {0}
  Judged (Err f) = Fault (refusal_number f.refusal) f.at

  field_judged : (bit k : ℕ) → k ≤ length s → Judged (field_at (lengths bit) no_top bit s k)
  field_judged bit k h = go (field_at (lengths bit) no_top bit s k) refl
    where
      go : (a : Result (Read ℕ) Faults.Fault) → field_at (lengths bit) no_top bit s k ≡ a → Judged a
      go (Ok r) e = tt
      go (Err f) e = let b = field_refused no_top s k (lengths bit) bit e in omega arith

  behind_judged : (bit f k more n : ℕ) (clean : Bool) → k ≤ length s → Judged (method_behind bit f s k more n clean)
  unfolding method_behind
  behind_judged bit f k more n clean h =
      tests Judged (leb (k + 2 + more + n) (length s)) _ _
      (λ _. tests Judged (is_read f (method_at bit s k)) _ _ (λ _. tests Judged clean _ _ (λ _. tt) (λ _. omega arith)) (λ _. omega arith))
      (λ _. omega arith)

  method_judged : (bit f k b : ℕ) → k ≤ length s → Judged (method_length bit f s k b)
  unfolding method_length
  method_judged bit f k b h =
      tests Judged (ltb b (2 ^ (8 - bit))) _ _ (λ _. behind_judged bit f k 0 _ _ h)
      λ _. tests Judged (ltb b (3 * 2 ^ (7 - bit))) _ _ (λ _. behind_judged bit f k 1 _ _ h) (λ _. behind_judged bit f k 4 _ _ h)

  module _ (ver : Version) where
    pub id_within : (t : StringTable) (k : ℕ) (v : Vocabulary Located) → k ≤ length s → Within (id_at ver s t k v)
    unfolding id_at
    id_within t k v h =
        tests Within (ltb (get_or s k 0) 0x80) _ _
        (λ _. number-within (lengths 2) no_top 2 k _ h λ n next l. spelling-within Utf8 k next n _ h λ e.
        tests Within (holds (map (octets_of s) (strings v t)) (octets_of s (stretch Utf8 next n))) _ _ (λ _. omega arith)
        λ _. tests Within (ltb (length (strings v t)) ver.entries) _ _ (λ _. e) (λ _. omega arith))
        (λ _. number-within c25 top 2 k _ h λ n next l. tests Within (leb n (length (strings v t))) _ _ (λ _. l) (λ _. omega arith))

    optional_within : (there : Bool) (t : StringTable) (k : ℕ) (v : Vocabulary Located) → k ≤ length s → Within (optional_at ver there s t k v)
    unfolding optional_at
    optional_within true t k v h = then-within (id_at ver s t k v) _ (id_within t k v h) λ i next w l. l
    optional_within false t k v h = h

    formed_within : (form : StringForm) (t : StringTable) (k : ℕ) (added : Bool) (r : Result (Read ℕ) Faults.Fault) (v : Vocabulary Located) → k ≤ length s → Judged r → Within (formed_at ver form s t k added r v)
    unfolding formed_at
    formed_within form t k added (Ok r) v h j =
        spelling-within form k r.next.at r.value _ h λ e. tests Within (not added || ltb (length (strings v t)) ver.entries) _ _ (λ _. e) (λ _. omega arith)
    formed_within form t k added (Err f) v h j = j

    pub spelled_within : (bit : ℕ) (t : StringTable) (k : ℕ) (added : Bool) (v : Vocabulary Located) → k ≤ length s → Within (spelled_at ver bit s t k added v)
    unfolding spelled_at
    spelled_within bit t k added v h =
        tests Within (eqb (get_or s k 0 / 2 ^ (9 - bit) % 4) 0) _ _ (λ _. formed_within Utf8 t k added (field_at (lengths bit) no_top bit s k) v h (field_judged bit k h))
        λ _. tests Within (eqb (get_or s k 0 / 2 ^ (9 - bit) % 4) 1) _ _ (λ _. formed_within Utf16 t k added (field_at (lengths bit) no_top bit s k) v h (field_judged bit k h))
        λ _. formed_within (form_by (method_at bit s k)) t k added (method_length bit (get_or s k 0 / 2 ^ (9 - bit) % 4) s k (get_or s (suc k) 0 % 2 ^ (9 - bit))) v h (method_judged bit _ k _ h)

    pub literal_within : (q : Layout) (t : StringTable) (k : ℕ) (v : Vocabulary Located) → k ≤ length s → Within (literal_at ver q s t k v)
    unfolding literal_at
    literal_within q t k v h =
        tests Within (ltb (get_or s k 0) (q.spelled_bits + q.add_bit)) _ _ (λ _. spelled_within q.length_bit t k false v h)
        λ _. tests Within (ltb (get_or s k 0) q.numbered_bits) _ _ (λ _. spelled_within q.length_bit t k true v h)
        λ _. number-within q.number_forms top (number_bit q) k _ h λ n next l. tests Within (leb n (length (strings v t))) _ _ (λ _. l) (λ _. omega arith)

    pub value_within : (t : StringTable) (k : ℕ) (v : Vocabulary Located) → k ≤ length s → Within (value_at ver s t k v)
    unfolding value_at
    value_within t k v h =
        tests Within (eqb (get_or s k 0) 0xFF) _ _ (λ e. there_is s k (let o = eqb-true (get_or s k 0) 0xFF e in omega arith)) (λ _. literal_within c14 t k v h)

    -- ---- names
    pub parts_within : (q : NameLayout) (b k : ℕ) (v : Vocabulary Located) → k < length s → Within (parts_at ver q s b k v)
    unfolding parts_at
    parts_within q b k v h =
        tests Within (lone_prefix b) _ _ (λ _. omega arith)
        λ _. then-within (optional_at ver (prefix_bit b) s PREFIX (suc k) v) _ (optional_within (prefix_bit b) PREFIX (suc k) v h)
        λ p k₁ v₁ h₁. then-within (optional_at ver (namespace_bit b) s NAMESPACE_NAME k₁ v₁) _ (optional_within (namespace_bit b) NAMESPACE_NAME k₁ v₁ h₁)
        λ n k₂ v₂ h₂. then-within (id_at ver s LOCAL_NAME k₂ v₂) _ (id_within LOCAL_NAME k₂ v₂ h₂)
        λ l k₃ v₃ h₃. tests Within (holds_name (names v₃ q.table) (record { prefix = p.number; namespace = n.number; local = l.number })) _ _ (λ _. omega arith)
        λ _. tests Within (ltb (length (names v₃ q.table)) ver.entries) _ _ (λ _. h₃) (λ _. omega arith)

    pub numbered_within : (q : NameLayout) (k : ℕ) (v : Vocabulary Located) → k ≤ length s → Within (numbered_at ver q s k v)
    unfolding numbered_at
    numbered_within q k v h =
        number-within q.number_forms top (name_bit q.table) k _ h λ n next l. tests Within (leb n (length (names v q.table))) _ _ (λ _. l) (λ _. omega arith)

    pub name_within : (q : NameLayout) (b k : ℕ) (v : Vocabulary Located) → k < length s → Within (name_at ver q s b k v)
    unfolding name_at
    name_within q b k v h = tests Within (ltb b q.in_parts_bits) _ _ (λ _. numbered_within q k v (omega arith)) (λ _. parts_within q b k v h)

    pub declared_within : (k : ℕ) (v : Vocabulary Located) → k ≤ length s → Within (declared_at ver s k v)
    unfolding declared_at
    declared_within k v h =
        tests Within (ltb k (length s)) _ _
        (λ e. tests Within (ltb (get_or s k 0) 0xCC) _ _ (λ _. omega arith)
        λ _. tests Within (ltb (get_or s k 0) 0xD0) _ _
        (λ _. then-within (optional_at ver (prefix_bit (get_or s k 0)) s PREFIX (suc k) v) _ (optional_within (prefix_bit (get_or s k 0)) PREFIX (suc k) v (ltb-true _ _ e))
        λ p k₁ v₁ h₁. then-within (optional_at ver (namespace_bit (get_or s k 0)) s NAMESPACE_NAME k₁ v₁) _ (optional_within (namespace_bit (get_or s k 0)) NAMESPACE_NAME k₁ v₁ h₁) λ n k₂ v₂ h₂. h₂)
        λ _. tests Within (ltb (get_or s k 0) 0xF0) _ _ (λ _. omega arith) λ _. tests Within (eqb (get_or s k 0) 0xF0) _ _ (λ _. omega arith) (λ _. omega arith))
        (λ _. omega arith)
