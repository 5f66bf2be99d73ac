-- What the reading definition does with the tables, by where the strings stand: what it spells is a stretch of the document, and what it reads by a number is
-- the entry that it has there.
use Prim.Native.Nat.{ℕ, zero, suc, ◌+◌, ◌-◌, ◌*◌, ◌/◌, ◌%◌, ◌^◌, ◌≤◌}
use mathlib.Core.Path.{◌≡◌, refl, sym, ap, ◌∙◌, subst}
use mathlib.Core.Bool.{Bool, true, false, not, ◌&&◌, ◌||◌}
use mathlib.Core.List.{List, map}
use native.Mathlib.Omega.{arith}
use borrow.Author.Tests.{eqb-false}
use lib.Dec.{eqb, ltb, leb}
use lib.ListN.{length, get_or}
use Rattle.format.specs.Octets.{Octets}
use Rattle.format.specs.Numbers.{pick, Form, lengths, c25, top}
use Rattle.fields.specs.Utf8.{is_text}
use Rattle.format.specs.Events.{Namespace, for_namespace, ◌by◌}
use Rattle.format.specs.Tables.{StringTable, PREFIX, NAMESPACE_NAME, LOCAL_NAME, OTHER_NCNAME, ATTRIBUTE_VALUE, CONTENT_CHARACTER_CHUNK, OTHER_STRING}
use Rattle.format.specs.Tables.{NameTable, Vocabulary, strings, names, holds, holds_name, Entry, Version}
use Rattle.format.specs.Strings.{bit, Layout, c14, c15}
use Rattle.format.specs.Names.{has, NameLayout, of_element, of_attribute}
use Rattle.format.specs.Items.{Mode, content, declaring, listing, State, may_start}
use Rattle.format.specs.Document.{aligned, beginning}
use Rattle.format.specs.Head.{is_identifying}
use Rattle.format.specs.declared.StringForm.{StringForm}
use Rattle.format.specs.declared.StringForm.TheVariants.{Utf8, Utf16}
use Rattle.std.specs.Prelude.{Result as Either, Ok as Num, Err as NoNum}
use Rattle.format.specs.declared.refusals.Fault.{Fault as NumFault}
use Rattle.format.specs.declared.refusals.Refusal.TheVariants.{Truncated, Padding, Format}
use Rattle.fields.specs.declared.Read.{Read}
use Rattle.fields.specs.Fields as F
use Rattle.fields.specs.Fields.{field_at, no_top}
use Rattle.fields.proofs.Bounds.{field_got}
use Rattle.tables.specs.Located.{Located, empty, stretch, form_as, octets_of}
use Rattle.events.specs.Records.{event_string}
use Rattle.events.specs.WellMade.{IsString, inside}
use Rattle.read_names.specs.Strings.{Got, got, refused, then, number, spelling, method_at, is_read, form_by, method_behind, method_length, IdRead, OptionalRead, StringRead, id_at, optional_at, formed_at, spelled_at, literal_at, value_at, number_bit}
use Rattle.tables.proofs.Found.{clash}
use Rattle.tables.proofs.EntryLaws.{entry_at}
use Rattle.read_names.specs.Names.{no_triple, NameRead, DeclaredRead, prefix_bit, namespace_bit, lone_prefix, parts_at, numbered_at, name_at, declared_at, name_bit}
use Rattle.read_items.specs.Items.{Stand, Step, more, quiet, done, stop, into, name_padding, start_of, namespace_at, element_at, named_at, attribute_at, chunk_at, comment_at, instruction_at, other_at, child_at, declaring_at, item_at}
use Rattle.read_items.specs.Steps.{ends_at, pads_at, document_end, end_at, by_halves, step}
use Rattle.reader.specs.Reading.{EventRead, items_read, Result, accepted, refusal, plus, turn, run, onward, opening, origin, fuel_of, result_from, reading}
use Rattle.theorems.proofs.Lists.{test, test_le, test_not, either}
use Rattle.theorems.proofs.Names.{bits_paired}
use Rattle.theorems.proofs.Effects.{IdDone, id_made, id_used, PartDone, no_part, a_part, StringDone, string_made, string_used, ValueDone, empty_value, a_value, NameDone, name_made, name_used}
use Rattle.theorems.proofs.Effects.{ItemDone, done_namespace, done_start, done_attribute, done_text, done_comment, done_instruction, done_end, Done, no_item, an_item}

-- What is spelled in a table is a stretch of the document, of an identifying string in utf-8.
abbrev pub Lies : Octets → StringTable → Located → Type 0
Lies s t x = IsString s (event_string x) × (is_identifying t ≡ true → form_as x ≡ Utf8)

-- number suc k names entry k
entry_of : {A : Type 0} (l : List A) (d : A) (k : ℕ) → suc k ≤ length l → Entry l k (get_or l (suc k - 1) d)
entry_of l d k h = let z : suc k - 1 ≡ k = omega arith in rw z (entry_at l k d h)

-- ---- a field's answer is R, if it is no refusal
abbrev Did : {B : Type 0} → (B → Vocabulary Located → Type 0) → Got B → Type 0
Did R (got b next w) = R b w
Did R (refused n p) = Unit {0}

module _ {B C : Type 0} (Q : C → Vocabulary Located → Type 0) where
  then_did : (R : B → Vocabulary Located → Type 0) (g : Got B) (f : B → ℕ → Vocabulary Located → Got C) → Did R g
      → ((b : B) (next : ℕ) (w : Vocabulary Located) → R b w → Did Q (f b next w)) → Did Q (then g f)
  then_did R (got b next w) f r h = h b next w r
  then_did R (refused n p) f r h = tt

-- ---- a number is from 1
abbrev Some : Either (Read ℕ) NumFault → Type 0
Some (Num r) = 1 ≤ r.value
Some (NoNum f) = Unit {0}

module _ (s : Octets) where
  field_some : (fs : List Form) (max bit k : ℕ) → Some (field_at fs max bit s k)
  field_some fs max bit k = go (field_at fs max bit s k) refl
    where
      go : (a : Either (Read ℕ) NumFault) → field_at fs max bit s k ≡ a → Some a
      go (Num r) e = (field_got max s k fs bit e).0
      go (NoNum f) e = tt

  behind_some : (bit f k others n : ℕ) (clean : Bool) → 1 ≤ n → Some (method_behind bit f s k others n clean)
  unfolding method_behind
  behind_some bit f k others n clean h =
      test Some (F.refused Truncated k) tt (leb (k + 2 + others + n) (length s)) _ λ t1. test Some (F.refused Format k) tt (is_read f (method_at bit s k)) _ λ t2. test Some (F.refused Padding k) tt clean _ λ t3. h

  method_some : (bit f k b : ℕ) → Some (method_length bit f s k b)
  unfolding method_length
  method_some bit f k b =
      either Some (ltb b (2 ^ (8 - bit))) _ _ (λ e. behind_some bit f k 0 _ true (omega arith))
      λ e. either Some (ltb b (3 * 2 ^ (7 - bit))) _ _ (λ e. behind_some bit f k 1 _ _ (omega arith)) (λ e. behind_some bit f k 4 _ _ (omega arith))

module _ (s : Octets) {C : Type 0} (Q : C → Vocabulary Located → Type 0) where
  number_did : (a : Either (Read ℕ) NumFault) → Some a → (f : ℕ → ℕ → Got C) → ((n next : ℕ) → Did Q (f (suc n) next)) → Did Q (number a f)
  number_did (Num r) h f g = from_one r.value h
    where
      from_one : (n : ℕ) → 1 ≤ n → Did Q (f n r.next.at)
      from_one zero h = absurd (omega arith)
      from_one (suc n) h = g n r.next.at
  number_did (NoNum e) h f g = tt

  spelling_did : (form : StringForm) (k next n : ℕ) (a : Got C) → (next + n ≤ length s → Did Q a) → Did Q (spelling form s k next n a)
  unfolding spelling
  spelling_did form k next n a f = test_le (Did Q) (refused 2 k) tt (next + n) (length s) _ λ h. test (Did Q) (refused 9 k) tt (is_text (octets_of s (stretch form next n))) _ λ t. f h

module _ (ver : Version) (s : Octets) where
  -- ---- strings
  abbrev IdDid : StringTable → Vocabulary Located → IdRead → Vocabulary Located → Type 0
  IdDid t v b w = IdDone empty (Lies s) t v b.string b.how b.number w

  id_did : (t : StringTable) (k : ℕ) (v : Vocabulary Located) → Did (IdDid t v) (id_at ver s t k v)
  unfolding id_at
  id_did t k v =
      let P : Got IdRead → Type 0 = Did (IdDid t v) in
      either P (ltb (get_or s k 0) 0x80) _ _
      (λ e. number_did s (IdDid t v) (field_at (lengths 2) no_top 2 s k) (field_some s (lengths 2) no_top 2 k) _
      λ n next. spelling_did s (IdDid t v) Utf8 k next (suc n) _
      λ h. test_not P (refused 11 k) tt (holds (map (octets_of s) (strings v t)) (octets_of s (stretch Utf8 next (suc n)))) _
      λ t1. test P (refused 12 k) tt (ltb (length (strings v t)) ver.entries) _
      λ t2. id_made (inside (omega arith) h, λ i. refl))
      (λ e. number_did s (IdDid t v) (field_at c25 top 2 s k) (field_some s c25 top 2 k) _
      λ n next. test_le P (refused 10 k) tt (suc n) (length (strings v t)) _
      λ h. id_used (entry_of (strings v t) empty n h))

  abbrev PartDid : Bool → StringTable → Vocabulary Located → OptionalRead → Vocabulary Located → Type 0
  PartDid there t v b w = PartDone empty (Lies s) t v b.string b.how b.number w × (has b.string ≡ bit there)

  part_did : (there : Bool) (t : StringTable) (k : ℕ) (v : Vocabulary Located) → Did (PartDid there t v) (optional_at ver there s t k v)
  unfolding optional_at
  part_did true t k v = then_did (PartDid true t v) (IdDid t v) (id_at ver s t k v) _ (id_did t k v) λ i next w r. (a_part r, refl)
  part_did false t k v = (no_part, refl)

  abbrev StringDid : StringTable → Vocabulary Located → StringRead → Vocabulary Located → Type 0
  StringDid t v b w = StringDone empty (Lies s) t v b.string b.how w

  -- in a table of other strings than identifying ones
  module _ (t : StringTable) (other : is_identifying t ≡ false) (k : ℕ) (v : Vocabulary Located) where
    formed_did : (form : StringForm) (added : Bool) (a : Either (Read ℕ) NumFault) → Some a → Did (StringDid t v) (formed_at ver form s t k added a v)
    unfolding formed_at
    formed_did form added a h =
        number_did s (StringDid t v) a h _
        λ n next. spelling_did s (StringDid t v) form k next (suc n) _
        λ r. test (Did (StringDid t v)) (refused 12 k) tt (not added || ltb (length (strings v t)) ver.entries) _
        λ t1. string_made added (inside (omega arith) r, λ i. clash (sym other ∙ i))

    spelled_did : (bit : ℕ) (added : Bool) → Did (StringDid t v) (spelled_at ver bit s t k added v)
    unfolding spelled_at
    spelled_did bit added =
        let P : Got StringRead → Type 0 = Did (StringDid t v) in
        let format : ℕ = get_or s k 0 / 2 ^ (9 - bit) % 4 in
        either P (eqb format 0) _ _ (λ e. formed_did Utf8 added _ (field_some s (lengths bit) no_top bit k))
        λ e. either P (eqb format 1) _ _ (λ e. formed_did Utf16 added _ (field_some s (lengths bit) no_top bit k))
        λ e. formed_did (form_by (method_at bit s k)) added _ (method_some s bit format k _)

    string_did : (q : Layout) → Did (StringDid t v) (literal_at ver q s t k v)
    unfolding literal_at
    string_did q =
        let P : Got StringRead → Type 0 = Did (StringDid t v) in
        either P (ltb (get_or s k 0) (q.spelled_bits + q.add_bit)) _ _ (λ e. spelled_did q.length_bit false)
        λ e. either P (ltb (get_or s k 0) q.numbered_bits) _ _ (λ e. spelled_did q.length_bit true)
        λ e. number_did s (StringDid t v) (field_at q.number_forms top (number_bit q) s k) (field_some s q.number_forms top (number_bit q) k) _
        λ n next. test_le P (refused 10 k) tt (suc n) (length (strings v t)) _
        λ h. string_used (entry_of (strings v t) empty n h)

  abbrev ValueDid : StringTable → Vocabulary Located → StringRead → Vocabulary Located → Type 0
  ValueDid t v b w = ValueDone empty (Lies s) t v b.string b.how w

  as_value : (t : StringTable) (v : Vocabulary Located) (g : Got StringRead) → Did (StringDid t v) g → Did (ValueDid t v) g
  as_value t v (got b next w) r = a_value r
  as_value t v (refused n p) r = tt

  value_did : (t : StringTable) → is_identifying t ≡ false → (k : ℕ) (v : Vocabulary Located) → Did (ValueDid t v) (value_at ver s t k v)
  unfolding value_at
  value_did t other k v =
      either (Did (ValueDid t v)) (eqb (get_or s k 0) 0xFF) _ _ (λ e. empty_value) (λ e. as_value t v (literal_at ver c14 s t k v) (string_did t other k v c14))

  -- ---- names
  abbrev NameDid : NameTable → Vocabulary Located → NameRead → Vocabulary Located → Type 0
  NameDid t v b w = NameDone empty (Lies s) t v b.name b.how w

  parts_did : (q : NameLayout) (b k : ℕ) (v : Vocabulary Located) → Did (NameDid q.table v) (parts_at ver q s b k v)
  unfolding parts_at
  parts_did q b k v =
      let R : NameRead → Vocabulary Located → Type 0 = NameDid q.table v in
      test_not (Did R) (refused 15 k) tt (lone_prefix b) _
      λ e. then_did R (PartDid (prefix_bit b) PREFIX v) (optional_at ver (prefix_bit b) s PREFIX (suc k) v) _ (part_did (prefix_bit b) PREFIX (suc k) v)
      λ p k₁ v₁ r₁. then_did R (PartDid (namespace_bit b) NAMESPACE_NAME v₁) (optional_at ver (namespace_bit b) s NAMESPACE_NAME k₁ v₁) _ (part_did (namespace_bit b) NAMESPACE_NAME k₁ v₁)
      λ n k₂ v₂ r₂. then_did R (IdDid LOCAL_NAME v₂) (id_at ver s LOCAL_NAME k₂ v₂) _ (id_did LOCAL_NAME k₂ v₂)
      λ l k₃ v₃ r₃. test_not (Did R) (refused 11 k) tt (holds_name (names v₃ q.table) (record { prefix = p.number; namespace = n.number; local = l.number })) _
      λ t1. test (Did R) (refused 12 k) tt (ltb (length (names v₃ q.table)) ver.entries) _
      λ t2.
      let paired = bits_paired b (eqb-false (b % 4) 2 e) in
      name_made (omega arith) r₁.0 r₂.0 r₃

  numbered_did : (q : NameLayout) (k : ℕ) (v : Vocabulary Located) → Did (NameDid q.table v) (numbered_at ver q s k v)
  unfolding numbered_at
  numbered_did q k v =
      number_did s (NameDid q.table v) (field_at q.number_forms top (name_bit q.table) s k) (field_some s q.number_forms top (name_bit q.table) k) _
      λ n next. test_le (Did (NameDid q.table v)) (refused 10 k) tt (suc n) (length (names v q.table)) _
      λ h. name_used (entry_of (names v q.table) no_triple n h)

  name_did : (q : NameLayout) (b k : ℕ) (v : Vocabulary Located) → Did (NameDid q.table v) (name_at ver q s b k v)
  unfolding name_at
  name_did q b k v = either (Did (NameDid q.table v)) (ltb b q.in_parts_bits) _ _ (λ e. numbered_did q k v) (λ e. parts_did q b k v)

  abbrev DeclaredDid : Vocabulary Located → DeclaredRead → Vocabulary Located → Type 0
  DeclaredDid v b w = ItemDone empty (Lies s) v (Namespace b.prefix b.namespace by for_namespace b.prefix_how b.namespace_how) w

  declared_did : (k : ℕ) (v : Vocabulary Located) → Did (DeclaredDid v) (declared_at ver s k v)
  unfolding declared_at
  declared_did k v =
      let R : DeclaredRead → Vocabulary Located → Type 0 = DeclaredDid v in
      let b : ℕ = get_or s k 0 in
      test (Did R) (refused 2 k) tt (ltb k (length s)) _
      λ e. test_not (Did R) (refused 5 k) tt (ltb b 0xCC) _
      λ e. either (Did R) (ltb b 0xD0) _ _
      (λ e. then_did R (PartDid (prefix_bit b) PREFIX v) (optional_at ver (prefix_bit b) s PREFIX (suc k) v) _ (part_did (prefix_bit b) PREFIX (suc k) v)
      λ p k₁ v₁ r₁. then_did R (PartDid (namespace_bit b) NAMESPACE_NAME v₁) (optional_at ver (namespace_bit b) s NAMESPACE_NAME k₁ v₁) _ (part_did (namespace_bit b) NAMESPACE_NAME k₁ v₁)
      λ n k₂ v₂ r₂. done_namespace r₁.0 r₂.0)
      (λ e. test_not (Did R) (refused 5 k) tt (ltb b 0xF0) _ λ e. test_not (Did R) (refused 15 k) tt (eqb b 0xF0) _ λ e. tt)

  -- ---- items: a step's answer, where v is known
  abbrev Gave : Vocabulary Located → Step → Type 0
  Gave v (more p i n) = ItemDone empty (Lies s) v i n.state.tables
  Gave v (quiet n) = n.state.tables ≡ v
  Gave v done = Unit {0}
  Gave v (stop n p) = Unit {0}

  into_gave : {B : Type 0} (v : Vocabulary Located) (R : B → Vocabulary Located → Type 0) (g : Got B) (f : B → ℕ → Vocabulary Located → Step) → Did R g
      → ((b : B) (next : ℕ) (w : Vocabulary Located) → R b w → Gave v (f b next w)) → Gave v (into g f)
  into_gave v R (got b next w) f r h = h b next w r
  into_gave v R (refused n p) f r h = tt

  start_gave : (k : ℕ) (a : Bool) (v : State Located) (g : Got NameRead) → Did (NameDid of_element.table v.tables) g → Gave v.tables (start_of ver k a v g)
  unfolding of_element
  start_gave k a v g r = into_gave v.tables (NameDid of_element.table v.tables) g _ r λ x next w u. done_start u

  namespace_gave : (k : ℕ) (v : State Located) (a : Bool) → Gave v.tables (namespace_at ver s k v a)
  unfolding namespace_at
  namespace_gave k v a = into_gave v.tables (DeclaredDid v.tables) (declared_at ver s k v.tables) _ (declared_did k v.tables) λ d next w u. u

  element_gave : (k b : ℕ) (a : Bool) (v : State Located) → Gave v.tables (element_at ver s k b a v)
  unfolding element_at of_element
  element_gave k b a v =
      let P : Step → Type 0 = Gave v.tables in
      test_not P (stop 6 k) tt (name_padding b) _
      λ e. test P (stop 15 k) tt (may_start v) _
      λ e. either P (ltb b 0x38) _ _
      (λ e. into_gave v.tables (NameDid of_element.table v.tables) (numbered_at ver of_element s k v.tables) _ (numbered_did of_element k v.tables)
      λ x next w u. test P (stop 13 k) tt (ltb v.level ver.depth) _ λ e. done_start u)
      λ e. test_not P (stop 15 k) tt (leb 0x3C b && lone_prefix b) _
      λ e. test P (stop 13 k) tt (ltb v.level ver.depth) _
      λ e. either P (eqb b 0x38) _ _ (λ e. namespace_gave (suc k) v a) (λ e. start_gave k a v (parts_at ver of_element s b k v.tables) (parts_did of_element b k v.tables))

  named_gave : (k : ℕ) (a : Bool) (v : State Located) → Gave v.tables (named_at ver s k a v)
  unfolding named_at
  named_gave k a v =
      let P : Step → Type 0 = Gave v.tables in
      test P (stop 2 k) tt (ltb k (length s)) _
      λ e. test_not P (stop 5 k) tt (eqb (get_or s k 0 % 64 / 4) 14) _
      λ e. test P (stop 6 k) tt (ltb (get_or s k 0) 0x40) _
      λ e. test_not P (stop 6 k) tt (name_padding (get_or s k 0)) _
      λ e. start_gave k a v (name_at ver of_element s (get_or s k 0) k v.tables) (name_did of_element (get_or s k 0) k v.tables)

  attribute_gave : (k : ℕ) (v : State Located) → Gave v.tables (attribute_at ver s k v)
  unfolding attribute_at of_attribute is_identifying
  attribute_gave k v =
      let P : Step → Type 0 = Gave v.tables in
      test P (stop 2 k) tt (ltb k (length s)) _
      λ e. test P (stop 5 k) tt (ltb (get_or s k 0) 0x80) _
      λ e. test P (stop 6 k) tt (ltb (get_or s k 0) 0x7C) _
      λ e. into_gave v.tables (NameDid of_attribute.table v.tables) (name_at ver of_attribute s (get_or s k 0) k v.tables) _ (name_did of_attribute (get_or s k 0) k v.tables)
      λ x k₁ w₁ r₁. into_gave v.tables (ValueDid ATTRIBUTE_VALUE w₁) (value_at ver s ATTRIBUTE_VALUE k₁ w₁) _ (value_did ATTRIBUTE_VALUE refl k₁ w₁)
      λ y k₂ w₂ r₂. done_attribute r₁ r₂

  child_gave : (k : ℕ) (v : State Located) → Gave v.tables (child_at ver s k v)
  unfolding child_at chunk_at comment_at instruction_at other_at is_identifying
  child_gave k v =
      let P : Step → Type 0 = Gave v.tables in
      let o : ℕ = get_or s k 0 in
      test P (stop 2 k) tt (ltb k (length s)) _
      λ e. either P (ltb o 0x40) _ _ (λ e. element_gave k o false v)
      λ e. either P (ltb o 0x80) _ _ (λ e. element_gave k (o - 0x40) true v)
      λ e. either P (ltb o 0xC0) _ _
      (λ e. test P (stop 5 k) tt (ltb 0 v.level) _
      λ e. into_gave v.tables (StringDid CONTENT_CHARACTER_CHUNK v.tables) (literal_at ver c15 s CONTENT_CHARACTER_CHUNK k v.tables) _ (string_did CONTENT_CHARACTER_CHUNK refl k v.tables c15)
      λ y next w u. done_text u)
      λ e. either P (eqb o 0xE1) _ _
      (λ e. into_gave v.tables (IdDid OTHER_NCNAME v.tables) (id_at ver s OTHER_NCNAME (suc k) v.tables) _ (id_did OTHER_NCNAME (suc k) v.tables)
      λ x k₁ w₁ r₁. into_gave v.tables (ValueDid OTHER_STRING w₁) (value_at ver s OTHER_STRING k₁ w₁) _ (value_did OTHER_STRING refl k₁ w₁)
      λ y k₂ w₂ r₂. done_instruction r₁ r₂)
      λ e. either P (eqb o 0xE2) _ _
      (λ e. into_gave v.tables (ValueDid OTHER_STRING v.tables) (value_at ver s OTHER_STRING (suc k) v.tables) _ (value_did OTHER_STRING refl (suc k) v.tables)
      λ y next w u. done_comment u)
      λ e. test P (stop 6 k) tt (ltb o 0xF0) _ λ e. test P (stop 5 k) tt (eqb (o / 4) (pick (ltb 0 v.level) 0x32 0x31)) _ λ e. tt

  item_gave : (k : ℕ) (v : State Located) (m : Mode) → Gave v.tables (item_at ver s k v m)
  unfolding item_at declaring_at
  item_gave k v content = child_gave k v
  item_gave k v (declaring a) = either (Gave v.tables) (eqb (get_or s k 0) 0xF0) _ _ (λ e. named_gave (suc k) a v) (λ e. namespace_gave k v a)
  item_gave k v (listing any) = attribute_gave k v

  end_gave : (m : Stand) (d : Mode) → Gave m.state.tables (end_at s m d)
  unfolding end_at document_end
  end_gave m (listing true) = refl
  end_gave m (listing false) = tt
  end_gave m (declaring a) = tt
  end_gave m content =
      let P : Step → Type 0 = Gave m.state.tables in
      either P (ltb 0 m.state.level) _ _ (λ e. done_end)
      λ e. test P (stop 15 (m.at / 2)) tt m.state.root _
      λ e. test P (stop 6 (m.at / 2)) tt (pads_at s (suc m.at)) _
      λ e. test P (stop 15 (aligned (suc m.at) / 2)) tt (eqb (aligned (suc m.at)) (2 * length s)) _ λ e. tt

  step_gave : (m : Stand) → Gave m.state.tables (step ver s m)
  unfolding step
  step_gave m =
      let P : Step → Type 0 = Gave m.state.tables in
      either P (by_halves m.state.mode && ends_at s m.at) _ _ (λ e. end_gave m m.state.mode)
      λ e. test P (stop 6 (m.at / 2)) tt (pads_at s m.at) _ λ e. item_gave (aligned m.at / 2) m.state m.state.mode

  -- ---- a run
  abbrev GaveAll : Vocabulary Located → Result → Type 0
  GaveAll v (accepted es m) = Done empty (Lies s) v (items_read es) m.state.tables
  GaveAll v (refusal n p) = Unit {0}

  plus_gave : {v w : Vocabulary Located} (e : EventRead) → ItemDone empty (Lies s) v e.item w → (a : Result) → GaveAll w a → GaveAll v (plus e a)
  plus_gave e u (accepted es m) r = an_item u r
  plus_gave e u (refusal n p) r = tt

  turn_gave : (go : ℕ → Stand → Result) → ((r : ℕ) (n : Stand) → GaveAll n.state.tables (go r n)) → (room : ℕ) (m : Stand) (a : Step) → Gave m.state.tables a
      → GaveAll m.state.tables (turn go room m a)
  turn_gave go rec zero m (more p i n) g = tt
  turn_gave go rec (suc r) m (more p i n) g = plus_gave _ g (go r n) (rec r n)
  turn_gave go rec room m (quiet n) g = subst (λ (v : Vocabulary Located). GaveAll v (go room n)) g (rec room n)
  turn_gave go rec room m done g = no_item
  turn_gave go rec room m (stop n p) g = tt

  run_gave : (fuel room : ℕ) (m : Stand) → GaveAll m.state.tables (run ver s fuel room m)
  unfolding run
  run_gave zero room m = tt
  run_gave (suc fuel) room m = turn_gave (λ r n. run ver s fuel r n) (λ r n. run_gave fuel r n) room m (step ver s m) (step_gave m)

-- from where the opening lets it begin
pub reading_done : (ver : Version) (s : Octets) (room body : ℕ) (tables : Vocabulary Located) → opening ver s ≡ onward body tables → (es : List EventRead) (m : Stand) → reading ver s room ≡ accepted es m
    → Done empty (Lies s) tables (items_read es) m.state.tables
unfolding reading beginning
reading_done ver s room body tables o es m e = subst (GaveAll ver s tables) (ap (result_from ver s room) (sym o) ∙ e) (run_gave ver s (fuel_of s) room (origin body tables))
