-- Items, C.3 to C.8: what is read at an octet is what the rules write, and what they write is read.
use mathlib.Core.Path.{◌≡◌, refl, sym, ap, ap₂, ◌∙◌}
use mathlib.Core.Bool.{Bool, true, false, not, ◌&&◌, ◌||◌}
use mathlib.Core.Option.{Option, some}
use mathlib.Core.List.{List, [], ◌∷◌, ◌++◌, append_assoc, append-nil}
use Prim.Native.Nat.{ℕ, suc, ◌+◌, ◌-◌, ◌*◌, ◌/◌, ◌%◌, ◌≤◌, ◌<◌}
use native.Mathlib.Omega.{arith}
use borrow.Author.Tests.{lt-ltb, le-ltb, le-leb, eq-eqb, ne_eqb}
use lib.Dec.{eqb, ltb, leb}
use lib.ListN.{length, get_or, drop, length-append}
use lib.Seq.{drop-cons}
use Rattle.format.specs.Octets.{Octets}
use Rattle.format.specs.Numbers.{pick, behind_first, numbers, c25, top, longest}
use Rattle.format.specs.Events.{Name, Namespace, Start, Attribute, Text, Comment, Instruction, How, NameHow, for_namespace, for_start, for_attribute, for_text, for_comment, for_instruction, Item, ◌by◌, event_map}
use Rattle.format.specs.Tables.{OTHER_NCNAME, ATTRIBUTE_VALUE, CONTENT_CHARACTER_CHUNK, OTHER_STRING, Vocabulary, Version}
use Rattle.format.specs.Strings.{bit, c15}
use Rattle.format.specs.Names.{of_element, of_attribute, Named, Declared}
use Rattle.format.specs.Items.{Mode, content, declaring, listing, State, may_start, knowing, moved, opened, ItemWrittenAs, o_start, o_first_namespace, o_namespace, o_named_start, o_attribute, o_text, o_comment, o_instruction}
use Rattle.std.specs.Prelude.{Result, Ok as Num, Err as NoNum}
use Rattle.format.specs.declared.refusals.Fault.{Fault as NumFault}
use Rattle.format.specs.declared.refusals.Refusal.TheVariants.{Padding}
use Rattle.fields.specs.declared.Read.{Read}
use Rattle.fields.specs.Fields as F
use Rattle.fields.specs.Fields.{share_of, read_in, field_at}
use Rattle.fields.proofs.Laws.{case, rooms_in}
use Rattle.fields.proofs.Forms.{shares, rooms}
use Rattle.tables.specs.Located.{Located, plain, plain_tables, plain_state}
use Rattle.read_names.specs.Strings.{Got, id_at, literal_at, value_at}
use Rattle.read_names.specs.Names.{NameRead, lone_prefix, parts_at, numbered_at, name_at, declared_at}
use Rattle.read_items.specs.Items.{Stand, Step, more, quiet, done, stop, octet, name_padding, start_of, namespace_at, element_at, named_at, attribute_at, chunk_at, comment_at, instruction_at, other_at, child_at, declaring_at, item_at}
use Rattle.read_items.specs.Steps.{by_halves}
use Rattle.theorems.specs.Places.{item_spelled, in_item, event_at}
use Rattle.theorems.proofs.Lists.{Fault, fault, test, test_lt, test_not, either_lt, either_eq, drop_head, drop_past, pick_yes, pick_no}
use Rattle.theorems.proofs.Fields.{FieldRead, Ok, in_step, Hit}
use Rattle.theorems.proofs.Strings.{shape15, inside, IdR, id_sound, LiteralR, literal_sound, ValueR, value_sound, id_complete, literal_complete, value_complete}
use Rattle.theorems.proofs.Chosen.{Ranged}
use Rattle.theorems.proofs.Names.{element_shape, attribute_shape, NameR, numbered_sound, parts_sound, name_sound, DeclaredR, declared_sound, DeclaredQ, NameQ, NameHit, hit_numbered, hit_parts, name_complete, declared_complete}

-- ---- the six bits of an element's name
or_right : (a : Bool) → (a || true) ≡ true
or_right true = refl
or_right false = refl

one_bit : (a : Bool) → bit a ≤ 1
one_bit true = omega arith
one_bit false = omega arith

not_both : {X : Type 0} (t : Bool) → t ≡ true → t ≡ false → X
not_both t p q = absurd (let z : true ≡ false = sym p ∙ q in let y : ◌≡◌ {A = ℕ} 0 1 = cc in omega arith)

-- behind 1110 only 00 is no padding
unpadded_parts : (b : ℕ) → name_padding b ≡ false → 0x38 < b → b < 0x40 → 0x3C ≤ b
unfolding name_padding
unpadded_parts b e lo hi =
    case b 0x3C
    (λ h. not_both (name_padding b) (rw (eq-eqb (b / 4) 14 (omega arith), ne_eqb (b % 4) 0 (omega arith)) (or_right (eqb (b / 8) 6 && not (eqb (b % 8) 0)))) e)
    (λ h. h)

parts_unpadded : (b : ℕ) → 0x3C ≤ b → b < 0x40 → name_padding b ≡ false
unfolding name_padding
parts_unpadded b lo hi = rw (ne_eqb (b / 8) 6 (omega arith), ne_eqb (b / 4) 14 (omega arith))

-- 110 and then not 000 is no number
padded_refused : (s : Octets) (k b : ℕ) → 48 < b → b < 56 → read_in (shares (numbers 3)) top 1 s k b ≡ F.refused Padding k
unfolding read_in share_of behind_first numbers
padded_refused s k b lo hi =
    rw (
      le-ltb (b * 1) 32 (omega arith),
      le-ltb b 32 (omega arith),
      le-ltb ((b - 32) * 256) 2048 (omega arith),
      le-ltb (b - 32) 8 (omega arith),
      le-ltb ((b - 32 - 8) * 65536) 524288 (omega arith),
      le-ltb (b - 32 - 8) 8 (omega arith),
      le-ltb ((b - 32 - 8 - 8) * 16777216) 1048576 (omega arith),
      lt-ltb (b - 32 - 8 - 8) 8 (omega arith),
    )

is_no_number : {X : Type 0} (t : Bool) (a b : Result (Read ℕ) NumFault) (r : Read ℕ) (m j : NumFault) → a ≡ NoNum m → b ≡ NoNum j → pick t a b ≡ Num r → X
is_no_number true a b r m j e f g = absurd (cc)
is_no_number false a b r m j e f g = absurd (cc)

number_unpadded : (s : Octets) (k b : ℕ) (r : Read ℕ) → field_at (numbers 3) top 3 s k ≡ Num r → get_or s k 0 % 64 ≡ b → b < 56 → name_padding b ≡ false
unfolding name_padding field_at
number_unpadded s k b r e z h =
    case b 48 (λ y. rw (ne_eqb (b / 8) 6 (omega arith), ne_eqb (b / 4) 14 (omega arith)))
    (λ y. case 48 b
    (λ w. is_no_number (ltb k (length s)) _ _ r _ _ (padded_refused s k (get_or s k 0 % 64) (omega arith) (omega arith)) refl e)
    (λ w. let q : b ≡ 48 = omega arith in rw q))

-- ---- what is read is what the rules write
module _ (ver : Version) (s : Octets) (bytes : (i : ℕ) → get_or s i 0 < 256) (short : length s ≤ longest) where
  pub record ItemRead (k : ℕ) (v : State Located) (p : ℕ) (i : Item Located) (n : Stand) : Type 0 where
    pub octets : Octets
    pub rule : ItemWrittenAs ver (plain_state s v) (plain s i) octets (plain_state s n.state)
    pub here : drop k s ≡ octets ++ drop (k + length octets) s
    pub next : n.at ≡ 2 * (k + length octets)
    pub inside : k + length octets ≤ length s
    pub place : p ≤ length s

  abbrev pub Took : ℕ → State Located → Step → Type 0
  Took k v (more p i n) = ItemRead k v p i n
  Took k v (quiet n) = ⊥
  Took k v done = ⊥
  Took k v (stop c p) = Fault s c p

  -- the octets and what stands before them
  took : (k : ℕ) (v : State Located) (p : ℕ) (i : Item Located) (next : ℕ) (w : State Located) (o : Octets) → drop k s ≡ o ++ drop next s → next ≡ k + length o → next ≤ length s → p ≤ length s
      → ItemWrittenAs ver (plain_state s v) (plain s i) o (plain_state s w) → ItemRead k v p i (octet next w)
  took k v p i next w o d l ll pl u = record { octets = o; rule = u; here = rw (← l) d; next = ap (λ (x : ℕ). 2 * x) l; inside = omega arith; place = pl }

  -- a Start, behind the octets `pre`, once its name is read
  module _ (a : Bool) (lead k j : ℕ) (pre : Octets) (v : State Located) (d : drop j s ≡ pre ++ drop k s) (l : k ≡ j + length pre) (kl : k ≤ length s)
      (f : (x : Name Octets) (h : NameHow) (os : Octets) (w : Vocabulary Octets) → Named ver of_element lead (plain_tables s v.tables) x h os w
      → ItemWrittenAs ver (plain_state s v) (Start x by for_start h) (pre ++ os) (opened (plain_state s v) w a)) where
    start-read : (x : NameRead) (next : ℕ) (w : Vocabulary Located) → FieldRead s (NameR ver s bytes short of_element lead) k v.tables x next w
        → ItemRead j v k (Start x.name by for_start x.how) (octet next (opened v w a))
    unfolding event_map
    start-read x next w r =
        let la = length-append pre r.octets in
        took j v k (Start x.name by for_start x.how) next (opened v w a) (pre ++ r.octets) (d ∙ ap (λ (l : Octets). pre ++ l) r.here ∙ sym (append_assoc pre r.octets (drop next s))) (omega arith) r.inside kl (f _ _ _ _ r.rule)

    start_sound : (g : Got NameRead) → Ok s (NameR ver s bytes short of_element lead) k v.tables g → Took j v (start_of ver k a v g)
    start_sound g r = in_step s (Took j v) (λ c p f. f) (NameR ver s bytes short of_element lead) k v.tables g r _ λ x next w r. start-read x next w r

  namespace_sound : (k j : ℕ) (pre : Octets) (v : State Located) (a : Bool) → drop j s ≡ pre ++ drop k s → k ≡ j + length pre → k ≤ length s
      → ((p n : Option Octets) (hp hn : Option How) (os : Octets) (w : Vocabulary Octets) → Declared ver (plain_tables s v.tables) p n hp hn os w
      → ItemWrittenAs ver (plain_state s v) (Namespace p n by for_namespace hp hn) (pre ++ os) (moved (plain_state s v) w (declaring a)))
      → Took j v (namespace_at ver s k v a)
  unfolding namespace_at event_map
  namespace_sound k j pre v a d l kl f =
      in_step s (Took j v) (λ c p f. f) (DeclaredR ver s bytes short) k v.tables (declared_at ver s k v.tables) (declared_sound ver s bytes short k v.tables kl) _
      λ x next w r.
      let la = length-append pre r.octets in
      took j v k (Namespace x.prefix x.namespace by for_namespace x.prefix_how x.namespace_how) next (moved v w (declaring a)) (pre ++ r.octets)
      (d ∙ ap (λ (l : Octets). pre ++ l) r.here ∙ sym (append_assoc pre r.octets (drop next s))) (omega arith) r.inside kl (f _ _ _ _ _ _ r.rule)

  element_sound : (a : Bool) (k b : ℕ) (v : State Located) → Ranged (plain_tables s v.tables) → v.mode ≡ content → get_or s k 0 ≡ 64 * bit a + b → b < 64 → k < length s → Took k v (element_at ver s k b a v)
  unfolding element_at may_start of_element
  element_sound a k b v ranged md z hb h =
      let P : Step → Type 0 = Took k v in
      let kl : k ≤ length s = omega arith in
      test_not P (stop 6 k) (fault s 6 k refl kl) (name_padding b) _
      λ t0. test P (stop 15 k) (fault s 15 k refl kl) (may_start v) _
      λ t1. either_lt P b 0x38 _ _
      (λ h1. in_step s P (λ c p f. f) (NameR ver s bytes short of_element (64 * bit a)) k v.tables (numbered_at ver of_element s k v.tables) (numbered_sound ver s bytes short of_element element_shape (64 * bit a) k v.tables ranged kl (omega arith)) _
      λ x next w r. test_lt P (stop 13 k) (fault s 13 k refl kl) v.level ver.depth _
      λ t2. start-read a (64 * bit a) k k [] v refl (omega arith) kl (λ x hw os w u. o_start a md t1 t2 u) x next w r)
      λ h1. test_not P (stop 15 k) (fault s 15 k refl kl) (leb 0x3C b && lone_prefix b) _
      λ t3. test_lt P (stop 13 k) (fault s 13 k refl kl) v.level ver.depth _
      λ t2. either_eq P b 0x38 _ _
      (λ e. namespace_sound (suc k) k ((64 * bit a + 0x38) ∷ []) v a
      (drop-cons s k 0 h ∙ ap (λ (x : ℕ). x ∷ drop (suc k) s) (let y : get_or s k 0 ≡ 64 * bit a + 0x38 = omega arith in y)) (omega arith) h
      (λ p n hp hn os w u. o_first_namespace md t1 t2 u))
      (λ e. let lo = unpadded_parts b t0 (omega arith) hb in
      start_sound a (64 * bit a) k k [] v refl (omega arith) kl (λ x hw os w u. o_start a md t1 t2 u) (parts_at ver of_element s b k v.tables) (parts_sound ver s bytes short of_element (64 * bit a) b k v.tables (omega arith) h))

  -- behind F0
  named_sound : (a : Bool) (k : ℕ) (v : State Located) → Ranged (plain_tables s v.tables) → v.mode ≡ declaring a → get_or s k 0 ≡ 0xF0 → Took k v (named_at ver s (suc k) a v)
  unfolding named_at of_element
  named_sound a k v ranged md e =
      let P : Step → Type 0 = Took k v in
      let j : ℕ = suc k in
      let o : ℕ = get_or s j 0 in
      let h = inside ver s bytes short k 0xF0 e (omega arith) in
      let jl : j ≤ length s = omega arith in
      let d : drop k s ≡ (0xF0 ∷ []) ++ drop j s = drop-cons s k 0 h ∙ ap (λ (x : ℕ). x ∷ drop j s) e in
      let rule : (x : Name Octets) (hw : NameHow) (os : Octets) (w : Vocabulary Octets) → Named ver of_element 0 (plain_tables s v.tables) x hw os w
      → ItemWrittenAs ver (plain_state s v) (Start x by for_start hw) ((0xF0 ∷ []) ++ os) (opened (plain_state s v) w a) = λ x hw os w u. o_named_start md u in
      test_lt P (stop 2 j) (fault s 2 j refl jl) j (length s) _
      λ h1. either_eq P (o % 64 / 4) 14 _ _ (λ y. fault s 5 j refl jl)
      λ h2. test_lt P (stop 6 j) (fault s 6 j refl jl) o 0x40 _
      λ h3. test_not P (stop 6 j) (fault s 6 j refl jl) (name_padding o) _
      λ h4. start_sound a 0 j k (0xF0 ∷ []) v d (omega arith) jl rule (name_at ver of_element s o j v.tables)
      (name_sound ver s bytes short of_element element_shape 0 o j v.tables ranged (λ y. omega arith) (λ y. omega arith) h1)

  attribute_sound : (any : Bool) (k : ℕ) (v : State Located) → Ranged (plain_tables s v.tables) → k ≤ length s → v.mode ≡ listing any → Took k v (attribute_at ver s k v)
  unfolding attribute_at event_map of_attribute
  attribute_sound any k v ranged kl md =
      let P : Step → Type 0 = Took k v in
      let o : ℕ = get_or s k 0 in
      test_lt P (stop 2 k) (fault s 2 k refl kl) k (length s) _
      λ h. test_lt P (stop 5 k) (fault s 5 k refl kl) o 0x80 _
      λ h1. test_lt P (stop 6 k) (fault s 6 k refl kl) o 0x7C _
      λ h2. in_step s P (λ c p f. f) (NameR ver s bytes short of_attribute 0) k v.tables (name_at ver of_attribute s o k v.tables)
      (name_sound ver s bytes short of_attribute attribute_shape 0 o k v.tables ranged (λ y. omega arith) (λ y. omega arith) h) _
      λ x k₁ w₁ r₁. in_step s P (λ c p f. f) (ValueR ver s bytes short ATTRIBUTE_VALUE) k₁ w₁ (value_at ver s ATTRIBUTE_VALUE k₁ w₁) (value_sound ver s bytes short ATTRIBUTE_VALUE k₁ w₁ r₁.inside) _
      λ y k₂ w₂ r₂.
      let la = length-append r₁.octets r₂.octets in
      took k v k (Attribute x.name y.string by for_attribute x.how y.how) k₂ (moved v w₂ (listing true)) (r₁.octets ++ r₂.octets)
      (r₁.here ∙ ap (λ (l : Octets). r₁.octets ++ l) r₂.here ∙ sym (append_assoc r₁.octets r₂.octets (drop k₂ s)))
      (omega arith) r₂.inside kl (o_attribute md r₁.rule r₂.rule)

  chunk_sound : (k : ℕ) (v : State Located) → k ≤ length s → v.mode ≡ content → 0 < v.level → 0x80 ≤ get_or s k 0 → get_or s k 0 < 0xC0 → Took k v (chunk_at ver s k v)
  unfolding chunk_at event_map c15
  chunk_sound k v kl md lev lo hi =
      in_step s (Took k v) (λ c p f. f) (LiteralR ver s bytes short c15 CONTENT_CHARACTER_CHUNK) k v.tables (literal_at ver c15 s CONTENT_CHARACTER_CHUNK k v.tables)
      (literal_sound ver s bytes short c15 shape15 CONTENT_CHARACTER_CHUNK k v.tables kl (omega arith) (omega arith)) _
      λ y next w r. took k v k (Text y.string by for_text y.how) next (knowing v w) r.octets r.here r.next_is r.inside kl (o_text md lev r.rule)

  comment_sound : (k : ℕ) (v : State Located) → v.mode ≡ content → get_or s k 0 ≡ 0xE2 → k < length s → Took k v (comment_at ver s k v)
  unfolding comment_at event_map
  comment_sound k v md e h =
      let kl : k ≤ length s = omega arith in
      in_step s (Took k v) (λ c p f. f) (ValueR ver s bytes short OTHER_STRING) (suc k) v.tables (value_at ver s OTHER_STRING (suc k) v.tables) (value_sound ver s bytes short OTHER_STRING (suc k) v.tables h) _
      λ y next w r.
      took k v k (Comment y.string by for_comment y.how) next (knowing v w) (0xE2 ∷ r.octets)
      (drop-cons s k 0 h ∙ ap₂ (λ (x : ℕ) (l : Octets). x ∷ l) e r.here) (omega arith) r.inside kl (o_comment md r.rule)

  instruction_sound : (k : ℕ) (v : State Located) → v.mode ≡ content → get_or s k 0 ≡ 0xE1 → k < length s → Took k v (instruction_at ver s k v)
  unfolding instruction_at event_map
  instruction_sound k v md e h =
      let kl : k ≤ length s = omega arith in
      let P : Step → Type 0 = Took k v in
      in_step s P (λ c p f. f) (IdR ver s bytes short OTHER_NCNAME) (suc k) v.tables (id_at ver s OTHER_NCNAME (suc k) v.tables) (id_sound ver s bytes short OTHER_NCNAME (suc k) v.tables h) _
      λ x k₁ w₁ r₁. in_step s P (λ c p f. f) (ValueR ver s bytes short OTHER_STRING) k₁ w₁ (value_at ver s OTHER_STRING k₁ w₁) (value_sound ver s bytes short OTHER_STRING k₁ w₁ r₁.inside) _
      λ y k₂ w₂ r₂.
      let la = length-append r₁.octets r₂.octets in
      took k v k (Instruction x.string y.string by for_instruction x.how y.how) k₂ (knowing v w₂) (0xE1 ∷ (r₁.octets ++ r₂.octets))
      (drop-cons s k 0 h ∙ ap₂ (λ (x : ℕ) (l : Octets). x ∷ l) e (r₁.here ∙ ap (λ (l : Octets). r₁.octets ++ l) r₂.here ∙ sym (append_assoc r₁.octets r₂.octets (drop k₂ s))))
      (omega arith) r₂.inside kl (o_instruction md r₁.rule r₂.rule)

  other_sound : (k : ℕ) (v : State Located) → k ≤ length s → Took k v (other_at ver s k v)
  unfolding other_at
  other_sound k v kl =
      let P : Step → Type 0 = Took k v in
      either_lt P (get_or s k 0) 0xF0 _ _ (λ h. either_eq P (get_or s k 0 / 4) (pick (ltb 0 v.level) 0x32 0x31) _ _ (λ e. fault s 8 k refl kl) (λ e. fault s 5 k refl kl)) (λ h. fault s 6 k refl kl)

  child_sound : (k : ℕ) (v : State Located) → Ranged (plain_tables s v.tables) → k ≤ length s → v.mode ≡ content → Took k v (child_at ver s k v)
  unfolding child_at
  child_sound k v ranged kl md =
      let o : ℕ = get_or s k 0 in
      let P : Step → Type 0 = Took k v in
      test_lt P (stop 2 k) (fault s 2 k refl kl) k (length s) _
      λ h. either_lt P o 0x40 _ _ (λ h1. element_sound false k o v ranged md (omega arith) h1 h)
      λ h1. either_lt P o 0x80 _ _ (λ h2. element_sound true k (o - 0x40) v ranged md (omega arith) (omega arith) h)
      λ h2. either_lt P o 0xC0 _ _ (λ h3. test_lt P (stop 5 k) (fault s 5 k refl kl) 0 v.level _ λ lev. chunk_sound k v kl md lev h2 h3)
      λ h3. either_eq P o 0xE1 _ _ (λ e. instruction_sound k v md e h)
      λ e1. either_eq P o 0xE2 _ _ (λ e. comment_sound k v md e h) (λ e2. other_sound k v kl)

  pub item_sound : (k : ℕ) (v : State Located) (m : Mode) → Ranged (plain_tables s v.tables) → k ≤ length s → v.mode ≡ m → Took k v (item_at ver s k v m)
  unfolding item_at declaring_at
  item_sound k v content ranged kl md = child_sound k v ranged kl md
  item_sound k v (declaring a) ranged kl md =
      either_eq (Took k v) (get_or s k 0) 0xF0 _ _ (λ e. named_sound a k v ranged md e)
      (λ e. namespace_sound k k [] v a refl (omega arith) kl (λ p n hp hn os w u. o_namespace md u))
  item_sound k v (listing any) ranged kl md = attribute_sound any k v ranged kl md

-- ---- what the rules write is read
module _ (ver : Version) (s : Octets) where
  -- p is where its strings are spelled, place where its event stands
  pub record ItemHit (k : ℕ) (v : State Located) (i : Item Octets) (o : Octets) (w : State Octets) (p : List Located) (place : ℕ) : Type 0 where
    pub found : Item Located
    pub n : State Located
    pub goes : item_at ver s k v v.mode ≡ more place found (octet (k + length o) n)
    pub what : plain s found ≡ i
    pub spells : item_spelled found ≡ p
    pub state : plain_state s n ≡ w
    pub some : 0 < length o
    pub here : k < length s
    pub first : by_halves v.mode ≡ true → get_or s k 0 < 0xF0

  -- which child the first octet says
  element_goes : (a : Bool) (k b : ℕ) (v : State Located) → get_or s k 0 ≡ 64 * bit a + b → b < 64 → k < length s → child_at ver s k v ≡ element_at ver s k b a v
  unfolding child_at
  element_goes false k b v e h l =
      let z : get_or s k 0 ≡ b = omega arith in
      pick_yes (ltb k (length s)) _ _ (lt-ltb k (length s) l)
      ∙ pick_yes (ltb (get_or s k 0) 0x40) _ _ (lt-ltb (get_or s k 0) 0x40 (omega arith)) ∙ ap (λ (y : ℕ). element_at ver s k y false v) z
  element_goes true k b v e h l =
      let z : get_or s k 0 - 0x40 ≡ b = omega arith in
      pick_yes (ltb k (length s)) _ _ (lt-ltb k (length s) l)
      ∙ pick_no (ltb (get_or s k 0) 0x40) _ _ (le-ltb (get_or s k 0) 0x40 (omega arith))
      ∙ pick_yes (ltb (get_or s k 0) 0x80) _ _ (lt-ltb (get_or s k 0) 0x80 (omega arith)) ∙ ap (λ (y : ℕ). element_at ver s k y true v) z

  chunk_goes : (k : ℕ) (v : State Located) → 0 < v.level → c15.spelled_bits ≤ get_or s k 0 → get_or s k 0 < c15.numbered_bits + rooms c15.number_forms → k < length s → child_at ver s k v ≡ chunk_at ver s k v
  unfolding child_at c15 rooms_in share_of behind_first numbers
  chunk_goes k v lev lo hi l =
      pick_yes (ltb k (length s)) _ _ (lt-ltb k (length s) l)
      ∙ pick_no (ltb (get_or s k 0) 0x40) _ _ (le-ltb (get_or s k 0) 0x40 (omega arith))
      ∙ pick_no (ltb (get_or s k 0) 0x80) _ _ (le-ltb (get_or s k 0) 0x80 (omega arith))
      ∙ pick_yes (ltb (get_or s k 0) 0xC0) _ _ (lt-ltb (get_or s k 0) 0xC0 (omega arith))
      ∙ pick_yes (ltb 0 v.level) _ _ (lt-ltb 0 v.level lev)

  -- an octet from C0 on
  high_goes : (k : ℕ) (v : State Located) → 0xC0 ≤ get_or s k 0 → k < length s
      → child_at ver s k v ≡ pick (eqb (get_or s k 0) 0xE1) (instruction_at ver s k v) (pick (eqb (get_or s k 0) 0xE2) (comment_at ver s k v) (other_at ver s k v))
  unfolding child_at
  high_goes k v lo l =
      pick_yes (ltb k (length s)) _ _ (lt-ltb k (length s) l)
      ∙ pick_no (ltb (get_or s k 0) 0x40) _ _ (le-ltb (get_or s k 0) 0x40 (omega arith))
      ∙ pick_no (ltb (get_or s k 0) 0x80) _ _ (le-ltb (get_or s k 0) 0x80 (omega arith))
      ∙ pick_no (ltb (get_or s k 0) 0xC0) _ _ (le-ltb (get_or s k 0) 0xC0 (omega arith))

  comment_goes : (k : ℕ) (v : State Located) → get_or s k 0 ≡ 0xE2 → k < length s → child_at ver s k v ≡ comment_at ver s k v
  comment_goes k v e l =
      high_goes k v (omega arith) l
      ∙ pick_no (eqb (get_or s k 0) 0xE1) _ _ (ne_eqb (get_or s k 0) 0xE1 (omega arith))
      ∙ pick_yes (eqb (get_or s k 0) 0xE2) _ _ (eq-eqb (get_or s k 0) 0xE2 e)

  instruction_goes : (k : ℕ) (v : State Located) → get_or s k 0 ≡ 0xE1 → k < length s → child_at ver s k v ≡ instruction_at ver s k v
  instruction_goes k v e l = high_goes k v (omega arith) l ∙ pick_yes (eqb (get_or s k 0) 0xE1) _ _ (eq-eqb (get_or s k 0) 0xE1 e)

  not_halves : (m : Mode) (a : Bool) {X : Type 0} → m ≡ declaring a → by_halves m ≡ true → X
  not_halves m a q e = not_both (by_halves m) e (ap by_halves q)

  -- a Start, at its first octet
  record StartHit (a : Bool) (k : ℕ) (v : State Located) (x : Name Octets) (h : NameHow) (os : Octets) (w : Vocabulary Octets) (p : List Located) (t : Step) : Type 0 where
    name : NameRead
    tables : Vocabulary Located
    goes : t ≡ more k (Start name.name by for_start name.how) (octet (k + length os) (opened v tables a))
    what : NameQ ver s x h p name
    state : plain_tables s tables ≡ w

  start_hit : (a : Bool) (k : ℕ) (v : State Located) {x : Name Octets} {h : NameHow} {os : Octets} {w : Vocabulary Octets} {p : List Located} (g : Got NameRead) → Hit s (NameQ ver s x h p) (k + length os) w g → StartHit a k v x h os w p (start_of ver k a v g)
  start_hit a k v g h = record { name = h.b; tables = h.v; goes = rw h.goes; what = h.what; state = h.state }

  element_hit : (a : Bool) (k : ℕ) (v : State Located) {x : Name Octets} {h : NameHow} {os : Octets} {w : Vocabulary Octets} {p : List Located} → may_start v ≡ true → v.level < ver.depth → k < length s
      → NameHit ver s of_element (64 * bit a) k v.tables x h os w p → StartHit a k v x h os w p (child_at ver s k v)
  unfolding element_at of_element rooms_in share_of behind_first numbers
  element_hit a k v {os = os} may deep l (hit_numbered o oc hi r e hit) =
      let z : get_or s k 0 % 64 ≡ o = let b1 = one_bit a in omega arith in
      record {
        name = hit.b;
        tables = hit.v;
        goes = element_goes a k o v oc (omega arith) l ∙ rw (number_unpadded s k o r e z hi, may, lt-ltb o 0x38 hi, hit.goes, lt-ltb v.level ver.depth deep);
        what = hit.what;
        state = hit.state;
      }
  element_hit a k v {os = os} may deep l (hit_parts o oc lo hi lone hit) =
      record {
        name = hit.b;
        tables = hit.v;
        goes = element_goes a k o v oc hi l
            ∙ rw (parts_unpadded o lo hi, may, le-ltb o 0x38 (omega arith), le-leb 0x3C o lo, lone, lt-ltb v.level ver.depth deep, ne_eqb o 0x38 (omega arith), hit.goes);
        what = hit.what;
        state = hit.state;
      }

  named_hit : (a : Bool) (k : ℕ) (v : State Located) {x : Name Octets} {h : NameHow} {os : Octets} {w : Vocabulary Octets} {p : List Located} → k < length s
      → NameHit ver s of_element 0 k v.tables x h os w p → StartHit a k v x h os w p (named_at ver s k a v)
  unfolding named_at name_at of_element rooms_in share_of behind_first numbers
  named_hit a k v l (hit_numbered o oc hi r e hit) =
      let q : get_or s k 0 ≡ o = omega arith in
      rw (lt-ltb k (length s) l, q, ne_eqb (o % 64 / 4) 14 (omega arith), lt-ltb o 0x40 (omega arith), number_unpadded s k o r e (omega arith) hi, lt-ltb o 0x3C (omega arith)) (start_hit a k v _ hit)
  named_hit a k v l (hit_parts o oc lo hi lone hit) =
      let q : get_or s k 0 ≡ o = omega arith in
      rw (lt-ltb k (length s) l, q, ne_eqb (o % 64 / 4) 14 (omega arith), lt-ltb o 0x40 hi, parts_unpadded o lo hi, le-ltb o 0x3C lo) (start_hit a k v _ hit)

  -- an attribute's name
  attribute_hit : (k : ℕ) (v : Vocabulary Located) {x : Name Octets} {h : NameHow} {os : Octets} {w : Vocabulary Octets} {p : List Located} → NameHit ver s of_attribute 0 k v x h os w p
      → Hit s (NameQ ver s x h p) (k + length os) w (name_at ver of_attribute s (get_or s k 0) k v) × (get_or s k 0 < 0x7C)
  unfolding name_at of_attribute rooms_in share_of behind_first c25
  attribute_hit k v (hit_numbered o oc hi r e hit) = (rw (lt-ltb (get_or s k 0) 0x78 (omega arith)) hit, omega arith)
  attribute_hit k v (hit_parts o oc lo hi lone hit) = let q : get_or s k 0 ≡ o = omega arith in (rw (q, le-ltb o 0x78 lo) hit, omega arith)

  name_first : (a : Bool) {k : ℕ} {v : Vocabulary Located} {x : Name Octets} {h : NameHow} {os : Octets} {w : Vocabulary Octets} {p : List Located} → NameHit ver s of_element (64 * bit a) k v x h os w p → get_or s k 0 < 0x80
  unfolding of_element rooms_in share_of behind_first numbers
  name_first a (hit_numbered o oc hi r e hit) = let b1 = one_bit a in omega arith
  name_first a (hit_parts o oc lo hi lone hit) = let b1 = one_bit a in omega arith

  -- a Start or a declaration, found from octet j on, in an item that starts at k
  module _ (k j : ℕ) (v : State Located) (o os : Octets) (z : j + length os ≡ k + length o) (some : 0 < length o) (here : k < length s) (first : by_halves v.mode ≡ true → get_or s k 0 < 0xF0) (a : Bool) where
    start_item : {x : Name Octets} {h : NameHow} {w : Vocabulary Octets} {p : List Located} {t : Step} → StartHit a j v x h os w p t → item_at ver s k v v.mode ≡ t
        → ItemHit k v (Start x by for_start h) o (opened (plain_state s v) w a) p j
    unfolding event_map
    start_item t e =
        record {
          found = Start t.name.name by for_start t.name.how;
          n = opened v t.tables a;
          goes = rw (← z) (e ∙ t.goes);
          what = λ i. Start (t.what.0 i) by for_start (t.what.1 i);
          spells = rw append-nil t.what.2;
          state = ap (λ (y : Vocabulary Octets). opened (plain_state s v) y a) t.state;
          some = some;
          here = here;
          first = first;
        }

    namespace_item : {p n : Option Octets} {hp hn : Option How} {w : Vocabulary Octets} {l : List Located} → Hit s (DeclaredQ ver s p n hp hn l) (j + length os) w (declared_at ver s j v.tables)
        → item_at ver s k v v.mode ≡ namespace_at ver s j v a → ItemHit k v (Namespace p n by for_namespace hp hn) o (moved (plain_state s v) w (declaring a)) l j
    unfolding namespace_at event_map
    namespace_item h e =
        record {
          found = Namespace h.b.prefix h.b.namespace by for_namespace h.b.prefix_how h.b.namespace_how;
          n = moved v h.v (declaring a);
          goes = rw (← z) (e ∙ rw h.goes);
          what = λ i. Namespace (h.what.0 i) (h.what.1 i) by for_namespace (h.what.2 i) (h.what.3 i);
          spells = rw append-nil h.what.4;
          state = ap (λ (y : Vocabulary Octets). moved (plain_state s v) y (declaring a)) h.state;
          some = some;
          here = here;
          first = first;
        }

  pub item_complete : (k : ℕ) (v : State Located) {i : Item Octets} {o : Octets} {w : State Octets} (rest : Octets) (u : ItemWrittenAs ver (plain_state s v) i o w) → drop k s ≡ o ++ rest → ItemHit k v i o w (in_item k u) (event_at k u)
  unfolding item_at declaring_at namespace_at element_at attribute_at chunk_at comment_at instruction_at event_map may_start of_element of_attribute
  item_complete k v rest (o_start a {o = os} md may deep u) d =
      let c = name_complete ver s of_element element_shape (bit a) (64 * bit a) k (omega arith) v.tables rest u d in
      let f = name_first a c.0 in
      start_item k k v os os refl c.1 c.2 (λ y. omega arith) a (element_hit a k v may deep c.2 c.0) (ap (λ (y : Mode). item_at ver s k v y) md)
  item_complete k v rest (o_first_namespace {a = a} {o = os} md may deep u) d =
      let f = drop_head s k (64 * bit a + 0x38) (os ++ rest) d in
      let oc = f.1 in
      let b1 = one_bit a in
      let c = declared_complete ver s (suc k) v.tables rest u f.2 in
      let pad : name_padding 0x38 ≡ false = unfold name_padding in refl in
      namespace_item k (suc k) v _ os (omega arith) (omega arith) f.0 (λ y. omega arith) a c.0
      (ap (λ (y : Mode). item_at ver s k v y) md ∙ element_goes a k 0x38 v oc (omega arith) f.0 ∙ rw (pad, may, lt-ltb v.level ver.depth deep))
  item_complete k v rest (o_namespace {a = a} {o = os} md u) d =
      let c = declared_complete ver s k v.tables rest u d in
      namespace_item k k v os os refl c.4 c.3 (λ y. not_halves v.mode a md y) a c.0 (ap (λ (y : Mode). item_at ver s k v y) md ∙ rw (ne_eqb (get_or s k 0) 0xF0 (omega arith)))
  item_complete k v rest (o_named_start {a = a} {o = os} md u) d =
      let f = drop_head s k 0xF0 (os ++ rest) d in
      let c = name_complete ver s of_element element_shape 0 0 (suc k) refl v.tables rest u f.2 in
      start_item k (suc k) v _ os (omega arith) (omega arith) f.0 (λ y. not_halves v.mode a md y) a (named_hit a (suc k) v c.2 c.0)
      (ap (λ (y : Mode). item_at ver s k v y) md ∙ rw (eq-eqb (get_or s k 0) 0xF0 f.1))
  item_complete k v rest (o_attribute {some = any} {y = y} {g = g} {o₁ = o1} {o₂ = o2} {w₁ = w1} {w₂ = w2} md u1 u2) d =
      let d1 : drop k s ≡ o1 ++ (o2 ++ rest) = d ∙ append_assoc o1 o2 rest in
      let c = name_complete ver s of_attribute attribute_shape 0 0 k refl v.tables (o2 ++ rest) u1 d1 in
      let t = attribute_hit k v.tables c.0 in
      let h = t.0 in
      let hi = t.1 in
      let e = value_complete ver s ATTRIBUTE_VALUE (k + length o1) h.v rest h.state u2 (drop_past s k o1 (o2 ++ rest) d1) in
      let la = length-append o1 o2 in
      let z : k + length o1 + length o2 ≡ k + length (o1 ++ o2) = omega arith in
      record {
        found = Attribute h.b.name e.b.string by for_attribute h.b.how e.b.how;
        n = moved v e.v (listing true);
        goes = ap (λ (y : Mode). item_at ver s k v y) md ∙ rw (lt-ltb k (length s) c.2, lt-ltb (get_or s k 0) 0x80 (omega arith), lt-ltb (get_or s k 0) 0x7C hi, h.goes, e.goes, z);
        what = λ j. Attribute (h.what.0 j) (e.what.0 j) by for_attribute (h.what.1 j) (e.what.1 j);
        spells = rw append-nil (λ j. h.what.2 j ++ e.what.2 j);
        state = ap (λ (y : Vocabulary Octets). moved (plain_state s v) y (listing true)) e.state;
        some = omega arith;
        here = c.2;
        first = λ y. omega arith;
      }
  item_complete k v rest (o_text {o = os} md lev u) d =
      let c = literal_complete ver s c15 shape15 CONTENT_CHARACTER_CHUNK k v.tables rest u d in
      let h = c.hit in
      record {
        found = Text h.b.string by for_text h.b.how;
        n = knowing v h.v;
        goes = ap (λ (y : Mode). item_at ver s k v y) md ∙ chunk_goes k v lev c.low c.last c.here ∙ rw h.goes;
        what = λ j. Text (h.what.0 j) by for_text (h.what.1 j);
        spells = rw append-nil h.what.2;
        state = ap (λ (y : Vocabulary Octets). knowing (plain_state s v) y) h.state;
        some = c.some;
        here = c.here;
        first = λ y. let f = shape15.fits in omega arith;
      }
  item_complete k v rest (o_comment {o = os} md u) d =
      let f = drop_head s k 0xE2 (os ++ rest) d in
      let h = value_complete ver s OTHER_STRING (suc k) v.tables rest refl u f.2 in
      let z : suc k + length os ≡ k + suc (length os) = omega arith in
      let oc = f.1 in
      record {
        found = Comment h.b.string by for_comment h.b.how;
        n = knowing v h.v;
        goes = ap (λ (y : Mode). item_at ver s k v y) md ∙ comment_goes k v oc f.0 ∙ rw (h.goes, z);
        what = λ j. Comment (h.what.0 j) by for_comment (h.what.1 j);
        spells = rw append-nil h.what.2;
        state = ap (λ (y : Vocabulary Octets). knowing (plain_state s v) y) h.state;
        some = omega arith;
        here = f.0;
        first = λ y. omega arith;
      }
  item_complete k v rest (o_instruction {x = x} {y = y} {h = hw} {g = g} {o₁ = o1} {o₂ = o2} {w₁ = w1} {w₂ = w2} md u1 u2) d =
      let f = drop_head s k 0xE1 ((o1 ++ o2) ++ rest) d in
      let oc = f.1 in
      let d1 : drop (suc k) s ≡ o1 ++ (o2 ++ rest) = f.2 ∙ append_assoc o1 o2 rest in
      let h = id_complete ver s OTHER_NCNAME (suc k) v.tables (o2 ++ rest) u1 d1 in
      let e = value_complete ver s OTHER_STRING (suc k + length o1) h.v rest h.state u2 (drop_past s (suc k) o1 (o2 ++ rest) d1) in
      let la = length-append o1 o2 in
      let z : suc k + length o1 + length o2 ≡ k + suc (length (o1 ++ o2)) = omega arith in
      record {
        found = Instruction h.b.string e.b.string by for_instruction h.b.how e.b.how;
        n = knowing v e.v;
        goes = ap (λ (y : Mode). item_at ver s k v y) md ∙ instruction_goes k v oc f.0 ∙ rw (h.goes, e.goes, z);
        what = λ j. Instruction (h.what.0 j) (e.what.0 j) by for_instruction (h.what.1 j) (e.what.1 j);
        spells = rw append-nil (λ j. h.what.3 j ++ e.what.2 j);
        state = ap (λ (y : Vocabulary Octets). knowing (plain_state s v) y) e.state;
        some = omega arith;
        here = f.0;
        first = λ y. omega arith;
      }
