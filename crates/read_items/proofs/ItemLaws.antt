-- Items: a law for each way out of the functions below `step`.
-- Assumes nothing.
use mathlib.Core.Path.{◌≡◌, refl, sym, ap, ◌∙◌}
use mathlib.Core.Bool.{Bool, true, false, not, ◌&&◌, ◌||◌, and-false, or-false, true≢false}
use Prim.Native.Nat.{ℕ, suc, ◌+◌, ◌-◌, ◌/◌, ◌%◌, ◌≤◌, ◌<◌}
use native.Mathlib.Numerals.{add-one}
use native.Mathlib.Omega.{arith}
use native.Mathlib.Decide.{dec_lt, ℕ_discrete}
use borrow.Author.Tests.{lt-ltb, le-ltb, le-leb, eq-eqb, ne_eqb}
use lib.Dec.{ltb, eqb}
use lib.ListN.{length, get_or}
use Rattle.std.specs.Prelude.{Result, Ok, Err}
use Rattle.format.specs.Octets.{Octets}
use Rattle.format.specs.declared.refusals.Fault.{Fault}
use Rattle.fields.specs.declared.Read.{Read}
use Rattle.format.specs.Events.{Namespace, Start, Attribute, Text, Comment, Instruction, for_namespace, for_start, for_attribute, for_text, for_comment, for_instruction, ◌by◌}
use Rattle.format.specs.Tables.{OTHER_NCNAME, ATTRIBUTE_VALUE, CONTENT_CHARACTER_CHUNK, OTHER_STRING, Vocabulary, link}
use Rattle.format.specs.Strings.{c15}
use Rattle.format.specs.Names.{of_element, of_attribute}
use Rattle.format.specs.Document.{aligned}
use Rattle.format.specs.Items as F
use Rattle.format.specs.Items.{may_start}
use Rattle.tables.specs.Located.{Located}
use Rattle.tables.specs.Rows.{vocabulary}
use Rattle.tables.specs.Kept.{unlisted}
use Rattle.states.specs.declared.State.{State}
use Rattle.states.specs.States.{mode_of, coming, moved_to, declaring_mode}
use Rattle.states.proofs.Modes.{mode_content, mode_listing, mode_listed, mode_declaring, after_mode, after-coming, declaring_coming, root_one}
use Rattle.events.specs.declared.EventString.{EventString}
use Rattle.events.specs.declared.EventString.TheVariants.{Absent}
use Rattle.events.specs.declared.Kind.TheVariants as K
use Rattle.events.specs.declared.Event as E
use Rattle.events.specs.Records.{record_of, namespace_record, chunk_record, comment_record, instruction_record}
use Rattle.events.specs.Kept.{kept}
use Rattle.read_names.specs.declared.Binding.{Binding}
use Rattle.read_names.specs.declared.Parts.{Parts}
use Rattle.read_names.specs.Strings as S
use Rattle.read_names.specs.Strings.{StringRead, id_at, literal_at, value_at}
use Rattle.read_names.specs.Names.{NameRead, parts_at, numbered_at, name_at, declared_at}
use Rattle.read_names.specs.Promises.{Seen, IdLeft, FieldLeft, DeclaredLeft, seen_id, id_seen, seen_field, string_seen, seen_name, name_seen, seen_declared, declared_seen, event_string_at, name_strings_at}
use Rattle.read_names.proofs.Grown.{string_stays, name_stays}
use Rattle.read_items.specs.declared.Step.{Step}
use Rattle.read_items.specs.declared.Step.TheVariants.{Event}
use Rattle.read_items.specs.Items as I
use Rattle.read_items.specs.Items.{Stand, name_padding, start_of, namespace_at, element_at, named_at, attribute_at, chunk_at, comment_at, instruction_at, other_at, child_at, declaring_at, item_at}
use Rattle.read_items.specs.Steps.{ends_at, pads_at, end_at, by_halves, step}
use Rattle.read_items.specs.Promises.{Lent, stand_of, Good, Met, Meets}
use Rattle.read_items.specs.HeadContracts.{start_by, attribute_by}
use Rattle.read_items.specs.ItemContracts.{named_record, start_step, start_records, StartsBy}
use Rattle.read_items.proofs.StepLaws.{refuse, tell}
use Rattle.read_items.proofs.Fields.{as_string, id_not, id_is, string_not, string_is, name_is, declared_not, declared_is, moved_good}

-- What a field that is read goes into.
into_got : {B : Type 0} {g : S.Got B} {x : B} {next : ℕ} {w : Vocabulary Located} (f : B → ℕ → Vocabulary Located → I.Step) → g ≡ S.got x next w → I.into g f ≡ f x next w
into_got f e = rw e

-- ---- chunks, comments
-- A string's answer r stands for the definition's, g, and what was lent was a and is b.
abbrev pub Says : Octets → Lent → Result (Read EventString) Fault → Lent → S.Got StringRead → Type 0
Says s a r b g = (seen_field r b.counts b.tables ≡ string_seen g) × FieldLeft s a.counts a.tables r b.counts b.tables b.index

module _ {s : Octets} {st : State} {n : ℕ} {a b : Lent} (k : ℕ) where
  module _ {f : Fault} (q : b.records ≡ a.records) where
    pub chunk_refused : Says s a (Err f) b (literal_at link c15 s CONTENT_CHARACTER_CHUNK k (stand_of st a).state.tables) → Meets s st n a (Err f) b (chunk_at link s k)
    unfolding chunk_at
    chunk_refused y = refuse y.1 q (rw (string_not (literal_at link c15 s CONTENT_CHARACTER_CHUNK k (stand_of st a).state.tables) b.counts b.tables f y.0))

    pub comment_refused : Says s a (Err f) b (value_at link s OTHER_STRING (k + 1) (stand_of st a).state.tables) → Meets s st n a (Err f) b (comment_at link s k)
    unfolding comment_at
    comment_refused y = refuse y.1 q (rw (string_not (value_at link s OTHER_STRING (suc k) (stand_of st a).state.tables) b.counts b.tables f (rw add-one at y.0)))

  module _ (x : Read EventString) {e : E.Event} (g : Good s st a) (q : b.records ≡ kept a.records n k e) where
    pub chunk_more : e ≡ chunk_record x.value → Says s a (Ok x) b (literal_at link c15 s CONTENT_CHARACTER_CHUNK k (stand_of st a).state.tables)
        → Meets s st n a (Ok (Event (moved_to st x.next.at st.mode) k)) b (chunk_at link s k)
    unfolding chunk_at record_of
    chunk_more z y =
        let i = string_is (literal_at link c15 s CONTENT_CHARACTER_CHUNK k (stand_of st a).state.tables) b.counts b.tables x y.0 in
        tell (Text i.what.string by for_text i.what.how) (moved_good st x.next.at st.mode y.1 g.shallow) q (ap chunk_record i.seen ∙ sym z) (into_got _ i.is)

    pub comment_more : e ≡ comment_record x.value → Says s a (Ok x) b (value_at link s OTHER_STRING (k + 1) (stand_of st a).state.tables)
        → Meets s st n a (Ok (Event (moved_to st x.next.at st.mode) k)) b (comment_at link s k)
    unfolding comment_at record_of
    comment_more z y =
        let i = string_is (value_at link s OTHER_STRING (suc k) (stand_of st a).state.tables) b.counts b.tables x (rw add-one at y.0) in
        tell (Comment i.what.string by for_comment i.what.how) (moved_good st x.next.at st.mode y.1 g.shallow) q (ap comment_record i.seen ∙ sym z) (into_got _ i.is)

-- ---- instructions
module _ {s : Octets} {st : State} {n : ℕ} {a b : Lent} (k : ℕ) where
  pub target_refused : {f : Fault} → b.records ≡ a.records
      → seen_id 3 (Err f) b.counts b.tables ≡ id_seen (id_at link s OTHER_NCNAME (k + 1) (stand_of st a).state.tables)
      → IdLeft s a.counts a.tables 3 (Err f) b.counts b.tables b.index → Meets s st n a (Err f) b (instruction_at link s k)
  unfolding instruction_at
  target_refused {f = f} q y l = refuse l q (rw (id_not (id_at link s OTHER_NCNAME (suc k) (stand_of st a).state.tables) 3 b.counts b.tables f (rw add-one at y)))

  -- The target is read, and what is lent then is c.
  module _ (c : Lent) (t : Read ℕ)
      (y : seen_id 3 (Ok t) c.counts c.tables ≡ id_seen (id_at link s OTHER_NCNAME (k + 1) (stand_of st a).state.tables))
      (l : IdLeft s a.counts a.tables 3 (Ok t) c.counts c.tables c.index) where
    pub instruction_refused : {f : Fault} → Says s c (Err f) b (value_at link s OTHER_STRING t.next.at (vocabulary (unlisted c.counts) c.tables))
        → b.records ≡ a.records → Meets s st n a (Err f) b (instruction_at link s k)
    unfolding instruction_at
    instruction_refused {f = f} x z =
        let i = id_is (id_at link s OTHER_NCNAME (suc k) (stand_of st a).state.tables) 3 c.counts c.tables t (rw add-one at y) in
        refuse x.1 z (rw (i.is, string_not (value_at link s OTHER_STRING t.next.at (vocabulary (unlisted c.counts) c.tables)) b.counts b.tables f x.0))

    pub instruction_more : {v : Read EventString} {e : E.Event} → Says s c (Ok v) b (value_at link s OTHER_STRING t.next.at (vocabulary (unlisted c.counts) c.tables))
        → Good s st a → b.records ≡ kept a.records n k e → e ≡ instruction_record (event_string_at b.tables 3 t.value) v.value
        → Meets s st n a (Ok (Event (moved_to st v.next.at st.mode) k)) b (instruction_at link s k)
    unfolding instruction_at record_of
    instruction_more {v = v} x g z w =
        let i = id_is (id_at link s OTHER_NCNAME (suc k) (stand_of st a).state.tables) 3 c.counts c.tables t (rw add-one at y) in
        let j = string_is (value_at link s OTHER_STRING t.next.at (vocabulary (unlisted c.counts) c.tables)) b.counts b.tables v x.0 in
        let left = x.1 in
        let text = ap (λ (z : Seen). z.text) i.seen in
        let same = string_stays c.counts c.tables b.counts b.tables left.grown 3 t.value (omega arith) l.1 in
        tell (Instruction i.what.string j.what.string by for_instruction i.what.how j.what.how) (moved_good st v.next.at st.mode left g.shallow) z
        (rw (text, j.seen, ← same) (sym w))
        (into_got _ i.is ∙ into_got _ j.is)

-- ---- padding in a name's six bits
module _ (b : ℕ) (l : b < 64) where
  module _ (e : b / 8 % 8 ≡ 6) (r : ℕ) (q : r ≡ b / 1 % 8) where
    pub padding_longest : not (eqb r 0) ≡ name_padding b
    unfolding name_padding
    padding_longest =
        let x : b / 8 ≡ 6 = omega arith in
        let y : b / 4 ≡ 14 → ⊥ = λ z. omega arith in
        let z : r ≡ b % 8 = omega arith in
        rw (eq-eqb _ _ x, ne_eqb _ _ y, z, or-false)

  module _ (n : b / 8 % 8 ≡ 6 → ⊥) where
    below : b / 8 ≡ 6 → ⊥
    below x = n (omega arith)

    pub padding_in_parts : b / 4 % 16 ≡ 14 → (r : ℕ) → r ≡ b / 1 % 4 → not (eqb r 0) ≡ name_padding b
    unfolding name_padding
    padding_in_parts e r q =
        let x : b / 4 ≡ 14 = omega arith in
        let z : r ≡ b % 4 = omega arith in
        rw (ne_eqb _ _ below, eq-eqb _ _ x, z)

    pub padding_none : (b / 4 % 16 ≡ 14 → ⊥) → false ≡ name_padding b
    unfolding name_padding
    padding_none e = let y : b / 4 ≡ 14 → ⊥ = λ x. e (omega arith) in rw (ne_eqb _ _ below, ne_eqb _ _ y)

pub padding_known : (b : ℕ) → 0x38 ≤ b → b < 0x3C → (b ≡ 0x38 → ⊥) → name_padding b ≡ true
unfolding name_padding
padding_known b l o x = let p : b / 8 ≡ 7 = omega arith in let q : b / 4 ≡ 14 = omega arith in let y : b % 4 ≡ 0 → ⊥ = λ z. x (omega arith) in rw (p, q, ne_eqb _ _ y)

-- ---- declarations
module _ {s : Octets} {st : State} {n : ℕ} {a b : Lent} (k : ℕ) (l : Bool) where
  pub namespace_refused : {f : Fault} → seen_declared (Err f) b.counts b.tables ≡ declared_seen (declared_at link s k (stand_of st a).state.tables)
      → DeclaredLeft s a.counts a.tables (Err f) b.counts b.tables b.index → b.records ≡ a.records → Meets s st n a (Err f) b (λ v. namespace_at link s k v l)
  unfolding namespace_at
  namespace_refused {f = f} y z q = refuse z q (rw (declared_not (declared_at link s k (stand_of st a).state.tables) b.counts b.tables f y))

  pub namespace_more : {x : Read Binding} {e : E.Event} → seen_declared (Ok x) b.counts b.tables ≡ declared_seen (declared_at link s k (stand_of st a).state.tables)
      → DeclaredLeft s a.counts a.tables (Ok x) b.counts b.tables b.index → st.level < 32 → b.records ≡ kept a.records n k e
      → e ≡ namespace_record (event_string_at b.tables 0 x.value.prefix) (event_string_at b.tables 1 x.value.namespace)
      → Meets s st n a (Ok (Event (moved_to st x.next.at (declaring_mode l)) k)) b (λ v. namespace_at link s k v l)
  unfolding namespace_at record_of
  namespace_more {x = x} y z h q w =
      let i = declared_is (declared_at link s k (stand_of st a).state.tables) b.counts b.tables x y in
      let c = declaring_coming l in
      tell (Namespace i.what.prefix i.what.namespace by for_namespace i.what.prefix_how i.what.namespace_how)
      (moved_good st x.next.at (declaring_mode l) z.0 (omega arith)) q (ap (λ (x : Parts). namespace_record x.prefix x.namespace) i.seen ∙ sym w)
      (into_got _ i.is ∙ rw (mode_declaring l))

-- ---- a Start
start_shallow : (k : ℕ) (l : Bool) (v : F.State Located) (g : S.Got NameRead) → v.level < 32 → start_of link k l v g ≡ start_by k l v g
unfolding start_by link
start_shallow k l v (S.got x next w) h = rw (lt-ltb _ _ h)
start_shallow k l v (S.refused n p) h = refl

module _ {s : Octets} {st : State} {n : ℕ} {a b : Lent} {d : Stand → I.Step} {y : Result Step Fault} (k : ℕ) (l : Bool) (g : S.Got NameRead) where
  pub start_met : (x : Read ℕ) → seen_name 8 (Ok x) b.counts b.tables ≡ name_seen g → IdLeft s a.counts a.tables 8 (Ok x) b.counts b.tables b.index
      → StartsBy st k l b.tables x a.records n y b.records → d (stand_of st a) ≡ start_by k l (stand_of st a).state g → Met s st n a y b d
  unfolding start_by start_step start_records record_of link
  start_met x q z j e =
      let i = name_is g 8 b.counts b.tables x q in
      elim (dec_lt st.level 32) [
        | yes h ↦
            let is = rw (lt-ltb _ _ h) at j.is in
            let keeps = rw (lt-ltb _ _ h) at j.keeps in
            let c = after-coming l in
            let w = z.0.within in
            rw is
            (tell (Start i.what.name by for_start i.what.how) (record { tidy = z.0.tidy; at = omega arith; shallow = omega arith }) keeps
            (ap (λ (x : Parts). named_record K.Start x Absent) i.seen) (e ∙ into_got _ i.is ∙ rw (lt-ltb _ _ h, root_one, after_mode l, add-one)))
        | no h ↦
            let is = rw (le-ltb st.level 32 (omega arith)) at j.is in
            let keeps = rw (le-ltb st.level 32 (omega arith)) at j.keeps in
            rw is (refuse (z.0.tidy.ten, z.0.tidy.room) keeps (e ∙ into_got _ i.is ∙ rw (le-ltb st.level 32 (omega arith))))
      ]

-- ---- an element by its six bits
module _ (s : Octets) (k b : ℕ) (l : Bool) (v : F.State Located) where
  pub element_padding : true ≡ name_padding b → element_at link s k b l v ≡ I.stop 6 k
  unfolding element_at
  element_padding e = rw (← e)

  module _ (u : false ≡ name_padding b) where
    pub element_second : false ≡ (ltb 0 v.level || not v.root) → element_at link s k b l v ≡ I.stop 15 k
    unfolding element_at may_start
    element_second e = rw (← u, ← e)

    module _ (m : true ≡ (ltb 0 v.level || not v.root)) where
      pub element_numbered : b < 0x38 → element_at link s k b l v ≡ start_by k l v (numbered_at link of_element s k v.tables)
      unfolding element_at may_start start_by
      element_numbered h = rw (← u, ← m, lt-ltb _ _ h)

      module _ (h : 0x38 ≤ b) where
        pub element_lone : b / 1 % 4 ≡ 2 → element_at link s k b l v ≡ I.stop 15 k
        unfolding element_at may_start
        element_lone e =
            let x : b % 4 ≡ 2 = omega arith in
            let f : 0x3C ≤ b = elim (dec_lt b 0x3C) [ yes o ↦ absurd (true≢false (sym (padding_known b h o (λ z. omega arith)) ∙ sym u)) | no o ↦ omega arith ] in
            rw (← u, ← m, le-ltb _ _ h, le-leb _ _ f, eq-eqb _ _ x)

        module _ (n : b / 1 % 4 ≡ 2 → ⊥) where
          whole : eqb (b % 4) 2 ≡ false
          whole = ne_eqb _ _ (λ (x : b % 4 ≡ 2). n (omega arith))

          pub element_deep : 32 ≤ v.level → element_at link s k b l v ≡ I.stop 13 k
          unfolding element_at may_start link
          element_deep o = rw (← u, ← m, le-ltb _ _ h, whole, and-false, le-ltb _ _ o)

          module _ (o : v.level < 32) where
            pub element_declaring : b ≡ 0x38 → element_at link s k b l v ≡ namespace_at link s (k + 1) v l
            unfolding element_at may_start link
            element_declaring e = rw (← u, ← m, le-ltb _ _ h, whole, and-false, lt-ltb _ _ o, eq-eqb _ _ e, add-one)

            pub element_parts : (b ≡ 0x38 → ⊥) → element_at link s k b l v ≡ start_by k l v (parts_at link of_element s b k v.tables)
            unfolding element_at may_start link
            element_parts e =
                let q : element_at link s k b l v ≡ start_of link k l v (parts_at link of_element s b k v.tables) = rw (← u, ← m, le-ltb _ _ h, whole, and-false, lt-ltb _ _ o, ne_eqb _ _ e) in
                q ∙ start_shallow k l v (parts_at link of_element s b k v.tables) o

-- ---- the name behind declarations
module _ (s : Octets) (k : ℕ) (l : Bool) (v : F.State Located) where
  pub named_missing : length s ≤ k → named_at link s k l v ≡ I.stop 2 k
  unfolding named_at
  named_missing h = rw (le-ltb _ _ h)

  module _ (h : k < length s) where
    pub named_code : get_or s k 0 / 4 % 16 ≡ 14 → named_at link s k l v ≡ I.stop 5 k
    unfolding named_at
    named_code e = let x : get_or s k 0 % 64 / 4 ≡ 14 = omega arith in rw (lt-ltb _ _ h, eq-eqb _ _ x)

    module _ (n : get_or s k 0 / 4 % 16 ≡ 14 → ⊥) where
      named : eqb (get_or s k 0 % 64 / 4) 14 ≡ false
      named = ne_eqb _ _ (λ (x : get_or s k 0 % 64 / 4 ≡ 14). n (omega arith))

      pub named_bits : 0x40 ≤ get_or s k 0 → named_at link s k l v ≡ I.stop 6 k
      unfolding named_at
      named_bits o = rw (lt-ltb _ _ h, named, le-ltb _ _ o)

      module _ (o : get_or s k 0 < 0x40) where
        pub named_padding : true ≡ name_padding (get_or s k 0) → named_at link s k l v ≡ I.stop 6 k
        unfolding named_at
        named_padding e = rw (lt-ltb _ _ h, named, lt-ltb _ _ o, ← e)

        pub named_start : false ≡ name_padding (get_or s k 0) → v.level < 32 → named_at link s k l v ≡ start_by k l v (name_at link of_element s (get_or s k 0) k v.tables)
        unfolding named_at
        named_start e d = rw (lt-ltb _ _ h, named, lt-ltb _ _ o, ← e) (start_shallow k l v (name_at link of_element s (get_or s k 0) k v.tables) d)

-- ---- attributes
module _ (s : Octets) (k : ℕ) (v : F.State Located) where
  pub attribute_missing : length s ≤ k → attribute_at link s k v ≡ I.stop 2 k
  unfolding attribute_at
  attribute_missing h = rw (le-ltb _ _ h)

  module _ (h : k < length s) (o : get_or s k 0 < 256) where
    pub attribute_bit : (get_or s k 0 / 128 % 2 ≡ 0 → ⊥) → attribute_at link s k v ≡ I.stop 5 k
    unfolding attribute_at
    attribute_bit n = let l : 0x80 ≤ get_or s k 0 = omega arith in rw (lt-ltb _ _ h, le-ltb _ _ l)

    module _ (b : get_or s k 0 / 128 % 2 ≡ 0) where
      low : get_or s k 0 < 0x80
      low = omega arith

      pub attribute_padding : get_or s k 0 / 4 % 32 ≡ 31 → attribute_at link s k v ≡ I.stop 6 k
      unfolding attribute_at
      attribute_padding e = let l = low in let m : 0x7C ≤ get_or s k 0 = omega arith in rw (lt-ltb _ _ h, lt-ltb _ _ l, le-ltb _ _ m)

      pub attribute_named : (get_or s k 0 / 4 % 32 ≡ 31 → ⊥) → attribute_at link s k v ≡ attribute_by s k v
      unfolding attribute_at
      attribute_named n = let l = low in let m : get_or s k 0 < 0x7C = omega arith in rw (lt-ltb _ _ h, lt-ltb _ _ l, lt-ltb _ _ m)

-- The name is read, and what is lent then is c; what is left is the value.
module _ {s : Octets} {st : State} {n : ℕ} {a b : Lent} (k : ℕ) {d : Stand → I.Step} (w : d (stand_of st a) ≡ attribute_by s k (stand_of st a).state)
    (c : Lent) (m : Read ℕ)
    (y : seen_name 9 (Ok m) c.counts c.tables ≡ name_seen (name_at link of_attribute s (get_or s k 0) k (stand_of st a).state.tables))
    (l : IdLeft s a.counts a.tables 9 (Ok m) c.counts c.tables c.index) where
  pub value_refused : {f : Fault} → Says s c (Err f) b (value_at link s ATTRIBUTE_VALUE m.next.at (vocabulary (unlisted c.counts) c.tables))
      → b.records ≡ a.records → Met s st n a (Err f) b d
  value_refused {f = f} x z =
      let i = name_is (name_at link of_attribute s (get_or s k 0) k (stand_of st a).state.tables) 9 c.counts c.tables m y in
      refuse x.1 z (w ∙ rw (i.is, string_not (value_at link s ATTRIBUTE_VALUE m.next.at (vocabulary (unlisted c.counts) c.tables)) b.counts b.tables f x.0))

  pub attribute_more : {v : Read EventString} → Says s c (Ok v) b (value_at link s ATTRIBUTE_VALUE m.next.at (vocabulary (unlisted c.counts) c.tables))
      → 1 ≤ m.value → Good s st a → b.records ≡ kept a.records n k (named_record K.Attribute (name_strings_at b.tables 9 m.value) v.value)
      → Met s st n a (Ok (Event (moved_to st v.next.at 2) k)) b d
  unfolding record_of coming
  attribute_more {v = v} x o g z =
      let i = name_is (name_at link of_attribute s (get_or s k 0) k (stand_of st a).state.tables) 9 c.counts c.tables m y in
      let j = string_is (value_at link s ATTRIBUTE_VALUE m.next.at (vocabulary (unlisted c.counts) c.tables)) b.counts b.tables v x.0 in
      let left = x.1 in
      let same = name_stays s c.counts c.tables c.index l.0.tidy 9 m.value (omega arith) (omega arith) o l.1 b.counts b.tables left.grown in
      let h = g.shallow in
      tell (Attribute i.what.name j.what.string by for_attribute i.what.how j.what.how) (moved_good st v.next.at 2 left (omega arith)) z
      (ap (λ (u : Parts). named_record K.Attribute u (as_string j.what)) (i.seen ∙ sym same) ∙ ap (named_record K.Attribute (name_strings_at b.tables 9 m.value)) j.seen)
      (w ∙ into_got _ i.is ∙ into_got _ j.is ∙ rw mode_listed)

-- ---- children
module _ (s : Octets) (k : ℕ) (v : F.State Located) where
  pub child_missing : length s ≤ k → child_at link s k v ≡ I.stop 2 k
  unfolding child_at
  child_missing h = rw (le-ltb _ _ h)

  module _ (h : k < length s) where
    -- a is the first two bits of the octet, b the other six
    pub child_element : (a b : ℕ) → get_or s k 0 < 256 → a ≡ get_or s k 0 / 64 % 4 → b ≡ get_or s k 0 / 1 % 64 → a < 2 → child_at link s k v ≡ element_at link s k b (eqb a 1) v
    unfolding child_at
    child_element a b o ea eb l =
        elim (dec_lt (get_or s k 0) 0x40) [
          | yes d ↦
              let z : a ≡ 0 = omega arith in
              let x : b ≡ get_or s k 0 = omega arith in
              rw (lt-ltb _ _ h, lt-ltb _ _ d, z, x)
          | no n ↦
              let d : 0x40 ≤ get_or s k 0 = omega arith in
              let c : get_or s k 0 < 0x80 = omega arith in
              let z : a ≡ 1 = omega arith in
              let x : b ≡ get_or s k 0 - 0x40 = omega arith in
              rw (lt-ltb _ _ h, le-ltb _ _ d, lt-ltb _ _ c, z, x)
        ]

    module _ (b : 0x80 ≤ get_or s k 0) where
      above : 0x40 ≤ get_or s k 0
      above = omega arith

      module _ (c : get_or s k 0 < 0xC0) where
        pub child_text_outside : v.level ≡ 0 → child_at link s k v ≡ I.stop 5 k
        unfolding child_at
        child_text_outside l = let z : v.level ≤ 0 = omega arith in rw (lt-ltb _ _ h, le-ltb _ _ above, le-ltb _ _ b, lt-ltb _ _ c, le-ltb _ _ z)

        pub child_text : (v.level ≡ 0 → ⊥) → child_at link s k v ≡ chunk_at link s k v
        unfolding child_at
        child_text l = let z : 0 < v.level = omega arith in rw (lt-ltb _ _ h, le-ltb _ _ above, le-ltb _ _ b, lt-ltb _ _ c, lt-ltb _ _ z)

      pub child_other : 0xC0 ≤ get_or s k 0 → (get_or s k 0 ≡ 0xE1 → ⊥) → (get_or s k 0 ≡ 0xE2 → ⊥) → child_at link s k v ≡ other_at link s k v
      unfolding child_at
      child_other c i n = rw (lt-ltb _ _ h, le-ltb _ _ above, le-ltb _ _ b, le-ltb _ _ c, ne_eqb _ _ i, ne_eqb _ _ n)

    pub child_instruction : get_or s k 0 ≡ 0xE1 → child_at link s k v ≡ instruction_at link s k v
    unfolding child_at
    child_instruction e = rw (lt-ltb _ _ h, e)

    pub child_comment : get_or s k 0 ≡ 0xE2 → child_at link s k v ≡ comment_at link s k v
    unfolding child_at
    child_comment e = rw (lt-ltb _ _ h, e)

-- ---- behind a declaration
module _ (s : Octets) (k : ℕ) (l : Bool) (v : F.State Located) where
  pub declaring_name : get_or s k 0 ≡ 0xF0 → declaring_at link s k l v ≡ named_at link s (k + 1) l v
  unfolding declaring_at
  declaring_name e = rw (e, add-one)

  pub declaring_more : (get_or s k 0 ≡ 0xF0 → ⊥) → declaring_at link s k l v ≡ namespace_at link s k v l
  unfolding declaring_at
  declaring_more e = rw (ne_eqb _ _ e)

-- ---- an item, by the mode's number
pub shallow_declaring : (level mode : ℕ) → level + coming mode ≤ 32 → 3 ≤ mode → level < 32
unfolding coming
shallow_declaring level mode g h = let z = rw (le-leb _ _ h) at g in omega arith

module _ (s : Octets) (k : ℕ) (v : F.State Located) (m : ℕ) where
  pub item_child : m ≡ 0 → item_at link s k v (mode_of m) ≡ child_at link s k v
  unfolding item_at
  item_child e = rw (ap mode_of e ∙ mode_content)

  pub item_attribute : (m ≡ 0 → ⊥) → m < 3 → item_at link s k v (mode_of m) ≡ attribute_at link s k v
  unfolding item_at
  item_attribute e h =
      elim (ℕ_discrete m 1) [ yes q ↦ rw (ap mode_of q ∙ mode_listing) | no n ↦ let q : m ≡ 2 = omega arith in rw (ap mode_of q ∙ mode_listed) ]

  pub item_declaring : 3 ≤ m → item_at link s k v (mode_of m) ≡ declaring_at link s k (not (eqb m 3)) v
  unfolding item_at mode_of
  item_declaring h =
      let a : m ≡ 0 → ⊥ = λ e. omega arith in
      let b : m ≡ 1 → ⊥ = λ e. omega arith in
      let c : m ≡ 2 → ⊥ = λ e. omega arith in
      elim (ℕ_discrete m 3) [ yes e ↦ rw e | no n ↦ rw (ne_eqb _ _ a, ne_eqb _ _ b, ne_eqb _ _ c, ne_eqb _ _ n) ]

-- ---- a step
module _ (s : Octets) (m : Stand) where
  pub step_end : true ≡ (by_halves m.state.mode && ends_at s m.at) → step link s m ≡ end_at s m m.state.mode
  unfolding step
  step_end e = rw (← e)

  module _ (e : false ≡ (by_halves m.state.mode && ends_at s m.at)) where
    pub step_padding : false ≡ pads_at s m.at → step link s m ≡ I.stop 6 (m.at / 2)
    unfolding step
    step_padding q = rw (← e, ← q)

    pub step_item : true ≡ pads_at s m.at → step link s m ≡ item_at link s ((m.at + 1) / 2) m.state m.state.mode
    unfolding step aligned
    step_item q = let z : (m.at + 1) / 2 ≡ (m.at + m.at % 2) / 2 = omega arith in rw (← e, ← q, z)
