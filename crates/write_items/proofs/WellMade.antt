-- What a record that is well made has, by its kind; a stretch that a test takes lies in the text area.
-- Assumes nothing.
use mathlib.Core.Path.{◌≡◌, refl, subst}
use mathlib.Core.Logic.{◌⊎◌, ⊎_elim}
use mathlib.Core.Bool.{true, not, ◌||◌}
use mathlib.Core.List.{List}
use Prim.Native.Nat.{ℕ, ◌+◌, ◌<◌, ◌≤◌}
use borrow.Author.Tests.{ltb-true, leb-true}
use lib.Dec.{ltb, leb}
use lib.ListN.{length}
use Rattle.format.specs.declared.StringForm.{StringForm}
use Rattle.format.specs.declared.StringForm.TheVariants.{Utf8, Utf16, Numeric, Dates, Short, Int, Long}
use Rattle.events.specs.declared.EventString.{EventString}
use Rattle.events.specs.declared.EventString.TheVariants.{Absent, Empty, Stretch, XmlPrefix, XmlNamespace}
use Rattle.events.specs.declared.Kind.{Kind}
use Rattle.events.specs.declared.Kind.TheVariants.{Blank, Namespace, Start, Attribute, Chunk, Comment, Instruction, End}
use Rattle.events.specs.declared.Event.{Event}
use Rattle.tables.proofs.Found.{clash, both_true}
use Rattle.write_items.specs.Events.{is_absent, is_stretch, is_string, is_prefix, is_namespace, is_value, is_name, no_name, well_made}
use Rattle.write_items.specs.Promises.{Lies, LiesPlain, Placed}

-- ---- strings
module _ (text : List ℕ) where
  pub stretch_inside : (f : StringForm) (p n : ℕ) → is_string text (Stretch f p n) ≡ true → (0 < n) × (p + n ≤ length text)
  stretch_inside f p n e = let b = both_true (ltb 0 n) (leb (p + n) (length text)) e in (ltb-true _ _ b.0, leb-true _ _ b.1)

  pub stretch_plain : (f : StringForm) (p n : ℕ) → is_stretch text (Stretch f p n) ≡ true → (0 < n) × (p + n ≤ length text) × (f ≡ Utf8)
  stretch_plain Utf8 p n e = let l = stretch_inside Utf8 p n e in (l.0, l.1, refl)
  stretch_plain Utf16 p n e = clash e
  stretch_plain Numeric p n e = clash e
  stretch_plain Dates p n e = clash e
  stretch_plain Short p n e = clash e
  stretch_plain Int p n e = clash e
  stretch_plain Long p n e = clash e

  -- a string that is a stretch only where its test holds
  lies_by : (x : EventString) → ((f : StringForm) (p n : ℕ) → x ≡ Stretch f p n → is_string text (Stretch f p n) ≡ true) → Lies text x
  lies_by Absent g = tt
  lies_by Empty g = tt
  lies_by (Stretch f p n) g = stretch_inside f p n (g f p n refl)
  lies_by XmlPrefix g = tt
  lies_by XmlNamespace g = tt

  plain_by : (x : EventString) → ((f : StringForm) (p n : ℕ) → x ≡ Stretch f p n → is_stretch text (Stretch f p n) ≡ true) → LiesPlain text x
  plain_by Absent g = (tt, refl)
  plain_by Empty g = (tt, refl)
  plain_by (Stretch f p n) g = let l = stretch_plain f p n (g f p n refl) in ((l.0, l.1), l.2)
  plain_by XmlPrefix g = (tt, refl)
  plain_by XmlNamespace g = (tt, refl)

  absent_lies : (x : EventString) → is_absent x ≡ true → LiesPlain text x
  absent_lies x e = plain_by x λ f p n q. clash (subst (λ (y : EventString). is_absent y ≡ true) q e)

  stretch_lies : (x : EventString) → is_stretch text x ≡ true → LiesPlain text x
  stretch_lies x e = plain_by x λ f p n q. subst (λ (y : EventString). is_stretch text y ≡ true) q e

  prefix_lies : (x : EventString) → is_prefix text x ≡ true → LiesPlain text x
  prefix_lies x e = plain_by x λ f p n q. subst (λ (y : EventString). is_prefix text y ≡ true) q e

  namespace_lies : (x : EventString) → is_namespace text x ≡ true → LiesPlain text x
  namespace_lies x e = plain_by x λ f p n q. subst (λ (y : EventString). is_namespace text y ≡ true) q e

  string_lies : (x : EventString) → is_string text x ≡ true → Lies text x
  string_lies x e = lies_by x λ f p n q. subst (λ (y : EventString). is_string text y ≡ true) q e

  value_lies : (x : EventString) → is_value text x ≡ true → Lies text x
  value_lies x e = lies_by x λ f p n q. subst (λ (y : EventString). is_value text y ≡ true) q e

-- ---- records
pub record Named (text : List ℕ) (e : Event) : Type 0 where
  pub prefix : is_prefix text e.prefix ≡ true
  pub namespace : is_namespace text e.namespace ≡ true
  pub local : is_stretch text e.name ≡ true
  pub paired : (is_absent e.prefix || not (is_absent e.namespace)) ≡ true

pub record Nameless (e : Event) : Type 0 where
  pub prefix : is_absent e.prefix ≡ true
  pub namespace : is_absent e.namespace ≡ true

abbrev pub Made : List ℕ → Kind → Event → Type 0
Made text Blank e = ⊥
Made text Namespace e = (is_prefix text e.prefix ≡ true) × (is_namespace text e.namespace ≡ true) × (is_absent e.name ≡ true) × (is_absent e.value ≡ true)
Made text Start e = Named text e × (is_absent e.value ≡ true)
Made text Attribute e = Named text e × (is_value text e.value ≡ true)
Made text Chunk e = Nameless e × (is_absent e.name ≡ true) × (is_string text e.value ≡ true)
Made text Comment e = Nameless e × (is_absent e.name ≡ true) × (is_value text e.value ≡ true)
Made text Instruction e = Nameless e × (is_stretch text e.name ≡ true) × (is_value text e.value ≡ true)
Made text End e = Nameless e × (is_absent e.name ≡ true) × (is_absent e.value ≡ true)

module _ (text : List ℕ) (e : Event) where
  named : is_name text e ≡ true → Named text e
  unfolding is_name
  named h =
      let a = both_true (is_prefix text e.prefix) _ h in
      let b = both_true (is_namespace text e.namespace) _ a.1 in
      let c = both_true (is_stretch text e.name) _ b.1 in
      record { prefix = a.0; namespace = b.0; local = c.0; paired = c.1 }

  nameless : no_name e ≡ true → Nameless e
  unfolding no_name
  nameless h = let a = both_true (is_absent e.prefix) _ h in record { prefix = a.0; namespace = a.1 }

  pub by_kind : (k : Kind) → well_made text k e ≡ true → Made text k e
  unfolding well_made
  by_kind Blank h = clash h
  by_kind Namespace h =
      let a = both_true (is_prefix text e.prefix) _ h in
      let b = both_true (is_namespace text e.namespace) _ a.1 in
      let c = both_true (is_absent e.name) _ b.1 in
      (a.0, b.0, c.0, c.1)
  by_kind Start h = let a = both_true (is_name text e) _ h in (named a.0, a.1)
  by_kind Attribute h = let a = both_true (is_name text e) _ h in (named a.0, a.1)
  by_kind Chunk h = let a = both_true (no_name e) _ h in let b = both_true (is_absent e.name) _ a.1 in (nameless a.0, b.0, b.1)
  by_kind Comment h = let a = both_true (no_name e) _ h in let b = both_true (is_absent e.name) _ a.1 in (nameless a.0, b.0, b.1)
  by_kind Instruction h = let a = both_true (no_name e) _ h in let b = both_true (is_stretch text e.name) _ a.1 in (nameless a.0, b.0, b.1)
  by_kind End h = let a = both_true (no_name e) _ h in let b = both_true (is_absent e.name) _ a.1 in (nameless a.0, b.0, b.1)

  -- no blank record is well made
  pub end_kind : (k : Kind) → (k ≡ Blank) ⊎ (k ≡ End) → well_made text k e ≡ true → k ≡ End
  end_kind k s m = ⊎_elim (λ (q : k ≡ Blank). absurd (subst (λ (x : Kind). Made text x e) q (by_kind k m))) (λ (q : k ≡ End). q) s

  named_placed : Named text e → Lies text e.value → Placed text e
  named_placed n v =
      record {
        prefix = prefix_lies text e.prefix n.prefix;
        namespace = namespace_lies text e.namespace n.namespace;
        name = stretch_lies text e.name n.local;
        value = v;
      }

  nameless_placed : Nameless e → LiesPlain text e.name → Lies text e.value → Placed text e
  nameless_placed n l v = record { prefix = absent_lies text e.prefix n.prefix; namespace = absent_lies text e.namespace n.namespace; name = l; value = v }

  placed_by : (k : Kind) → Made text k e → Placed text e
  placed_by Blank m = absurd m
  placed_by Namespace m =
      record {
        prefix = prefix_lies text e.prefix m.0;
        namespace = namespace_lies text e.namespace m.1;
        name = absent_lies text e.name m.2;
        value = (absent_lies text e.value m.3).0;
      }
  placed_by Start m = named_placed m.0 (absent_lies text e.value m.1).0
  placed_by Attribute m = named_placed m.0 (value_lies text e.value m.1)
  placed_by Chunk m = nameless_placed m.0 (absent_lies text e.name m.1) (string_lies text e.value m.2)
  placed_by Comment m = nameless_placed m.0 (absent_lies text e.name m.1) (value_lies text e.value m.2)
  placed_by Instruction m = nameless_placed m.0 (stretch_lies text e.name m.1) (value_lies text e.value m.2)
  placed_by End m = nameless_placed m.0 (absent_lies text e.name m.1) (absent_lies text e.value m.2).0

  pub made_placed : well_made text e.kind e ≡ true → Placed text e
  made_placed h = placed_by e.kind (by_kind e.kind h)
