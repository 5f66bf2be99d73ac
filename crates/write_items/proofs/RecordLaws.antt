-- Event records: a law for each way out of the functions that judge one, on plain values.
-- Assumes nothing.
use mathlib.Core.Path.{◌≡◌, refl, sym}
use mathlib.Core.Bool.{true, false, ◌&&◌}
use mathlib.Core.List.{List}
use Prim.Native.Nat.{ℕ, ◌+◌, ◌-◌}
use native.Mathlib.Omega.{arith}
use lib.Dec.{eqb}
use lib.ListN.{take, drop}
use Rattle.format.specs.declared.StringForm.{StringForm}
use Rattle.format.specs.declared.StringForm.TheVariants.{Utf8, Utf16, Numeric, Dates, Short, Int, Long}
use Rattle.fields.specs.Utf8.{is_text}
use Rattle.fields.proofs.Utf8.{none_text, built_in_texts}
use Rattle.forms.specs.Reading.{said}
use Rattle.tables.specs.Located.{stretch, octets_of}
use Rattle.tables.proofs.Search.{octets_stretch}
use Rattle.events.specs.declared.EventString.{EventString}
use Rattle.events.specs.declared.EventString.TheVariants.{Absent, Empty, Stretch, XmlPrefix, XmlNamespace}
use Rattle.events.specs.declared.Kind.TheVariants.{Namespace}
use Rattle.events.specs.declared.Event.{Event}
use Rattle.events.specs.Words.{form_tag, string_tag}
use Rattle.write_items.specs.Events.{is_absent, located_of, optional_of, name_of, event_of, optional_text, name_text, all_text}

-- ---- tags

-- no form has the tag of an absent string
form_there : (f : StringForm) → eqb (form_tag f) 0 ≡ false
form_there Utf8 = refl
form_there Utf16 = refl
form_there Numeric = refl
form_there Dates = refl
form_there Short = refl
form_there Int = refl
form_there Long = refl

-- the absent string alone has the tag 0
pub tag_absent : (x : EventString) → eqb (string_tag x) 0 ≡ is_absent x
tag_absent Absent = refl
tag_absent Empty = refl
tag_absent (Stretch f p n) = form_there f
tag_absent XmlPrefix = refl
tag_absent XmlNamespace = refl

-- ---- text
module _ (text : List ℕ) where
  absent_text : true ≡ is_text (octets_of text (located_of Absent))
  unfolding octets_of
  absent_text = sym none_text

  -- what is no stretch is text
  pub other_text : (x : EventString) → ((f : StringForm) (p n : ℕ) → x ≡ Stretch f p n → ⊥) → true ≡ is_text (octets_of text (located_of x))
  unfolding octets_of
  other_text Absent h = sym none_text
  other_text Empty h = sym none_text
  other_text (Stretch f p n) h = absurd (h f p n refl)
  other_text XmlPrefix h = sym built_in_texts.0
  other_text XmlNamespace h = sym built_in_texts.1

  pub stretch_text : (f : StringForm) (p n : ℕ) → is_text (said f (take ((p + n) - p) (drop p text))) ≡ is_text (octets_of text (stretch f p n))
  stretch_text f p n = let q : p + n - p ≡ n = omega arith in rw (q, octets_stretch text f p n)

  -- a string that is not there is text as the empty one is
  optional_text_lem : (x : EventString) → optional_text text (optional_of x) ≡ is_text (octets_of text (located_of x))
  optional_text_lem Absent = absent_text
  optional_text_lem Empty = refl
  optional_text_lem (Stretch f p n) = refl
  optional_text_lem XmlPrefix = refl
  optional_text_lem XmlNamespace = refl

  module _ (e : Event) where
    pub declaration_text : all_text text (event_of Namespace e) ≡ (is_text (octets_of text (located_of e.prefix)) && is_text (octets_of text (located_of e.namespace)))
    unfolding all_text event_of
    declaration_text = rw (optional_text_lem e.prefix, optional_text_lem e.namespace)

    pub name_text_lem : name_text text (name_of e) ≡ (is_text (octets_of text (located_of e.prefix)) && (is_text (octets_of text (located_of e.namespace)) && is_text (octets_of text (located_of e.name))))
    unfolding name_text
    name_text_lem = rw (optional_text_lem e.prefix, optional_text_lem e.namespace)
