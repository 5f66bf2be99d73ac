-- The strings of a record without a fault are such as their writers ask for: identifying ones in utf-8, a value, comment or content a string in its form.
-- Assumes nothing.
use mathlib.Core.Path.{◌≡◌, refl}
use mathlib.Core.Bool.{true}
use mathlib.Core.List.{List}
use Prim.Native.Nat.{ℕ, ◌≤◌}
use native.Mathlib.Omega.{arith}
use lib.ListN.{take, drop}
use Rattle.fields.specs.Utf8.{is_text}
use Rattle.forms.proofs.Forms.{text_sound}
use Rattle.tables.specs.Located.{octets_of}
use Rattle.tables.proofs.Search.{octets_stretch}
use Rattle.tables.proofs.Found.{clash, both_true}
use Rattle.events.specs.declared.EventString.{EventString}
use Rattle.events.specs.declared.EventString.TheVariants.{Absent, Empty, Stretch, XmlPrefix, XmlNamespace}
use Rattle.events.specs.declared.Kind.TheVariants.{Attribute, Chunk, Comment, Instruction}
use Rattle.events.specs.declared.Event.{Event}
use Rattle.events.specs.Words.{string_tag}
use Rattle.write_names.specs.Promises.{Suits, Fills, Spells}
use Rattle.write_items.specs.Events.{is_stretch, is_string, is_prefix, is_namespace, is_value, well_made, located_of, name_of, event_of, name_text, all_text}
use Rattle.write_items.proofs.WellMade.{stretch_inside, stretch_plain, by_kind}

module _ (text : List ℕ) where
  -- ---- identifying strings
  pub prefix_suits : (x : EventString) → is_prefix text x ≡ true → Suits text 0 x
  prefix_suits Absent e = tt
  prefix_suits Empty e = clash e
  prefix_suits (Stretch f p n) e = stretch_plain text f p n e
  prefix_suits XmlPrefix e = refl
  prefix_suits XmlNamespace e = clash e

  pub namespace_suits : (x : EventString) → is_namespace text x ≡ true → Suits text 1 x
  namespace_suits Absent e = tt
  namespace_suits Empty e = clash e
  namespace_suits (Stretch f p n) e = stretch_plain text f p n e
  namespace_suits XmlPrefix e = clash e
  namespace_suits XmlNamespace e = refl

  pub stretch_suits : (table : ℕ) (x : EventString) → is_stretch text x ≡ true → Suits text table x × (1 ≤ string_tag x)
  stretch_suits table Absent e = clash e
  stretch_suits table Empty e = clash e
  stretch_suits table (Stretch f p n) e = let l = stretch_plain text f p n e in (l, rw l.2 (omega arith))
  stretch_suits table XmlPrefix e = clash e
  stretch_suits table XmlNamespace e = clash e

  -- ---- strings in any form
  string_spells : (x : EventString) → is_string text x ≡ true → is_text (octets_of text (located_of x)) ≡ true → Spells text x
  string_spells Absent e t = clash e
  string_spells Empty e t = clash e
  string_spells (Stretch f p n) e t = let l = stretch_inside text f p n e in (l.0, l.1, text_sound f (take n (drop p text)) (rw (octets_stretch text f p n) at t))
  string_spells XmlPrefix e t = clash e
  string_spells XmlNamespace e t = clash e

  value_fills : (x : EventString) → is_value text x ≡ true → is_text (octets_of text (located_of x)) ≡ true → Fills text x
  value_fills Absent e t = clash e
  value_fills Empty e t = tt
  value_fills (Stretch f p n) e t = string_spells (Stretch f p n) e t
  value_fills XmlPrefix e t = clash e
  value_fills XmlNamespace e t = clash e

  module _ (e : Event) where
    pub chunk_spells : well_made text Chunk e ≡ true → all_text text (event_of Chunk e) ≡ true → Spells text e.value
    unfolding event_of all_text
    chunk_spells m t = string_spells e.value (by_kind text e Chunk m).2 t

    pub attribute_fills : well_made text Attribute e ≡ true → all_text text (event_of Attribute e) ≡ true → Fills text e.value
    unfolding event_of all_text
    attribute_fills m t = value_fills e.value (by_kind text e Attribute m).1 (both_true (name_text text (name_of e)) _ t).1

    pub comment_fills : well_made text Comment e ≡ true → all_text text (event_of Comment e) ≡ true → Fills text e.value
    unfolding event_of all_text
    comment_fills m t = value_fills e.value (by_kind text e Comment m).2 t

    pub instruction_fills : well_made text Instruction e ≡ true → all_text text (event_of Instruction e) ≡ true → Fills text e.value
    unfolding event_of all_text
    instruction_fills m t = value_fills e.value (by_kind text e Instruction m).2 (both_true (is_text (octets_of text (located_of e.name))) _ t).1
