-- What is stated of the forms of strings: each form writes a string in one way and each run of octets says one string; the form that the writer chooses takes the fewest octets; and the numbers
-- that stand for the forms are those that callers are told.
use Rattle.std.specs.Prelude.{ℕ, ◌≤◌, ◌≡◌, List, [], ◌∷◌, ◌↔◌, length}
use Rattle.format.specs.Octets.{Octets}
use Rattle.format.specs.Characters.{IsCharacter, IsText, All, utf8s}
use Rattle.format.specs.Forms.{form_number, Spelled}
use Rattle.format.specs.Strings.{in_format}
use Rattle.format.specs.declared.StringForm.{StringForm}
use Rattle.format.specs.declared.StringForm.TheVariants.{Utf8, Utf16, Numeric, Dates, Short, Int, Long}
use Rattle.forms.specs.Reading.{said}
use Rattle.forms.specs.Packing.{in_form}
use Rattle.tables.specs.Located.{stretch}
use Rattle.tables.specs.Counts.{entry_words}
use Rattle.events.specs.declared.EventString.TheVariants.{Stretch}
use Rattle.events.specs.Words.{form_tag}
use Rattle.events.specs.FromWords.{string_from}
use Rattle.write_names.specs.Choices.{form_for}

-- A string is known by its octets in UTF-8: equal octets are equal characters. In a form it is spelled in one way, octets in a form spell one string, and `said`, by which reader and
-- writer take what they are given, finds this string where there is one.
pub record FormsExact : Type 0 where
  pub same-characters : (ns ms : List ℕ) → All IsCharacter ns → All IsCharacter ms → utf8s ns ≡ utf8s ms → ns ≡ ms
  pub one_spelling : (form : StringForm) (x o p : Octets) → Spelled form x o → Spelled form x p → o ≡ p
  pub one_string : (form : StringForm) (x y o : Octets) → Spelled form x o → Spelled form y o → x ≡ y
  pub spelled_text : (form : StringForm) (x o : Octets) → Spelled form x o → IsText x
  pub finds : (form : StringForm) (x o : Octets) → Spelled form x o ↔ (IsText x × (said form o ≡ x))

-- The form that the writer chooses for a text: the string has it; it is not utf-16; no form but utf-16 gives a shorter field, and no form with a lower number gives one that is as short.
pub record FewestOctets (bit : ℕ) (x : Octets) : Type 0 where
  pub has_it : Spelled (form_for bit x) x (in_form (form_for bit x) x)
  pub not_utf16 : form_for bit x ≡ Utf16 → ⊥
  pub fewest : (form : StringForm) (y : Octets) (lead : ℕ) → (form ≡ Utf16 → ⊥) → Spelled form x y
      → length (in_format bit (form_for bit x) lead (in_form (form_for bit x) x)) ≤ length (in_format bit form lead y)
  pub lowest : (form : StringForm) (y : Octets) (lead : ℕ) → (form ≡ Utf16 → ⊥) → Spelled form x y
      → length (in_format bit (form_for bit x) lead (in_form (form_for bit x) x)) ≡ length (in_format bit form lead y) → form_number (form_for bit x) ≤ form_number form

-- Wherever the length starts: that bit is 5 for values, comments, contents and a head's entries, and 7 for chunks.
abbrev pub WritesFewest : Type 0
WritesFewest = (bit : ℕ) (x : Octets) → IsText x → FewestOctets bit x

-- The numbers of the forms at the boundary to C, spelled here a second time: the third word of a table's entry, and the tag of an event's string, the first of its three words.
pub record FormsNumbered : Type 0 where
  pub utf8 : (form_number Utf8 ≡ 0) × (form_tag Utf8 ≡ 2)
  pub utf16 : (form_number Utf16 ≡ 1) × (form_tag Utf16 ≡ 5)
  pub numeric : (form_number Numeric ≡ 2) × (form_tag Numeric ≡ 6)
  pub dates : (form_number Dates ≡ 3) × (form_tag Dates ≡ 7)
  pub short : (form_number Short ≡ 4) × (form_tag Short ≡ 8)
  pub int : (form_number Int ≡ 5) × (form_tag Int ≡ 9)
  pub long : (form_number Long ≡ 6) × (form_tag Long ≡ 10)
  pub told : (form : StringForm) (place size : ℕ) → string_from (form_tag form ∷ place ∷ size ∷ []) 0 ≡ Stretch form place size
  pub kept : (form : StringForm) (place size : ℕ) → entry_words (stretch form place size) ≡ place ∷ size ∷ form_number form ∷ []
