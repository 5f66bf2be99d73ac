-- Which records are events as the requirements have them ("Events"), over the octets that their stretches lie in: the document's for a reader, the text area's for a writer.
use Rattle.std.specs.Prelude.{ℕ, ◌+◌, ◌≤◌, ◌<◌, ◌≡◌, Bool, false, ◌&&◌, length, ltb, leb}
use Rattle.format.specs.Octets.{Octets}
use Rattle.format.specs.declared.StringForm.{StringForm}
use Rattle.format.specs.declared.StringForm.TheVariants.{Utf8, Utf16, Numeric, Dates, Short, Int, Long}
use Rattle.events.specs.declared.EventString.{EventString}
use Rattle.events.specs.declared.EventString.TheVariants.{Absent, Empty, Stretch, XmlPrefix, XmlNamespace}
use Rattle.events.specs.declared.Event.{Event}
use Rattle.events.specs.Records.{placed, namespace_record, start_record, attribute_record, chunk_record, comment_record, instruction_record, end_record}

-- A stretch in utf-8, as all identifying strings are: its length is never 0, and it ends within the octets.
pub data IsStretch (s : Octets) : EventString → Type 0 where
  inside_utf8 : {place size : ℕ} → 0 < size → place + size ≤ length s → IsStretch s (Stretch Utf8 place size)

-- And as a test.
abbrev pub is_stretch : Octets → EventString → Bool
is_stretch s Absent = false
is_stretch s Empty = false
is_stretch s (Stretch Utf8 place size) = ltb 0 size && leb (place + size) (length s)
is_stretch s (Stretch Utf16 place size) = false
is_stretch s (Stretch Numeric place size) = false
is_stretch s (Stretch Dates place size) = false
is_stretch s (Stretch Short place size) = false
is_stretch s (Stretch Int place size) = false
is_stretch s (Stretch Long place size) = false
is_stretch s XmlPrefix = false
is_stretch s XmlNamespace = false

-- The same in any form.
pub data IsString (s : Octets) : EventString → Type 0 where
  inside : {form : StringForm} {place size : ℕ} → 0 < size → place + size ≤ length s → IsString s (Stretch form place size)

abbrev pub is_string : Octets → EventString → Bool
is_string s Absent = false
is_string s Empty = false
is_string s (Stretch form place size) = ltb 0 size && leb (place + size) (length s)
is_string s XmlPrefix = false
is_string s XmlNamespace = false

-- A prefix: absent, built in, or a stretch; a namespace likewise.
pub data IsPrefix (s : Octets) : EventString → Type 0 where
  no_prefix : IsPrefix s Absent
  xml_prefix_lem : IsPrefix s XmlPrefix
  a_prefix : {x : EventString} → IsStretch s x → IsPrefix s x

pub data IsNamespace (s : Octets) : EventString → Type 0 where
  no_namespace : IsNamespace s Absent
  xml_namespace_lem : IsNamespace s XmlNamespace
  a_namespace : {x : EventString} → IsStretch s x → IsNamespace s x

-- A value, comment or content: empty, or octets in any form.
pub data IsValue (s : Octets) : EventString → Type 0 where
  no_octets : IsValue s Empty
  some_octets : {x : EventString} → IsString s x → IsValue s x

-- The strings of a name: a prefix only with a namespace.
pub record IsName (s : Octets) (prefix namespace local : EventString) : Type 0 where
  pub a_prefix : IsPrefix s prefix
  pub a_namespace : IsNamespace s namespace
  pub a_local : IsStretch s local
  pub not_alone : namespace ≡ Absent → prefix ≡ Absent

-- A record of each kind, at any place; its other strings are absent.
pub data WellMade (s : Octets) : Event → Type 0 where
  a_declaration : {place : ℕ} {p n : EventString} → IsPrefix s p → IsNamespace s n → WellMade s (placed place (namespace_record p n))
  a_start : {place : ℕ} {p n l : EventString} → IsName s p n l → WellMade s (placed place (start_record p n l))
  an_attribute : {place : ℕ} {p n l v : EventString} → IsName s p n l → IsValue s v → WellMade s (placed place (attribute_record p n l v))
  a_chunk : {place : ℕ} {v : EventString} → IsString s v → WellMade s (placed place (chunk_record v))
  a_comment : {place : ℕ} {v : EventString} → IsValue s v → WellMade s (placed place (comment_record v))
  an_instruction : {place : ℕ} {t v : EventString} → IsStretch s t → IsValue s v → WellMade s (placed place (instruction_record t v))
  an_end : {place : ℕ} → WellMade s (placed place end_record)
