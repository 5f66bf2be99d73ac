-- Event records as words, for callers that have no enums: 14 words for a record, the kind's number, three words for each string and the place.
use Rattle.std.specs.Prelude.{ℕ, List, [], ◌∷◌, ◌++◌}
use Rattle.format.specs.Octets.{Words}
use Rattle.format.specs.declared.StringForm.{StringForm}
use Rattle.format.specs.declared.StringForm.TheVariants.{Utf8, Utf16, Numeric, Dates, Short, Int, Long}
use Rattle.events.specs.declared.EventString.{EventString}
use Rattle.events.specs.declared.EventString.TheVariants.{Absent, Empty, Stretch, XmlPrefix, XmlNamespace}
use Rattle.events.specs.declared.Kind.{Kind}
use Rattle.events.specs.declared.Kind.TheVariants.{Blank, Namespace, Start, Attribute, Chunk, Comment, Instruction, End}
use Rattle.events.specs.declared.Event.{Event}

abbrev pub kind_number : Kind → ℕ
kind_number Blank = 0
kind_number Namespace = 1
kind_number Start = 2
kind_number Attribute = 3
kind_number Chunk = 4
kind_number Comment = 5
kind_number Instruction = 6
kind_number End = 7

-- Which of the five a string is, and a stretch's form; its place and its length are 0 unless it is a stretch.
abbrev pub form_tag : StringForm → ℕ
form_tag Utf8 = 2
form_tag Utf16 = 5
form_tag Numeric = 6
form_tag Dates = 7
form_tag Short = 8
form_tag Int = 9
form_tag Long = 10

abbrev pub string_tag : EventString → ℕ
string_tag Absent = 0
string_tag Empty = 1
string_tag (Stretch form place size) = form_tag form
string_tag XmlPrefix = 3
string_tag XmlNamespace = 4

abbrev pub string_form : EventString → StringForm
string_form Absent = Utf8
string_form Empty = Utf8
string_form (Stretch form place size) = form
string_form XmlPrefix = Utf8
string_form XmlNamespace = Utf8

abbrev pub string_place : EventString → ℕ
string_place Absent = 0
string_place Empty = 0
string_place (Stretch form place size) = place
string_place XmlPrefix = 0
string_place XmlNamespace = 0

abbrev pub string_size : EventString → ℕ
string_size Absent = 0
string_size Empty = 0
string_size (Stretch form place size) = size
string_size XmlPrefix = 0
string_size XmlNamespace = 0

-- Tag, place, length.
abbrev pub string_words : EventString → Words
string_words t = string_tag t ∷ string_place t ∷ string_size t ∷ []

-- The kind, then prefix, namespace, name and value, then the place.
abbrev pub record_words : Event → Words
record_words e = kind_number e.kind ∷ string_words e.prefix ++ string_words e.namespace ++ string_words e.name ++ string_words e.value ++ (e.place ∷ [])

-- The words of records, one after the other.
unfoldable pub row_words : List Event → Words
row_words [] = []
row_words (e ∷ es) = record_words e ++ row_words es
