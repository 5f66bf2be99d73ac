-- Event records: the blank one, the record of each kind, and which record stands for an event.
use Rattle.std.specs.Prelude.{ℕ}
use Rattle.std.proofs.Math.Option.{Option, none, some}
use Rattle.format.specs.Events as E
use Rattle.tables.specs.Located.{Located, empty, stretch, built_in_prefix, built_in_namespace}
use Rattle.events.specs.declared.EventString.{EventString}
use Rattle.events.specs.declared.EventString.TheVariants.{Absent, Empty, Stretch, XmlPrefix, XmlNamespace}
use Rattle.events.specs.declared.Kind.TheVariants.{Blank, Namespace, Start, Attribute, Chunk, Comment, Instruction, End}
use Rattle.events.specs.declared.Event.{Event}

-- No kind, all strings absent, and place 0.
abbrev pub blank : Event
blank = record { kind = Blank; prefix = Absent; namespace = Absent; name = Absent; value = Absent; place = 0 }

-- The record of each kind, from its strings, before it has a place.
abbrev pub namespace_record : EventString → EventString → Event
namespace_record p n = record { kind = Namespace; prefix = p; namespace = n; name = Absent; value = Absent; place = 0 }

abbrev pub start_record : EventString → EventString → EventString → Event
start_record p n l = record { kind = Start; prefix = p; namespace = n; name = l; value = Absent; place = 0 }

abbrev pub attribute_record : EventString → EventString → EventString → EventString → Event
attribute_record p n l v = record { kind = Attribute; prefix = p; namespace = n; name = l; value = v; place = 0 }

abbrev pub chunk_record : EventString → Event
chunk_record v = record { kind = Chunk; prefix = Absent; namespace = Absent; name = Absent; value = v; place = 0 }

abbrev pub comment_record : EventString → Event
comment_record v = record { kind = Comment; prefix = Absent; namespace = Absent; name = Absent; value = v; place = 0 }

abbrev pub instruction_record : EventString → EventString → Event
instruction_record t v = record { kind = Instruction; prefix = Absent; namespace = Absent; name = t; value = v; place = 0 }

abbrev pub end_record : Event
end_record = record { kind = End; prefix = Absent; namespace = Absent; name = Absent; value = Absent; place = 0 }

abbrev pub event_string : Located → EventString
event_string empty = Empty
event_string (stretch form place size) = Stretch form place size
event_string built_in_prefix = XmlPrefix
event_string built_in_namespace = XmlNamespace

abbrev pub optional_event_string : Option Located → EventString
optional_event_string none = Absent
optional_event_string (some x) = event_string x

-- The located string of a record's string. `located_of` is used only where the string cannot be absent, so its answer for Absent does not matter.
abbrev pub located_of : EventString → Located
located_of Absent = empty
located_of Empty = empty
located_of (Stretch form p n) = stretch form p n
located_of XmlPrefix = built_in_prefix
located_of XmlNamespace = built_in_namespace

abbrev pub optional_of : EventString → Option Located
optional_of Absent = none
optional_of Empty = some empty
optional_of (Stretch form p n) = some (stretch form p n)
optional_of XmlPrefix = some built_in_prefix
optional_of XmlNamespace = some built_in_namespace

unfoldable pub record_of : E.Event Located → Event
record_of (E.Namespace p n) = namespace_record (optional_event_string p) (optional_event_string n)
record_of (E.Start x) = start_record (optional_event_string x.prefix) (optional_event_string x.namespace) (event_string x.local)
record_of (E.Attribute x y) = attribute_record (optional_event_string x.prefix) (optional_event_string x.namespace) (event_string x.local) (event_string y)
record_of (E.Text y) = chunk_record (event_string y)
record_of (E.Comment y) = comment_record (event_string y)
record_of (E.Instruction x y) = instruction_record (event_string x) (event_string y)
record_of E.End = end_record

-- The record with this place: the octet of the document at which its event begins (the requirements, "Room for an event").
abbrev pub placed : (place : ℕ) → Event → Event
placed place e = record { kind = e.kind; prefix = e.prefix; namespace = e.namespace; name = e.name; value = e.value; place = place }

-- The record of an event that was read at this place.
abbrev pub record_at : (place : ℕ) → E.Event Located → Event
record_at place e = placed place (record_of e)

-- A record without its place. Two records are the same event if they are equal without their places.
abbrev pub unplaced : Event → Event
unplaced e = placed 0 e
