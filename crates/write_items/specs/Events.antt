-- Which event records the writer takes: strings as the requirements allow them, in a text area, and events with which a document goes on. Anything else is EVENT (16).
use Rattle.std.specs.Prelude.{◌+◌, Bool, true, false, not, ◌&&◌, ◌||◌, length, ltb, leb}
use Rattle.std.proofs.Math.Option.{Option, none, some}
use Rattle.format.specs.Octets.{Octets}
use Rattle.fields.specs.Utf8.{is_text}
use Rattle.format.specs.Events as E
use Rattle.format.specs.Items.{Mode, content, declaring, listing, State, may_start}
use Rattle.tables.specs.Located.{Located, octets_of}
pub use Rattle.events.specs.Records.{located_of, optional_of}
pub use Rattle.events.specs.WellMade.{is_stretch, is_string}
use Rattle.events.specs.declared.EventString.{EventString}
use Rattle.events.specs.declared.EventString.TheVariants.{Absent, Empty, Stretch, XmlPrefix, XmlNamespace}
use Rattle.events.specs.declared.Kind.{Kind}
use Rattle.events.specs.declared.Kind.TheVariants.{Blank, Namespace, Start, Attribute, Chunk, Comment, Instruction, End}
use Rattle.events.specs.declared.Event.{Event}

abbrev pub is_absent : EventString → Bool
is_absent Absent = true
is_absent Empty = false
is_absent (Stretch form p n) = false
is_absent XmlPrefix = false
is_absent XmlNamespace = false

abbrev pub is_prefix : Octets → EventString → Bool
is_prefix text Absent = true
is_prefix text Empty = false
is_prefix text (Stretch form p n) = is_stretch text (Stretch form p n)
is_prefix text XmlPrefix = true
is_prefix text XmlNamespace = false

abbrev pub is_namespace : Octets → EventString → Bool
is_namespace text Absent = true
is_namespace text Empty = false
is_namespace text (Stretch form p n) = is_stretch text (Stretch form p n)
is_namespace text XmlPrefix = false
is_namespace text XmlNamespace = true

-- A value, comment or content may be empty.
abbrev pub is_value : Octets → EventString → Bool
is_value text Absent = false
is_value text Empty = true
is_value text (Stretch form p n) = is_string text (Stretch form p n)
is_value text XmlPrefix = false
is_value text XmlNamespace = false

-- A name's strings: a prefix only with a namespace.
unfoldable pub is_name : Octets → Event → Bool
is_name text e = is_prefix text e.prefix && (is_namespace text e.namespace && (is_stretch text e.name && (is_absent e.prefix || not (is_absent e.namespace))))

unfoldable pub no_name : Event → Bool
no_name e = is_absent e.prefix && is_absent e.namespace

-- The strings of a record are as its kind has them.
unfoldable pub well_made : Octets → Kind → Event → Bool
well_made text Blank e = false
well_made text Namespace e = is_prefix text e.prefix && (is_namespace text e.namespace && (is_absent e.name && is_absent e.value))
well_made text Start e = is_name text e && is_absent e.value
well_made text Attribute e = is_name text e && is_value text e.value
well_made text Chunk e = no_name e && (is_absent e.name && is_string text e.value)
well_made text Comment e = no_name e && (is_absent e.name && is_value text e.value)
well_made text Instruction e = no_name e && (is_stretch text e.name && is_value text e.value)
well_made text End e = no_name e && (is_absent e.name && is_absent e.value)

-- The event of a record that is well made; what a record that is not gives does not matter.
abbrev pub name_of : Event → E.Name Located
name_of e = record { prefix = optional_of e.prefix; namespace = optional_of e.namespace; local = located_of e.name }

unfoldable pub event_of : Kind → Event → E.Event Located
event_of Blank e = E.End
event_of Namespace e = E.Namespace (optional_of e.prefix) (optional_of e.namespace)
event_of Start e = E.Start (name_of e)
event_of Attribute e = E.Attribute (name_of e) (located_of e.value)
event_of Chunk e = E.Text (located_of e.value)
event_of Comment e = E.Comment (located_of e.value)
event_of Instruction e = E.Instruction (located_of e.name) (located_of e.value)
event_of End e = E.End

-- Where a child may stand: among children, or behind a list of attributes that has a member.
abbrev pub among_children : Mode → Bool
among_children content = true
among_children (declaring a) = false
among_children (listing any) = any

abbrev pub is_content : Mode → Bool
is_content content = true
is_content (declaring a) = false
is_content (listing any) = false

abbrev pub is_declaring : Mode → Bool
is_declaring content = false
is_declaring (declaring a) = true
is_declaring (listing any) = false

abbrev pub is_listing : Mode → Bool
is_listing content = false
is_listing (declaring a) = false
is_listing (listing any) = true

-- A document's list goes on with this event.
unfoldable pub goes_on : {S : Type 0} → State S → E.Event S → Bool
goes_on v (E.Namespace p n) = is_declaring v.mode || (among_children v.mode && may_start v)
goes_on v (E.Start x) = is_declaring v.mode || (among_children v.mode && may_start v)
goes_on v (E.Attribute x y) = is_listing v.mode
goes_on v (E.Text y) = among_children v.mode && ltb 0 v.level
goes_on v (E.Comment y) = among_children v.mode
goes_on v (E.Instruction x y) = among_children v.mode
goes_on v E.End = among_children v.mode && ltb 0 v.level

-- Every string of the event is text (9).
abbrev pub optional_text : Octets → Option Located → Bool
optional_text text none = true
optional_text text (some x) = is_text (octets_of text x)

unfoldable pub name_text : Octets → E.Name Located → Bool
name_text text x = optional_text text x.prefix && (optional_text text x.namespace && is_text (octets_of text x.local))

unfoldable pub all_text : Octets → E.Event Located → Bool
all_text text (E.Namespace p n) = optional_text text p && optional_text text n
all_text text (E.Start x) = name_text text x
all_text text (E.Attribute x y) = name_text text x && is_text (octets_of text y)
all_text text (E.Text y) = is_text (octets_of text y)
all_text text (E.Comment y) = is_text (octets_of text y)
all_text text (E.Instruction x y) = is_text (octets_of text x) && is_text (octets_of text y)
all_text text E.End = true
