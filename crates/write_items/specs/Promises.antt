-- Contracts of the code, not definitions to be believed. What the code judges of an event before anything is written.
use Rattle.std.specs.Prelude.{ℕ, ◌+◌, ◌<◌, ◌≤◌, ◌≡◌, ◌&&◌, length, leb, Result, Ok, Err}
use Rattle.format.specs.Octets.{Octets}
use Rattle.format.specs.Numbers.{pick}
use Rattle.format.specs.Tables.{link}
use Rattle.format.specs.Items as F
use Rattle.format.specs.declared.refusals.Refusal as R
use Rattle.format.specs.declared.refusals.Refusal.{Refusal}
use Rattle.format.specs.declared.StringForm.TheVariants.{Utf8}
use Rattle.tables.specs.Located.{Located}
use Rattle.events.specs.declared.EventString.{EventString}
use Rattle.events.specs.declared.EventString.TheVariants.{Absent, Empty, Stretch, XmlPrefix, XmlNamespace}
use Rattle.events.specs.declared.Event.{Event}
use Rattle.events.specs.Words.{string_form}
use Rattle.write_items.specs.Events.{well_made, event_of, goes_on, all_text}
use Rattle.write_items.specs.Steps.{opens}

-- A string that is a stretch is not empty and lies in the text area; so, and it is in utf-8.
abbrev pub Lies : Octets → EventString → Type 0
Lies text Absent = Unit {0}
Lies text Empty = Unit {0}
Lies text (Stretch form p n) = (0 < n) × (p + n ≤ length text)
Lies text XmlPrefix = Unit {0}
Lies text XmlNamespace = Unit {0}

abbrev pub LiesPlain : Octets → EventString → Type 0
LiesPlain text x = Lies text x × (string_form x ≡ Utf8)

-- Each string of a record is so.
pub record Placed (text : Octets) (e : Event) : Type 0 where
  pub prefix : LiesPlain text e.prefix
  pub namespace : LiesPlain text e.namespace
  pub name : LiesPlain text e.name
  pub value : Lies text e.value

-- What is wrong with an event before anything is written: not well made or not in its place, not text, too deep.
unfoldable pub fault_of : Octets → F.State Located → Event → Result (Unit {0}) Refusal
fault_of text v e =
    pick (well_made text e.kind e && goes_on v (event_of e.kind e))
    (pick (all_text text (event_of e.kind e))
    (pick (opens v.mode (event_of e.kind e) && leb link.depth v.level) (Err R.TheVariants.Depth) (Ok tt))
    (Err R.TheVariants.Text))
    (Err R.TheVariants.Event)
