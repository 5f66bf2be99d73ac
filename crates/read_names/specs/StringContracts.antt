-- Contracts of the code, not definitions to be believed. What each function that reads a part of a string answers.
use Rattle.std.specs.Prelude.{ℕ, ◌+◌, ◌-◌, ◌*◌, ◌≤◌, ◌≡◌, Bool, true, false, length, get_or, set, ltb, leb, Result, Ok, Err}
use Rattle.format.specs.Octets.{Octets, Words}
use Rattle.format.specs.Numbers.{pick}
use Rattle.format.specs.Tables.{link}
use Rattle.fields.specs.Utf8.{is_text}
use Rattle.format.specs.declared.refusals.Fault.{Fault}
use Rattle.format.specs.declared.refusals.Refusal.TheVariants.{Truncated, Text, Index, Full}
use Rattle.format.specs.declared.StringForm.{StringForm}
use Rattle.format.specs.Forms.{form_number}
use Rattle.fields.specs.declared.Read.{Read}
use Rattle.fields.specs.Fields.{got, refused}
use Rattle.tables.specs.Counts.{per_table}
use Rattle.tables.specs.Located.{stretch, octets_of}
use Rattle.tables.specs.Rows.{table_of, string_at, vocabulary}
use Rattle.tables.specs.Kept.{stored, unlisted}
use Rattle.events.specs.declared.EventString.TheVariants.{Stretch}
use Rattle.events.specs.Records.{event_string}
use Rattle.events.specs.declared.EventString.{EventString}
use Rattle.read_names.specs.Strings.{formed_at, spelled_at}
use Rattle.read_names.specs.Promises.{Tidy, seen_field, string_seen, FieldLeft}

-- A length that was read is not 0, and behind it is a place of the document, or its end.
abbrev pub LengthRead : Octets → Result (Read ℕ) Fault → Type 0
LengthRead s (Ok r) = (1 ≤ r.value) × (r.next.at ≤ length s)
LengthRead s (Err f) = Unit {0}

-- The octets of a string whose length was read at k: they are there, or not (2), and are text, or not (9).
unfoldable pub judged_of : StringForm → Octets → ℕ → Read ℕ → Result (Unit {0}) Fault
judged_of form s k r = pick (leb (r.next.at + r.value) (length s)) (pick (is_text (octets_of s (stretch form r.next.at r.value))) (Ok tt) (refused Text k)) (refused Truncated k)

-- A number that was read at k, in a table of `count` entries, or one beyond them (10).
unfoldable pub held_of : (count k : ℕ) → Read ℕ → Result (Read ℕ) Fault
held_of count k r = pick (leb r.value count) (Ok r) (refused Index k)

-- A refusal of the number is handed on.
abbrev pub held_by : (count k : ℕ) → Result (Read ℕ) Fault → Result (Read ℕ) Fault
held_by count k (Ok r) = held_of count k r
held_by count k (Err f) = Err f

-- The string of the entry that has the number, where there is one.
unfoldable pub said_of : Words → (table count k : ℕ) → Read ℕ → Result (Read EventString) Fault
said_of w table count k r = pick (leb r.value count) (got (event_string (string_at (table_of table) w (768 * table + 3 * (r.value - 1)))) r.next.at) (refused Index k)

-- The octets at a place, one entry more where they are added; or no room in the table (12). And the words of the counts and of the tables then.
unfoldable pub added_of : Words → (table k : ℕ) → StringForm → (place size : ℕ) → Bool → Result (Read EventString) Fault
added_of c table k form place size true = pick (ltb (get_or c table 0) per_table) (got (Stretch form place size) (place + size)) (refused Full k)
added_of c table k form place size false = got (Stretch form place size) (place + size)

unfoldable pub added_counts : Words → ℕ → Bool → Words
added_counts c table true = pick (ltb (get_or c table 0) per_table) (set c table (get_or c table 0 + 1)) c
added_counts c table false = c

unfoldable pub added_words : (c w : Words) → (table : ℕ) → StringForm → (place size : ℕ) → Bool → Words
added_words c w table form place size true = pick (ltb (get_or c table 0) per_table) (stored w table (get_or c table 0) place size (form_number form)) w
added_words c w table form place size false = w

-- A string of a table that the reader does not search, spelled: in a form, its length read as r, or refused; and by its format, its length from a bit on.
abbrev pub ReadsFormed : Octets → (c w : Words) (table at : ℕ) → StringForm → Result (Read ℕ) Fault → Bool → Result (Read EventString) Fault → (d v : Words) → Type 0
ReadsFormed s c w table at form r add a d v =
    (x : Octets) → Tidy s c w x → 5 ≤ table
    → (seen_field a d v ≡ string_seen (formed_at link form s (table_of table) at add r (vocabulary (unlisted c) w))) × FieldLeft s c w a d v x

abbrev pub ReadsSpelled : Octets → (c w : Words) (table at bit : ℕ) → Bool → Result (Read EventString) Fault → (d v : Words) → Type 0
ReadsSpelled s c w table at bit add a d v =
    (x : Octets) → Tidy s c w x → 5 ≤ table
    → (seen_field a d v ≡ string_seen (spelled_at link bit s (table_of table) at add (vocabulary (unlisted c) w))) × FieldLeft s c w a d v x
