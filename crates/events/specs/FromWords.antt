-- Event records read back from words: which record 14 words stand for, and the records of a list of words.
use Rattle.std.specs.Prelude.{◌≡◌, ◌⊎◌, ℕ, zero, suc, ◌+◌, ◌-◌, ◌/◌, Bool, false, ◌&&◌, List, [], ◌∷◌, leb, eqb, length, get_or, Option, Some, None, unwrap_or}
use Rattle.format.specs.Octets.{Words}
use Rattle.format.specs.Numbers.{pick}
use Rattle.format.specs.declared.StringForm.TheVariants.{Utf8}
use Rattle.format.specs.Forms.{form_of}
use Rattle.events.specs.declared.EventString.{EventString}
use Rattle.events.specs.declared.EventString.TheVariants.{Absent, Empty, Stretch, XmlPrefix, XmlNamespace}
use Rattle.events.specs.declared.Kind.{Kind}
use Rattle.events.specs.declared.Kind.TheVariants.{Blank, Namespace, Start, Attribute, Chunk, Comment, Instruction, End}
use Rattle.events.specs.declared.Event.{Event}
use Rattle.events.specs.Records.{blank}
use Rattle.events.specs.Words.{kind_number, string_form}

-- The kinds by number, from 0.
abbrev pub kinds : List Kind
kinds = Blank ∷ Namespace ∷ Start ∷ Attribute ∷ Chunk ∷ Comment ∷ Instruction ∷ End ∷ []

-- Blank also for a number that no kind has.
unfoldable pub kind_of : ℕ → Kind
kind_of number = get_or kinds number Blank

-- What each tag says without a place and a length, from 0: that of a stretch says nothing.
abbrev pub tags : List (Option EventString)
tags = Some Absent ∷ Some Empty ∷ None ∷ Some XmlPrefix ∷ Some XmlNamespace ∷ []

unfoldable pub told_by_tag : ℕ → Option EventString
told_by_tag tag = get_or tags tag None

-- Only a stretch has a place and a length: beside another tag both are 0. 2 is utf-8; 5 to 10 are the forms 1 to 6.
unfoldable pub told_by : (tag place size : ℕ) → Option EventString
told_by tag place size =
    pick (eqb tag 2) (Some (Stretch Utf8 place size))
    (pick (leb 5 tag && leb tag 10) (Some (Stretch (form_of (tag - 4)) place size))
    (pick (eqb place 0 && eqb size 0) (told_by_tag tag) None))

-- The string of the three words from `at` on.
abbrev pub told_at : Words → (at : ℕ) → Option EventString
told_at w at = told_by (get_or w at 0) (get_or w (at + 1) 0) (get_or w (at + 2) 0)

-- The string that they say; absent where they say none.
unfoldable pub string_from : Words → (at : ℕ) → EventString
string_from w at = unwrap_or (told_at w at) Absent

-- The record of a kind, its four strings and its place, blank where a string is not said.
abbrev pub framed : Kind → (prefix namespace name value : Option EventString) → (place : ℕ) → Event
framed k None n l v place = blank
framed k (Some p) None l v place = blank
framed k (Some p) (Some n) None v place = blank
framed k (Some p) (Some n) (Some l) None place = blank
framed k (Some p) (Some n) (Some l) (Some v) place = record { kind = k; prefix = p; namespace = n; name = l; value = v; place = place }

-- The record of the 14 words from `at` on: blank unless its kind's number is 1 to 7 and it has all four strings.
unfoldable pub record_at : Words → (at : ℕ) → Event
record_at w at =
    pick (leb 1 (get_or w at 0) && leb (get_or w at 0) 7)
    (framed (kind_of (get_or w at 0)) (told_at w (at + 1)) (told_at w (at + 4)) (told_at w (at + 7)) (told_at w (at + 10)) (get_or w (at + 13) 0))
    blank

-- n records, the first at word `at`.
unfoldable pub records_from : Words → (at n : ℕ) → List Event
records_from w at zero = []
records_from w at (suc n) = record_at w at ∷ records_from w (at + 14) n

-- The records of all whole groups of 14 words, in order; the words behind them say nothing.
unfoldable pub records_of : Words → List Event
records_of w = records_from w 0 (length w / 14)

-- No record is of kind Blank.
abbrev pub AllKinded : List Event → Type 0
AllKinded [] = Unit {0}
AllKinded (e ∷ es) = (e.kind ≡ Blank → ⊥) × AllKinded es

-- Contracts of the code, not definitions to be believed: the first record is there, and of the kind that has this number.
abbrev pub begins_with : (number : ℕ) → List Event → Bool
begins_with number [] = false
begins_with number (e ∷ es) = eqb (kind_number e.kind) number

-- And: a record that is blank, or has an identifying string in another form than utf-8.
abbrev pub Misnamed : Event → Type 0
Misnamed e = (e.kind ≡ Blank) ⊎ ((string_form e.prefix ≡ Utf8 → ⊥) ⊎ ((string_form e.namespace ≡ Utf8 → ⊥) ⊎ (string_form e.name ≡ Utf8 → ⊥)))
