-- The records of words: how many there are, each by its number, and records that were written as words are read back.
-- Assumes nothing.
use mathlib.Core.Path.{◌≡◌, refl, ap, ap₂, ◌∙◌}
use mathlib.Core.Bool.{true, ◌&&◌}
use mathlib.Core.List.{List, [], ◌∷◌, ◌++◌}
use Prim.Native.Nat.{ℕ, zero, suc, ◌+◌, ◌*◌, ◌/◌, ◌<◌}
use native.Mathlib.Omega.{arith}
use native.Mathlib.Nat.{add_assoc}
use lib.Dec.{leb}
use lib.ListN.{length, get_or, drop, length-append}
use lib.Seq.{drop-cons, get_or-append-add}
use Rattle.std.specs.Prelude.{Some}
use Rattle.format.specs.declared.StringForm.TheVariants.{Utf8, Utf16, Numeric, Dates, Short, Int, Long}
use Rattle.format.specs.Forms.{form_of}
use Rattle.events.specs.declared.EventString.{EventString}
use Rattle.events.specs.declared.EventString.TheVariants.{Absent, Empty, Stretch, XmlPrefix, XmlNamespace}
use Rattle.events.specs.declared.Kind.{Kind}
use Rattle.events.specs.declared.Kind.TheVariants.{Blank, Namespace, Start, Attribute, Chunk, Comment, Instruction, End}
use Rattle.events.specs.declared.Event.{Event}
use Rattle.events.specs.Records.{blank}
use Rattle.events.specs.Words.{kind_number, string_tag, string_place, string_size, record_words, row_words}
use Rattle.events.specs.FromWords.{kind_of, told_by_tag, told_by, record_at, records_from, records_of, AllKinded}

-- ---- records by number
from_length : (w : List ℕ) (at n : ℕ) → length (records_from w at n) ≡ n
unfolding records_from
from_length w at zero = refl
from_length w at (suc n) = ap suc (from_length w (at + 14) n)

from_nth : (w : List ℕ) (at n i : ℕ) → i < n → get_or (records_from w at n) i blank ≡ record_at w (at + 14 * i)
unfolding records_from
from_nth w at zero i h = absurd (omega arith)
from_nth w at (suc n) zero h = ap (record_at w) (omega arith)
from_nth w at (suc n) (suc i) h = from_nth w (at + 14) n i (omega arith) ∙ ap (record_at w) (omega arith)

module _ (w : List ℕ) where
  pub records_length : length (records_of w) ≡ length w / 14
  unfolding records_of
  records_length = from_length w 0 (length w / 14)

  pub record_nth : (n : ℕ) → n < length w / 14 → get_or (records_of w) n blank ≡ record_at w (14 * n)
  unfolding records_of
  record_nth n h = from_nth w 0 (length w / 14) n h ∙ ap (record_at w) (omega arith)

  pub records_drop : (n : ℕ) → n < length w / 14 → drop n (records_of w) ≡ record_at w (14 * n) ∷ drop (suc n) (records_of w)
  records_drop n h = let e = records_length in rw (drop-cons (records_of w) n blank (omega arith), record_nth n h)

-- ---- words in front are passed over
record_past : (xs w : List ℕ) (at : ℕ) → record_at (xs ++ w) (length xs + at) ≡ record_at w at
unfolding record_at
record_past xs w at = simp (add_assoc, get_or-append-add)

from_past : (xs w : List ℕ) (at n : ℕ) → records_from (xs ++ w) (length xs + at) n ≡ records_from w at n
unfolding records_from
from_past xs w at zero = refl
from_past xs w at (suc n) = ap₂ ◌∷◌ (record_past xs w at) (rw add_assoc (from_past xs w (at + 14) n))

-- ---- the round trip
pub text_back : (t : EventString) → told_by (string_tag t) (string_place t) (string_size t) ≡ Some t
unfolding told_by told_by_tag form_of
text_back Absent = refl
text_back Empty = refl
text_back (Stretch Utf8 place size) = refl
text_back (Stretch Utf16 place size) = refl
text_back (Stretch Numeric place size) = refl
text_back (Stretch Dates place size) = refl
text_back (Stretch Short place size) = refl
text_back (Stretch Int place size) = refl
text_back (Stretch Long place size) = refl
text_back XmlPrefix = refl
text_back XmlNamespace = refl

-- a kind by its number, and the number of one that is not Blank
kind_back : (k : Kind) → (kind_of (kind_number k) ≡ k) × ((k ≡ Blank → ⊥) → (leb 1 (kind_number k) && leb (kind_number k) 7) ≡ true)
unfolding kind_of
kind_back Blank = (refl, λ h. absurd (h refl))
kind_back Namespace = (refl, λ h. refl)
kind_back Start = (refl, λ h. refl)
kind_back Attribute = (refl, λ h. refl)
kind_back Chunk = (refl, λ h. refl)
kind_back Comment = (refl, λ h. refl)
kind_back Instruction = (refl, λ h. refl)
kind_back End = (refl, λ h. refl)

pub record_back : (e : Event) (rest : List ℕ) → (e.kind ≡ Blank → ⊥) → record_at (record_words e ++ rest) 0 ≡ e
unfolding record_at
record_back e rest h = rw ((kind_back e.kind).1 h, text_back e.prefix, text_back e.namespace, text_back e.name, text_back e.value, (kind_back e.kind).0)

from_back : (es : List Event) (rest : List ℕ) → AllKinded es → records_from (row_words es ++ rest) 0 (length es) ≡ es
unfolding records_from row_words
from_back [] rest h = refl
from_back (e ∷ es) rest h = ap₂ ◌∷◌ (record_back e (row_words es ++ rest) h.0) (from_past (record_words e) (row_words es ++ rest) 0 (length es) ∙ from_back es rest h.1)

row_length : (es : List Event) → length (row_words es) ≡ 14 * length es
unfolding row_words
row_length [] = refl
row_length (e ∷ es) = let n = row_length es in length-append (record_words e) (row_words es) ∙ omega arith

-- what stands behind the last whole record is ignored
pub records_back : (es : List Event) (rest : List ℕ) → length rest < 14 → AllKinded es → records_of (row_words es ++ rest) ≡ es
unfolding records_of
records_back es rest l h =
    let n : length (row_words es ++ rest) / 14 ≡ length es = simp (length-append, row_length) (omega arith) in
    rw n (from_back es rest h)
