-- The octets of a string in the forms that the writer uses: utf-8, an alphabet that has all its characters, and integers whose decimal text it is. That these spell the string, and what else does not, is proofs/Forms:
-- `packed_spelled` and `spelled_letters`, `integers_spelled` and `spelled_integers`.
use Rattle.std.specs.Prelude.{ℕ, ◌+◌, ◌*◌, Bool, true, false, ◌&&◌, ◌||◌, List, [], ◌∷◌, eqb}
use Rattle.format.specs.Octets.{Octets}
use Rattle.format.specs.Numbers.{pick}
use Rattle.format.specs.Forms.{width, numeric, dates}
use Rattle.format.specs.declared.StringForm.{StringForm}
use Rattle.format.specs.declared.StringForm.TheVariants.{Utf8, Utf16, Numeric, Dates, Short, Int, Long}
use Rattle.decimal.specs.Words.{shape, integers_in}

-- A form's characters by place; none for those that are no alphabet.
abbrev pub alphabet : StringForm → List ℕ
alphabet Utf8 = []
alphabet Utf16 = []
alphabet Numeric = numeric
alphabet Dates = dates
alphabet Short = []
alphabet Int = []
alphabet Long = []

-- A character is one of an alphabet; each of a string is. Those of both alphabets are below 80, so that each is one octet.
unfoldable pub is_letter : List ℕ → ℕ → Bool
is_letter [] o = false
is_letter (a ∷ letters) o = eqb a o || is_letter letters o

unfoldable pub all_letters : List ℕ → Octets → Bool
all_letters letters [] = true
all_letters letters (o ∷ x) = is_letter letters o && all_letters letters x

-- The place of a character in an alphabet; and a string's octets by these places, two in an octet.
unfoldable pub place_in : List ℕ → (o : ℕ) → ℕ
place_in [] o = 0
place_in (a ∷ letters) o = pick (eqb a o) 0 (place_in letters o + 1)

unfoldable pub packed_by : List ℕ → Octets → Octets
packed_by letters [] = []
packed_by letters (a ∷ []) = (16 * place_in letters a + 15) ∷ []
packed_by letters (a ∷ b ∷ x) = (16 * place_in letters a + place_in letters b) ∷ packed_by letters x

-- The alphabet with the lower number that has all characters of a string; utf-8 where none has.
unfoldable pub alphabet_for : Octets → StringForm
alphabet_for x = pick (all_letters numeric x) Numeric (pick (all_letters dates x) Dates Utf8)

-- The integers with the fewest octets whose decimal text a string is; utf-8 where it is none.
unfoldable pub integers_for : Octets → StringForm
integers_for x = pick (shape (width Short) x) Short (pick (shape (width Int) x) Int (pick (shape (width Long) x) Long Utf8))

-- A string's octets in a form that it fits.
abbrev pub in_form : StringForm → Octets → Octets
in_form Utf8 x = x
in_form Utf16 x = x
in_form Numeric x = packed_by numeric x
in_form Dates x = packed_by dates x
in_form Short x = integers_in (width Short) x
in_form Int x = integers_in (width Int) x
in_form Long x = integers_in (width Long) x
