-- What the octets of a string say, by their form: tests and decoders that compute. That they are exact is proofs/Forms: `said_spelled` and `spelled_said`.
use Rattle.std.specs.Prelude.{ℕ, zero, suc, ◌+◌, ◌-◌, ◌*◌, ◌/◌, ◌%◌, Bool, true, false, ◌&&◌, List, [], ◌∷◌, ltb, eqb, length, take}
use Rattle.format.specs.Octets.{Octets}
use Rattle.format.specs.Numbers.{pick}
use Rattle.format.specs.Characters.{Range, ◌‥◌, utf8s}
use Rattle.format.specs.Forms.{numeric, dates, at_places, width}
use Rattle.format.specs.declared.StringForm.{StringForm}
use Rattle.format.specs.declared.StringForm.TheVariants.{Utf8, Utf16, Numeric, Dates, Short, Int, Long}
use Rattle.decimal.specs.Reading.{is_whole, said_in}
use Rattle.fields.specs.Utf8.{fits}

-- ---- utf-16
-- How many octets the character at the front has, by the first row that fits; 0 where there is none.
unfoldable pub size : List (List Range) → Octets → ℕ
size [] x = 0
size (row ∷ rows) x = pick (fits row x) (length row) (size rows x)

-- These octets are characters one behind the other, where k of them still belong to the character before.
unfoldable pub whole : List (List Range) → ℕ → Octets → Bool
whole rows k [] = eqb k 0
whole rows zero (b ∷ x) = pick (eqb (size rows (b ∷ x)) 0) false (whole rows (size rows (b ∷ x) - 1) x)
whole rows (suc k) (b ∷ x) = whole rows k x

-- The characters that these octets are, by the character that one character's octets are.
unfoldable pub decoded : List (List Range) → (Octets → ℕ) → ℕ → Octets → List ℕ
decoded rows value k [] = []
decoded rows value zero (b ∷ x) = value (take (size rows (b ∷ x)) (b ∷ x)) ∷ decoded rows value (size rows (b ∷ x) - 1) x
decoded rows value (suc k) (b ∷ x) = decoded rows value k x

-- Sixteen bits that are 9, A, D, 20 to D7FF or E000 to FFFD; or a high surrogate, D800 to DBFF, and a low one, DC00 to DFFF. In a row the ranges of the octets.
unfoldable pub rows16 : List (List Range)
rows16 =
    (0x00 ‥ 0x00 ∷ 0x09 ‥ 0x0A ∷ [])
    ∷ (0x00 ‥ 0x00 ∷ 0x0D ‥ 0x0D ∷ [])
    ∷ (0x00 ‥ 0x00 ∷ 0x20 ‥ 0xFF ∷ [])
    ∷ (0x01 ‥ 0xD7 ∷ 0x00 ‥ 0xFF ∷ [])
    ∷ (0xE0 ‥ 0xFE ∷ 0x00 ‥ 0xFF ∷ [])
    ∷ (0xFF ‥ 0xFF ∷ 0x00 ‥ 0xFD ∷ [])
    ∷ (0xD8 ‥ 0xDB ∷ 0x00 ‥ 0xFF ∷ 0xDC ‥ 0xDF ∷ 0x00 ‥ 0xFF ∷ [])
    ∷ []

-- The character whose octets these are; what other octets give does not matter.
unfoldable pub value16 : Octets → ℕ
value16 [] = 0
value16 (a ∷ []) = 0
value16 (a ∷ b ∷ []) = a * 256 + b
value16 (a ∷ b ∷ c ∷ []) = 0
value16 (a ∷ b ∷ c ∷ d ∷ x) = 0x10000 + ((a - 0xD8) * 256 + b) * 1024 + ((c - 0xDC) * 256 + d)

unfoldable pub is_text16 : Octets → Bool
is_text16 x = whole rows16 0 x

unfoldable pub characters16 : Octets → List ℕ
characters16 x = decoded rows16 value16 0 x

-- ---- alphabets
-- The halves of these octets are places of an alphabet, 0 to 14; the very last may be 15, which fills up. And the places.
unfoldable pub are_places : Octets → Bool
are_places [] = true
are_places (o ∷ []) = ltb (o / 16) 15
are_places (o ∷ p ∷ x) = ltb (o / 16) 15 && ltb (o % 16) 15 && are_places (p ∷ x)

unfoldable pub places_of : Octets → List ℕ
places_of [] = []
places_of (o ∷ []) = pick (ltb (o % 16) 15) (o / 16 ∷ o % 16 ∷ []) (o / 16 ∷ [])
places_of (o ∷ p ∷ x) = o / 16 ∷ o % 16 ∷ places_of (p ∷ x)

-- ---- integers
-- These numbers are octets: each is below 256, as those of a document and of a text area always are.
unfoldable pub are_octets : Octets → Bool
are_octets [] = true
are_octets (o ∷ x) = ltb o 256 && are_octets x

-- Octets that are integers of w octets each, at least one.
unfoldable pub are_integers : (w : ℕ) → Octets → Bool
are_integers w o = is_whole w o && are_octets o

-- ---- what octets say in a form: the string, known by its octets in UTF-8. Octets that are no string in their form say FF, which is no text.
abbrev pub no_text : Octets
no_text = 0xFF ∷ []

abbrev pub said : StringForm → Octets → Octets
said Utf8 o = o
said Utf16 o = pick (is_text16 o) (utf8s (characters16 o)) no_text
said Numeric o = pick (are_places o) (utf8s (at_places numeric (places_of o))) no_text
said Dates o = pick (are_places o) (utf8s (at_places dates (places_of o))) no_text
said Short o = pick (are_integers (width Short) o) (said_in (width Short) o) no_text
said Int o = pick (are_integers (width Int) o) (said_in (width Int) o) no_text
said Long o = pick (are_integers (width Long) o) (said_in (width Long) o) no_text
