-- Which integers a text is, and their octets. That these are exact is proofs/Shapes: `shape_spelled` and `spelled_shape`.
use Rattle.std.specs.Prelude.{ℕ, Bool, true, false, ◌&&◌, List, [], ◌∷◌, ltb, leb, eqb, ℤ, pos, neg_ℤ, length}
use Rattle.std.proofs.Math.Option.{Option, none, some}
use Rattle.std.specs.Int.Signed.{mag}
use Rattle.format.specs.Octets.{Octets}
use Rattle.format.specs.Numbers.{pick}
use Rattle.format.specs.Integers.{half, all_octets}
use Rattle.decimal.specs.Reading.{number}

-- ---- one word: 0, or -?[1-9][0-9]*
unfoldable pub is_digit : ℕ → Bool
is_digit o = leb 0x30 o && leb o 0x39

unfoldable pub are_digits : Octets → Bool
are_digits [] = true
are_digits (o ∷ x) = is_digit o && are_digits x

unfoldable pub is_positive : Octets → Bool
is_positive [] = false
is_positive (o ∷ x) = (leb 0x31 o && leb o 0x39) && are_digits x

unfoldable pub is_empty : Octets → Bool
is_empty [] = true
is_empty (o ∷ x) = false

unfoldable pub is_word : Octets → Bool
is_word [] = false
is_word (o ∷ x) = pick (eqb o 0x2D) (is_positive x) (pick (eqb o 0x30) (is_empty x) (is_positive (o ∷ x)))

-- The integer that a word is.
unfoldable pub integer : Octets → ℤ
integer [] = pos 0
integer (o ∷ x) = pick (eqb o 0x2D) (neg_ℤ (pos (number 10 0x30 0 x))) (pos (number 10 0x30 0 (o ∷ x)))

unfoldable pub parse : Octets → Option ℤ
parse x = pick (is_word x) (some (integer x)) none

-- ---- a text
-- Its words: what stands between two spaces next to each other, or at an end before one, is the empty word. And how many there are.
unfoldable pub longer : ℕ → List Octets → List Octets
longer o [] = (o ∷ []) ∷ []
longer o (y ∷ ys) = (o ∷ y) ∷ ys

unfoldable pub words : Octets → List Octets
words [] = [] ∷ []
words (o ∷ x) = pick (eqb o 0x20) ([] ∷ words x) (longer o (words x))

unfoldable pub word_count : Octets → ℕ
word_count x = length (words x)

-- Its integers, where each word is one.
unfoldable pub both : Option ℤ → Option (List ℤ) → Option (List ℤ)
both none zs = none
both (some z) none = none
both (some z) (some zs) = some (z ∷ zs)

unfoldable pub parse_all : List Octets → Option (List ℤ)
parse_all [] = some []
parse_all (y ∷ ys) = both (parse y) (parse_all ys)

unfoldable pub parse_list : Octets → Option (List ℤ)
parse_list x = parse_all (words x)

-- Each of them is held by w octets.
unfoldable pub all_held : (w : ℕ) → List ℤ → Bool
all_held w [] = true
all_held w (z ∷ zs) = ltb (mag z) (half w) && all_held w zs

unfoldable pub held_in : (w : ℕ) → Option (List ℤ) → Bool
held_in w none = false
held_in w (some zs) = all_held w zs

-- The text is integers of w octets; and their octets, none where a word is no integer.
unfoldable pub shape : (w : ℕ) → Octets → Bool
shape w x = held_in w (parse_list x)

unfoldable pub octets_in : (w : ℕ) → Option (List ℤ) → Octets
octets_in w none = []
octets_in w (some zs) = all_octets w zs

unfoldable pub integers_in : (w : ℕ) → Octets → Octets
integers_in w x = octets_in w (parse_list x)
