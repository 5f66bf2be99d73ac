-- Worked examples, by computation.
-- Assumes nothing.
use mathlib.Core.Path.{◌≡◌, refl}
use mathlib.Core.Bool.{true, false}
use mathlib.Core.List.{[], ◌∷◌}
use Rattle.format.specs.Integers.{figures, half, unsigned, octets_of, all_octets, size_in, size, digits, decimal, spaced, joined, list_text}
use Rattle.decimal.specs.Reading.{number, signed, integer_of, integers_of, is_whole, said_in}
use Rattle.decimal.specs.Words.{is_digit, are_digits, is_positive, is_empty, is_word, integer, parse, longer, words, both, parse_all, parse_list, all_held, held_in, shape, octets_in, integers_in}

-- FF FE is "-2", 80 00 is "-32768", and FF FF 00 0A is "-1 10"; the lowest integer of eight octets
shorts : (said_in 2 (0xFF ∷ 0xFE ∷ []) ≡ 0x2D ∷ 0x32 ∷ [])
    × (said_in 2 (0x80 ∷ 0x00 ∷ []) ≡ 0x2D ∷ 0x33 ∷ 0x32 ∷ 0x37 ∷ 0x36 ∷ 0x38 ∷ [])
    × (said_in 2 (0xFF ∷ 0xFF ∷ 0x00 ∷ 0x0A ∷ []) ≡ 0x2D ∷ 0x31 ∷ 0x20 ∷ 0x31 ∷ 0x30 ∷ [])
unfolding said_in integers_of integer_of signed half number list_text joined spaced decimal digits size size_in figures
shorts = (refl, refl, refl)

lowest : said_in 8 (0x80 ∷ 0 ∷ 0 ∷ 0 ∷ 0 ∷ 0 ∷ 0 ∷ 0 ∷ [])
    ≡ 0x2D ∷ 0x39 ∷ 0x32 ∷ 0x32 ∷ 0x33 ∷ 0x33 ∷ 0x37 ∷ 0x32 ∷ 0x30 ∷ 0x33 ∷ 0x36 ∷ 0x38 ∷ 0x35 ∷ 0x34 ∷ 0x37 ∷ 0x37 ∷ 0x35 ∷ 0x38 ∷ 0x30 ∷ 0x38 ∷ []
unfolding said_in integers_of integer_of signed half number list_text joined spaced decimal digits size size_in figures
lowest = refl

-- counts of octets that no shorts and no ints have; no octets
odd_counts : (is_whole 2 (0 ∷ 0 ∷ 0 ∷ []) ≡ false) × (is_whole 4 (0 ∷ 0 ∷ []) ≡ false) × (is_whole 2 [] ≡ false)
unfolding is_whole
odd_counts = (refl, refl, refl)

-- "-32768" is a short, "32768" none but an int; "0 10" is two shorts
shapes : (shape 2 (0x2D ∷ 0x33 ∷ 0x32 ∷ 0x37 ∷ 0x36 ∷ 0x38 ∷ []) ≡ true)
    × (shape 2 (0x33 ∷ 0x32 ∷ 0x37 ∷ 0x36 ∷ 0x38 ∷ []) ≡ false)
    × (shape 4 (0x33 ∷ 0x32 ∷ 0x37 ∷ 0x36 ∷ 0x38 ∷ []) ≡ true)
    × (integers_in 2 (0x30 ∷ 0x20 ∷ 0x31 ∷ 0x30 ∷ []) ≡ 0 ∷ 0 ∷ 0 ∷ 10 ∷ [])
unfolding shape held_in all_held half parse_list parse_all both words longer parse is_word is_empty is_positive are_digits is_digit integer number integers_in octets_in all_octets octets_of unsigned figures
shapes = (refl, refl, refl, refl)

-- "-0", "01", "+1", "1  2", " 1", "1 ", "-" and no text at all are none
no_shapes : (shape 8 (0x2D ∷ 0x30 ∷ []) ≡ false)
    × (shape 8 (0x30 ∷ 0x31 ∷ []) ≡ false)
    × (shape 8 (0x2B ∷ 0x31 ∷ []) ≡ false)
    × (shape 8 (0x31 ∷ 0x20 ∷ 0x20 ∷ 0x32 ∷ []) ≡ false)
    × (shape 8 (0x20 ∷ 0x31 ∷ []) ≡ false)
    × (shape 8 (0x31 ∷ 0x20 ∷ []) ≡ false)
    × (shape 8 (0x2D ∷ []) ≡ false)
    × (shape 8 [] ≡ false)
unfolding shape held_in all_held half parse_list parse_all both words longer parse is_word is_empty is_positive are_digits is_digit integer number
no_shapes = (refl, refl, refl, refl, refl, refl, refl, refl)
