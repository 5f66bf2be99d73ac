-- Contracts of the code, not definitions to be believed. A text's words and integers, by one octet after the other. That this finds what Words has is proofs/Scans: `scan_finds` and `written_is`.
use Rattle.std.specs.Prelude.{ℕ, ◌+◌, ◌-◌, ◌*◌, max, Bool, true, false, ◌&&◌, [], ◌∷◌, ◌++◌, ltb, leb, eqb, ℤ, pos, neg_ℤ, Option, Some, None}
use Rattle.std.specs.Int.Signed.{mag}
use Rattle.format.specs.Octets.{Octets}
use Rattle.format.specs.Numbers.{pick}
use Rattle.format.specs.Integers.{half, octets_of}
use Rattle.decimal.specs.Words.{is_digit, shape, word_count}
use Rattle.decimal.specs.declared.scanning.Word.{Word}
use Rattle.decimal.specs.declared.scanning.Word.TheVariants.{Empty, Minus, Zero, Digits, NoWord}
use Rattle.decimal.specs.declared.scanning.Integers.{Integers}
use Rattle.decimal.specs.declared.scanning.Scan.{Scan}

-- ---- one word
-- The greatest number behind which a digit may stand: ten times the next one is above all that eight octets hold.
abbrev pub most : ℕ
most = 922337203685477580

-- A number with a digit more.
unfoldable pub grown : (minus : Bool) → ℕ → (o : ℕ) → Word
grown minus n o = pick (is_digit o && leb n most) (Digits minus (n * 10 + (o - 0x30))) NoWord

unfoldable pub stepped : Word → (o : ℕ) → Word
stepped Empty o = pick (eqb o 0x2D) Minus (pick (eqb o 0x30) Zero (grown false 0 o))
stepped Minus o = pick (eqb o 0x30) NoWord (grown true 0 o)
stepped Zero o = NoWord
stepped (Digits minus n) o = grown minus n o
stepped NoWord o = NoWord

unfoldable pub stepped_by : Word → Octets → Word
stepped_by u [] = u
stepped_by u (o ∷ y) = stepped_by (stepped u o) y

-- The integer that a word is which ends here, if eight octets hold it.
unfoldable pub integer_by : (minus : Bool) → ℕ → Option ℤ
integer_by true n = pick (leb n (half 8)) (Some (neg_ℤ (pos n))) None
integer_by false n = pick (ltb n (half 8)) (Some (pos n)) None

unfoldable pub ended : Word → Option ℤ
ended Empty = None
ended Minus = None
ended Zero = Some (pos 0)
ended (Digits minus n) = integer_by minus n
ended NoWord = None

-- ---- a text
-- So many integers, each held by so many octets.
abbrev pub integers : (count width : ℕ) → Option Integers
integers k w = Some (record { count = k; width = w })

-- The least of the widths 2, 4 and 8 that holds an integer; and how many were found and the least width that holds them all, with one more.
unfoldable pub width_of : ℤ → ℕ
width_of z = pick (ltb (mag z) (half 2)) 2 (pick (ltb (mag z) (half 4)) 4 8)

unfoldable pub more : Option Integers → Option ℤ → Option Integers
more (Some i) (Some z) = integers (i.count + 1) (max i.width (width_of z))
more (Some i) None = None
more None e = None

unfoldable pub starting : Scan
starting = record { word = Empty; before = integers 0 2 }

unfoldable pub found : Scan → Option Integers
found s = more s.before (ended s.word)

unfoldable pub scanned : Scan → (o : ℕ) → Scan
scanned s o = pick (eqb o 0x20) (record { word = Empty; before = found s }) (record { word = stepped s.word o; before = s.before })

unfoldable pub scanned_by : Scan → Octets → Scan
scanned_by s [] = s
scanned_by s (o ∷ x) = scanned_by (scanned s o) x

-- How many integers were found; 0 where a word is none.
abbrev pub counted : Option Integers → ℕ
counted (Some i) = i.count
counted None = 0

-- What is found in a whole text: the least width whose shape it has.
unfoldable pub least_in : Octets → Option Integers
least_in x =
    pick (shape 2 x) (integers (word_count x) 2)
    (pick (shape 4 x) (integers (word_count x) 4)
    (pick (shape 8 x) (integers (word_count x) 8)
    None))

-- ---- octets, while a text is read from a word on
-- f of each word where it ends, joined.
unfoldable pub by_words : {A : Type 0} → (join : A → A → A) → (f : Option ℤ → A) → Word → Octets → A
by_words join f u [] = f (ended u)
by_words join f u (o ∷ x) = pick (eqb o 0x20) (join (f (ended u)) (by_words join f Empty x)) (by_words join f (stepped u o) x)

-- The octets of each integer.
unfoldable pub ended_octets : (w : ℕ) → Option ℤ → Octets
ended_octets w (Some z) = octets_of w z
ended_octets w None = []

unfoldable pub written : (w : ℕ) → Word → Octets → Octets
written w u x = by_words ◌++◌ (ended_octets w) u x

-- Each word is an integer that w octets hold.
unfoldable pub held_by : (w : ℕ) → Option ℤ → Bool
held_by w (Some z) = ltb (mag z) (half w)
held_by w None = false

unfoldable pub fitting : (w : ℕ) → Word → Octets → Bool
fitting w u x = by_words ◌&&◌ (held_by w) u x
