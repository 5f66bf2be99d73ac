-- The machine on one word: it ends in the integer that the word is, where eight octets hold it, and in none otherwise.
-- Assumes nothing.
use mathlib.Core.Path.{◌≡◌, refl, ◌∙◌}
use mathlib.Core.Bool.{Bool, true, false, ◌&&◌}
use mathlib.Core.List.{[], ◌∷◌}
use mathlib.Core.Option.{Option as Maybe, none, some}
use Prim.Native.Nat.{ℕ, zero, suc, ◌+◌, ◌-◌, ◌*◌, ◌<◌}
use native.Mathlib.Omega.{arith}
use borrow.Author.Tests.{lt-leb, le-leb, lt-ltb, le-ltb, eqb-true, eqb-false}
use lib.Dec.{lit<, leb, ltb, eqb}
use lib.IntN.{ℤ, pos, neg_ℤ}
use lib.Signed.{mag}
use Rattle.std.specs.Prelude.{Option, Some, None}
use Rattle.format.specs.Octets.{Octets}
use Rattle.format.specs.Numbers.{pick}
use Rattle.format.specs.Integers.{half}
use Rattle.fields.proofs.Laws.{case}
use Rattle.fields.proofs.Utf8.{told}
use Rattle.decimal.specs.Reading.{number}
use Rattle.decimal.specs.Words.{is_digit, are_digits, is_positive, is_empty, is_word, integer, parse}
use Rattle.decimal.specs.Machine.{most, grown, stepped, stepped_by, integer_by, ended}
use Rattle.decimal.specs.declared.scanning.Word.{Word}
use Rattle.decimal.specs.declared.scanning.Word.TheVariants.{Empty, Minus, Zero, Digits, NoWord}
use Rattle.decimal.proofs.Figures.{number_grows}

-- an integer that eight octets hold
unfoldable pub within : Maybe ℤ → Option ℤ
within none = None
within (some z) = pick (ltb (mag z) (half 8)) (Some z) None

-- where the word ends behind these octets
abbrev pub ended_by : Word → Octets → Option ℤ
ended_by u y = ended (stepped_by u y)

no_word : (y : Octets) → ended_by NoWord y ≡ None
unfolding stepped_by stepped ended
no_word [] = refl
no_word (o ∷ y) = no_word y

zero_word : (y : Octets) → ended_by Zero y ≡ pick (is_empty y) (Some (pos 0)) None
unfolding stepped_by stepped ended is_empty
zero_word [] = refl
zero_word (o ∷ y) = no_word y

-- ---- digits

too_long : (minus : Bool) (n : ℕ) → half 8 < n → integer_by minus n ≡ None
unfolding integer_by
too_long true n h = rw (lt-leb n (half 8) h)
too_long false n h = rw (le-ltb n (half 8) (omega arith))

-- no digit behind a number above `most` makes an integer
behind-most : (minus : Bool) (n o : ℕ) (y : Octets) → most < n → integer_by minus (number 10 0x30 (n * 10 + (o - 0x30)) y) ≡ None
unfolding half
behind-most minus n o y h = let g = number_grows 10 0x30 (lit< tt) (n * 10 + (o - 0x30)) y in too_long minus _ (omega arith)

either : {A : Type 0} (t : Bool) (a : A) → pick t a a ≡ a
either true a = refl
either false a = refl

module _ (minus : Bool) where
  -- a digit more, where the rest is known
  grown_rest : (n o : ℕ) (y : Octets) → ended_by (Digits minus (n * 10 + (o - 0x30))) y ≡ pick (are_digits y) (integer_by minus (number 10 0x30 (n * 10 + (o - 0x30)) y)) None
      → ended_by (grown minus n o) y ≡ pick (is_digit o && are_digits y) (integer_by minus (number 10 0x30 (n * 10 + (o - 0x30)) y)) None
  unfolding grown
  grown_rest n o y e =
      told (is_digit o)
      (λ d. rw d (case most n
      (λ h. rw (lt-leb n most h, behind-most minus n o y h, either) (no_word y))
      (λ h. rw (le-leb n most h) e)))
      (λ d. rw d (no_word y))

  digits_word : (n : ℕ) (y : Octets) → ended_by (Digits minus n) y ≡ pick (are_digits y) (integer_by minus (number 10 0x30 n y)) None
  unfolding stepped_by stepped ended are_digits number
  digits_word n [] = refl
  digits_word n (o ∷ y) = grown_rest n o y (digits_word (n * 10 + (o - 0x30)) y)

  -- a first digit that is not 0
  first_word : (o : ℕ) (y : Octets) → (o ≡ 0x30 → ⊥) → ended_by (grown minus 0 o) y ≡ pick (is_positive (o ∷ y)) (integer_by minus (number 10 0x30 0 (o ∷ y))) None
  unfolding is_positive number
  first_word o y h = rw (← positive) (grown_rest 0 o y (digits_word (0 * 10 + (o - 0x30)) y))
    where
      positive : is_digit o ≡ (leb 0x31 o && leb o 0x39)
      positive = unfold is_digit in
          case o 0x30 (λ l. rw (lt-leb 0x30 o l, lt-leb 0x31 o (omega arith))) (λ l. rw (le-leb 0x30 o l, le-leb 0x31 o (omega arith)))

-- ---- words

half_some : 0 < half 8
unfolding half
half_some = omega arith

negative_within : (n : ℕ) → integer_by true n ≡ within (some (neg_ℤ (pos n)))
unfolding integer_by within
negative_within zero = rw (le-leb 0 (half 8) (omega arith), lt-ltb 0 (half 8) half_some)
negative_within (suc n) = refl

plain-within : (n : ℕ) → integer_by false n ≡ within (some (pos n))
unfolding integer_by within
plain-within n = refl

zero_within : (o : ℕ) (y : Octets) → o ≡ 0x30 → pick (is_empty y) (Some (pos 0)) None ≡ within (pick (is_empty y) (some (pos (number 10 0x30 0 (o ∷ y)))) none)
unfolding is_empty within number
zero_within o [] e = rw (e, lt-ltb 0 (half 8) half_some)
zero_within o (b ∷ y) e = refl

-- the test of a word and its integer
by_test : (t : Bool) (z : ℤ) → pick t (within (some z)) None ≡ within (pick t (some z) none)
unfolding within
by_test true z = refl
by_test false z = refl

minus_word : (y : Octets) → ended_by Minus y ≡ pick (is_positive y) (integer_by true (number 10 0x30 0 y)) None
unfolding stepped_by stepped ended
minus_word [] = unfold is_positive in refl
minus_word (o ∷ y) =
    told (eqb o 0x30)
    (λ t. let e = eqb-true o 0x30 t in rw (t, e) (no_word y ∙ unfold is_positive in refl))
    (λ t. rw t (first_word true o y (eqb-false o 0x30 t)))

pub word_is : (y : Octets) → ended_by Empty y ≡ within (parse y)
unfolding stepped_by stepped ended parse is_word integer
word_is [] = unfold within in refl
word_is (o ∷ y) =
    told (eqb o 0x2D)
    (λ t. rw t (minus_word y ∙ rw (negative_within (number 10 0x30 0 y)) (by_test (is_positive y) _)))
    (λ t. rw t (told (eqb o 0x30)
    (λ u. rw u (zero_word y ∙ zero_within o y (eqb-true o 0x30 u)))
    (λ u. rw u (first_word false o y (eqb-false o 0x30 u) ∙ rw (plain-within (number 10 0x30 0 (o ∷ y))) (by_test (is_positive (o ∷ y)) _)))))
