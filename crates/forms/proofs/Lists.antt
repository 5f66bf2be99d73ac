-- Strings spelled as integers, over any width: what octets say is exact, and the text is made of letters of the first alphabet. And the text of one integer more.
-- Assumes nothing.
use mathlib.Core.Path.{◌≡◌, refl, sym, ap, ◌∙◌}
use mathlib.Core.Bool.{true}
use mathlib.Core.List.{List, [], ◌∷◌, ◌++◌, map}
use Prim.Native.Nat.{ℕ, zero, suc, ◌+◌, ◌-◌, ◌*◌, ◌/◌, ◌%◌, ◌≤◌, ◌<◌}
use native.Mathlib.Nat.{div-add-mod', mul-div_cancel, mul-mod_left, suc-mul, zero-mul}
use native.Mathlib.Omega.{arith}
use borrow.Author.Tests.{lt-ltb, ltb-true}
use lib.Dec.{ltb}
use lib.IntN.{ℤ, pos, negsuc}
use lib.ListN.{length, get_or, take, drop, length-append, length-drop}
use Rattle.format.specs.Octets.{Octets, AreOctets}
use Rattle.format.specs.Numbers.{pick}
use Rattle.format.specs.Characters.{All}
use Rattle.format.specs.Integers.{figures, size, digits, decimal, spaced, joined, list_text, InIntegers}
use Rattle.format.specs.Forms.{numeric}
use Rattle.fields.proofs.Utf8.{told, both}
use Rattle.decimal.specs.Reading.{integer_of, integers_of, is_whole, said_in}
use Rattle.decimal.specs.Texts.{left}
use Rattle.decimal.specs.declared.printing.Text.{Text}
use Rattle.decimal.proofs.Figures.{figures-length}
use Rattle.decimal.proofs.Decimals.{size_bounds}
use Rattle.decimal.proofs.Texts.{spaced-joined}
use Rattle.decimal.proofs.Said as D
use Rattle.decimal.proofs.Shapes.{letters}
use Rattle.forms.specs.Reading.{are_octets, are_integers}
use Rattle.forms.specs.Packing.{is_letter, all_letters}
use Rattle.forms.specs.Streams.{part}
use Rattle.forms.proofs.Alphabets.{every, below}

-- ---- numbers that are octets
octets-below : (o : Octets) → are_octets o ≡ true → AreOctets o
unfolding are_octets
octets-below [] e i = omega arith
octets-below (b ∷ o) e zero = ltb-true b 256 (both (ltb b 256) (are_octets o) e).0
octets-below (b ∷ o) e (suc i) = octets-below o (both (ltb b 256) (are_octets o) e).1 i

below-octets : (o : Octets) → AreOctets o → are_octets o ≡ true
unfolding are_octets
below-octets [] h = refl
below-octets (b ∷ o) h = rw (lt-ltb b 256 (h 0)) (below-octets o (λ i. h (suc i)))

take-octets : (n : ℕ) (o : Octets) → AreOctets o → AreOctets (take n o)
take-octets zero o h i = omega arith
take-octets (suc n) [] h i = omega arith
take-octets (suc n) (b ∷ o) h zero = h 0
take-octets (suc n) (b ∷ o) h (suc i) = take-octets n o (λ j. h (suc j)) i

drop-octets : (n : ℕ) (o : Octets) → AreOctets o → AreOctets (drop n o)
drop-octets zero o h = h
drop-octets (suc n) [] h = h
drop-octets (suc n) (b ∷ o) h = drop-octets n o (λ i. h (suc i))

-- a part of a slice is octets, as the slice is
pub part-octets : (s : Octets) (at to : ℕ) → AreOctets s → are_octets (part s at to) ≡ true
part-octets s at to h = below-octets (part s at to) (take-octets (to - at) (drop at s) (drop-octets at s h))

-- ---- an integer's text is not empty, and has a digit in front or behind the sign
size_some : (n : ℕ) → 0 < size n
unfolding size
size_some n = let b = (size_bounds n n (omega arith)).0 in omega arith

digits_some : (n : ℕ) → 0 < length (digits n)
unfolding digits
digits_some n = rw (figures-length 10 0x30 (size n) n) (size_some n)

pub decimal_some : (z : ℤ) → 0 < length (decimal z)
unfolding decimal
decimal_some (pos n) = digits_some n
decimal_some (negsuc n) = omega arith

digit_first : (k v : ℕ) → 0 < k → 0x30 ≤ get_or (figures 10 0x30 k v) 0 0
unfolding figures
digit_first zero v h = absurd (omega arith)
digit_first (suc k) v h = omega arith

module _ (k v : ℕ) where
  digits-left : (n : ℕ) → figures 10 0x30 k v ≡ digits n → 0 < k
  digits-left n e = let a = figures-length 10 0x30 k v in let b = ap length e in let l = digits_some n in omega arith

  signed-left : (z : ℤ) → 0x2D ∷ figures 10 0x30 k v ≡ decimal z → 0 < k
  unfolding decimal digits
  signed-left (pos n) e = absurd (let a = ap (λ (x : Octets). get_or x 0 0) e in let b = digit_first (size n) n (size_some n) in omega arith)
  signed-left (negsuc n) e = digits-left (suc n) (ap (drop 1) e)

  plain-left : (z : ℤ) → figures 10 0x30 k v ≡ decimal z → 0 < k
  unfolding decimal
  plain-left (pos n) e = digits-left n e
  plain-left (negsuc n) e = let a = figures-length 10 0x30 k v in let b = ap length e in omega arith

pub text_digits : (t : Text) (z : ℤ) → left t ≡ decimal z → 0 < t.count
unfolding left
text_digits t z e = told t.minus (λ m. signed-left t.count t.number z (rw m at e)) (λ m. plain-left t.count t.number z (rw m at e))

-- ---- it is made of letters
digit_letter : (d : ℕ) → d < 10 → is_letter numeric (0x30 + d) ≡ true
unfolding every numeric is_letter
digit_letter d h = below (λ d. is_letter numeric (0x30 + d)) 10 refl d h

each_letter : (x : Octets) → All (λ o. is_letter numeric o ≡ true) x → all_letters numeric x ≡ true
unfolding all_letters
each_letter [] h = refl
each_letter (o ∷ x) h = rw h.0 (each_letter x h.1)

-- ---- what octets say
module _ (w : ℕ) where
  module _ (x o : Octets) (s : InIntegers w x o) where
    pub says : (are_integers w o ≡ true) × (said_in w o ≡ x)
    unfolding are_integers
    says = let p = D.spelled_said w x o s in (rw p.0 (below-octets o (D.spelled_octets w x o s)), p.1)

    pub all_letters_lem : all_letters numeric x ≡ true
    all_letters_lem = rw s.string (each_letter _ (letters (λ o. is_letter numeric o ≡ true) digit_letter (unfold numeric is_letter in refl) (unfold numeric is_letter in refl) s.integers))

    pub some : 0 < length x
    unfolding list_text joined
    some = rw s.string (go s.integers s.some)
      where
        go : (zs : List ℤ) → 0 < length zs → 0 < length (joined (map decimal zs))
        go [] h = absurd (omega arith)
        go (z ∷ zs) h = let l = decimal_some z in simp length-append (omega arith)

  module _ (o : Octets) (e : are_integers w o ≡ true) where
    parts : (is_whole w o ≡ true) × (are_octets o ≡ true)
    unfolding are_integers
    parts = both (is_whole w o) (are_octets o) e

    pub spells : InIntegers w (said_in w o) o
    spells = D.said_spelled w o parts.0 (octets-below o parts.1)

    pub says_some : 0 < length (said_in w o)
    says_some = some (said_in w o) o spells

    pub whole : length o % w ≡ 0
    whole = rw (D.whole_length w o parts.0) (mul-mod_left (length o / w) w)

-- ---- one integer more: its text, and a space where there are others
after : (zs : List ℤ) → spaced (map decimal zs) ≡ pick (ltb 0 (length zs)) (0x20 ∷ list_text zs) (list_text zs)
unfolding spaced joined list_text
after [] = refl
after (z ∷ zs) = rw (lt-ltb 0 (suc (length zs)) (omega arith)) (spaced-joined (map decimal (z ∷ zs)) (omega arith))

module _ (w k : ℕ) (x : Octets) where
  pub listed_next : list_text (integers_of w (suc k) x) ≡ decimal (integer_of w (take w x)) ++ pick (ltb 0 k) (0x20 ∷ list_text (integers_of w k (drop w x))) (list_text (integers_of w k (drop w x)))
  unfolding integers_of list_text joined
  listed_next = ap (λ (y : Octets). decimal (integer_of w (take w x)) ++ y) (after (integers_of w k (drop w x)) ∙ rw (D.integers_count w k (drop w x)))

module _ (w : ℕ) (h : 0 < w) (x : Octets) (some : 0 < length x) (e : length x % w ≡ 0) where
  -- so many integers, and those behind the first
  counted : (k : ℕ) × (length x ≡ suc k * w)
  counted = go (length x / w) (div-add-mod' (length x) w)
    where
      go : (n : ℕ) → n * w + length x % w ≡ length x → (k : ℕ) × (length x ≡ suc k * w)
      go zero d = absurd (let z = zero-mul w in omega arith)
      go (suc k) d = (k, omega arith)

  pub record Next : Type 0 where
    pub there : w ≤ length x
    pub whole : length (drop w x) % w ≡ 0
    pub said : said_in w x ≡ decimal (integer_of w (take w x)) ++ pick (ltb 0 (length (drop w x))) (0x20 ∷ said_in w (drop w x)) (said_in w (drop w x))

  pub next : Next
  unfolding said_in
  next =
      let k = counted.0 in
      let n : length x ≡ k * w + w = counted.1 ∙ suc-mul k w in
      let d : length (drop w x) ≡ k * w = length-drop w x ∙ omega arith in
      let q : length x / w ≡ suc k = rw counted.1 (mul-div_cancel (suc k) h) in
      let r : length (drop w x) / w ≡ k = rw d (mul-div_cancel k h) in
      record { there = omega arith; whole = rw d (mul-mod_left k w); said = rw (q, r, d, ← others k) (listed_next w k x) }
    where
      others : (k : ℕ) → ltb 0 k ≡ ltb 0 (k * w)
      others zero = rw (zero-mul w)
      others (suc k) = lt-ltb 0 (suc k) (omega arith) ∙ sym (lt-ltb 0 (suc k * w) (let n = suc-mul k w in omega arith))
