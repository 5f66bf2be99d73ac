-- Texts and their integers: a text of a width's shape is spelled by its integers' octets and by no others; how long it is, and of which characters.
-- Assumes nothing.
use mathlib.Core.Path.{◌≡◌, refl, sym, ap, ◌∙◌}
use mathlib.Core.Bool.{true}
use mathlib.Core.List.{List, [], ◌∷◌, ◌++◌, map}
use mathlib.Core.Option.{Option, none, some}
use Prim.Native.Nat.{ℕ, zero, suc, ◌+◌, ◌*◌, ◌/◌, ◌%◌, ◌^◌, ◌≤◌, ◌<◌}
use native.Mathlib.Nat.{mul_comm, suc-mul, mul-le-mul_left, mod-lt, pow-le-pow_right}
use native.Mathlib.Omega.{arith}
use borrow.Author.Tests.{lt-ltb, ltb-true}
use lib.Dec.{lit<, ltb}
use lib.IntN.{ℤ, pos, negsuc}
use lib.ListN.{length, length-append}
use lib.Signed.{mag}
use Rattle.format.specs.Octets.{Octets}
use Rattle.format.specs.Characters.{All}
use Rattle.format.specs.Integers.{figures, half, Held, size, digits, decimal, spaced, joined, list_text, all_octets, InIntegers}
use Rattle.format.specs.Forms.{width}
use Rattle.format.specs.declared.StringForm.{StringForm}
use Rattle.format.specs.declared.StringForm.TheVariants.{Utf8, Utf16, Numeric, Dates, Short, Int, Long}
use Rattle.fields.proofs.Utf8.{never, both as both_true}
use Rattle.decimal.specs.Words.{word_count, parse_list, all_held, held_in, shape, octets_in, integers_in}
use Rattle.decimal.proofs.Figures.{figures-length}
use Rattle.decimal.proofs.Texts.{words_text, spaced-joined, parse_some, text_parse, parse_not_empty}
use Rattle.decimal.proofs.Tens.{size_some, size-most}
use Rattle.decimal.proofs.Said.{all_length}

-- ---- held, by a test

all_held_lem : (w : ℕ) (zs : List ℤ) → all_held w zs ≡ true → All (Held w) zs
unfolding all_held
all_held_lem w [] e = tt
all_held_lem w (z ∷ zs) e = let p = both_true (ltb (mag z) (half w)) (all_held w zs) e in (ltb-true _ _ p.0, all_held_lem w zs p.1)

held_tested : (w : ℕ) (zs : List ℤ) → All (Held w) zs → all_held w zs ≡ true
unfolding all_held
held_tested w [] h = refl
held_tested w (z ∷ zs) h = rw (lt-ltb (mag z) (half w) h.0) (held_tested w zs h.1)

-- wider octets hold as much
pub half_grows : (v w : ℕ) → v ≤ w → half v ≤ half w
unfolding half
half_grows v w h = let p = pow-le-pow_right {n = 256} (lit< tt) {i = v} {j = w} h in omega arith

-- ---- the shape of a text

pub shape_integers : (w : ℕ) (x : Octets) → shape w x ≡ true → (zs : List ℤ) × (parse_list x ≡ some zs) × All (Held w) zs
unfolding shape
shape_integers w x e = by (parse_list x) refl e
  where
    by : (r : Option (List ℤ)) → parse_list x ≡ r → held_in w r ≡ true → (zs : List ℤ) × (parse_list x ≡ some zs) × All (Held w) zs
    by none p q = never (unfold held_in in q)
    by (some zs) p q = (zs, p, all_held_lem w zs (unfold held_in in q))

pub integers_shape : (w : ℕ) (x : Octets) (zs : List ℤ) → parse_list x ≡ some zs → All (Held w) zs → (shape w x ≡ true) × (integers_in w x ≡ all_octets w zs)
unfolding shape held_in integers_in octets_in
integers_shape w x zs e h = rw e (held_tested w zs h, refl)

pub shape_spelled : (w : ℕ) (x : Octets) → shape w x ≡ true → InIntegers w x (integers_in w x)
shape_spelled w x e =
    let i = shape_integers w x e in
    record {
      integers = i.0;
      some = parse_not_empty x i.0 i.1;
      held = i.2;
      string = sym (text_parse x i.0 i.1);
      octets = (integers_shape w x i.0 i.1 i.2).1;
    }

pub spelled_shape : (w : ℕ) (x o : Octets) → InIntegers w x o → (shape w x ≡ true) × (o ≡ integers_in w x)
spelled_shape w x o s =
    let zs = s.integers in
    let i = integers_shape w x zs (ap parse_list s.string ∙ parse_some zs s.some) s.held in
    (i.0, s.octets ∙ sym i.1)

-- ---- how many octets and words

map-length : (zs : List ℤ) → length (map decimal zs) ≡ length zs
map-length [] = refl
map-length (z ∷ zs) = ap suc (map-length zs)

count_text : (zs : List ℤ) → 0 < length zs → word_count (list_text zs) ≡ length zs
unfolding word_count
count_text [] h = absurd (omega arith)
count_text (z ∷ zs) h = ap length (words_text z zs) ∙ map-length (z ∷ zs)

pub length_in : (w : ℕ) (x : Octets) → shape w x ≡ true → length (integers_in w x) ≡ w * word_count x
length_in w x e =
    let s = shape_spelled w x e in
    let zs = s.integers in
    ap length s.octets ∙ all_length w zs ∙ mul_comm (length zs) w ∙ ap (λ k. w * k) (sym (ap word_count s.string ∙ count_text zs s.some))

decimal_some : (z : ℤ) → 1 ≤ length (decimal z)
unfolding decimal digits
decimal_some (pos n) = let e = figures-length 10 0x30 (size n) n in let s = size_some n in omega arith
decimal_some (negsuc n) = omega arith

text_spaced : (zs : List ℤ) → 0 < length zs → length (spaced (map decimal zs)) ≡ suc (length (list_text zs))
unfolding list_text
text_spaced zs h = ap length (spaced-joined (map decimal zs) (rw (map-length zs) h))

-- a word and its space are two octets at least
spaced_least : (zs : List ℤ) → 2 * length zs ≤ length (spaced (map decimal zs))
unfolding spaced
spaced_least [] = omega arith
spaced_least (z ∷ zs) =
    let r = spaced_least zs in
    let d = decimal_some z in
    let n = length-append (decimal z) (spaced (map decimal zs)) in
    omega arith

pub few_words : (w : ℕ) (x : Octets) → shape w x ≡ true → 2 * word_count x ≤ length x + 1
few_words w x e =
    let s = shape_spelled w x e in
    let zs = s.integers in
    let n = ap word_count s.string ∙ count_text zs s.some in
    let m = ap length s.string in
    let b = spaced_least zs in
    let t = text_spaced zs s.some in
    omega arith

-- ---- how long a text is

decimal-most : (w k : ℕ) → half w < 10 ^ k → 1 ≤ k → (z : ℤ) → Held w z → length (decimal z) ≤ 1 + k
unfolding decimal digits
decimal-most w k l o (pos n) h = let e = figures-length 10 0x30 (size n) n in let s = size-most n k o (omega arith) in omega arith
decimal-most w k l o (negsuc n) h = let e = figures-length 10 0x30 (size (suc n)) (suc n) in let s = size-most (suc n) k o (omega arith) in omega arith

spaced-most : (w k : ℕ) → half w < 10 ^ k → 1 ≤ k → (zs : List ℤ) → All (Held w) zs → length (spaced (map decimal zs)) ≤ length zs * (k + 2)
unfolding spaced
spaced-most w k l o [] h = omega arith
spaced-most w k l o (z ∷ zs) h =
    let r = spaced-most w k l o zs h.1 in
    let d = decimal-most w k l o z h.0 in
    let n = length-append (decimal z) (spaced (map decimal zs)) in
    let e = suc-mul (length zs) (k + 2) in
    omega arith

-- where k digits are enough for w octets
module _ (w k : ℕ) (l : half w < 10 ^ k) (some : 1 ≤ k) (few : 2 * (k + 2) ≤ 7 * w) (x o : Octets) (s : InIntegers w x o) where
  text_few : 2 * length x ≤ 7 * length o
  text_few =
      let zs = s.integers in
      let m = ap length s.string in
      let n = ap length s.octets ∙ all_length w zs in
      let b = spaced-most w k l some zs s.held in
      let t = text_spaced zs s.some in
      let c = mul-le-mul_left (length zs) few in
      omega arith

-- 7 octets of text for 2 at most, as "-32768 " for 80 00
pub spelled_few : (form : StringForm) (x o : Octets) → 0 < width form → InIntegers (width form) x o → 2 * length x ≤ 7 * length o
unfolding half
spelled_few Utf8 x o h s = absurd (omega arith)
spelled_few Utf16 x o h s = absurd (omega arith)
spelled_few Numeric x o h s = absurd (omega arith)
spelled_few Dates x o h s = absurd (omega arith)
spelled_few Short x o h s = text_few 2 5 (omega arith) (omega arith) (omega arith) x o s
spelled_few Int x o h s = text_few 4 10 (omega arith) (omega arith) (omega arith) x o s
spelled_few Long x o h s = text_few 8 19 (omega arith) (omega arith) (omega arith) x o s

-- ---- of which characters: digits, "-" and space

module _ (P : ℕ → Type 0) (digit : (d : ℕ) → d < 10 → P (0x30 + d)) (minus : P 0x2D) (space : P 0x20) where
  in_digits : (m v : ℕ) → All P (figures 10 0x30 m v)
  unfolding figures
  in_digits zero v = tt
  in_digits (suc m) v = (digit (v / 10 ^ m % 10) (mod-lt (v / 10 ^ m) (lit< tt)), in_digits m v)

  in_decimal : (z : ℤ) → All P (decimal z)
  unfolding decimal digits
  in_decimal (pos n) = in_digits (size n) n
  in_decimal (negsuc n) = (minus, in_digits (size (suc n)) (suc n))

  in_both : (a b : Octets) → All P a → All P b → All P (a ++ b)
  in_both [] b h k = k
  in_both (o ∷ a) b h k = (h.0, in_both a b h.1 k)

  in_spaced : (zs : List ℤ) → All P (spaced (map decimal zs))
  unfolding spaced
  in_spaced [] = tt
  in_spaced (z ∷ zs) = (space, in_both (decimal z) (spaced (map decimal zs)) (in_decimal z) (in_spaced zs))

  pub letters : (zs : List ℤ) → All P (list_text zs)
  unfolding list_text joined
  letters [] = tt
  letters (z ∷ zs) = in_both (decimal z) (spaced (map decimal zs)) (in_decimal z) (in_spaced zs)
