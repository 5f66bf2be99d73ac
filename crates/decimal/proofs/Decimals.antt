-- An integer's decimal text and the integer of a word: each gives the other back.
-- Assumes nothing.
use mathlib.Core.Path.{◌≡◌, refl, sym, ap, ◌∙◌}
use mathlib.Core.Bool.{true, ◌&&◌}
use mathlib.Core.Option.{some}
use mathlib.Core.List.{List, [], ◌∷◌}
use Prim.Native.Nat.{ℕ, zero, suc, ◌+◌, ◌-◌, ◌*◌, ◌/◌, ◌^◌, ◌≤◌, ◌<◌}
use native.Mathlib.Nat.{pow-suc, div-lt_iff_lt-mul, le-div_iff_mul-le, mod-eq_of_lt}
use native.Mathlib.Omega.{arith}
use borrow.Author.Tests.{lt-ltb, le-ltb, le-leb, ne_eqb, leb-true, eqb-true}
use lib.Dec.{lit<, leb, eqb}
use lib.IntN.{ℤ, pos, negsuc, neg_ℤ}
use lib.ListN.{length}
use Rattle.format.specs.Integers.{figures, size_in, size, digits, decimal}
use Rattle.fields.proofs.Laws.{case}
use Rattle.fields.proofs.Utf8.{told, never, both as both_true}
use Rattle.decimal.specs.Reading.{number}
use Rattle.decimal.specs.Words.{is_digit, are_digits, is_positive, is_empty, is_word, integer, parse}
use Rattle.decimal.proofs.Figures.{Figures, power_some, figures_are, number-figures, figures-number, number_grows}

ten : 0 < 10
ten = lit< tt

-- ---- how many digits

in_one : (f n : ℕ) → n < 10 → size_in f n ≡ 1
unfolding size_in
in_one zero n l = refl
in_one (suc f) n l = rw (size_in, lt-ltb n 10 l)

in_more : (f n : ℕ) → 10 ≤ n → size_in (suc f) n ≡ suc (size_in f (n / 10))
unfolding size_in
in_more f n l = rw (size_in, le-ltb n 10 l)

size_fuel : (f g n : ℕ) → n ≤ f → n ≤ g → size_in f n ≡ size_in g n
size_fuel zero g n h k = in_one zero n (omega arith) ∙ sym (in_one g n (omega arith))
size_fuel (suc f) zero n h k = in_one (suc f) n (omega arith) ∙ sym (in_one zero n (omega arith))
size_fuel (suc f) (suc g) n h k =
    case n 10 (λ l. in_one (suc f) n l ∙ sym (in_one (suc g) n l))
    (λ l. in_more f n l ∙ ap suc (size_fuel f g (n / 10) (omega arith) (omega arith)) ∙ sym (in_more g n l))

pub size_one : (n : ℕ) → n < 10 → size n ≡ 1
unfolding size
size_one n l = in_one n n l

size-more : (n : ℕ) → 10 ≤ n → size n ≡ suc (size (n / 10))
unfolding size
size-more zero l = absurd (omega arith)
size-more (suc n) l = in_more n (suc n) l ∙ ap suc (size_fuel n (suc n / 10) (suc n / 10) (omega arith) (omega arith))

size-behind : (x d : ℕ) → 0 < x → d < 10 → size (x * 10 + d) ≡ suc (size x)
size-behind x d h l =
    let e : (x * 10 + d) / 10 ≡ x = omega arith in
    size-more (x * 10 + d) (omega arith) ∙ ap (λ k. suc (size k)) e

size_number : (x : ℕ) (ds : List ℕ) → 0 < x → Figures 10 48 ds → size (number 10 48 x ds) ≡ size x + length ds
unfolding number Figures
size_number x [] h f = omega arith
size_number x (d ∷ ds) h f =
    let l = f.0 in let k = f.1 in
    let e = size_number (x * 10 + (d - 48)) ds (omega arith) f.2 in
    let s = size-behind x (d - 48) h (omega arith) in
    omega arith

-- n has so many digits: it is below the power of ten, and not below the one before
pub size_bounds : (f n : ℕ) → n ≤ f → (1 ≤ size_in f n) × (n < 10 ^ size_in f n) × (0 < n → 10 ^ (size_in f n - 1) ≤ n)
size_bounds zero n h = rw (in_one zero n (omega arith)) (omega arith, omega arith, λ k. absurd (omega arith))
size_bounds (suc f) n h =
    case n 10
    (λ l. rw (in_one (suc f) n l) (omega arith, omega arith, λ k. omega arith))
    (λ l.
    let r = size_bounds f (n / 10) (omega arith) in
    let k : ℕ = size_in f (n / 10) in
    let p : 10 ^ suc k ≡ 10 ^ k * 10 = pow-suc 10 k in
    let q : 10 ^ suc (k - 1) ≡ 10 ^ (k - 1) * 10 = pow-suc 10 (k - 1) in
    let e : suc (k - 1) ≡ k = (let z = r.0 in omega arith) in
    let q' : 10 ^ k ≡ 10 ^ (k - 1) * 10 = rw e at q in
    let u = r.1 in
    let v = r.2 (omega arith) in
    let e' : suc k - 1 ≡ k = omega arith in
    rw (in_more f n l) (omega arith, rw p (omega arith), λ z. rw (e', q') (omega arith)))

-- ---- digits

pub digits_are : (n : ℕ) → Figures 10 48 (digits n)
unfolding digits
digits_are n = figures_are 10 48 ten (size n) n

number_digits : (n : ℕ) → number 10 48 0 (digits n) ≡ n
unfolding digits size
number_digits n = number-figures 10 48 ten (size n) n (size_bounds n n (omega arith)).1

are_digits_lem : (ds : List ℕ) → are_digits ds ≡ true → Figures 10 48 ds
unfolding are_digits is_digit Figures
are_digits_lem [] e = tt
are_digits_lem (d ∷ ds) e =
    let p = both_true (leb 48 d && leb d 57) (are_digits ds) e in
    let q = both_true (leb 48 d) (leb d 57) p.0 in
    let l = leb-true 48 d q.0 in
    let h = leb-true d 57 q.1 in
    (l, omega arith, are_digits_lem ds p.1)

digits_tested : (ds : List ℕ) → Figures 10 48 ds → are_digits ds ≡ true
unfolding are_digits is_digit Figures
digits_tested [] f = refl
digits_tested (d ∷ ds) f =
    let h = f.1 in
    let k : d ≤ 57 = omega arith in
    rw (le-leb 48 d f.0, le-leb d 57 k) (digits_tested ds f.2)

-- what a positive number's word starts with
pub positive : (b : ℕ) (bs : List ℕ) → is_positive (b ∷ bs) ≡ true → (49 ≤ b) × (b ≤ 57) × Figures 10 48 bs
unfolding is_positive
positive b bs e =
    let p = both_true (leb 49 b && leb b 57) (are_digits bs) e in
    let q = both_true (leb 49 b) (leb b 57) p.0 in
    (leb-true 49 b q.0, leb-true b 57 q.1, are_digits_lem bs p.1)

lead : (n k : ℕ) → 0 < n → (1 ≤ k) × (n < 10 ^ k) × (0 < n → 10 ^ (k - 1) ≤ n) → is_positive (figures 10 48 k n) ≡ true
unfolding figures is_positive
lead n zero h b = absurd (let z = b.0 in omega arith)
lead n (suc m) h b =
    let e : suc m - 1 ≡ m = omega arith in
    let p = power_some 10 48 ten m in
    let lo : 10 ^ m ≤ n = rw e at (b.2 h) in
    let hi : n < 10 * 10 ^ m = (let u = b.1 in let s = pow-suc 10 m in omega arith) in
    let top : n / 10 ^ m < 10 = (div-lt_iff_lt-mul p).1 hi in
    let one : 1 ≤ n / 10 ^ m = (le-div_iff_mul-le p).1 (omega arith) in
    let d : ℕ = n / 10 ^ m in
    let l : 49 ≤ 48 + d = omega arith in
    let k : 48 + d ≤ 57 = omega arith in
    rw (mod-eq_of_lt top, le-leb 49 (48 + d) l, le-leb (48 + d) 57 k) (digits_tested _ (figures_are 10 48 ten m n))

digits_positive : (n : ℕ) → 0 < n → is_positive (digits n) ≡ true
unfolding digits size
digits_positive n h = lead n (size_in n n) h (size_bounds n n (omega arith))

digits_number : (x : List ℕ) → is_positive x ≡ true → (digits (number 10 48 0 x) ≡ x) × (0 < number 10 48 0 x)
unfolding digits number Figures
digits_number [] e = never (unfold is_positive in e)
digits_number (b ∷ bs) e =
    let p = positive b bs e in
    let lo = p.0 in let hi = p.1 in
    let x : ℕ = 0 * 10 + (b - 48) in
    let s : size (number 10 48 x bs) ≡ suc (length bs) =
    (let u = size_number x bs (omega arith) p.2 in let v = size_one x (omega arith) in omega arith) in
    let g = number_grows 10 48 ten x bs in
    (rw s (figures-number 10 48 ten 0 (b ∷ bs) (omega arith, omega arith, p.2)), omega arith)

-- ---- words

positive_word : (x : List ℕ) → is_positive x ≡ true → (is_word x ≡ true) × (integer x ≡ pos (number 10 48 0 x))
unfolding is_word integer
positive_word [] e = never (unfold is_positive in e)
positive_word (b ∷ bs) e =
    let p = positive b bs e in
    let lo = p.0 in
    let m = ne_eqb b 45 (λ z. omega arith) in
    (rw (m, ne_eqb b 48 (λ z. omega arith)) e, rw m)

parsed : (x : List ℕ) (z : ℤ) → is_word x ≡ true → integer x ≡ z → parse x ≡ some z
unfolding parse
parsed x z e f = rw (e, f)

pub parse-decimal : (z : ℤ) → parse (decimal z) ≡ some z
unfolding decimal
parse-decimal (pos zero) = unfold parse is_word integer is_empty digits size size_in figures number in refl
parse-decimal (pos (suc n)) =
    let w = positive_word (digits (suc n)) (digits_positive (suc n) (omega arith)) in
    parsed _ _ w.0 (w.1 ∙ ap pos (number_digits (suc n)))
parse-decimal (negsuc n) =
    parsed _ _ (unfold is_word in digits_positive (suc n) (omega arith)) (unfold integer in ap (λ k. neg_ℤ (pos k)) (number_digits (suc n)))

negative : (n : ℕ) (x : List ℕ) → 0 < n → digits n ≡ x → decimal (neg_ℤ (pos n)) ≡ 45 ∷ x
unfolding decimal
negative zero x h e = absurd (omega arith)
negative (suc n) x h e = ap (λ y. 45 ∷ y) e

zero_word : (b : ℕ) (bs : List ℕ) → b ≡ 48 → is_empty bs ≡ true → decimal (pos (number 10 48 0 (b ∷ bs))) ≡ b ∷ bs
unfolding is_empty decimal digits size size_in figures number
zero_word b [] q e = rw q
zero_word b (c ∷ cs) q e = never e

decimal_word : (x : List ℕ) → is_word x ≡ true → decimal (integer x) ≡ x
unfolding is_word integer
decimal_word [] e = never e
decimal_word (b ∷ bs) e =
    told (eqb b 45)
    (λ t. let p = digits_number bs (rw t at e) in rw t (negative _ _ p.1 p.0 ∙ ap (λ k. k ∷ bs) (sym (eqb-true b 45 t))))
    (λ t. rw t (told (eqb b 48)
    (λ u. zero_word b bs (eqb-true b 48 u) (rw (t, u) at e))
    (λ u. unfold decimal in (digits_number (b ∷ bs) (rw (t, u) at e)).0)))

pub decimal-parse : (x : List ℕ) (z : ℤ) → parse x ≡ some z → decimal z ≡ x
unfolding parse
decimal-parse x z e =
    told (is_word x)
    (λ t. let f : integer x ≡ z = (let g = rw t at e in cc) in rw (← f) (decimal_word x t))
    (λ t. let g = rw t at e in absurd (let k : ◌≡◌ {A = ℕ} 0 1 = cc in omega arith))
