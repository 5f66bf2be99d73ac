-- The form that a string is spelled in: an alphabet saves octets from the fourth on, or from the third where the length starts at bit 7; and integers save some where they have fewer than the alphabet.
-- Assumes nothing.
use mathlib.Core.Path.{◌≡◌, refl, sym, ap, ◌∙◌}
use mathlib.Core.Bool.{true, false}
use Rattle.std.proofs.Common.{Option, Some, None}
use mathlib.Core.List.{List, ◌∷◌}
use Prim.Native.Nat.{ℕ, suc, ◌+◌, ◌-◌, ◌*◌, ◌/◌, ◌^◌, ◌≤◌, ◌<◌}
use native.Mathlib.Omega.{arith}
use native.Mathlib.Nat.{mul-le-mul}
use borrow.Author.Tests.{le-ltb, lt-ltb, ne_eqb}
use lib.Dec.{ltb}
use lib.ListN.{length, get_or}
use Rattle.format.specs.Octets.{Octets}
use Rattle.format.specs.Numbers.{spell, lengths, longest}
use Rattle.format.specs.Forms.{form_number, width, numeric, dates}
use Rattle.format.specs.declared.StringForm.{StringForm}
use Rattle.format.specs.declared.StringForm.TheVariants.{Utf8, Numeric, Dates, Short, Int, Long}
use Rattle.fields.proofs.Laws.{case}
use Rattle.fields.proofs.Utf8.{told}
use Rattle.decimal.specs.Words.{shape, word_count}
use Rattle.decimal.specs.Machine.{least_in}
use Rattle.decimal.specs.declared.scanning.Integers.{Integers}
use Rattle.decimal.proofs.Texts.{words_some}
use Rattle.decimal.proofs.Shapes.{shape_spelled, few_words}
use Rattle.forms.specs.Streams.{part}
use Rattle.forms.specs.Packing.{is_letter, all_letters, alphabet_for, integers_for, in_form}
use Rattle.forms.proofs.Lists.{all_letters_lem}
use Rattle.forms.proofs.Forms.{by_integers, packed-length, integers_length, alphabet_by, found_by}
use Rattle.forms.proofs.Scanned.{width-most}
use Rattle.forms.proofs.FieldSizes.{size, Sized, one, two, five, none, sized, octets_in, field_size, field_size_lem}
use Rattle.forms.proofs.Streams.{part_cons}
use Rattle.tables.specs.Located.{octets_of}
use Rattle.tables.proofs.FormLaws.{form_zero}
use Rattle.events.specs.declared.EventString.{EventString}
use Rattle.events.specs.Records.{located_of}
use Rattle.write_names.specs.declared.Formed.{Formed}
use Rattle.write_names.specs.Choices.{field_in, shorter, form_for}
use Rattle.write_names.specs.Promises.{said_most, LayoutBit, at_bit_5, at_bit_7, plain_most, with_width, or_integers, FewIntegers, Fits, Counted, Chosen}
use Rattle.write_names.proofs.Stretches.{Stretched, says}

-- ---- how many octets a length has: at least one, two where the first does not hold it, and no fewer than those of a lower one
some_octets : {short more n k : ℕ} → n ≤ longest → Sized short more n k → 1 + more ≤ k
some_octets h (one a p) = omega arith
some_octets h (two a b p) = omega arith
some_octets h (five a b p) = omega arith
some_octets h (none a p) = absurd (omega arith)

first-octet : {short more n k : ℕ} → n ≤ short → Sized short more n k → k ≡ 1 + more
first-octet h (one a p) = p
first-octet h (two a b p) = absurd (omega arith)
first-octet h (five a b p) = absurd (omega arith)
first-octet h (none a p) = absurd (omega arith)

second_octet : {short more n k : ℕ} → short < n → n ≤ longest → Sized short more n k → 2 + more ≤ k
second_octet h l (one a p) = absurd (omega arith)
second_octet h l (two a b p) = omega arith
second_octet h l (five a b p) = omega arith
second_octet h l (none a p) = absurd (omega arith)

grows : {short more m n k l : ℕ} → m ≤ n → n ≤ longest → Sized short more m k → Sized short more n l → k ≤ l
grows h b (one a p) s = omega (arith, some_octets b s)
grows h b (two a c p) s = omega (arith, second_octet (omega arith) b s)
grows h b (five a c p) (one d q) = omega arith
grows h b (five a c p) (two d e q) = omega arith
grows h b (five a c p) (five d e q) = omega arith
grows h b (five a c p) (none d q) = omega arith
grows h b (none a p) s = omega arith

module _ (bit : ℕ) where
  length_grows : (m n : ℕ) → m ≤ n → n ≤ longest → length (spell (lengths bit) 0 m) ≤ length (spell (lengths bit) 0 n)
  length_grows m n h b = grows h b (sized bit m) (sized bit n)

  -- a length in one octet, and at most one octet less behind another format
  saves_none : (n m : ℕ) → n ≤ 2 ^ (8 - bit) → n ≤ suc m → m ≤ longest → size bit n ≤ suc (size bit m)
  saves_none n m h l b = omega (arith, first-octet h (sized bit n), some_octets b (sized bit m))

-- ---- the bits of a layout
pub bit_range : {bit : ℕ} → LayoutBit bit → (5 ≤ bit) × (bit ≤ 7)
bit_range at_bit_5 = (omega arith, omega arith)
bit_range at_bit_7 = (omega arith, omega arith)

pub unit_seven : {bit : ℕ} → LayoutBit bit → bit ≡ 7 → (4 ≡ 2 ^ (9 - bit)) × (1 ≤ 4) × (4 ≤ 16)
unit_seven at_bit_5 e = absurd (omega arith)
unit_seven at_bit_7 e = (refl, omega arith, omega arith)

pub unit-five : {bit : ℕ} → LayoutBit bit → (bit ≡ 7 → ⊥) → (16 ≡ 2 ^ (9 - bit)) × (1 ≤ 16) × (16 ≤ 16)
unit-five at_bit_5 e = (refl, omega arith, omega arith)
unit-five at_bit_7 e = absurd (e refl)

few_plain : {bit : ℕ} → LayoutBit bit → plain_most bit ≤ 3
few_plain at_bit_5 = omega arith
few_plain at_bit_7 = omega arith

-- so a string in an alphabet takes less octets than in utf-8 exactly if it has more
packed_less : {bit : ℕ} (b : LayoutBit bit) (n : ℕ) → n ≤ longest → plain_most bit < n → suc (size bit ((n + 1) / 2)) < size bit n
packed_less at_bit_5 n h l = omega (arith, length_grows 5 ((n + 1) / 2) n (omega arith) h)
packed_less at_bit_7 n h l =
    case n 4 (λ t. omega (arith, first-octet {n = (n + 1) / 2} (omega arith) (sized 7 ((n + 1) / 2)), second_octet (omega arith) h (sized 7 n)))
    (λ t. omega (arith, length_grows 7 ((n + 1) / 2) n (omega arith) h))

none_less : {bit : ℕ} (b : LayoutBit bit) (n m : ℕ) → n ≤ plain_most bit → n ≤ suc m → m ≤ longest → size bit n ≤ suc (size bit m)
none_less at_bit_5 n m h l k = saves_none 5 n m (omega arith) l k
none_less at_bit_7 n m h l k = saves_none 7 n m (omega arith) l k

-- ---- the alphabet and the integers for a string
module _ (x : Octets) where
  first-alphabet : all_letters numeric x ≡ true → alphabet_for x ≡ Numeric
  unfolding alphabet_for
  first-alphabet e = rw e

  no_integers : (alphabet_for x ≡ Numeric → ⊥) → integers_for x ≡ Utf8
  no_integers n = found_by x (λ f g. f ≡ Utf8) refl (λ f h s. absurd (n (first-alphabet (all_letters_lem (width f) x _ (shape_spelled (width f) x s)))))

  pub few_integers : FewIntegers (length x) (least_in x)
  few_integers = found_by x (λ f g. FewIntegers (length x) g) tt (λ f h s. let k = few_words (width f) x s in (omega arith, width-most f))

  -- how many octets they are
  integer-octets : (f : StringForm) → 0 < width f → shape (width f) x ≡ true
      → (2 ≤ width f * word_count x) × (width f * word_count x ≤ 4 * length x + 4) × (word_count x * width f ≡ width f * word_count x)
  unfolding word_count
  integer-octets f h s =
      let few = few_words (width f) x s in
      let some = words_some x in
      by_integers (λ f. (2 ≤ width f * word_count x) × (width f * word_count x ≤ 4 * length x + 4) × (word_count x * width f ≡ width f * word_count x))
      (omega arith, omega arith, omega arith) (omega arith, omega arith, omega arith) (omega arith, omega arith, omega arith) f h

width_form : (f : StringForm) → 0 < width f → with_width (width f) ≡ f
unfolding with_width
width_form = by_integers (λ f. with_width (width f) ≡ f) refl refl refl

-- ---- the form for a string
module _ (bit : ℕ) (x : Octets) where
  takes : (f g : StringForm) → length (field_in bit g 0 x) < length (field_in bit f 0 x) → shorter bit f g x ≡ g
  unfolding shorter
  takes f g h = rw (lt-ltb (length (field_in bit g 0 x)) (length (field_in bit f 0 x)) h)

  keeps : (f g : StringForm) → length (field_in bit f 0 x) ≤ length (field_in bit g 0 x) → shorter bit f g x ≡ f
  unfolding shorter
  keeps f g h = rw (le-ltb (length (field_in bit g 0 x)) (length (field_in bit f 0 x)) h)

  either : (P : StringForm → Type 0) (f g : StringForm) → P f → P g → P (shorter bit f g x)
  unfolding shorter
  either P f g p q = told (ltb (length (field_in bit g 0 x)) (length (field_in bit f 0 x))) (λ t. rw t q) (λ t. rw t p)

  in_size : (f : StringForm) → length (in_form f x) ≡ octets_in x f → length (field_in bit f 0 x) ≡ field_size x bit f
  unfolding field_in
  in_size f e = field_size_lem x bit f 0 (in_form f x) e

  utf8-size : length (field_in bit Utf8 0 x) ≡ size bit (length x)
  utf8-size = in_size Utf8 refl

  numeric-size : length (field_in bit Numeric 0 x) ≡ suc (size bit ((length x + 1) / 2))
  numeric-size = in_size Numeric (packed-length numeric x)

  dates-size : length (field_in bit Dates 0 x) ≡ suc (size bit ((length x + 1) / 2))
  dates-size = in_size Dates (packed-length dates x)

  integers_size : (f : StringForm) → 0 < width f → shape (width f) x ≡ true → length (field_in bit f 0 x) ≡ suc (size bit (width f * word_count x))
  integers_size f h =
      by_integers (λ f. shape (width f) x ≡ true → length (field_in bit f 0 x) ≡ suc (size bit (width f * word_count x)))
      (λ s. in_size Short (integers_length Short x (omega arith) s))
      (λ s. in_size Int (integers_length Int x (omega arith) s))
      (λ s. in_size Long (integers_length Long x (omega arith) s))
      f h

  -- what is not utf-8 is an alphabet that has all characters, or integers whose text the string is
  pub chosen_fits : (f : StringForm) → f ≡ form_for bit x → (form_number f ≡ 0 → ⊥) → Fits f x
  unfolding form_for
  chosen_fits f e n =
      let P : StringForm → Type 0 = λ g. (form_number g ≡ 0 → ⊥) → Fits g x in
      rw e (either P _ _ (either P _ _ (λ u. absurd (u refl)) (alphabet_by x P (λ u. absurd (u refl)) (λ l u. l) (λ l u. l)))
      (found_by x (λ g k. P g) (λ u. absurd (u refl)) (λ g h s u. by_integers (λ g. shape (width g) x ≡ true → Fits g x) (λ s. s) (λ s. s) (λ s. s) g h s)) (rw e at n))

  module _ (b : LayoutBit bit) (few : length x ≤ said_most) where
    short_form : length x ≤ plain_most bit → Utf8 ≡ form_for bit x
    unfolding form_for
    short_form h =
        let packed = none_less b (length x) ((length x + 1) / 2) h (omega (arith, few_plain b)) (omega arith) in
        let first : shorter bit Utf8 (alphabet_for x) x ≡ Utf8 =
        alphabet_by x (λ f. shorter bit Utf8 f x ≡ Utf8) (keeps Utf8 Utf8 (omega arith)) (λ l. keeps Utf8 Numeric (omega (arith, utf8-size, numeric-size)))
        (λ l. keeps Utf8 Dates (omega (arith, utf8-size, dates-size))) in
        let second : shorter bit Utf8 (integers_for x) x ≡ Utf8 =
        found_by x (λ f k. shorter bit Utf8 f x ≡ Utf8) (keeps Utf8 Utf8 (omega arith))
        (λ f i s.
        let k = integer-octets x f i s in
        let o = none_less b (length x) (width f * word_count x) h (omega (arith, few_plain b)) (omega arith) in
        keeps Utf8 f (omega (arith, utf8-size, integers_size f i s))) in
        rw (first, second)

    module _ (h : plain_most bit < length x) where
      alphabet-first : shorter bit Utf8 (alphabet_for x) x ≡ alphabet_for x
      alphabet-first =
          let packed = packed_less b (length x) (omega arith) h in
          alphabet_by x (λ f. shorter bit Utf8 f x ≡ f) (keeps Utf8 Utf8 (omega arith)) (λ l. takes Utf8 Numeric (omega (arith, utf8-size, numeric-size)))
          (λ l. takes Utf8 Dates (omega (arith, utf8-size, dates-size)))

      utf8_last : shorter bit (alphabet_for x) Utf8 x ≡ alphabet_for x
      utf8_last =
          let packed = packed_less b (length x) (omega arith) h in
          alphabet_by x (λ f. shorter bit f Utf8 x ≡ f) (keeps Utf8 Utf8 (omega arith)) (λ l. keeps Numeric Utf8 (omega (arith, utf8-size, numeric-size)))
          (λ l. keeps Dates Utf8 (omega (arith, utf8-size, dates-size)))

      other_form : (alphabet_for x ≡ Numeric → ⊥) → alphabet_for x ≡ form_for bit x
      unfolding form_for
      other_form n = rw (alphabet-first, no_integers x n, utf8_last)

      -- the integers that are found, or the first alphabet
      module _ (e : alphabet_for x ≡ Numeric) where
        numeric_form : form_for bit x ≡ shorter bit Numeric (integers_for x) x
        unfolding form_for
        numeric_form = rw (alphabet-first, e)

        packed-counted : Counted x (record { form = Numeric; size = (length x + 1) / 2 })
        packed-counted = record { size = sym (packed-length numeric x); some = omega arith; few = omega arith }

        less_counted : (f : StringForm) → 0 < width f → shape (width f) x ≡ true → word_count x * width f < (length x + 1) / 2
            → Counted x (record { form = with_width (width f); size = word_count x * width f })
        less_counted f i s l =
            let k = integer-octets x f i s in
            rw (width_form f i) (record { size = sym (integers_length f x i s ∙ omega arith); some = omega arith; few = omega arith })

        or_integers_lem : (shorter bit Numeric (integers_for x) x ≡ (or_integers (length x) (least_in x)).form) × Counted x (or_integers (length x) (least_in x))
        unfolding or_integers
        or_integers_lem =
            found_by x (λ f k. (shorter bit Numeric f x ≡ (or_integers (length x) k).form) × Counted x (or_integers (length x) k))
            (rw e at utf8_last, packed-counted)
            (λ f i s.
            let k = integer-octets x f i s in
            case (word_count x * width f) ((length x + 1) / 2)
            (λ l. let o = length_grows bit (width f * word_count x) ((length x + 1) / 2) (omega arith) (omega arith) in
            rw (lt-ltb (word_count x * width f) ((length x + 1) / 2) l) (takes Numeric f (omega (arith, numeric-size, integers_size f i s)) ∙ sym (width_form f i), less_counted f i s l))
            (λ l. let o = length_grows bit ((length x + 1) / 2) (width f * word_count x) (omega arith) (omega arith) in
            rw (le-ltb (word_count x * width f) ((length x + 1) / 2) l) (keeps Numeric f (omega (arith, numeric-size, integers_size f i s)), packed-counted)))

-- ---- a string whose first octet is a letter of no alphabet
no_alphabet : (o : ℕ) (more : Octets) → is_letter numeric o ≡ false → is_letter dates o ≡ false → alphabet_for (o ∷ more) ≡ Utf8
unfolding alphabet_for all_letters
no_alphabet o more n d = rw (n, d)

no_form : (bit : ℕ) (x : Octets) → alphabet_for x ≡ Utf8 → Utf8 ≡ form_for bit x
unfolding form_for
no_form bit x e =
    let stays : shorter bit Utf8 Utf8 x ≡ Utf8 = keeps bit x Utf8 Utf8 (omega arith) in
    rw (e, no_integers x (λ n. let z = ap form_number (sym e ∙ n) in omega arith), stays, stays)

pub begins_plain : (bit : ℕ) {text : List ℕ} {x : EventString} {g : StringForm} {p m : ℕ} → Stretched text x g p m → form_number g ≡ 0 → (is_letter numeric (get_or text p 0) ≡ false) × (is_letter dates (get_or text p 0) ≡ false)
    → Utf8 ≡ form_for bit (octets_of text (located_of x))
begins_plain bit {text} {x} {g} {p} {m} s z l =
    let some = s.some in
    no_form bit _ (rw (says s, form_zero g z, part_cons text p (p + m) (omega arith) s.lies) (no_alphabet (get_or text p 0) (part text (p + 1) (p + m)) l.0 l.1))

-- ---- what the code chooses
module _ {bit : ℕ} (b : LayoutBit bit) (x : Octets) (some : 1 ≤ length x) (few : length x ≤ said_most) (n : ℕ) (size : n ≡ length x) where
  pub choose_short : n ≤ plain_most bit → Chosen bit x (record { form = Utf8; size = n })
  choose_short h = (short_form bit x b few (omega arith), record { size = size; some = omega arith; few = omega arith })

  module _ (above : plain_most bit < n) (letters : StringForm) (is : letters ≡ alphabet_for x) where
    choose_other : (form_number letters ≡ 2 → ⊥) → letters ≡ form_for bit x
    choose_other u = is ∙ other_form bit x b few (omega arith) (λ e. u (ap form_number (is ∙ e)))

    pub choose_utf8 : form_number letters ≡ 0 → Chosen bit x (record { form = letters; size = n })
    choose_utf8 z =
        (choose_other (λ e. omega arith), rw (form_zero letters z) (record { size = size; some = omega arith; few = omega arith }))

    pub choose_integers : form_number letters ≡ 2 → {r : Formed} → r ≡ or_integers n (least_in x) → Chosen bit x r
    choose_integers z i =
        let e : alphabet_for x ≡ Numeric =
        alphabet_by x (λ f. form_number f ≡ 2 → f ≡ Numeric) (λ t. absurd (omega arith)) (λ l t. refl) (λ l t. absurd (omega arith)) (sym (ap form_number is) ∙ z) in
        let o = or_integers_lem bit x b few (omega arith) e in
        rw (i, size) (sym (numeric_form bit x b few (omega arith) e ∙ o.0), o.1)

    pub choose_dates : (form_number letters ≡ 0 → ⊥) → (form_number letters ≡ 2 → ⊥) → Chosen bit x (record { form = letters; size = (n + 1) / 2 })
    choose_dates z u =
        let e : length (in_form letters x) ≡ (length x + 1) / 2 =
        rw is (alphabet_by x (λ f. (form_number f ≡ 0 → ⊥) → length (in_form f x) ≡ (length x + 1) / 2) (λ t. absurd (t refl)) (λ l t. packed-length numeric x) (λ l t. packed-length dates x) (rw is at z)) in
        (choose_other u, record { size = omega arith; some = omega arith; few = omega arith })

-- ---- the integers that were found, or the alphabet
module _ (n : ℕ) {x : Integers} {found : Option Integers} (e : found ≡ Some x) where
  pub few_octets : n ≤ said_most → FewIntegers n found → x.count * x.width ≤ said_most * 8
  few_octets h f = let g : FewIntegers n (Some x) = rw e at f in omega (arith, mul-le-mul {n₁ = x.count} {m₁ = x.width} {n₂ = said_most} {m₂ = 8} (omega arith) (omega arith))

  pub less_integers : {f : StringForm} → x.count * x.width < (n + 1) / 2 → f ≡ with_width x.width → record { form = f; size = x.count * x.width } ≡ or_integers n found
  unfolding or_integers
  less_integers l i = rw (e, lt-ltb (x.count * x.width) ((n + 1) / 2) l, i)

  pub more_integers : (n + 1) / 2 ≤ x.count * x.width → record { form = Numeric; size = (n + 1) / 2 } ≡ or_integers n found
  unfolding or_integers
  more_integers l = rw (e, le-ltb (x.count * x.width) ((n + 1) / 2) l)

pub none_found : (n : ℕ) {found : Option Integers} → found ≡ None → record { form = Numeric; size = (n + 1) / 2 } ≡ or_integers n found
unfolding or_integers
none_found n e = rw e

module _ (w : ℕ) where
  pub width_two : w ≡ 2 → Short ≡ with_width w
  unfolding with_width
  width_two e = rw e

  pub width_four : w ≡ 4 → Int ≡ with_width w
  unfolding with_width
  width_four e = rw e

  pub width_other : (w ≡ 2 → ⊥) → (w ≡ 4 → ⊥) → Long ≡ with_width w
  unfolding with_width
  width_other a c = rw (ne_eqb w 2 a, ne_eqb w 4 c)
