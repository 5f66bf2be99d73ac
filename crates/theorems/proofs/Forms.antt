-- The forms of strings: each writes a string in one way, and octets in a form say one string; and of the forms that a string has, the writer chooses one that takes the fewest octets.
use Prim.Native.Nat.{ℕ, ◌*◌, ◌≤◌, ◌<◌}
use mathlib.Core.Path.{◌≡◌, refl, sym, ap, ◌∙◌}
use mathlib.Core.Bool.{true, false}
use mathlib.Core.List.{[], ◌∷◌}
use native.Mathlib.Omega.{arith}
use borrow.Author.Tests.{ltb-true, ltb-false}
use lib.Dec.{ltb}
use lib.ListN.{length}
use Rattle.format.specs.Octets.{Octets}
use Rattle.format.specs.Numbers.{longest}
use Rattle.format.specs.Characters.{IsText}
use Rattle.format.specs.Forms.{form_number, form_of, width, numeric, dates, Spelled}
use Rattle.format.specs.Strings.{Spelling, in_format}
use Rattle.format.specs.Allowed.{Said}
use Rattle.format.specs.declared.StringForm.{StringForm}
use Rattle.format.specs.declared.StringForm.TheVariants.{Utf8, Utf16, Numeric, Dates, Short, Int, Long}
use Rattle.fields.proofs.Utf8.{told, never}
use Rattle.fields.proofs.Characters.{text_exact, one_list}
use Rattle.decimal.specs.Words.{shape, word_count}
use Rattle.forms.specs.Packing.{all_letters, alphabet_for, integers_for, in_form}
use Rattle.forms.proofs.Forms as F
use Rattle.forms.proofs.Forms.{IsAlphabet, packed_spelled, spelled_letters, integers_spelled, spelled_integers}
use Rattle.forms.proofs.FieldSizes.{size_doubles, less_fits, octets_in, spelled_octets, field_size, field_size_lem}
use Rattle.write_names.specs.Choices.{field_in, shorter, form_for}
use Rattle.events.specs.declared.EventString.TheVariants.{Stretch}
use Rattle.events.specs.Words.{form_tag}
use Rattle.events.specs.FromWords.{told_by, string_from}
use Rattle.theorems.specs.Forms.{FormsExact, FormsNumbered, WritesFewest}
use Rattle.theorems.specs.Permitted.{HasForm}

-- ---- spelled in one way, and saying one string
pub forms_exact : FormsExact
forms_exact =
    record {
      same-characters = one_list;
      one_spelling = F.one_spelling;
      one_string = λ f x y o s t. sym (F.spelled_said f x o s) ∙ F.spelled_said f y o t;
      spelled_text = λ f x o s. (text_exact x).0 (F.spelled_text f x o s);
      finds = λ f x o. (λ s. ((text_exact x).0 (F.spelled_text f x o s), F.spelled_said f x o s), λ p. rw p.1 at (F.said_spelled f o (rw p.1 ((text_exact x).1 p.0))));
    }

-- ---- by number
told_form : (form : StringForm) (place size : ℕ) → string_from (form_tag form ∷ place ∷ size ∷ []) 0 ≡ Stretch form place size
unfolding string_from told_by form_of
told_form Utf8 place size = refl
told_form Utf16 place size = refl
told_form Numeric place size = refl
told_form Dates place size = refl
told_form Short place size = refl
told_form Int place size = refl
told_form Long place size = refl

pub forms_numbered : FormsNumbered
forms_numbered = record { utf8 = (refl, refl); utf16 = (refl, refl); numeric = (refl, refl); dates = (refl, refl); short = (refl, refl); int = (refl, refl); long = (refl, refl); told = told_form; kept = λ form place size. refl }

-- ---- of the forms that a string has
module _ (bit : ℕ) (x : Octets) where
  -- a form, but utf-16, that it has
  abbrev Has : StringForm → Type 0
  Has f = (f ≡ Utf16 → ⊥) × Spelled f x (in_form f x)

  -- a field in f is no longer than one in g, and where it is as long, f has no higher a number
  record Beats (f g : StringForm) : Type 0 where
    fewer : field_size x bit f ≤ field_size x bit g
    lower : field_size x bit f ≡ field_size x bit g → form_number f ≤ form_number g

  beats_itself : (f : StringForm) → Beats f f
  beats_itself f = record { fewer = omega arith; lower = λ e. omega arith }

  beats_then : {f g h : StringForm} → Beats f g → Beats g h → Beats f h
  beats_then a b = let p = a.fewer in let q = b.fewer in record { fewer = omega arith; lower = λ e. let m = a.lower (omega arith) in let n = b.lower (omega arith) in omega arith }

  -- of two forms that it has, the second only where it saves octets
  record Better (f g c : StringForm) : Type 0 where
    has : Has c
    first : Beats c f
    second : Beats c g

  own_size : (f : StringForm) → Has f → length (in_format bit f 0 (in_form f x)) ≡ field_size x bit f
  own_size f h = field_size_lem x bit f 0 (in_form f x) (spelled_octets x f (in_form f x) h.0 h.1)

  better : (f g : StringForm) → Has f → Has g → (field_size x bit f ≡ field_size x bit g → form_number f ≤ form_number g) → Better f g (shorter bit f g x)
  unfolding shorter field_in
  better f g h k tie =
      let a = own_size f h in
      let b = own_size g k in
      let m : ℕ = length (in_format bit g 0 (in_form g x)) in
      let n : ℕ = length (in_format bit f 0 (in_form f x)) in
      told (ltb m n)
      (λ e. let l = ltb-true m n e in rw e (record { has = k; first = record { fewer = omega arith; lower = λ q. absurd (omega arith) }; second = beats_itself g }))
      (λ e. let l = ltb-false m n e in rw e (record { has = h; first = beats_itself f; second = record { fewer = omega arith; lower = tie } }))

  -- ---- the alphabets: both take as many octets
  letters_by : (P : StringForm → Type 0) → (all_letters numeric x ≡ true → P Numeric) → (all_letters numeric x ≡ false → all_letters dates x ≡ true → P Dates)
      → (all_letters numeric x ≡ false → all_letters dates x ≡ false → P Utf8) → P (alphabet_for x)
  unfolding alphabet_for
  letters_by P a b c = told (all_letters numeric x) (λ n. rw n (a n)) (λ n. told (all_letters dates x) (λ d. rw (n, d) (b n d)) (λ d. rw (n, d) (c n d)))

  letters_beat : (f : StringForm) (y : Octets) → IsAlphabet f → Spelled f x y → Beats (alphabet_for x) f
  letters_beat Utf8 y a s = absurd a
  letters_beat Utf16 y a s = absurd a
  letters_beat Numeric y a s =
      let l = (spelled_letters Numeric x y tt s).0 in letters_by (λ f. Beats f Numeric) (λ n. beats_itself Numeric) (λ n d. never (sym n ∙ l)) (λ n d. never (sym n ∙ l))
  letters_beat Dates y a s =
      let l = (spelled_letters Dates x y tt s).0 in
      letters_by (λ f. Beats f Dates) (λ n. record { fewer = omega arith; lower = λ e. omega arith }) (λ n d. beats_itself Dates) (λ n d. never (sym d ∙ l))
  letters_beat Short y a s = absurd a
  letters_beat Int y a s = absurd a
  letters_beat Long y a s = absurd a

  -- ---- integers: the fewer octets each has, the fewer the field has
  integers_by : (P : StringForm → Type 0) → (shape 2 x ≡ true → P Short) → (shape 2 x ≡ false → shape 4 x ≡ true → P Int) → (shape 2 x ≡ false → shape 4 x ≡ false → shape 8 x ≡ true → P Long)
      → (shape 2 x ≡ false → shape 4 x ≡ false → shape 8 x ≡ false → P Utf8) → P (integers_for x)
  unfolding integers_for
  integers_by P a b c d =
      told (shape 2 x) (λ s. rw s (a s))
      (λ s. told (shape 4 x) (λ i. rw (s, i) (b s i)) (λ i. told (shape 8 x) (λ l. rw (s, i, l) (c s i l)) (λ l. rw (s, i, l) (d s i l))))

  short_int : Beats Short Int
  short_int =
      let e : 2 * (2 * word_count x) ≡ 4 * word_count x = omega arith in
      let g = rw e at (size_doubles bit (2 * word_count x)) in record { fewer = omega arith; lower = λ q. omega arith }

  int_long : Beats Int Long
  int_long =
      let e : 2 * (4 * word_count x) ≡ 8 * word_count x = omega arith in
      let g = rw e at (size_doubles bit (4 * word_count x)) in record { fewer = omega arith; lower = λ q. omega arith }

  integers_beat : (f : StringForm) (y : Octets) → 0 < width f → Spelled f x y → Beats (integers_for x) f
  integers_beat Utf8 y a s = absurd (omega arith)
  integers_beat Utf16 y a s = absurd (omega arith)
  integers_beat Numeric y a s = absurd (omega arith)
  integers_beat Dates y a s = absurd (omega arith)
  integers_beat Short y a s =
      let l = (spelled_integers Short x a y s).0 in
      integers_by (λ f. Beats f Short) (λ s. beats_itself Short) (λ s i. never (sym s ∙ l)) (λ s i j. never (sym s ∙ l)) (λ s i j. never (sym s ∙ l))
  integers_beat Int y a s =
      let l = (spelled_integers Int x a y s).0 in integers_by (λ f. Beats f Int) (λ s. short_int) (λ s i. beats_itself Int) (λ s i j. never (sym i ∙ l)) (λ s i j. never (sym i ∙ l))
  integers_beat Long y a s =
      let l = (spelled_integers Long x a y s).0 in
      integers_by (λ f. Beats f Long) (λ s. beats_then short_int int_long) (λ s i. int_long) (λ s i j. beats_itself Long) (λ s i j. never (sym j ∙ l))

  -- ---- the form that is chosen
  module _ (t : IsText x) where
    plain-has : Has Utf8
    plain-has = (λ e. let n = ap form_number e in omega arith, (t, refl))

    letters-has : Has (alphabet_for x)
    letters-has =
        letters_by Has (λ n. (λ e. let m = ap form_number e in omega arith, packed_spelled Numeric x tt n)) (λ n d. (λ e. let m = ap form_number e in omega arith, packed_spelled Dates x tt d)) (λ n d. plain-has)

    integers_has : Has (integers_for x)
    integers_has =
        integers_by Has (λ s. (λ e. let m = ap form_number e in omega arith, integers_spelled Short x (omega arith) s))
        (λ s i. (λ e. let m = ap form_number e in omega arith, integers_spelled Int x (omega arith) i))
        (λ s i l. (λ e. let m = ap form_number e in omega arith, integers_spelled Long x (omega arith) l)) (λ s i l. plain-has)

    abbrev letters : StringForm
    letters = shorter bit Utf8 (alphabet_for x) x

    by_letters : Better Utf8 (alphabet_for x) letters
    by_letters = better Utf8 (alphabet_for x) plain-has letters-has (λ e. omega arith)

    -- utf-8 and the alphabets have lower numbers than the integers
    letters_low : form_number letters ≤ 3
    unfolding shorter
    letters_low =
        told (ltb (length (field_in bit (alphabet_for x) 0 x)) (length (field_in bit Utf8 0 x)))
        (λ e. rw e (letters_by (λ f. form_number f ≤ 3) (λ n. omega arith) (λ n d. omega arith) (λ n d. omega arith))) (λ e. rw e (omega arith))

    chosen : Better letters (integers_for x) (form_for bit x)
    unfolding form_for
    chosen =
        better letters (integers_for x) by_letters.has integers_has
        (integers_by (λ f. field_size x bit letters ≡ field_size x bit f → form_number letters ≤ form_number f)
        (λ s e. let l = letters_low in omega arith) (λ s i e. let l = letters_low in omega arith) (λ s i l e. let l = letters_low in omega arith) (λ s i l. by_letters.first.lower))

    beats_utf8 : Beats (form_for bit x) Utf8
    beats_utf8 = beats_then chosen.first by_letters.first

    -- against any form that the string has
    best : (other : StringForm) (y : Octets) → (other ≡ Utf16 → ⊥) → Spelled other x y → Beats (form_for bit x) other
    best Utf8 y n s = beats_utf8
    best Utf16 y n s = absurd (n refl)
    best Numeric y n s = beats_then chosen.first (beats_then by_letters.second (letters_beat Numeric y tt s))
    best Dates y n s = beats_then chosen.first (beats_then by_letters.second (letters_beat Dates y tt s))
    best Short y n s = beats_then chosen.second (integers_beat Short y (omega arith) s)
    best Int y n s = beats_then chosen.second (integers_beat Int y (omega arith) s)
    best Long y n s = beats_then chosen.second (integers_beat Long y (omega arith) s)

    own_field : (lead : ℕ) → length (in_format bit (form_for bit x) lead (in_form (form_for bit x) x)) ≡ field_size x bit (form_for bit x)
    own_field lead = let h = chosen.has in field_size_lem x bit (form_for bit x) lead _ (spelled_octets x (form_for bit x) _ h.0 h.1)

    least : (other : StringForm) (y : Octets) (lead : ℕ) → (other ≡ Utf16 → ⊥) → Spelled other x y
        → (length (in_format bit (form_for bit x) lead (in_form (form_for bit x) x)) ≤ length (in_format bit other lead y))
        × (length (in_format bit (form_for bit x) lead (in_form (form_for bit x) x)) ≡ length (in_format bit other lead y) → form_number (form_for bit x) ≤ form_number other)
    least other y lead n s =
        let b = best other y n s in
        rw (own_field lead, field_size_lem x bit other lead y (spelled_octets x other y n s)) (b.fewer, b.lower)

    -- it has no more octets than a length can say, if it has none more in utf-8
    chosen_fits : length x ≤ longest → length (in_form (form_for bit x) x) ≤ longest
    chosen_fits l = let h = chosen.has in rw (spelled_octets x (form_for bit x) _ h.0 h.1) (few (form_for bit x) h.0 beats_utf8.fewer)
      where
        few : (f : StringForm) → (f ≡ Utf16 → ⊥) → field_size x bit f ≤ field_size x bit Utf8 → octets_in x f ≤ longest
        few Utf8 n g = l
        few Utf16 n g = absurd (n refl)
        few Numeric n g = less_fits bit _ (length x) l g
        few Dates n g = less_fits bit _ (length x) l g
        few Short n g = less_fits bit _ (length x) l g
        few Int n g = less_fits bit _ (length x) l g
        few Long n g = less_fits bit _ (length x) l g

pub writes_fewest : WritesFewest
writes_fewest bit x t =
    record {
      has_it = (chosen bit x t).has.1;
      not_utf16 = (chosen bit x t).has.0;
      fewest = λ form y lead n s. (least bit x t form y lead n s).0;
      lowest = λ form y lead n s. (least bit x t form y lead n s).1;
    }

-- ---- a string that can be spelled is not empty, and text
pub spelling-said : {form : StringForm} {x y : Octets} → Spelling form x y → Said x
spelling-said {form} {x} {y} sp = (F.spelled_some_string form x y sp.formed sp.some, (text_exact x).0 (F.spelled_text form x y sp.formed))

-- it has the form; and back, if it is not empty
abbrev pub has_form : {form : StringForm} {x y : Octets} → Spelling form x y → HasForm form x
has_form {y = y} sp = record { octets = y; spells = sp.formed; fits = sp.fits }

pub has-spelling : {form : StringForm} {x : Octets} → 0 < length x → (f : HasForm form x) → Spelling form x f.octets
has-spelling {form} {x} h f = record { some = F.spelled_some form x f.octets f.spells h; fits = f.fits; formed = f.spells }

-- one that can be spelled in utf-8 can be in the chosen form
pub chosen_spelling : (bit : ℕ) (x : Octets) → Spelling Utf8 x x → Spelling (form_for bit x) x (in_form (form_for bit x) x)
chosen_spelling bit x sp =
    let s = (chosen bit x sp.formed.0).has.1 in
    record { some = F.spelled_some (form_for bit x) x _ s sp.some; fits = chosen_fits bit x sp.formed.0 sp.fits; formed = s }
