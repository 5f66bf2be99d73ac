-- A law for each way out of the functions that spell a string in a form: the octets that were put are its field.
-- Assumes nothing.
use mathlib.Core.Path.{◌≡◌, refl, sym, ap, ◌∙◌}
use mathlib.Core.Bool.{true}
use mathlib.Core.List.{List, ◌∷◌}
use Prim.Native.Nat.{ℕ, ◌+◌, ◌-◌, ◌*◌, ◌^◌, ◌≤◌, ◌<◌}
use native.Mathlib.Omega.{arith}
use native.Mathlib.Nat.{mul-le-mul_right}
use lib.ListN.{length, set, take, drop}
use Rattle.format.specs.Octets.{Octets}
use Rattle.format.specs.Numbers.{spell, lengths}
use Rattle.format.specs.Forms.{form_number, width, Spelled}
use Rattle.format.specs.Strings.{with_length, in_format}
use Rattle.format.specs.declared.StringForm.{StringForm}
use Rattle.format.specs.declared.StringForm.TheVariants.{Utf8, Utf16, Numeric, Dates, Short, Int, Long}
use Rattle.fields.specs.PutContracts.{Puts}
use Rattle.fields.proofs.Puts.{puts_append, puts_octet}
use Rattle.decimal.specs.Words.{shape, integers_in}
use Rattle.forms.specs.Reading.{said}
use Rattle.forms.specs.Streams.{part}
use Rattle.forms.specs.Packing.{alphabet, all_letters, packed_by, in_form}
use Rattle.forms.proofs.Forms.{spelled_text, said_spelled, one_spelling, packed_spelled, integers_spelled}
use Rattle.tables.specs.Located.{octets_of}
use Rattle.tables.proofs.FormLaws.{form_back, form_of_lem}
use Rattle.events.specs.declared.EventString.{EventString}
use Rattle.events.specs.Records.{located_of}
use Rattle.write_names.specs.declared.Formed.{Formed}
use Rattle.write_names.specs.Choices.{field_in, form_for}
use Rattle.write_names.specs.Promises.{said_most, value_most, format_bits, less_one, Fits, HasForm, chosen_field}
use Rattle.write_names.proofs.Stretches.{Stretched, says, plain_says}

-- ---- a form's octets, as an alphabet's or as integers
in_letters : (f : StringForm) (x : Octets) → Fits f x → format_bits f ≡ 2 → (all_letters (alphabet f) x ≡ true) × (packed_by (alphabet f) x ≡ in_form f x)
in_letters Utf8 x h e = absurd h
in_letters Utf16 x h e = absurd h
in_letters Numeric x h e = (h, refl)
in_letters Dates x h e = (h, refl)
in_letters Short x h e = absurd (omega arith)
in_letters Int x h e = absurd (omega arith)
in_letters Long x h e = absurd (omega arith)

in_integers : (f : StringForm) (x : Octets) → Fits f x → (format_bits f ≡ 2 → ⊥) → (shape (width f) x ≡ true) × (integers_in (width f) x ≡ in_form f x)
in_integers Utf8 x h n = absurd h
in_integers Utf16 x h n = absurd h
in_integers Numeric x h n = absurd (n refl)
in_integers Dates x h n = absurd (n refl)
in_integers Short x h n = (h, refl)
in_integers Int x h n = (h, refl)
in_integers Long x h n = (h, refl)

-- so octets that say a string which fits their form are the ones that it has there
fits_spelled : (f : StringForm) (x : Octets) → Fits f x → Spelled f x (in_form f x)
fits_spelled Utf8 x h = absurd h
fits_spelled Utf16 x h = absurd h
fits_spelled Numeric x h = packed_spelled Numeric x tt h
fits_spelled Dates x h = packed_spelled Dates x tt h
fits_spelled Short x h = integers_spelled Short x (omega arith) h
fits_spelled Int x h = integers_spelled Int x (omega arith) h
fits_spelled Long x h = integers_spelled Long x (omega arith) h

said_back : (f : StringForm) (o : Octets) → Fits f (said f o) → in_form f (said f o) ≡ o
said_back f o h = let s = fits_spelled f (said f o) h in one_spelling f (said f o) (in_form f (said f o)) o s (said_spelled f o (spelled_text f (said f o) (in_form f (said f o)) s))

-- the field of a format with a number
in_bits : (bit lead : ℕ) (f : StringForm) (x y : Octets) → Fits f x
    → in_format bit f lead y ≡ (lead + format_bits f * 2 ^ (9 - bit)) ∷ with_length (lengths bit) (less_one f * 2 ^ (9 - bit)) y
unfolding in_format
in_bits bit lead Utf8 x y h = absurd h
in_bits bit lead Utf16 x y h = absurd h
in_bits bit lead Numeric x y h = ap (λ (k : ℕ). (lead + 2 * 2 ^ (9 - bit)) ∷ with_length (lengths bit) k y) (omega arith)
in_bits bit lead Dates x y h = ap (λ (k : ℕ). (lead + 2 * 2 ^ (9 - bit)) ∷ with_length (lengths bit) k y) (omega arith)
in_bits bit lead Short x y h = refl
in_bits bit lead Int x y h = refl
in_bits bit lead Long x y h = refl

-- the bits of a format, and of a number, before a length
module _ (bit lead unit bits number : ℕ) (is : unit ≡ 2 ^ (9 - bit)) (some : 1 ≤ unit) (few : unit ≤ 16) (h : bits ≤ 3) (k : number ≤ 4) where
  pub bits_fit : lead + 4 * 2 ^ (9 - bit) ≤ 256 → (bits * unit ≤ 48) × (lead + bits * unit < 256)
  bits_fit l = let a = mul-le-mul_right {m = bits} {n = 3} unit h in (omega arith, omega arith)

  pub number_fits : (number * unit ≤ 64) × (number * unit + 2 ^ (9 - bit) ≤ 256)
  number_fits = let a = mul-le-mul_right {m = number} {n = 4} unit k in (omega arith, omega arith)

-- ---- a string as it is given
module _ {text : List ℕ} {x : EventString} {g : StringForm} {p m : ℕ} (s : Stretched text x g p m) (f : StringForm) (h : Fits f (octets_of text (located_of x))) where
  pub said-letters : format_bits f ≡ 2 → all_letters (alphabet f) (said g (part text p (p + m))) ≡ true
  said-letters e = rw (says s) at (in_letters f (octets_of text (located_of x)) h e).0

  pub said_integers : (format_bits f ≡ 2 → ⊥) → shape (width f) (said g (part text p (p + m))) ≡ true
  said_integers n = rw (says s) at (in_integers f (octets_of text (located_of x)) h n).0

-- ---- a field
module _ (bit lead : ℕ) {text : List ℕ} {x : EventString} {g : StringForm} {p m : ℕ} (s : Stretched text x g p m) where
  -- in utf-8, of n octets
  module _ (n : ℕ) (size : n ≡ length (octets_of text (located_of x))) (fits : n ≤ said_most)
      {out out₁ out₂ : List ℕ} {at r q : ℕ} (length-put : Puts out at r out₁ (spell (lengths bit) lead n) × (r ≤ at + 5)) where
    puts_utf8 : Puts out₁ r q out₂ (octets_of text (located_of x)) → Puts out at q out₂ (field_in bit Utf8 lead (octets_of text (located_of x))) × (q ≤ at + value_most)
    unfolding field_in in_format
    puts_utf8 b = let k = b.behind in let l = length-put.1 in (puts_append (rw size at length-put.0) b, omega arith)

    pub puts_plain : form_number g ≡ 0 → Puts out₁ r q out₂ (take m (drop p text)) → Puts out at q out₂ (field_in bit Utf8 lead (octets_of text (located_of x))) × (q ≤ at + value_most)
    puts_plain z b = puts_utf8 (rw (plain_says s z) b)

    pub puts_said : Puts out₁ r q out₂ (said g (part text p (p + m))) → Puts out at q out₂ (field_in bit Utf8 lead (octets_of text (located_of x))) × (q ≤ at + value_most)
    puts_said b = puts_utf8 (rw (says s) b)

  -- in another form f, behind the bits of its format; `unit` is what the last bit before the length is worth
  module _ (unit : ℕ) (is : unit ≡ 2 ^ (9 - bit)) (f : Formed) (has : HasForm (octets_of text (located_of x)) f) (first second : ℕ)
      (bits : first ≡ format_bits f.form) (number : second ≡ less_one f.form)
      {out out₁ out₂ out₃ : List ℕ} {at r q : ℕ} (named : out₁ ≡ set out at (lead + first * unit)) (length-put : Puts out₁ (at + 1) r out₂ (spell (lengths bit) (second * unit) f.size) × (r ≤ at + 1 + 5)) where
    puts_behind : Puts out₂ r q out₃ (in_form f.form (octets_of text (located_of x))) → Puts out at q out₃ (field_in bit f.form lead (octets_of text (located_of x))) × (q ≤ at + value_most)
    unfolding field_in
    puts_behind b =
        let k = b.behind in
        let l = length-put.1 in
        let z = has.1.size in
        let few = has.1.few in
        (rw (in_bits bit lead f.form _ (in_form f.form (octets_of text (located_of x))) has.0, ← is, ← bits, ← number, ← z) (puts_octet named (puts_append length-put.0 b)), omega arith)

    pub puts_letters : first ≡ 2 → Puts out₂ r q out₃ (packed_by (alphabet f.form) (said g (part text p (p + m))))
        → Puts out at q out₃ (field_in bit f.form lead (octets_of text (located_of x))) × (q ≤ at + value_most)
    puts_letters e b = puts_behind (rw (← (in_letters f.form _ has.0 (cc)).1, says s) b)

    pub puts_integers : (first ≡ 2 → ⊥) → Puts out₂ r q out₃ (integers_in (width f.form) (said g (part text p (p + m))))
        → Puts out at q out₃ (field_in bit f.form lead (octets_of text (located_of x))) × (q ≤ at + value_most)
    puts_integers e b = puts_behind (rw (← (in_integers f.form _ has.0 (λ t. e (bits ∙ t))).1, says s) b)

    pub puts_same : form_number g ≡ form_number f.form → Puts out₂ r q out₃ (take m (drop p text))
        → Puts out at q out₃ (field_in bit f.form lead (octets_of text (located_of x))) × (q ≤ at + value_most)
    puts_same e b =
        let o : Octets = take m (drop p text) in
        let same : g ≡ f.form = sym (form_back g) ∙ form_of_lem (form_number g) f.form e in
        let k : p + m - p ≡ m = omega arith in
        let says_so : octets_of text (located_of x) ≡ said f.form o = rw (k, same) at (says s) in
        puts_behind (rw (says_so, said_back f.form o (rw says_so at has.0)) b)

-- ---- the field in the form for the string
module _ (bit lead : ℕ) (x : Octets) {out out' : List ℕ} {at r : ℕ} where
  pub puts_chosen : (f : StringForm) → f ≡ form_for bit x → Puts out at r out' (field_in bit f lead x) × (r ≤ at + value_most) → Puts out at r out' (chosen_field bit lead x) × (r ≤ at + value_most)
  unfolding chosen_field
  puts_chosen f e p = rw (← e) p
