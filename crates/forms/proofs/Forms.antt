-- The laws of the forms: a string has one spelling in a form, octets of a form spell one string, and `said` finds it. Those of integers are Lists, over the width.
-- Assumes nothing.
use mathlib.Core.Path.{◌≡◌, refl, sym, ap, ap₂, ◌∙◌}
use mathlib.Core.Bool.{Bool, true, false}
use mathlib.Core.List.{List, [], ◌∷◌}
use Prim.Native.Nat.{ℕ, ◌+◌, ◌*◌, ◌/◌, ◌≤◌, ◌<◌}
use native.Mathlib.Omega.{arith}
use borrow.Author.Tests.{eqb-true, eq-eqb}
use lib.Dec.{eqb}
use lib.ListN.{length, length-append}
use Rattle.format.specs.Octets.{Octets}
use Rattle.format.specs.Numbers.{pick}
use Rattle.format.specs.Characters.{IsCharacter, All, utf8, utf8s}
use Rattle.format.specs.Integers.{InIntegers}
use Rattle.format.specs.Forms.{utf16s, numeric, dates, packed, at_places, width, InUtf16, InAlphabet, Spelled}
use Rattle.format.specs.Tables.{same}
use Rattle.format.specs.declared.StringForm.{StringForm}
use Rattle.format.specs.declared.StringForm.TheVariants.{Utf8, Utf16, Numeric, Dates, Short, Int, Long}
use Rattle.fields.specs.Utf8.{rows, fits, started_by, from_first, character, text_behind, is_text}
use Rattle.fields.proofs.Utf8.{told, never, both}
use Rattle.fields.proofs.Characters.{text_exact, one_list, long, sized}
use Rattle.decimal.specs.Words.{shape, word_count}
use Rattle.decimal.specs.Machine.{integers, least_in}
use Rattle.std.specs.Prelude.{Option, None}
use Rattle.decimal.specs.declared.scanning.Integers.{Integers}
use Rattle.decimal.proofs.Said as D
use Rattle.decimal.proofs.Shapes.{spelled_few, shape_spelled, spelled_shape, length_in}
use Rattle.forms.specs.Reading.{is_text16, characters16, are_places, places_of, are_integers, no_text, said}
use Rattle.forms.specs.Packing.{alphabet, all_letters, packed_by, alphabet_for, integers_for, in_form}
use Rattle.forms.specs.Streams.{plain, Sound, Rest}
use Rattle.forms.proofs.Utf16 as U
use Rattle.forms.proofs.Alphabets as A
use Rattle.forms.proofs.Alphabets.{Alphabet}
use Rattle.forms.proofs.Lists as I

-- what holds in each form of integers
pub by_integers : (P : StringForm → Type 0) → P Short → P Int → P Long → (f : StringForm) → 0 < width f → P f
by_integers P a b c Utf8 h = absurd (omega arith)
by_integers P a b c Utf16 h = absurd (omega arith)
by_integers P a b c Numeric h = absurd (omega arith)
by_integers P a b c Dates h = absurd (omega arith)
by_integers P a b c Short h = a
by_integers P a b c Int h = b
by_integers P a b c Long h = c

-- ---- octets that are the same
pub same_refl : (x : Octets) → same x x ≡ true
unfolding same
same_refl [] = refl
same_refl (a ∷ x) = rw (eq-eqb a a refl) (same_refl x)

pub same_eq : (x y : Octets) → same x y ≡ true → x ≡ y
unfolding same
same_eq [] [] e = refl
same_eq [] (b ∷ y) e = never e
same_eq (a ∷ x) [] e = never e
same_eq (a ∷ x) (b ∷ y) e =
    let t = both (eqb a b) (same x y) e in
    ap₂ (λ (z : ℕ) (zs : Octets). z ∷ zs) (eqb-true a b t.0) (same_eq x y t.1)

-- ---- utf-16
module _ (x o : Octets) (s : InUtf16 x o) where
  says16 : (is_text16 o ≡ true) × (utf8s (characters16 o) ≡ x)
  says16 = let r = U.reads s.says s.are in (rw s.octets r.0, rw (s.octets, r.1) (sym s.string))

  text16 : is_text x ≡ true
  text16 = (text_exact x).1 (record { says = s.says; are = s.are; octets = s.string })

spells16 : (o : Octets) → is_text16 o ≡ true → InUtf16 (utf8s (characters16 o)) o
spells16 o e = let w = U.writes o e in record { says = characters16 o; are = w.0; string = refl; octets = sym w.1 }

one16 : (x o p : Octets) → InUtf16 x o → InUtf16 x p → o ≡ p
one16 x o p s t = s.octets ∙ ap utf16s (one_list _ _ s.are t.are (sym s.string ∙ t.string)) ∙ sym t.octets

-- a character has no more octets in UTF-8 than twice those in UTF-16
pub short : (n : ℕ) → length (utf8 n) ≤ 4
short = sized (λ n o. length o ≤ 4) (λ n h. omega arith) (λ n h k. omega arith) (λ n h k. omega arith) (λ n h. omega arith)

most16 : (ns : List ℕ) → All IsCharacter ns → length (utf8s ns) ≤ 2 * length (utf16s ns)
unfolding utf8s utf16s
most16 [] h = omega arith
most16 (n ∷ ns) h =
    let a = short n in
    let b = U.long n h.0 in
    let c = most16 ns h.1 in
    simp length-append (omega arith)

-- ---- alphabets
module _ (as' : List ℕ) (a : Alphabet as') where
  module _ (x o : Octets) (s : InAlphabet as' x o) where
    says_letters : (are_places o ≡ true) × (utf8s (at_places as' (places_of o)) ≡ x)
    says_letters = let r = A.reads s.places s.are in (rw s.octets r.0, rw (s.octets, r.1) (sym s.string))

    text_letters : is_text x ≡ true
    text_letters = (text_exact x).1 (record { says = at_places as' s.places; are = A.are_characters as' a s.places s.are; octets = s.string })

    most-letters : length x ≤ 2 * length o
    most-letters = rw (s.octets, s.string, A.one_each as' a s.places s.are, A.at_length as' s.places) (A.packed_long s.places)

  spells_letters : (o : Octets) → are_places o ≡ true → InAlphabet as' (utf8s (at_places as' (places_of o))) o
  spells_letters o e = let w = A.writes o e in record { places = places_of o; are = w.0; string = refl; octets = sym w.1 }

  one_letters : (x o p : Octets) → InAlphabet as' x o → InAlphabet as' x p → o ≡ p
  one_letters x o p s t = (A.unpacks as' a x o s).1 ∙ sym (A.unpacks as' a x p t).1

-- ---- integers
text_integers : (w : ℕ) (x o : Octets) → InIntegers w x o → is_text x ≡ true
text_integers w x o s = text_letters numeric A.is_numeric x (packed_by numeric x) (A.packs numeric A.is_numeric x (I.all_letters_lem w x o s))

-- ---- what octets say
pub said-utf8 : (f : StringForm) (o : Octets) → f ≡ Utf8 → said f o ≡ o
said-utf8 f o e = rw e

pub sound_said : (f : StringForm) (o : Octets) → Sound f o → said f o ≡ plain f o
sound_said Utf8 o e = refl
sound_said Utf16 o e = rw e
sound_said Numeric o e = rw e
sound_said Dates o e = rw e
sound_said Short o e = rw e
sound_said Int o e = rw e
sound_said Long o e = rw e

-- and so is what is still to be read
pub sound_rest : (f : StringForm) (o : Octets) → Sound f o → Rest f o
sound_rest Utf8 o e = tt
sound_rest Utf16 o e = e
sound_rest Numeric o e = e
sound_rest Dates o e = e
sound_rest Short o e = I.whole (width Short) o e
sound_rest Int o e = I.whole (width Int) o e
sound_rest Long o e = I.whole (width Long) o e

spelled_sound : (f : StringForm) (x o : Octets) → Spelled f x o → Sound f o × (plain f o ≡ x)
spelled_sound Utf8 x o s = (tt, s.1)
spelled_sound Utf16 x o s = says16 x o s
spelled_sound Numeric x o s = says_letters numeric A.is_numeric x o s
spelled_sound Dates x o s = says_letters dates A.is_dates x o s
spelled_sound Short x o s = I.says (width Short) x o s
spelled_sound Int x o s = I.says (width Int) x o s
spelled_sound Long x o s = I.says (width Long) x o s

pub spelled_said : (f : StringForm) (x o : Octets) → Spelled f x o → said f o ≡ x
spelled_said f x o s = let p = spelled_sound f x o s in sound_said f o p.0 ∙ p.1

pub spelled_text : (f : StringForm) (x o : Octets) → Spelled f x o → is_text x ≡ true
spelled_text Utf8 x o s = (text_exact x).1 s.0
spelled_text Utf16 x o s = text16 x o s
spelled_text Numeric x o s = text_letters numeric A.is_numeric x o s
spelled_text Dates x o s = text_letters dates A.is_dates x o s
spelled_text Short x o s = text_integers (width Short) x o s
spelled_text Int x o s = text_integers (width Int) x o s
spelled_text Long x o s = text_integers (width Long) x o s

-- ---- each form's test tells whether octets of it say text
abbrev pub test : StringForm → Octets → Bool
test Utf8 o = is_text o
test Utf16 o = is_text16 o
test Numeric o = are_places o
test Dates o = are_places o
test Short o = are_integers (width Short) o
test Int o = are_integers (width Int) o
test Long o = are_integers (width Long) o

nothing_said : is_text no_text ≡ false
unfolding is_text text_behind character from_first started_by fits rows
nothing_said = refl

no_text_lem : (f : StringForm) (o : Octets) → test f o ≡ false → is_text (said f o) ≡ false
no_text_lem Utf8 o e = e
no_text_lem Utf16 o e = rw e nothing_said
no_text_lem Numeric o e = rw e nothing_said
no_text_lem Dates o e = rw e nothing_said
no_text_lem Short o e = rw e nothing_said
no_text_lem Int o e = rw e nothing_said
no_text_lem Long o e = rw e nothing_said

tested_sound : (f : StringForm) (o : Octets) → test f o ≡ true → Sound f o
tested_sound Utf8 o e = tt
tested_sound Utf16 o e = e
tested_sound Numeric o e = e
tested_sound Dates o e = e
tested_sound Short o e = e
tested_sound Int o e = e
tested_sound Long o e = e

tested_spelled : (f : StringForm) (o : Octets) → test f o ≡ true → Spelled f (plain f o) o
tested_spelled Utf8 o e = ((text_exact o).0 e, refl)
tested_spelled Utf16 o e = spells16 o e
tested_spelled Numeric o e = spells_letters numeric A.is_numeric o e
tested_spelled Dates o e = spells_letters dates A.is_dates o e
tested_spelled Short o e = I.spells (width Short) o e
tested_spelled Int o e = I.spells (width Int) o e
tested_spelled Long o e = I.spells (width Long) o e

tested_text : (f : StringForm) (o : Octets) → test f o ≡ true → is_text (said f o) ≡ true
tested_text f o e = rw (sound_said f o (tested_sound f o e)) (spelled_text f (plain f o) o (tested_spelled f o e))

said_test : (f : StringForm) (o : Octets) → test f o ≡ is_text (said f o)
said_test f o = told (test f o) (λ t. t ∙ sym (tested_text f o t)) (λ t. t ∙ sym (no_text_lem f o t))

pub tested : (f g : StringForm) (o : Octets) (r : Bool) → f ≡ g → r ≡ test g o → (r ≡ is_text (said f o)) × (r ≡ true → Sound f o)
tested f g o r e d = rw e (d ∙ said_test g o, λ t. tested_sound g o (sym d ∙ t))

pub text_sound : (f : StringForm) (o : Octets) → is_text (said f o) ≡ true → Sound f o
text_sound f o e = tested_sound f o (said_test f o ∙ e)

pub said_spelled : (f : StringForm) (o : Octets) → is_text (said f o) ≡ true → Spelled f (said f o) o
said_spelled f o e = let t = said_test f o ∙ e in rw (sound_said f o (tested_sound f o t)) (tested_spelled f o t)

-- a string has one spelling in a form
pub one_spelling : (f : StringForm) (x o p : Octets) → Spelled f x o → Spelled f x p → o ≡ p
one_spelling Utf8 x o p s t = s.1 ∙ sym t.1
one_spelling Utf16 x o p s t = one16 x o p s t
one_spelling Numeric x o p s t = one_letters numeric A.is_numeric x o p s t
one_spelling Dates x o p s t = one_letters dates A.is_dates x o p s t
one_spelling Short x o p s t = D.one_spelling (width Short) x o p s t
one_spelling Int x o p s t = D.one_spelling (width Int) x o p s t
one_spelling Long x o p s t = D.one_spelling (width Long) x o p s t

-- so strings of one form may be compared by their octets as they stand
pub same-octets : (f : StringForm) (o p : Octets) → is_text (said f o) ≡ true → is_text (said f p) ≡ true → same (said f o) (said f p) ≡ same o p
same-octets f o p d e =
    told (same o p)
    (λ t. rw (t, same_eq o p t) (same_refl (said f p)))
    (λ t. told (same (said f o) (said f p)) (λ u. never (sym t ∙ rw (alike u) (same_refl p))) (λ u. u ∙ sym t))
  where
    alike : same (said f o) (said f p) ≡ true → o ≡ p
    alike u = one_spelling f (said f p) o p (rw (same_eq (said f o) (said f p) u) at (said_spelled f o d)) (said_spelled f p e)

-- ---- how long
utf8s_some : (ns : List ℕ) → 0 < length ns → 0 < length (utf8s ns)
unfolding utf8s
utf8s_some [] h = h
utf8s_some (n ∷ ns) h = let l = long n in simp length-append (omega arith)

-- where nothing is written for no characters, octets are of some
listed : (write : List ℕ → Octets) → write [] ≡ [] → (ns : List ℕ) → 0 < length (write ns) → 0 < length ns
listed write e [] h = absurd (let l = rw e at h in omega arith)
listed write e (n ∷ ns) h = omega arith

picked_some : (t : Bool) (x : Octets) → (t ≡ true → 0 < length x) → 0 < length (pick t x no_text)
picked_some true x h = h refl
picked_some false x h = omega arith

module _ (o : Octets) (h : 0 < length o) where
  some16 : is_text16 o ≡ true → 0 < length (utf8s (characters16 o))
  some16 e = utf8s_some (characters16 o) (listed utf16s (unfold utf16s in refl) (characters16 o) (rw (U.writes o e).1 h))

  some_letters : (as' : List ℕ) → are_places o ≡ true → 0 < length (utf8s (at_places as' (places_of o)))
  some_letters as' e =
      utf8s_some (at_places as' (places_of o)) (rw (A.at_length as' (places_of o)) (listed packed (unfold packed in refl) (places_of o) (rw (A.writes o e).1 h)))

pub said_some : (f : StringForm) (o : Octets) → 0 < length o → 0 < length (said f o)
said_some Utf8 o h = h
said_some Utf16 o h = picked_some (is_text16 o) _ (some16 o h)
said_some Numeric o h = picked_some (are_places o) _ (some_letters o h numeric)
said_some Dates o h = picked_some (are_places o) _ (some_letters o h dates)
said_some Short o h = picked_some (are_integers (width Short) o) _ (I.says_some (width Short) o)
said_some Int o h = picked_some (are_integers (width Int) o) _ (I.says_some (width Int) o)
said_some Long o h = picked_some (are_integers (width Long) o) _ (I.says_some (width Long) o)

pub spelled_most : (f : StringForm) (x o : Octets) → Spelled f x o → length x ≤ 4 * length o
spelled_most Utf8 x o s = rw s.1 (omega arith)
spelled_most Utf16 x o s = let m = most16 s.says s.are in rw (s.string, s.octets) (omega arith)
spelled_most Numeric x o s = let m = most-letters numeric A.is_numeric x o s in omega arith
spelled_most Dates x o s = let m = most-letters dates A.is_dates x o s in omega arith
spelled_most Short x o s = let m = spelled_few Short x o (omega arith) s in omega arith
spelled_most Int x o s = let m = spelled_few Int x o (omega arith) s in omega arith
spelled_most Long x o s = let m = spelled_few Long x o (omega arith) s in omega arith

pub said-most : (f : StringForm) (o : Octets) → is_text (said f o) ≡ true → length (said f o) ≤ 4 * length o
said-most f o e = spelled_most f (said f o) o (said_spelled f o e)

-- what is sound, text or not
pub sound_most : (f : StringForm) (o : Octets) → Sound f o → length (said f o) ≤ 4 * length o
sound_most Utf8 o e = omega arith
sound_most Utf16 o e = said-most Utf16 o (tested_text Utf16 o e)
sound_most Numeric o e = said-most Numeric o (tested_text Numeric o e)
sound_most Dates o e = said-most Dates o (tested_text Dates o e)
sound_most Short o e = said-most Short o (tested_text Short o e)
sound_most Int o e = said-most Int o (tested_text Int o e)
sound_most Long o e = said-most Long o (tested_text Long o e)

pub spelled_some : (f : StringForm) (x o : Octets) → Spelled f x o → 0 < length x → 0 < length o
spelled_some f x o s h = let l = spelled_most f x o s in omega arith

pub spelled_some_string : (f : StringForm) (x o : Octets) → Spelled f x o → 0 < length o → 0 < length x
spelled_some_string f x o s h = rw (spelled_said f x o s) at (said_some f o h)

-- ---- alphabets, as the writer uses them
abbrev pub IsAlphabet : StringForm → Type 0
IsAlphabet Utf8 = ⊥
IsAlphabet Utf16 = ⊥
IsAlphabet Numeric = Unit {0}
IsAlphabet Dates = Unit {0}
IsAlphabet Short = ⊥
IsAlphabet Int = ⊥
IsAlphabet Long = ⊥

pub packed_spelled : (f : StringForm) (x : Octets) → IsAlphabet f → all_letters (alphabet f) x ≡ true → Spelled f x (in_form f x)
packed_spelled Utf8 x a e = absurd a
packed_spelled Utf16 x a e = absurd a
packed_spelled Numeric x a e = A.packs numeric A.is_numeric x e
packed_spelled Dates x a e = A.packs dates A.is_dates x e
packed_spelled Short x a e = absurd a
packed_spelled Int x a e = absurd a
packed_spelled Long x a e = absurd a

pub spelled_letters : (f : StringForm) (x o : Octets) → IsAlphabet f → Spelled f x o → (all_letters (alphabet f) x ≡ true) × (o ≡ packed_by (alphabet f) x)
spelled_letters Utf8 x o a s = absurd a
spelled_letters Utf16 x o a s = absurd a
spelled_letters Numeric x o a s = A.unpacks numeric A.is_numeric x o s
spelled_letters Dates x o a s = A.unpacks dates A.is_dates x o s
spelled_letters Short x o a s = absurd a
spelled_letters Int x o a s = absurd a
spelled_letters Long x o a s = absurd a

pub packed-length : (letters x : Octets) → length (packed_by letters x) ≡ (length x + 1) / 2
unfolding packed_by
packed-length letters [] = refl
packed-length letters (a ∷ []) = refl
packed-length letters (a ∷ b ∷ x) = let l = packed-length letters x in omega arith

-- ---- integers, as the writer uses them
module _ (f : StringForm) (x : Octets) (h : 0 < width f) where
  pub integers_spelled : shape (width f) x ≡ true → Spelled f x (in_form f x)
  integers_spelled =
      by_integers (λ f. shape (width f) x ≡ true → Spelled f x (in_form f x)) (shape_spelled (width Short) x) (shape_spelled (width Int) x) (shape_spelled (width Long) x) f h

  pub spelled_integers : (o : Octets) → Spelled f x o → (shape (width f) x ≡ true) × (o ≡ in_form f x)
  spelled_integers =
      by_integers (λ f. (o : Octets) → Spelled f x o → (shape (width f) x ≡ true) × (o ≡ in_form f x)) (spelled_shape (width Short) x) (spelled_shape (width Int) x) (spelled_shape (width Long) x) f h

  pub integers_length : shape (width f) x ≡ true → length (in_form f x) ≡ width f * word_count x
  integers_length =
      by_integers (λ f. shape (width f) x ≡ true → length (in_form f x) ≡ width f * word_count x) (length_in (width Short) x) (length_in (width Int) x) (length_in (width Long) x) f h

-- ---- the forms that the writer may choose for a string
module _ (x : Octets) where
  -- what holds of utf-8, and of each alphabet that has all characters, holds of the alphabet for the string
  pub alphabet_by : (P : StringForm → Type 0) → P Utf8 → (all_letters numeric x ≡ true → P Numeric) → (all_letters dates x ≡ true → P Dates) → P (alphabet_for x)
  unfolding alphabet_for
  alphabet_by P u a b = told (all_letters numeric x) (λ n. rw n (a n)) (λ n. told (all_letters dates x) (λ d. rw (n, d) (b d)) (λ d. rw (n, d) u))

  -- and what holds of utf-8 where no integers are found, and of each form of integers where they are
  pub found_by : (P : StringForm → Option Integers → Type 0) → P Utf8 None → ((f : StringForm) → 0 < width f → shape (width f) x ≡ true → P f (integers (word_count x) (width f))) → P (integers_for x) (least_in x)
  unfolding integers_for least_in
  found_by P u a =
      told (shape 2 x) (λ s. rw s (a Short (omega arith) s))
      (λ s. told (shape 4 x) (λ i. rw (s, i) (a Int (omega arith) i)) (λ i. told (shape 8 x) (λ l. rw (s, i, l) (a Long (omega arith) l)) (λ l. rw (s, i, l) u)))
