-- A string that may be spelled is a stretch of the text area: where it lies, what it says, and how long that is.
-- Assumes nothing.
use mathlib.Core.Path.{◌≡◌, refl, sym, ap, ◌∙◌}
use mathlib.Core.Bool.{true}
use mathlib.Core.Option.{some}
use mathlib.Core.List.{List, [], ◌∷◌}
use Prim.Native.Nat.{ℕ, zero, suc, ◌+◌, ◌-◌, ◌*◌, ◌%◌, ◌≤◌, ◌<◌}
use native.Mathlib.Omega.{arith}
use borrow.Author.Tests.{ltb-true, ltb-false}
use lib.Dec.{ltb}
use lib.ListN.{length, get_or, take, drop}
use Rattle.format.specs.Characters.{utf8s}
use Rattle.format.specs.declared.StringForm.{StringForm}
use Rattle.format.specs.declared.StringForm.TheVariants.{Utf8, Utf16, Numeric, Dates, Short, Int, Long}
use Rattle.format.specs.Forms.{form_number, numeric, dates, at_places}
use Rattle.fields.specs.PutContracts.{Puts}
use Rattle.fields.proofs.Utf8.{told}
use Rattle.fields.proofs.Puts.{part_length, part_at}
use Rattle.forms.specs.Reading.{are_places, places_of, said}
use Rattle.forms.specs.Streams as S
use Rattle.forms.proofs.Alphabets as A
use Rattle.forms.proofs.Forms.{sound_said, sound_most}
use Rattle.tables.specs.Located.{stretch, octets_of}
use Rattle.tables.specs.Kept.{IsSound}
use Rattle.tables.proofs.FormLaws.{form_zero}
use Rattle.tables.proofs.Search.{octets_stretch, length-octets}
use Rattle.tables.proofs.SaidLaws.{octets-part, sound_part, says_some}
use Rattle.events.specs.declared.EventString.{EventString}
use Rattle.events.specs.declared.EventString.TheVariants.{Absent, Empty, Stretch, XmlPrefix, XmlNamespace}
use Rattle.events.specs.Records.{located_of, optional_of}
use Rattle.events.specs.Words.{form_tag, string_tag, string_form, string_place, string_size}
use Rattle.write_names.specs.Promises.{said_most, format_bits, Spells}

some_tag : (f : StringForm) → 1 ≤ form_tag f
some_tag Utf8 = omega arith
some_tag Utf16 = omega arith
some_tag Numeric = omega arith
some_tag Dates = omega arith
some_tag Short = omega arith
some_tag Int = omega arith
some_tag Long = omega arith

-- ---- octets of an alphabet: how many characters they are, which the last of them tells
last_place_lem : (o : List ℕ) (k : ℕ) → length o ≡ suc k → (get_or o k 0 % 16 ≡ 15 → length (places_of o) ≡ 2 * k + 1) × ((get_or o k 0 % 16 ≡ 15 → ⊥) → length (places_of o) ≡ 2 * k + 2)
unfolding places_of
last_place_lem [] k e = absurd (omega arith)
last_place_lem (a ∷ []) zero e =
    told (ltb (a % 16) 15)
    (λ t. let l = ltb-true (a % 16) 15 t in rw t (λ z. absurd (omega arith), λ z. refl))
    (λ t. let l = ltb-false (a % 16) 15 t in rw t (λ z. refl, λ z. absurd (z (omega arith))))
last_place_lem (a ∷ []) (suc k) e = absurd (omega arith)
last_place_lem (a ∷ b ∷ o) zero e = absurd (omega arith)
last_place_lem (a ∷ b ∷ o) (suc k) e =
    let r = last_place_lem (b ∷ o) k (omega arith) in
    (λ z. let l = r.0 z in omega arith, λ z. let l = r.1 z in omega arith)

module _ (text : List ℕ) (p n : ℕ) (some : 0 < n) (lies : p + n ≤ length text) where
  last_letter : (get_or text (p + n - 1) 0 % 16 ≡ 15 → length (places_of (S.part text p (p + n))) ≡ 2 * n - 1) × ((get_or text (p + n - 1) 0 % 16 ≡ 15 → ⊥) → length (places_of (S.part text p (p + n))) ≡ 2 * n)
  last_letter =
      let u : p + n - p ≡ n = omega arith in
      let i : p + n - 1 ≡ p + (n - 1) = omega arith in
      let l = part_length text p n lies in
      let r = last_place_lem (take n (drop p text)) (n - 1) (omega arith) in
      rw (u, i, part_at text p n (n - 1) (omega arith)) (λ z. let k = r.0 z in omega arith, λ z. let k = r.1 z in omega arith)

  pub letters_odd : get_or text (p + n - 1) 0 % 16 ≡ 15 → 2 * n - 1 ≡ length (places_of (S.part text p (p + n)))
  letters_odd z = sym (last_letter.0 z)

  pub letters_even : (get_or text (p + n - 1) 0 % 16 ≡ 15 → ⊥) → 2 * n ≡ length (places_of (S.part text p (p + n)))
  letters_even z = sym (last_letter.1 z)

in_alphabet : (as' : List ℕ) → A.Alphabet as' → (o : List ℕ) → are_places o ≡ true → length (utf8s (at_places as' (places_of o))) ≡ length (places_of o)
in_alphabet as' a o e = rw (A.one_each as' a (places_of o) (A.writes o e).0) (A.at_length as' (places_of o))

letters-said : (f : StringForm) (o : List ℕ) → format_bits f ≡ 2 → S.Sound f o → length (said f o) ≡ length (places_of o)
letters-said Utf8 o e s = absurd (omega arith)
letters-said Utf16 o e s = absurd (omega arith)
letters-said Numeric o e s = rw (sound_said Numeric o s) (in_alphabet numeric A.is_numeric o s)
letters-said Dates o e s = rw (sound_said Dates o s) (in_alphabet dates A.is_dates o s)
letters-said Short o e s = absurd (omega arith)
letters-said Int o e s = absurd (omega arith)
letters-said Long o e s = absurd (omega arith)

-- ---- there, or absent
pub there : (x : EventString) → 1 ≤ string_tag x → optional_of x ≡ some (located_of x)
there Absent h = absurd (omega arith)
there Empty h = refl
there (Stretch f p n) h = refl
there XmlPrefix h = refl
there XmlNamespace h = refl

pub absent : (x : EventString) → string_tag x ≡ 0 → x ≡ Absent
absent Absent e = refl
absent Empty e = absurd (omega arith)
absent (Stretch f p n) e = let l = some_tag f in absurd (omega arith)
absent XmlPrefix e = absurd (omega arith)
absent XmlNamespace e = absurd (omega arith)

-- ---- a stretch
pub tagged : (x : EventString) → (f : StringForm) (p n : ℕ) → x ≡ Stretch f p n → 1 ≤ string_tag x
tagged x f p n e = rw e (some_tag f)

-- the string x is the n octets at p in the form f
pub record Stretched (text : List ℕ) (x : EventString) (f : StringForm) (p n : ℕ) : Type 0 where
  pub is : x ≡ Stretch f p n
  pub some : 0 < n
  pub lies : p + n ≤ length text
  pub sound : IsSound text (stretch f p n)

spelled_so : (text : List ℕ) (x : EventString) → Spells text x → Stretched text x (string_form x) (string_place x) (string_size x)
spelled_so text Absent h = absurd h
spelled_so text Empty h = absurd h
spelled_so text (Stretch f p n) h = record { is = refl; some = h.0; lies = h.1; sound = h.2 }
spelled_so text XmlPrefix h = absurd h
spelled_so text XmlNamespace h = absurd h

pub stretched : (text : List ℕ) (x : EventString) → Spells text x → {f : StringForm} {p n : ℕ} → f ≡ string_form x → p ≡ string_place x → n ≡ string_size x → Stretched text x f p n
stretched text x h ef ep en = rw (ef, ep, en) (spelled_so text x h)

-- and one that is known to be a stretch
pub as_given : (text : List ℕ) (x : EventString) → Spells text x → {f : StringForm} {p n : ℕ} → x ≡ Stretch f p n → Stretched text x f p n
as_given text x h e = stretched text x h (sym (ap string_form e)) (sym (ap string_place e)) (sym (ap string_size e))

pub no_stretch : (text : List ℕ) (x : EventString) → Spells text x → ((f : StringForm) (p n : ℕ) → x ≡ Stretch f p n → ⊥) → ⊥
no_stretch text x h none = none _ _ _ (spelled_so text x h).is

module _ {text : List ℕ} {x : EventString} {f : StringForm} {p n : ℕ} (s : Stretched text x f p n) where
  pub located : located_of x ≡ stretch f p n
  located = ap located_of s.is

  pub says : octets_of text (located_of x) ≡ said f (S.part text p (p + n))
  says = rw located (octets-part text f p n)

  pub part_sound : S.Sound f (S.part text p (p + n))
  part_sound = sound_part text f p n s.sound

  pub said-length : length text ≤ 16384 → (1 ≤ length (octets_of text (located_of x))) × (length (octets_of text (located_of x)) ≤ said_most)
  said-length h =
      let k = s.some in
      let l = s.lies in
      let a = says_some text f p n l k in
      let b = sound_most f (take n (drop p text)) s.sound in
      let c : length (take n (drop p text)) ≡ n = rw (octets_stretch text Utf8 p n) at (length-octets text p n l) in
      rw (located, octets_stretch text f p n) (rw (octets_stretch text f p n) at a, omega arith)

  -- in utf-8 it says its own octets
  pub plain_says : form_number f ≡ 0 → octets_of text (located_of x) ≡ take n (drop p text)
  plain_says z = rw (located, form_zero f z) (octets_stretch text Utf8 p n)

  pub plain-length : form_number f ≡ 0 → length (octets_of text (located_of x)) ≡ n
  plain-length z = rw (located, form_zero f z) (length-octets text p n s.lies)

  -- ---- how many octets that are, counted or put
  module _ (short : length text ≤ 16384) {r : ℕ} where
    counted : r ≡ length (octets_of text (located_of x)) → (r ≡ length (octets_of text (located_of x))) × (1 ≤ r) × (r ≤ said_most)
    counted e = let l = said-length short in (e, omega arith, omega arith)

    pub octets-plain : form_number f ≡ 0 → r ≡ n → (r ≡ length (octets_of text (located_of x))) × (1 ≤ r) × (r ≤ said_most)
    octets-plain z e = counted (e ∙ sym (plain-length z))

    pub octets-letters : format_bits f ≡ 2 → r ≡ length (places_of (S.part text p (p + n))) → (r ≡ length (octets_of text (located_of x))) × (1 ≤ r) × (r ≤ said_most)
    octets-letters z e = counted (rw says (e ∙ sym (letters-said f (S.part text p (p + n)) z part_sound)))

    pub octets_put : {out out' : List ℕ} → Puts out 0 r out' (said f (S.part text p (p + n))) → (r ≡ length (octets_of text (located_of x))) × (1 ≤ r) × (r ≤ said_most)
    octets_put put = let b = put.behind in counted (rw says (omega arith))
