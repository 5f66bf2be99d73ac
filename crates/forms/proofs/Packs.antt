-- The laws of the code that packs: which alphabets have an octet, and its place; a string looked at, and packed, octet by octet.
-- Assumes nothing.
use mathlib.Core.Path.{◌≡◌, refl, sym, ap, ◌∙◌}
use mathlib.Core.Bool.{Bool, true, false, not, ◌&&◌, ◌||◌}
use mathlib.Core.List.{List, [], ◌∷◌, ◌++◌}
use Rattle.std.specs.Prelude.{min}
use Prim.Native.Nat.{ℕ, ◌+◌, ◌-◌, ◌*◌, ◌≤◌, ◌<◌}
use native.Mathlib.Omega.{arith}
use borrow.Author.Tests.{ltb-true, leb-true, eqb-true, ne_eqb, lt-leb, le-leb}
use lib.Dec.{leb, ltb, eqb}
use lib.ListN.{length, get_or}
use Rattle.format.specs.Numbers.{pick}
use Rattle.format.specs.Characters.{All}
use Rattle.format.specs.Forms.{numeric, dates}
use Rattle.format.specs.declared.StringForm.{StringForm}
use Rattle.format.specs.declared.StringForm.TheVariants.{Utf8, Utf16, Numeric, Dates, Short, Int, Long}
use Rattle.fields.proofs.Utf8.{told, never, both}
use Rattle.forms.specs.Packing.{alphabet, is_letter, all_letters, place_in, packed_by, alphabet_for}
use Rattle.forms.proofs.Alphabets as A
use Rattle.forms.proofs.Alphabets.{Alphabet, every, below, letter_place}

-- ---- values that a branch leaves: of `p || b`
module _ (v p b : Bool) where
  pub or_then : p ≡ true → v ≡ p → v ≡ (p || b)
  or_then e f = rw e (f ∙ e)

  pub or_else : p ≡ false → v ≡ b → v ≡ (p || b)
  or_else e f = rw e f

pub range_then : (v : Bool) (a z n : ℕ) → a ≤ n → v ≡ leb n z → v ≡ (leb a n && leb n z)
range_then v a z n h e = rw (le-leb a n h) e

pub range_else : (v : Bool) (a z n : ℕ) → n < a → v ≡ leb a n → v ≡ (leb a n && leb n z)
range_else v a z n h e = let f = lt-leb a n h in rw f (e ∙ f)

-- ---- the letters of an alphabet, by the tests of the code: a digit, a hyphen, a space, or one of three
abbrev pub letter_by : (p q r o : ℕ) → Bool
letter_by p q r o = (((((leb 0x30 o && leb o 0x39) || eqb o 0x2D) || eqb o 0x20) || eqb o p) || eqb o q) || eqb o r

pub by_tests : (p q r o : ℕ) (d a b x y z : Bool) → d ≡ (leb 0x30 o && leb o 0x39) → a ≡ (d || eqb o 0x2D) → b ≡ (a || eqb o 0x20)
    → x ≡ (b || eqb o p) → y ≡ (x || eqb o q) → z ≡ (y || eqb o r) → z ≡ letter_by p q r o
by_tests p q r o d a b x y z e f g h i j = rw (j, i, h, g, f, e)

abbrev agree : Bool → Bool → Bool
agree a b = pick a b (not b)

agree_eq : (a b : Bool) → agree a b ≡ true → a ≡ b
agree_eq true b e = sym e
agree_eq false true e = never e
agree_eq false false e = refl

module _ (o : ℕ) (h : o < 256) where
  pub numeric-letters : letter_by 0x2B 0x2E 0x65 o ≡ is_letter numeric o
  unfolding every numeric is_letter
  numeric-letters = agree_eq _ _ (below (λ n. agree (letter_by 0x2B 0x2E 0x65 n) (is_letter numeric n)) 256 refl o h)

  pub dates-letters : letter_by 0x3A 0x54 0x5A o ≡ is_letter dates o
  unfolding every dates is_letter
  dates-letters = agree_eq _ _ (below (λ n. agree (letter_by 0x3A 0x54 0x5A n) (is_letter dates n)) 256 refl o h)

  -- a digit is one of both
  pub digit_letter : 0x30 ≤ o → o ≤ 0x39 → (true ≡ is_letter numeric o) × (true ≡ is_letter dates o)
  digit_letter l m = (rw (le-leb 0x30 o l, le-leb o 0x39 m) at numeric-letters, rw (le-leb 0x30 o l, le-leb o 0x39 m) at dates-letters)

  -- an octet that is none of either
  pub no_letter : 0x3B ≤ o → (o ≡ 0x54 → ⊥) → (o ≡ 0x5A → ⊥) → (o ≡ 0x65 → ⊥) → (is_letter numeric o ≡ false) × (is_letter dates o ≡ false)
  no_letter l t z e = (
    sym numeric-letters ∙ rw (lt-leb o 0x39 (omega arith), le-leb 0x30 o (omega arith), ne_eqb o 0x2D (omega arith), ne_eqb o 0x20 (omega arith), ne_eqb o 0x2B (omega arith), ne_eqb o 0x2E (omega arith), ne_eqb o 0x65 e),
    sym dates-letters ∙ rw (lt-leb o 0x39 (omega arith), le-leb 0x30 o (omega arith), ne_eqb o 0x2D (omega arith), ne_eqb o 0x20 (omega arith), ne_eqb o 0x3A (omega arith), ne_eqb o 0x54 t, ne_eqb o 0x5A z),
  )

-- ---- the place of a letter
-- a letter that is at place r of each alphabet that has it
abbrev pub lies : List ℕ → (k r : ℕ) → Bool
lies as' k r = not (is_letter as' k) || eqb r (place_in as' k)

lies_there : (as' : List ℕ) (k r : ℕ) → lies as' k r ≡ true → is_letter as' k ≡ true → r ≡ place_in as' k
lies_there as' k r e l = eqb-true r (place_in as' k) (rw l at e)

module _ (k r : ℕ) (e : ((lies numeric k r && lies dates k r) && ltb r 15) ≡ true) where
  pub known-place : (f : StringForm) (o : ℕ) → o ≡ k → is_letter (alphabet f) o ≡ true → (r ≡ place_in (alphabet f) o) × (r < 15)
  unfolding is_letter
  known-place Utf8 o d l = never l
  known-place Utf16 o d l = never l
  known-place Numeric o d l =
      let p = both (lies numeric k r && lies dates k r) (ltb r 15) e in
      let q = both (lies numeric k r) (lies dates k r) p.0 in
      rw d (lies_there numeric k r q.0 (rw d at l), ltb-true r 15 p.1)
  known-place Dates o d l =
      let p = both (lies numeric k r && lies dates k r) (ltb r 15) e in
      let q = both (lies numeric k r) (lies dates k r) p.0 in
      rw d (lies_there dates k r q.1 (rw d at l), ltb-true r 15 p.1)
  known-place Short o d l = never l
  known-place Int o d l = never l
  known-place Long o d l = never l

-- the letters that are no digits, and no others are
abbrev pub others : List ℕ
others = 0x2D ∷ 0x2B ∷ 0x3A ∷ 0x2E ∷ 0x54 ∷ 0x65 ∷ 0x5A ∷ 0x20 ∷ []

none_of : (ks : List ℕ) (o : ℕ) → All (λ k. o ≡ k → ⊥) ks → is_letter ks o ≡ false
unfolding is_letter
none_of [] o n = refl
none_of (k ∷ ks) o n = rw (ne_eqb k o (λ e. n.0 (sym e))) (none_of ks o n.1)

abbrev digit : List ℕ → ℕ → Bool
digit as' k = is_letter others (get_or as' k 0) || (leb 0x30 (get_or as' k 0) && eqb (get_or as' k 0 - 0x30) k)

module _ (o : ℕ) (n : All (λ k. o ≡ k → ⊥) others) where
  abbrev Digit : List ℕ → Type 0
  Digit as' = (0x30 ≤ o) × (o - 0x30 ≡ place_in as' o) × (o - 0x30 < 15)

  digit_place : (as' : List ℕ) → Alphabet as' → every (digit as') 15 ≡ true → is_letter as' o ≡ true → Digit as'
  digit_place as' a t l =
      let p = letter_place o as' l in
      let m = a.fifteen in
      let k : place_in as' o < 15 = omega arith in
      let d = rw (p.1, none_of others o n) at (below (digit as') 15 t (place_in as' o) k) in
      let q = both (leb 0x30 o) (eqb (o - 0x30) (place_in as' o)) d in
      let e = eqb-true (o - 0x30) (place_in as' o) q.1 in
      (leb-true 0x30 o q.0, e, omega arith)

  pub rest_place : (f : StringForm) → is_letter (alphabet f) o ≡ true → Digit (alphabet f)
  unfolding is_letter every numeric dates
  rest_place Utf8 l = never l
  rest_place Utf16 l = never l
  rest_place Numeric l = digit_place numeric A.is_numeric refl l
  rest_place Dates l = digit_place dates A.is_dates refl l
  rest_place Short l = never l
  rest_place Int l = never l
  rest_place Long l = never l

-- ---- all letters, octet by octet
-- t tells it of those already seen, and these are to come
abbrev pub Seen : (as' : List ℕ) (t : Bool) (rest all : List ℕ) → Type 0
Seen as' t rest all = (t && all_letters as' rest) ≡ all_letters as' all

module _ (as' : List ℕ) (t : Bool) (rest all : List ℕ) (i : Seen as' t rest all) where
  pub seen_next : (o : ℕ) (more : List ℕ) (u l : Bool) → rest ≡ o ∷ more → l ≡ is_letter as' o → u ≡ (t && l) → Seen as' u more all
  unfolding all_letters
  seen_next o more u l e f g = told t (λ q. rw (g, f, q) (rw (e, q) at i)) (λ q. rw (g, q) (rw q at i))

  pub seen_end : rest ≡ [] → t ≡ all_letters as' all
  unfolding all_letters
  seen_end e = told t (λ q. q ∙ (rw (e, q) at i)) (λ q. q ∙ (rw q at i))

  pub seen_not : t ≡ false → false ≡ all_letters as' all
  seen_not q = rw q at i

-- ---- packed, two at a time
module _ (as' rest : List ℕ) where
  pub pack_none : rest ≡ [] → packed_by as' rest ≡ []
  unfolding packed_by
  pack_none e = rw e

  module _ (o : ℕ) (more : List ℕ) (e : rest ≡ o ∷ more) where
    pub letter_first : all_letters as' rest ≡ true → (is_letter as' o ≡ true) × (all_letters as' more ≡ true)
    unfolding all_letters
    letter_first l = both (is_letter as' o) (all_letters as' more) (rw e at l)

    module _ (h : ℕ) (d : h ≡ place_in as' o) where
      pub pack_one : more ≡ [] → packed_by as' rest ≡ (16 * h + 15) ∷ []
      unfolding packed_by
      pack_one f = rw (e, f, d)

      pub pack_two : (p : ℕ) (after : List ℕ) (l : ℕ) → more ≡ p ∷ after → l ≡ place_in as' p → packed_by as' rest ≡ (16 * h + l) ∷ packed_by as' after
      unfolding packed_by
      pack_two p after l f g = rw (e, f, d, g)

-- and in pairs of octets, of which the last may be one alone: p comes first, and `more` after it
module _ (as' p more rest : List ℕ) (e : rest ≡ p ++ more) (n : length p ≡ min 2 (length rest)) (s : 0 < length rest) (l : all_letters as' rest ≡ true) where
  pub record Pair : Type 0 where
    pub first : is_letter as' (get_or p 0 0) ≡ true
    pub second : length p ≡ 2 → is_letter as' (get_or p 1 0) ≡ true
    pub after : all_letters as' more ≡ true
    pub two : length p ≡ 2 → (h k : ℕ) → h ≡ place_in as' (get_or p 0 0) → k ≡ place_in as' (get_or p 1 0) → packed_by as' rest ≡ (16 * h + k) ∷ packed_by as' more
    pub one : (length p ≡ 2 → ⊥) → (h : ℕ) → h ≡ place_in as' (get_or p 0 0) → packed_by as' rest ≡ (16 * h + 15) ∷ packed_by as' more

pub in_pairs : (as' p more rest : List ℕ) (e : rest ≡ p ++ more) (n : length p ≡ min 2 (length rest)) (s : 0 < length rest) (l : all_letters as' rest ≡ true) → Pair as' p more rest e n s l
in_pairs as' [] more rest e n s l = absurd (omega arith)
in_pairs as' (a ∷ []) [] rest e n s l =
    record {
      first = (letter_first as' rest a [] e l).0;
      second = λ h. absurd (omega arith);
      after = (letter_first as' rest a [] e l).1;
      two = λ h. absurd (omega arith);
      one = λ _ h d. pack_one as' rest a [] e h d refl ∙ ap (λ (x : List ℕ). (16 * h + 15) ∷ x) (sym (pack_none as' [] refl));
    }
in_pairs as' (a ∷ []) (m ∷ more) rest e n s l = absurd (let k = ap length e in omega arith)
in_pairs as' (a ∷ b ∷ []) more rest e n s l =
    let f = letter_first as' rest a (b ∷ more) e l in
    let g = letter_first as' (b ∷ more) b more refl f.1 in
    record { first = f.0; second = λ _. g.0; after = g.1; two = λ _ h k d i. pack_two as' rest a (b ∷ more) e h d b more k refl i; one = λ h. absurd (h refl) }
in_pairs as' (a ∷ b ∷ c ∷ p) more rest e n s l = absurd (omega arith)

-- ---- the alphabet that is chosen
module _ (x : List ℕ) where
  pub first_chosen : true ≡ all_letters numeric x → Numeric ≡ alphabet_for x
  unfolding alphabet_for
  first_chosen e = rw (← e)

  pub second_chosen : false ≡ all_letters numeric x → true ≡ all_letters dates x → Dates ≡ alphabet_for x
  unfolding alphabet_for
  second_chosen e f = rw (← e, ← f)

  pub none_chosen : false ≡ all_letters numeric x → false ≡ all_letters dates x → Utf8 ≡ alphabet_for x
  unfolding alphabet_for
  none_chosen e f = rw (← e, ← f)
