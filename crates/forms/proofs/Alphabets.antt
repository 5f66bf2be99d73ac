-- Alphabets of 15 characters: the halves of octets are exact, and the two alphabets have 15 different characters, each of one octet.
-- Assumes nothing.
use mathlib.Core.Path.{◌≡◌, refl, sym, ap, ◌∙◌, subst}
use mathlib.Core.Bool.{Bool, true, ◌&&◌, or-true}
use mathlib.Core.List.{List, [], ◌∷◌, ◌++◌}
use Prim.Native.Nat.{ℕ, zero, suc, ◌+◌, ◌*◌, ◌/◌, ◌%◌, ◌≤◌, ◌<◌}
use native.Mathlib.Omega.{arith}
use native.Mathlib.Decide.{dec_lt}
use borrow.Author.Tests.{lt-ltb, ltb-true, ltb-false, eqb-true, eq-eqb}
use lib.Dec.{ltb, eqb}
use lib.ListN.{length, get_or}
use Rattle.format.specs.Characters.{among, characters, IsCharacter, utf8, utf8s, All}
use Rattle.format.specs.Forms.{numeric, dates, IsPlace, packed, at_places, InAlphabet}
use Rattle.fields.proofs.Utf8.{told, never, both}
use Rattle.fields.proofs.Characters.{one}
use Rattle.forms.specs.Reading.{are_places, places_of}
use Rattle.forms.specs.Packing.{is_letter, all_letters, place_in, packed_by}
use Rattle.forms.specs.Streams.{letters}

-- ---- halves

module _ (o : ℕ) (h : o / 16 < 15) (l : o % 16 < 15) where
  full : (x : List ℕ) → (are_places (o ∷ x) ≡ are_places x) × (places_of (o ∷ x) ≡ o / 16 ∷ o % 16 ∷ places_of x)
  unfolding are_places places_of
  full [] = (rw (lt-ltb _ _ h), rw (lt-ltb _ _ l))
  full (p ∷ x) = (rw (lt-ltb _ _ h, lt-ltb _ _ l), refl)

pub reads : (ks : List ℕ) → All IsPlace ks → (are_places (packed ks) ≡ true) × (places_of (packed ks) ≡ ks)
unfolding packed are_places places_of
reads [] h = (refl, refl)
reads (a ∷ []) h =
    let p : (16 * a + 15) / 16 ≡ a = omega arith in
    let q : (16 * a + 15) % 16 ≡ 15 = omega arith in
    (rw p (lt-ltb _ _ h.0), rw (q, p))
reads (a ∷ b ∷ ks) h =
    let p : (16 * a + b) / 16 ≡ a = omega arith in
    let q : (16 * a + b) % 16 ≡ b = omega arith in
    let f = rw (p, q) at (full (16 * a + b) (omega arith) (omega arith) (packed ks)) in
    let r = reads ks h.1.1 in
    (f.0 ∙ r.0, f.1 ∙ rw r.1)

pub writes : (x : List ℕ) → are_places x ≡ true → All IsPlace (places_of x) × (packed (places_of x) ≡ x)
unfolding packed are_places places_of
writes [] e = (tt, refl)
writes (o ∷ []) e =
    let h = ltb-true (o / 16) 15 e in
    told (ltb (o % 16) 15)
    (λ t. let l = ltb-true (o % 16) 15 t in let s : 16 * (o / 16) + o % 16 ≡ o = omega arith in rw t ((h, (l, tt)), rw s))
    (λ t. let l = ltb-false (o % 16) 15 t in let s : 16 * (o / 16) + 15 ≡ o = omega arith in rw t ((h, tt), rw s))
writes (o ∷ p ∷ x) e =
    let t = both (ltb (o / 16) 15 && ltb (o % 16) 15) (are_places (p ∷ x)) e in
    let u = both (ltb (o / 16) 15) (ltb (o % 16) 15) t.0 in
    let r = writes (p ∷ x) t.1 in
    let s : 16 * (o / 16) + o % 16 ≡ o = omega arith in
    ((ltb-true _ _ u.0, (ltb-true _ _ u.1, r.0)), rw (s, r.1))

-- how many octets
pub packed_long : (ks : List ℕ) → length ks ≤ 2 * length (packed ks)
unfolding packed
packed_long [] = omega arith
packed_long (a ∷ []) = omega arith
packed_long (a ∷ b ∷ ks) = let l = packed_long ks in omega arith

pub at_length : (as' ks : List ℕ) → length (at_places as' ks) ≡ length ks
unfolding at_places
at_length as' [] = refl
at_length as' (k ∷ ks) = ap suc (at_length as' ks)

-- ---- a letter and its place

module _ (o : ℕ) where
  pub letter_place : (as' : List ℕ) → is_letter as' o ≡ true → (place_in as' o < length as') × (get_or as' (place_in as' o) 0 ≡ o)
  unfolding is_letter place_in
  letter_place [] e = never e
  letter_place (a ∷ as') e =
      told (eqb a o) (λ t. rw t (omega arith, eqb-true a o t))
      (λ t. let p = letter_place as' (rw t at e) in let z : place_in as' o + 1 ≡ suc (place_in as' o) = omega arith in rw (t, z) (omega arith, p.1))

place_letter : (as' : List ℕ) (k : ℕ) → k < length as' → is_letter as' (get_or as' k 0) ≡ true
unfolding is_letter
place_letter [] k h = absurd (omega arith)
place_letter (a ∷ as') zero h = rw (eq-eqb a a refl)
place_letter (a ∷ as') (suc k) h = rw (place_letter as' k (omega arith)) (or-true (eqb a (get_or as' k 0)))

-- ---- the two alphabets

unfoldable pub every : (ℕ → Bool) → ℕ → Bool
every f zero = true
every f (suc n) = f n && every f n

pub below : (f : ℕ → Bool) (n : ℕ) → every f n ≡ true → (k : ℕ) → k < n → f k ≡ true
unfolding every
below f zero e k h = absurd (omega arith)
below f (suc n) e k h =
    let p = both (f n) (every f n) e in
    elim (dec_lt k n) [
      | yes l ↦ below f n p.1 k l
      | no l ↦ subst (λ (m : ℕ). f m ≡ true) (let q : n ≡ k = omega arith in q) p.0
    ]

-- 15 characters, each of one octet and in its own place
pub record Alphabet (as' : List ℕ) : Type 0 where
  pub fifteen : length as' ≡ 15
  pub are : every (λ k. among characters (get_or as' k 0)) 15 ≡ true
  pub low : every (λ k. ltb (get_or as' k 0) 0x80) 15 ≡ true
  pub places : every (λ k. eqb (place_in as' (get_or as' k 0)) k) 15 ≡ true

pub is_numeric : Alphabet numeric
unfolding every place_in numeric characters among
is_numeric = record { fifteen = refl; are = refl; low = refl; places = refl }

pub is_dates : Alphabet dates
unfolding every place_in dates characters among
is_dates = record { fifteen = refl; are = refl; low = refl; places = refl }

module _ (as' : List ℕ) (a : Alphabet as') where
  pub are_characters : (ks : List ℕ) → All IsPlace ks → All IsCharacter (at_places as' ks)
  unfolding at_places
  are_characters [] h = tt
  are_characters (k ∷ ks) h = (below (λ k. among characters (get_or as' k 0)) 15 a.are k h.0, are_characters ks h.1)

  low : (k : ℕ) → k < 15 → utf8 (get_or as' k 0) ≡ get_or as' k 0 ∷ []
  low k h = one (get_or as' k 0) (ltb-true _ _ (below (λ k. ltb (get_or as' k 0) 0x80) 15 a.low k h))

  -- the characters are their octets
  pub one_each : (ks : List ℕ) → All IsPlace ks → utf8s (at_places as' ks) ≡ at_places as' ks
  unfolding utf8s at_places
  one_each [] h = refl
  one_each (k ∷ ks) h = rw (low k h.0, one_each ks h.1)

  placed : (k : ℕ) → k < 15 → place_in as' (get_or as' k 0) ≡ k
  placed k h = eqb-true (place_in as' (get_or as' k 0)) k (below (λ k. eqb (place_in as' (get_or as' k 0)) k) 15 a.places k h)

  -- letters are packed by their places
  repacked : (ks : List ℕ) → All IsPlace ks → packed_by as' (at_places as' ks) ≡ packed ks
  unfolding at_places packed_by packed
  repacked [] h = refl
  repacked (k ∷ []) h = rw (placed k h.0)
  repacked (k ∷ l ∷ ks) h = rw (placed k h.0, placed l h.1.0, repacked ks h.1.1)

  all_letters_lem : (ks : List ℕ) → All IsPlace ks → all_letters as' (at_places as' ks) ≡ true
  unfolding at_places all_letters
  all_letters_lem [] h = refl
  all_letters_lem (k ∷ ks) h = rw (place_letter as' k (let n = a.fifteen in let l = h.0 in omega arith)) (all_letters_lem ks h.1)

  -- the places of a string's letters
  places_in : List ℕ → List ℕ
  places_in [] = []
  places_in (o ∷ x) = place_in as' o ∷ places_in x

  are_places_lem : (x : List ℕ) → all_letters as' x ≡ true → All IsPlace (places_in x) × (at_places as' (places_in x) ≡ x)
  unfolding at_places all_letters places_in
  are_places_lem [] e = (tt, refl)
  are_places_lem (o ∷ x) e =
      let p = both (is_letter as' o) (all_letters as' x) e in
      let l = letter_place o as' p.0 in
      let r = are_places_lem x p.1 in
      let n = a.fifteen in
      ((omega arith, r.0), rw (l.1, r.1))

  pub packs : (x : List ℕ) → all_letters as' x ≡ true → InAlphabet as' x (packed_by as' x)
  packs x e =
      let p = are_places_lem x e in
      record { places = places_in x; are = p.0; string = sym (one_each (places_in x) p.0 ∙ p.1); octets = ap (packed_by as') (sym p.1) ∙ repacked (places_in x) p.0 }

  pub unpacks : (x o : List ℕ) → InAlphabet as' x o → (all_letters as' x ≡ true) × (o ≡ packed_by as' x)
  unpacks x o s =
      let e = s.string ∙ one_each s.places s.are in
      (rw e (all_letters_lem s.places s.are), s.octets ∙ rw e (sym (repacked s.places s.are)))

  -- the characters of one more octet
  pub next_letters : (o : ℕ) (x : List ℕ) → are_places (o ∷ x) ≡ true
      → (o < 240) × (are_places x ≡ true) × (utf8s (at_places as' (places_of (o ∷ x))) ≡ letters as' o ++ utf8s (at_places as' (places_of x)))
  unfolding are_places places_of utf8s at_places letters
  next_letters o [] e =
      let h = ltb-true (o / 16) 15 e in
      told (ltb (o % 16) 15)
      (λ t. let l = ltb-true (o % 16) 15 t in (omega arith, refl, rw (t, low (o / 16) h, low (o % 16) l)))
      (λ t. (omega arith, refl, rw (t, low (o / 16) h)))
  next_letters o (p ∷ x) e =
      let t = both (ltb (o / 16) 15 && ltb (o % 16) 15) (are_places (p ∷ x)) e in
      let u = both (ltb (o / 16) 15) (ltb (o % 16) 15) t.0 in
      let h = ltb-true (o / 16) 15 u.0 in
      let l = ltb-true (o % 16) 15 u.1 in
      (omega arith, t.1, rw (u.1, low (o / 16) h, low (o % 16) l))
