-- The laws of the code that decides: the rows that an octet leaves, one more character, one more octet of an alphabet, how many octets integers have.
-- Assumes nothing.
use mathlib.Core.Path.{◌≡◌, refl, sym, ◌∙◌}
use mathlib.Core.Bool.{Bool, true, false, ◌&&◌, ◌||◌}
use mathlib.Core.List.{List, [], ◌∷◌}
use Prim.Native.Nat.{ℕ, zero, suc, ◌+◌, ◌-◌, ◌%◌, ◌≤◌, ◌<◌}
use native.Mathlib.Omega.{arith}
use borrow.Author.Tests.{lt-leb, ltb-true, ne_eqb}
use lib.Dec.{ltb, leb, eqb}
use lib.ListN.{length, get_or, take, drop, length-take}
use Rattle.std.proofs.lemmas.Bool.Decides.{nat_tests}
use Rattle.format.specs.Octets.{AreOctets}
use Rattle.format.specs.Numbers.{pick}
use Rattle.format.specs.Characters.{Range, ◌‥◌, All}
use Rattle.fields.specs.Utf8.{fits}
use Rattle.fields.proofs.Utf8.{told, never, both}
use Rattle.fields.proofs.Characters.{In, range_in, Fits}
use Rattle.decimal.specs.Reading.{is_whole}
use Rattle.forms.specs.Reading.{size, whole, rows16, is_text16, are_places, are_integers}
use Rattle.forms.specs.Streams.{part}
use Rattle.forms.proofs.Rows.{size_is}
use Rattle.forms.proofs.Lists.{part-octets}
use Rattle.forms.proofs.Streams.{part_cons, part_length}

-- ---- the rows that an octet leaves

-- no character of these rows starts with an octet from lo to hi
abbrev pub clear : ℕ → ℕ → List (List Range) → Bool
clear lo hi [] = true
clear lo hi ([] ∷ rows) = false
clear lo hi ((a ‥ z ∷ row) ∷ rows) = (ltb z lo || ltb hi a) && clear lo hi rows

-- an octet from lo to hi is outside a to z, where these two stretches share none
outside : (lo hi a z b : ℕ) → (ltb z lo || ltb hi a) ≡ true → In (lo ‥ hi) b → (leb a b && leb b z) ≡ false
outside lo hi a z b e h =
    told (ltb z lo)
    (λ t. let k = ltb-true z lo t in let n : z < b = omega arith in told (leb a b) (λ q. rw (q, lt-leb _ _ n)) (λ q. rw q))
    (λ t. let k = ltb-true hi a (rw t at e) in let n : b < a = omega arith in rw (lt-leb _ _ n))

module _ (lo hi b : ℕ) (x : List ℕ) (h : In (lo ‥ hi) b) where
  -- such an octet starts no character of clear rows
  clear_none : (rows : List (List Range)) → clear lo hi rows ≡ true → size rows (b ∷ x) ≡ 0
  unfolding size fits
  clear_none [] e = refl
  clear_none ([] ∷ rows) e = never e
  clear_none ((a ‥ z ∷ row) ∷ rows) e =
      let p = both (ltb z lo || ltb hi a) (clear lo hi rows) e in
      rw (outside lo hi a z b p.0 h) (clear_none rows p.1)

  -- clear rows before the others change nothing, and neither do clear rows after them
  clear_front : (rows : List (List Range)) (i : ℕ) → clear lo hi (take i rows) ≡ true → size rows (b ∷ x) ≡ size (drop i rows) (b ∷ x)
  unfolding size fits
  clear_front rows zero e = refl
  clear_front [] (suc i) e = refl
  clear_front ([] ∷ rows) (suc i) e = never e
  clear_front ((a ‥ z ∷ row) ∷ rows) (suc i) e =
      let p = both (ltb z lo || ltb hi a) (clear lo hi (take i rows)) e in
      rw (outside lo hi a z b p.0 h) (clear_front rows i p.1)

  clear_back : (rows : List (List Range)) (m : ℕ) → clear lo hi (drop m rows) ≡ true → size rows (b ∷ x) ≡ size (take m rows) (b ∷ x)
  unfolding size
  clear_back rows zero e = clear_none rows e
  clear_back [] (suc m) e = refl
  clear_back (row ∷ rows) (suc m) e = rw (clear_back rows m e)

module _ (s : List ℕ) (at to : ℕ) (h : at < to) (l : to ≤ length s) where
  -- no row starts with such an octet: no character is in front
  pub none : (rows : List (List Range)) (lo hi : ℕ) → clear lo hi rows ≡ true → In (lo ‥ hi) (get_or s at 0) → 0 ≡ size rows (part s at to)
  none rows lo hi e k = rw (part_cons s at to h l) (sym (clear_none lo hi (get_or s at 0) _ k rows e))

  -- of all rows, only m from the i-th on have characters that start with such an octet
  pub some : (rows : List (List Range)) (i m lo hi n : ℕ) → (clear lo hi (take i rows) && clear lo hi (drop m (drop i rows))) ≡ true → In (lo ‥ hi) (get_or s at 0)
      → n ≡ size (take m (drop i rows)) (part s at to) → n ≡ size rows (part s at to)
  some rows i m lo hi n e k f =
      let p = both (clear lo hi (take i rows)) (clear lo hi (drop m (drop i rows))) e in
      let c = part_cons s at to h l in
      rw c (rw c at f ∙ sym (clear_front lo hi (get_or s at 0) _ k rows i p.0 ∙ clear_back lo hi (get_or s at 0) _ k (drop i rows) m p.1))

  module _ (lo hi : ℕ) (row : List Range) where
    -- the first octet is of the first row, and the rest fits it: as many octets as the row has
    pub hit : (rows : List (List Range)) → In (lo ‥ hi) (get_or s at 0) → true ≡ fits row (part s (at + 1) to) → suc (length row) ≡ size ((lo ‥ hi ∷ row) ∷ rows) (part s at to)
    unfolding size fits
    hit rows k e = rw (part_cons s at to h l, range_in lo hi _ k, ← e)

    -- what follows does not fit the first row: it is told by the others
    pub miss : (rows : List (List Range)) (n : ℕ) → false ≡ fits row (part s (at + 1) to) → n ≡ size rows (part s at to) → n ≡ size ((lo ‥ hi ∷ row) ∷ rows) (part s at to)
    unfolding size fits
    miss rows n e f =
        let c = part_cons s at to h l in
        told (leb lo (get_or s at 0) && leb (get_or s at 0) hi) (λ q. rw (c, q, ← e) (rw c at f)) (λ q. rw (c, q) (rw c at f))

    -- the first octet is of the only row: its rest decides
    pub last : (n : ℕ) (t : Bool) → In (lo ‥ hi) (get_or s at 0) → t ≡ fits row (part s (at + 1) to) → n ≡ pick t (suc (length row)) 0
        → n ≡ size ((lo ‥ hi ∷ row) ∷ []) (part s at to)
    unfolding size fits
    last n t k e f = rw (part_cons s at to h l, range_in lo hi _ k, ← e) f

-- ---- one more character

each_any : (rows : List (List Range)) → All (λ row. (o : List ℕ) → Fits row o → Unit {0}) rows
each_any [] = tt
each_any (row ∷ rows) = (λ o f. tt, each_any rows)

passed : (rows : List (List Range)) (k : ℕ) (x : List ℕ) → k ≤ length x → whole rows k x ≡ whole rows 0 (drop k x)
unfolding whole
passed rows zero x h = refl
passed rows (suc k) [] h = absurd (omega arith)
passed rows (suc k) (b ∷ x) h = passed rows k x (omega arith)

counted : (rows : List (List Range)) (x : List ℕ) (k : ℕ) → size rows x ≡ suc k → (suc k ≤ length x) × (whole rows 0 x ≡ whole rows 0 (drop (suc k) x))
unfolding whole
counted rows x k e = go x (let q = (size_is (λ o. Unit {0}) rows x k e (each_any rows)).1 in let w = rw (length-take (suc k) x) at q in omega arith) e
  where
    go : (x : List ℕ) → suc k ≤ length x → size rows x ≡ suc k → (suc k ≤ length x) × (whole rows 0 x ≡ whole rows 0 (drop (suc k) x))
    go [] h e = absurd (omega arith)
    go (b ∷ x) h e = let m : suc k - 1 ≡ k = omega arith in (h, rw (e, ne_eqb (suc k) 0 (λ z. omega arith), m) (passed rows k x (omega arith)))

pub text_end : (x : List ℕ) → true ≡ eqb (length x) 0 → is_text16 x ≡ true
unfolding is_text16 whole
text_end [] h = refl
text_end (b ∷ x) h = never (sym (h ∙ ne_eqb (suc (length x)) 0 (λ z. omega arith)))

pub text_not : (x : List ℕ) → false ≡ eqb (length x) 0 → 0 ≡ size rows16 x → is_text16 x ≡ false
unfolding is_text16 whole
text_not [] h e = never h
text_not (b ∷ x) h e = rw (← e)

pub text_next : (x : List ℕ) (n : ℕ) → n ≡ size rows16 x → (n ≡ 0 → ⊥) → (n ≤ length x) × (is_text16 x ≡ is_text16 (drop n x))
unfolding is_text16
text_next x zero e z = absurd (z refl)
text_next x (suc k) e z = counted rows16 x k (sym e)

-- ---- an alphabet: what is told of what is left, where the lower half of the octet before fills up, or none does
abbrev pub places_left : Bool → List ℕ → Bool
places_left fills x = pick fills (eqb (length x) 0) (are_places x)

places_step : (o : ℕ) (x : List ℕ) → o < 256 → o < 240 → are_places (o ∷ x) ≡ places_left (eqb (o % 16) 15) x
unfolding are_places
places_step o [] h l = grind (arith, nat_tests)
places_step o (p ∷ x) h l = grind (arith, nat_tests)

places_above : (o : ℕ) (x : List ℕ) → 240 ≤ o → are_places (o ∷ x) ≡ false
unfolding are_places
places_above o [] h = grind (arith, nat_tests)
places_above o (p ∷ x) h = grind (arith, nat_tests)

module _ (x rest : List ℕ) (fills : Bool) (i : places_left fills rest ≡ are_places x) where
  pub places_end : rest ≡ [] → true ≡ are_places x
  unfolding are_places
  places_end e = told fills (λ t. rw (e, t) at i) (λ t. rw (e, t) at i)

  module _ (o : ℕ) (y : List ℕ) (e : rest ≡ o ∷ y) where
    pub places_filled : fills ≡ true → false ≡ are_places x
    places_filled t = sym (ne_eqb (length (o ∷ y)) 0 (λ z. omega arith)) ∙ (rw (e, t) at i)

    pub places_high : fills ≡ false → 240 ≤ o → false ≡ are_places x
    places_high t h = rw (e, t, places_above o y h) at i

    pub places_next : fills ≡ false → o < 240 → places_left (eqb (o % 16) 15) y ≡ are_places x
    places_next t l = rw (← places_step o y (omega arith) l) (rw (e, t) at i)

-- ---- integers, by how many octets there are
and_true : (t : Bool) → (t && true) ≡ t
and_true true = refl
and_true false = refl

pub integers_told : (s : List ℕ) (at to w : ℕ) (r : Bool) → to ≤ length s → AreOctets s → r ≡ (ltb 0 (to - at) && eqb ((to - at) % w) 0) → r ≡ are_integers w (part s at to)
unfolding are_integers is_whole
integers_told s at to w r h a e = rw (part_length s at to h, part-octets s at to a) (e ∙ sym (and_true _))
