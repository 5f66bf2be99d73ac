-- Octets and what they say: octets that are whole integers spell their text and no other, and a text has one spelling at most.
-- Assumes nothing.
use mathlib.Core.Path.{◌≡◌, refl, sym, ap, ◌∙◌}
use mathlib.Core.Bool.{true}
use mathlib.Core.List.{List, [], ◌∷◌, ◌++◌}
use Prim.Native.Nat.{ℕ, zero, suc, ◌+◌, ◌*◌, ◌/◌, ◌%◌, ◌<◌}
use native.Mathlib.Nat.{suc-mul, zero-mul, mul-pos, mul-mod_left, mul-div_cancel, div-add-mod', mod-zero}
use native.Mathlib.Omega.{arith}
use borrow.Author.Tests.{lt-ltb, ltb-true, eq-eqb, eqb-true}
use lib.Dec.{ltb, eqb}
use lib.IntN.{ℤ}
use lib.ListN.{length, take, drop, length-append, length-drop, take-append-drop}
use lib.Seq.{take_at, drop_at, length-take-le}
use Rattle.format.specs.Octets.{Octets, AreOctets}
use Rattle.format.specs.Characters.{All}
use Rattle.format.specs.Integers.{half, Held, octets_of, all_octets, InIntegers}
use Rattle.fields.proofs.Utf8.{both as both_true}
use Rattle.decimal.specs.Reading.{integers_of, is_whole, said_in}
use Rattle.decimal.proofs.Figures.{Figures, take_are, drop_are}
use Rattle.decimal.proofs.Integers.{octets-length, octets_are, integer-octets, octets-integer, integer_held}
use Rattle.decimal.proofs.Texts.{text_injective}

below-figures : (o : Octets) → AreOctets o → Figures 256 0 o
unfolding Figures
below-figures [] h = tt
below-figures (b ∷ o) h = (omega arith, h 0, below-figures o (λ i. h (suc i)))

figures-below : (o : Octets) → Figures 256 0 o → AreOctets o
unfolding Figures
figures-below [] f i = omega arith
figures-below (b ∷ o) f zero = f.1
figures-below (b ∷ o) f (suc i) = figures-below o f.2 i

-- ---- the octets of integers

some_width : (w : ℕ) (zs : List ℤ) → 0 < length zs → All (Held w) zs → 0 < w
some_width w [] h e = absurd (omega arith)
some_width zero (z ∷ zs) h e = absurd (unfold half in let k = e.0 in omega arith)
some_width (suc w) (z ∷ zs) h e = omega arith

pub all_length : (w : ℕ) (zs : List ℤ) → length (all_octets w zs) ≡ length zs * w
unfolding all_octets
all_length w [] = sym (zero-mul w)
all_length w (z ∷ zs) = length-append (octets_of w z) (all_octets w zs) ∙ (let a = octets-length w z in let b = all_length w zs in omega arith)

all_are : (w : ℕ) (zs : List ℤ) → Figures 256 0 (all_octets w zs)
unfolding all_octets Figures
all_are w [] = tt
all_are w (z ∷ zs) = append (octets_of w z) (all_octets w zs) (octets_are w z) (all_are w zs)
  where
    append : (a b : Octets) → Figures 256 0 a → Figures 256 0 b → Figures 256 0 (a ++ b)
    append [] b f g = g
    append (d ∷ a) b f g = (f.0, f.1, append a b f.2 g)

integers_octets : (w : ℕ) (zs : List ℤ) → All (Held w) zs → integers_of w (length zs) (all_octets w zs) ≡ zs
unfolding integers_of all_octets
integers_octets w [] e = refl
integers_octets w (z ∷ zs) e =
    let n = octets-length w z in
    rw (take_at (octets_of w z) (all_octets w zs) w n, drop_at (octets_of w z) (all_octets w zs) w n, integer-octets w z e.0, integers_octets w zs e.1)

octets_integers : (w k : ℕ) (o : Octets) → 0 < w → Figures 256 0 o → length o ≡ k * w
    → (all_octets w (integers_of w k o) ≡ o) × All (Held w) (integers_of w k o)
unfolding integers_of all_octets
octets_integers w zero [] h f n = (refl, tt)
octets_integers w zero (b ∷ o) h f n = absurd (omega arith)
octets_integers w (suc k) o h f n =
    let m : length o ≡ k * w + w = n ∙ suc-mul k w in
    let t : length (take w o) ≡ w = length-take-le w o (omega arith) in
    let u : length (drop w o) ≡ k * w = length-drop w o ∙ (omega arith) in
    let r = octets_integers w k (drop w o) h (drop_are 256 0 w o f) u in
    let g = take_are 256 0 w o f in
    (rw (octets-integer w (take w o) g t, r.0) (take-append-drop w o), (integer_held w (take w o) g t h, r.1))

pub integers_count : (w k : ℕ) (o : Octets) → length (integers_of w k o) ≡ k
unfolding integers_of
integers_count w zero o = refl
integers_count w (suc k) o = ap suc (integers_count w k (drop w o))

-- ---- whole integers

module _ (w : ℕ) (o : Octets) (e : is_whole w o ≡ true) where
  parts_of : (0 < length o) × (length o % w ≡ 0)
  unfolding is_whole
  parts_of = let p = both_true (ltb 0 (length o)) (eqb (length o % w) 0) e in (ltb-true _ _ p.0, eqb-true _ _ p.1)

  pub whole-width : 0 < w
  whole-width = of w parts_of.0 parts_of.1
    where
      of : (w : ℕ) → 0 < length o → length o % w ≡ 0 → 0 < w
      of zero l m = absurd (let z = mod-zero (length o) in omega arith)
      of (suc w) l m = omega arith

  pub whole_length : length o ≡ length o / w * w
  whole_length = let m = parts_of.1 in let z = div-add-mod' (length o) w in omega arith

  pub whole_some : 0 < length o / w
  whole_some = of (length o / w) (rw whole_length at parts_of.0)
    where
      of : (k : ℕ) → 0 < k * w → 0 < k
      of zero l = absurd (let z = zero-mul w in omega arith)
      of (suc k) l = omega arith

  pub said_spelled : AreOctets o → InIntegers w (said_in w o) o
  unfolding said_in
  said_spelled a =
      let k : ℕ = length o / w in
      let r = octets_integers w k o whole-width (below-figures o a) whole_length in
      record {
        integers = integers_of w k o;
        some = rw (integers_count w k o) whole_some;
        held = r.1;
        string = refl;
        octets = sym r.0;
      }

-- ---- a spelling's octets are whole, and say its text and no other

module _ (w : ℕ) (x o : Octets) (s : InIntegers w x o) where
  pub spelled_said : (is_whole w o ≡ true) × (said_in w o ≡ x)
  unfolding is_whole said_in
  spelled_said =
      let zs = s.integers in
      let h = some_width w zs s.some s.held in
      let n : length o ≡ length zs * w = ap length s.octets ∙ all_length w zs in
      let p : 0 < length o = rw n (mul-pos s.some h) in
      let d : length o % w ≡ 0 = rw n (mul-mod_left (length zs) w) in
      let q : length o / w ≡ length zs = rw n (mul-div_cancel (length zs) h) in
      let i : integers_of w (length zs) o ≡ zs = rw s.octets (integers_octets w zs s.held) in
      (rw (lt-ltb _ _ p, eq-eqb _ _ d), rw (q, i, ← s.string))

  pub spelled_octets : AreOctets o
  spelled_octets = figures-below o (rw s.octets (all_are w s.integers))

pub one_spelling : (w : ℕ) (x o p : Octets) → InIntegers w x o → InIntegers w x p → o ≡ p
one_spelling w x o p s t =
    let e = text_injective s.integers t.integers s.some t.some (sym s.string ∙ t.string) in
    s.octets ∙ ap (all_octets w) e ∙ sym t.octets
