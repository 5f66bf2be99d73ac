-- Figures and their number, once over any base: each gives the other back.
-- Assumes nothing.
use mathlib.Core.Path.{◌≡◌, refl, ap, ◌∙◌}
use mathlib.Core.List.{List, [], ◌∷◌}
use Prim.Native.Nat.{ℕ, zero, suc, ◌+◌, ◌-◌, ◌*◌, ◌/◌, ◌%◌, ◌^◌, ◌≤◌, ◌<◌}
use native.Mathlib.Nat.{pow-zero, pow-suc, div-one, div-div-eq-div-mul, div-add-mod', div-lt_iff_lt-mul, div-eq_of_lt, mod-lt, mul-pos, mul-add-div_right, mul-add-mod_self_right, mod-eq_of_lt, le-mul_of_pos_right}
use native.Mathlib.Omega.{arith}
use lib.Dec.{lit<}
use lib.ListN.{length, take, drop}
use Rattle.format.specs.Integers.{figures}
use Rattle.decimal.specs.Reading.{number}

-- these are figures to a base
unfoldable pub Figures : (base low : ℕ) → List ℕ → Type 0
Figures base low [] = Unit {0}
Figures base low (d ∷ ds) = (low ≤ d) × (d < low + base) × Figures base low ds

pub figures-length : (base low m v : ℕ) → length (figures base low m v) ≡ m
unfolding figures
figures-length base low zero v = refl
figures-length base low (suc m) v = ap suc (figures-length base low m v)

module _ (base low : ℕ) (some : 0 < base) where
  pub power_some : (m : ℕ) → 0 < base ^ m
  power_some zero = rw (pow-zero base) (lit< tt)
  power_some (suc m) = rw (pow-suc base m) (mul-pos (power_some m) some)

  -- one more figure of v
  one_more_lem : (m v : ℕ) → v / base ^ suc m * base + v / base ^ m % base ≡ v / base ^ m
  one_more_lem m v = rw (pow-suc base m, ← div-div-eq-div-mul v (base ^ m) base) (div-add-mod' (v / base ^ m) base)

  -- ---- written, then read

  number_behind : (m v : ℕ) → number base low (v / base ^ m) (figures base low m v) ≡ v
  unfolding number figures
  number_behind zero v = rw (pow-zero base) (div-one v)
  number_behind (suc m) v =
      let e : low + v / base ^ m % base - low ≡ v / base ^ m % base = omega arith in
      ap (λ k. number base low k (figures base low m v)) (rw e (one_more_lem m v)) ∙ number_behind m v

  pub number-figures : (m v : ℕ) → v < base ^ m → number base low 0 (figures base low m v) ≡ v
  number-figures m v h = rw (div-eq_of_lt h) at (number_behind m v)

  pub figures_are : (m v : ℕ) → Figures base low (figures base low m v)
  unfolding figures Figures
  figures_are zero v = tt
  figures_are (suc m) v = let h = mod-lt (v / base ^ m) some in (omega arith, omega arith, figures_are m v)

  -- ---- read, then written

  -- what stands before the figures is what their number has above them
  number-top : (x : ℕ) (ds : List ℕ) → Figures base low ds → number base low x ds / base ^ length ds ≡ x
  unfolding number Figures
  number-top x [] f = rw (pow-zero base) (div-one x)
  number-top x (d ∷ ds) f =
      let r : ℕ = d - low in
      let h : r < base = (let l = f.0 in let k = f.1 in omega arith) in
      rw (pow-suc base (length ds), ← div-div-eq-div-mul (number base low (x * base + r) ds) (base ^ length ds) base, number-top (x * base + r) ds f.2, mul-add-div_right some x r, div-eq_of_lt h)
      (omega arith)

  pub number_less : (x : ℕ) (ds : List ℕ) → Figures base low ds → number base low x ds < (x + 1) * base ^ length ds
  number_less x ds f = let e = number-top x ds f in (div-lt_iff_lt-mul (power_some (length ds))).0 (omega arith)

  pub figures-number : (x : ℕ) (ds : List ℕ) → Figures base low ds → figures base low (length ds) (number base low x ds) ≡ ds
  unfolding number figures Figures
  figures-number x [] f = refl
  figures-number x (d ∷ ds) f =
      let r : ℕ = d - low in
      let h : r < base = (let l = f.0 in let k = f.1 in omega arith) in
      let e : low + r ≡ d = (let l = f.0 in omega arith) in
      rw (number-top (x * base + r) ds f.2, mul-add-mod_self_right x base r, mod-eq_of_lt h, e, figures-number (x * base + r) ds f.2)

  pub number_grows : (x : ℕ) (ds : List ℕ) → x ≤ number base low x ds
  unfolding number
  number_grows x [] = omega arith
  number_grows x (d ∷ ds) =
      let h = number_grows (x * base + (d - low)) ds in
      let m = le-mul_of_pos_right x some in
      omega arith

-- ---- parts of figures are figures

pub take_are : (base low n : ℕ) (ds : List ℕ) → Figures base low ds → Figures base low (take n ds)
unfolding Figures
take_are base low zero ds f = tt
take_are base low (suc n) [] f = tt
take_are base low (suc n) (d ∷ ds) f = (f.0, f.1, take_are base low n ds f.2)

pub drop_are : (base low n : ℕ) (ds : List ℕ) → Figures base low ds → Figures base low (drop n ds)
unfolding Figures
drop_are base low zero ds f = f
drop_are base low (suc n) [] f = tt
drop_are base low (suc n) (d ∷ ds) f = drop_are base low n ds f.2
