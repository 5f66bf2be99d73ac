-- What stands where in a list of octets or of halves, both ways: read as it is written, written as it is read.
use mathlib.Core.Path.{◌≡◌, refl, sym, ap, ap₂, ◌∙◌}
use mathlib.Core.Bool.{Bool, true, false, not, ◌&&◌}
use mathlib.Core.List.{[], ◌∷◌, ◌++◌}
use Prim.Native.Nat.{ℕ, zero, suc, ◌+◌, ◌*◌, ◌/◌, ◌%◌, ◌≤◌, ◌<◌}
use native.Mathlib.Omega.{arith}
use native.Mathlib.Decide.{ℕ_discrete}
use borrow.Author.Tests.{eqb-true, eqb-false, eq-eqb, ltb-true, ltb-false, leb-true}
use lib.Dec.{eqb, ltb, leb}
use lib.ListN.{length, get_or, take, drop, length-append, length-drop, take-append-drop, length-replicate}
use lib.Seq.{drop-drop, take_at, drop_at, drop-nil}
use Rattle.format.specs.Octets.{Octets, Halves}
use Rattle.format.specs.Numbers.{pick}
use Rattle.format.specs.Document.{halves, pad, aligned}
use Rattle.read_items.specs.Steps.{half_at, ends_at, pads_at}
use Rattle.tables.proofs.Found.{clash, both_true}

-- ---- tests
-- a refusal: one of the requirements' numbers for a reader, at a place in the document or at its length
abbrev pub Refusal : Octets → ℕ → ℕ → Type 0
Refusal s n p = (1 ≤ n) × (n ≤ 15) × (p ≤ length s)

-- a fault of the document: such a refusal, and not for want of room (14)
abbrev pub Fault : Octets → ℕ → ℕ → Type 0
Fault s n p = Refusal s n p × (n ≡ 14 → ⊥)

pub fault : (s : Octets) (n p : ℕ) → (leb 1 n && (leb n 15 && not (eqb n 14))) ≡ true → p ≤ length s → Fault s n p
fault s n p t h =
    let a = both_true (leb 1 n) (leb n 15 && not (eqb n 14)) t in
    let b = both_true (leb n 15) (not (eqb n 14)) a.1 in
    ((leb-true 1 n a.0, leb-true n 15 b.0, h), λ e. clash (rw (eq-eqb n 14 e) at b.1))

-- what holds of a refusal and, where a test is passed, of what follows, holds of the test
module _ {X : Type 0} (P : X → Type 0) (r : X) (nay : P r) where
  pub test : (t : Bool) (a : X) → (t ≡ true → P a) → P (pick t a r)
  test true a f = f refl
  test false a f = nay

  pub test_lt : (x y : ℕ) (a : X) → (x < y → P a) → P (pick (ltb x y) a r)
  test_lt x y a f = test (ltb x y) a λ t. f (ltb-true x y t)

  pub test_le : (x y : ℕ) (a : X) → (x ≤ y → P a) → P (pick (leb x y) a r)
  test_le x y a f = test (leb x y) a λ t. f (leb-true x y t)

  pub test_not : (t : Bool) (a : X) → (t ≡ false → P a) → P (pick t r a)
  test_not true a f = nay
  test_not false a f = f refl

  pub test_ge : (x y : ℕ) (a : X) → (y ≤ x → P a) → P (pick (ltb x y) r a)
  test_ge x y a f = test_not (ltb x y) a λ t. f (ltb-false x y t)

pub either : {X : Type 0} (P : X → Type 0) (t : Bool) (a b : X) → (t ≡ true → P a) → (t ≡ false → P b) → P (pick t a b)
either P true a b f g = f refl
either P false a b f g = g refl

pub either_lt : {X : Type 0} (P : X → Type 0) (x y : ℕ) (a b : X) → (x < y → P a) → (y ≤ x → P b) → P (pick (ltb x y) a b)
either_lt P x y a b f g = either P (ltb x y) a b (λ t. f (ltb-true x y t)) (λ t. g (ltb-false x y t))

pub either_eq : {X : Type 0} (P : X → Type 0) (x y : ℕ) (a b : X) → (x ≡ y → P a) → ((x ≡ y → ⊥) → P b) → P (pick (eqb x y) a b)
either_eq P x y a b f g = either P (eqb x y) a b (λ t. f (eqb-true x y t)) (λ t. g (eqb-false x y t))

pub pick_yes : {X : Type 0} (t : Bool) (a b : X) → t ≡ true → pick t a b ≡ a
pick_yes true a b e = refl
pick_yes false a b e = absurd (let y : ◌≡◌ {A = ℕ} 0 1 = cc in omega arith)

pub pick_no : {X : Type 0} (t : Bool) (a b : X) → t ≡ false → pick t a b ≡ b
pick_no false a b e = refl
pick_no true a b e = absurd (let y : ◌≡◌ {A = ℕ} 0 1 = cc in omega arith)

pub not_true : (b : Bool) → (b ≡ true → ⊥) → b ≡ false
not_true true f = absurd (f refl)
not_true false f = refl

-- ---- a list from a position on
pub drop_add : (l : Octets) (a b : ℕ) → drop b (drop a l) ≡ drop (a + b) l
drop_add l a b = drop-drop b a l

pub drop_past : (l : Octets) (at : ℕ) (w t : Octets) → drop at l ≡ w ++ t → drop (at + length w) l ≡ t
drop_past l at w t e = sym (drop_add l at (length w)) ∙ rw e (drop_at w t (length w) refl)

-- an octet
pub drop_head : (s : Octets) (k o : ℕ) (t : Octets) → drop k s ≡ o ∷ t → (k < length s) × (get_or s k 0 ≡ o) × (drop (suc k) s ≡ t)
drop_head [] k o t e = let z : [] ≡ o ∷ t = sym (drop-nil k) ∙ e in absurd (let y : ◌≡◌ {A = ℕ} 0 1 = cc in omega arith)
drop_head (x ∷ s) zero o t e = (omega arith, cc, cc)
drop_head (x ∷ s) (suc k) o t e = let i = drop_head s k o t e in (omega arith, i.1, i.2)

-- n octets
pub stretch_sound : (s : Octets) (k n : ℕ) → drop k s ≡ take n (drop k s) ++ drop (k + n) s
stretch_sound s k n = sym (take-append-drop n (drop k s)) ∙ ap (λ (l : Octets). take n (drop k s) ++ l) (drop_add s k n)

pub stretch_complete : (s : Octets) (k n : ℕ) (x t : Octets) → length x ≡ n → 0 < n → drop k s ≡ x ++ t
    → (take n (drop k s) ≡ x) × (k + n ≤ length s) × (drop (k + n) s ≡ t)
stretch_complete s k n x t l h e = (
  rw e (take_at x t n l),
  (let a = length-append x t in let b = length-drop k s in let c = ap length e in omega arith),
  sym (drop_add s k n) ∙ rw e (drop_at x t n l),
)

-- ---- halves
pub halves_append : (a b : Octets) → halves (a ++ b) ≡ halves a ++ halves b
unfolding halves
halves_append [] b = refl
halves_append (o ∷ a) b = rw (halves_append a b)

pub halves-length : (a : Octets) → length (halves a) ≡ 2 * length a
unfolding halves
halves-length [] = refl
halves-length (o ∷ a) = let i = halves-length a in omega arith

pub halves-drop : (k : ℕ) (s : Octets) → drop (2 * k) (halves s) ≡ halves (drop k s)
unfolding halves
halves-drop zero s = refl
halves-drop (suc k) [] = drop-nil (2 * suc k)
halves-drop (suc k) (o ∷ s) = let z : 2 * suc k ≡ suc (suc (2 * k)) = omega arith in rw z (halves-drop k s)

-- octets that stand there stand there as halves, and the other way round
pub halves_sound : (s : Octets) (k : ℕ) (o : Octets) (n : ℕ) → drop k s ≡ o ++ drop n s → drop (2 * k) (halves s) ≡ halves o ++ drop (2 * n) (halves s)
halves_sound s k o n e = halves-drop k s ∙ ap halves e ∙ halves_append o (drop n s) ∙ ap (λ (l : Octets). halves o ++ l) (sym (halves-drop n s))

pub octet_is : (a b : ℕ) → a / 16 ≡ b / 16 → a % 16 ≡ b % 16 → a ≡ b
octet_is a b p q = omega arith

halves_split : (t w : Octets) (r : Halves) → halves t ≡ halves w ++ r → t ≡ w ++ drop (length w) t
unfolding halves
halves_split t [] r e = refl
halves_split [] (o ∷ w) r e = cc
halves_split (p ∷ t) (o ∷ w) r e =
    let z : p ≡ o = octet_is p o (cc) (cc) in
    ap₂ (λ (a : ℕ) (l : Octets). a ∷ l) z (halves_split t w r (cc))

pub halves_complete : (s : Octets) (k : ℕ) (o : Octets) (r : Halves) → drop (2 * k) (halves s) ≡ halves o ++ r → drop k s ≡ o ++ drop (k + length o) s
halves_complete s k o r e =
    halves_split (drop k s) o r (sym (halves-drop k s) ∙ e) ∙ ap (λ (l : Octets). o ++ l) (drop_add s k (length o))

-- ---- positions
pub align_is : (at : ℕ) → 2 * (aligned at / 2) ≡ aligned at
unfolding aligned
align_is at = omega arith

pub aligned_ge : (at : ℕ) → at ≤ aligned at
unfolding aligned
aligned_ge at = omega arith

pub aligned_in : (at n : ℕ) → at ≤ 2 * n → aligned at / 2 ≤ n
unfolding aligned
aligned_in at n h = omega arith

pub pad-length : (at : ℕ) → at + length (pad at) ≡ aligned at
unfolding pad aligned
pad-length at = ap (λ (n : ℕ). at + n) (length-replicate (at % 2) 0)

-- ---- a half
half_is : (s : Octets) (at : ℕ) → get_or (halves s) at 16 ≡ half_at s at
unfolding half_at halves
half_is [] at = rw (drop-nil {A = ℕ} (at / 2))
half_is (o ∷ s) zero = refl
half_is (o ∷ s) (suc zero) = refl
half_is (o ∷ s) (suc (suc at)) =
    let a : suc (suc at) / 2 ≡ suc (at / 2) = omega arith in
    let b : suc (suc at) % 2 ≡ at % 2 = omega arith in
    rw (a, b) (half_is s at)

half_here : (l : Halves) (at h : ℕ) → get_or l at 16 ≡ h → h < 16 → drop at l ≡ h ∷ drop (suc at) l
half_here [] at h e l = absurd (omega arith)
half_here (x ∷ l) zero h e k = ap (λ (y : ℕ). y ∷ l) e
half_here (x ∷ l) (suc at) h e k = half_here l at h e k

half_there : (l : Halves) (at h : ℕ) (t : Halves) → drop at l ≡ h ∷ t → get_or l at 16 ≡ h
half_there [] at h t e = let z : [] ≡ h ∷ t = sym (drop-nil at) ∙ e in absurd (let y : ◌≡◌ {A = ℕ} 0 1 = cc in omega arith)
half_there (x ∷ l) zero h t e = cc
half_there (x ∷ l) (suc at) h t e = half_there l at h t e

pub ends_sound : (s : Octets) (at : ℕ) → ends_at s at ≡ true → drop at (halves s) ≡ 15 ∷ drop (suc at) (halves s)
unfolding ends_at
ends_sound s at e = half_here (halves s) at 15 (half_is s at ∙ eqb-true (half_at s at) 15 e) (omega arith)

pub ends_complete : (s : Octets) (at : ℕ) (t : Halves) → drop at (halves s) ≡ 15 ∷ t → ends_at s at ≡ true
unfolding ends_at
ends_complete s at t e = eq-eqb (half_at s at) 15 (sym (half_is s at) ∙ half_there (halves s) at 15 t e)

-- the padding, whether there is any or not
pub parity : {X : Type 0} (at : ℕ) → (at % 2 ≡ 0 → X) → (at % 2 ≡ 1 → X) → X
parity at f g = elim (ℕ_discrete (at % 2) 0) [ yes h ↦ f h | no h ↦ g (let k : ¬ (at % 2 ≡ 0) = h in omega arith) ]

pub pads_sound : (s : Octets) (at : ℕ) → pads_at s at ≡ true → drop at (halves s) ≡ pad at ++ drop (aligned at) (halves s)
unfolding pads_at pad aligned
pads_sound s at e =
    parity at
    (λ z. let y : at + 0 ≡ at = omega arith in rw (z, y))
    (λ z.
    let y : at + 1 ≡ suc at = omega arith in
    let q : eqb (half_at s at) 0 ≡ true = rw z at e in
    rw (z, y) (half_here (halves s) at 0 (half_is s at ∙ eqb-true (half_at s at) 0 q) (omega arith)))

pub pads_complete : (s : Octets) (at : ℕ) (t : Halves) → drop at (halves s) ≡ pad at ++ t → (pads_at s at ≡ true) × (drop (aligned at) (halves s) ≡ t)
unfolding pads_at pad aligned
pads_complete s at t e =
    parity at
    (λ z. let y : at + 0 ≡ at = omega arith in let d : drop at (halves s) ≡ t = rw z at e in rw (z, y) (refl, d))
    (λ z.
    let y : at + 1 ≡ suc at = omega arith in
    let d : drop at (halves s) ≡ 0 ∷ t = rw z at e in
    rw (z, y) (eq-eqb (half_at s at) 0 (sym (half_is s at) ∙ half_there (halves s) at 0 t d), (drop_head (halves s) at 0 t d).2))
