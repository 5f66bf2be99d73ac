-- Reading what was spelled gives it back, and what reading accepts is what is spelled: once, over any list of shares.
-- Assumes nothing.
use Rattle.std.proofs.Common.{◌≡◌, ℕ, zero, suc, ◌+◌, ◌-◌, ◌*◌, ◌/◌, ◌%◌, ◌^◌, ◌<◌, ◌≤◌, Bool, true, false, ltb, leb, List, [], ◌∷◌, ◌++◌, length, get_or, take, drop, Result, Ok, sym, refl, ap, ◌∙◌, ap₂, le_trans, mul-le-mul_right, div-lt_iff_lt-mul, pow-suc, div-add-mod', add-one, arith, lit<, length-append, drop-cons, ltb-false, ltb-true, le-ltb, lt-ltb, le-leb, leb-true}
use native.Mathlib.Nat.{div-div-eq-div-mul}
use native.Mathlib.Decide.{dec_lt}
use lib.Seq.{get_or-append_seam, append_snoc}
use Rattle.format.specs.Octets.{AreOctets}
use Rattle.format.specs.Numbers.{pick, octets}
use Rattle.format.specs.declared.refusals.Refusal.{Refusal}
use Rattle.format.specs.declared.refusals.Refusal.TheVariants.{Truncated, Code, Padding, Range}
use Rattle.format.specs.declared.refusals.Fault.{Fault}
use Rattle.fields.specs.declared.Cursor.{Cursor}
use Rattle.fields.specs.declared.Read.{Read}
use Rattle.fields.specs.Fields.{got, refused, value_from, behind, Share, share, read_in}

pub case : {X : Type 0} (a b : ℕ) → (a < b → X) → (b ≤ a → X) → X
case a b f g = elim (dec_lt a b) [ yes h ↦ f h | no h ↦ g (omega arith) ]

-- how many numbers the shares have
unfoldable pub sizes_in : List Share → ℕ
sizes_in [] = 0
sizes_in (share room more size ∷ fs) = size + sizes_in fs

-- how many values of the first octet's bits they take
unfoldable pub rooms_in : List Share → ℕ
rooms_in [] = 0
rooms_in (share room more size ∷ fs) = room + rooms_in fs

-- each has room for its numbers
abbrev pub Roomy : List Share → Type 0
Roomy [] = Unit {0}
Roomy (share room more size ∷ fs) = (size ≤ room * 256 ^ more) × Roomy fs

-- the value v from 0 on, by shares: each holds the value less what those before it have; `lead` has the codes of those before it
unfoldable pub spell_in : List Share → ℕ → ℕ → List ℕ
spell_in [] lead v = []
spell_in (share room more size ∷ fs) lead v = pick (ltb v size) ((lead + v / 256 ^ more) ∷ octets more v) (spell_in fs (lead + room) (v - size))

pub pos256 : (m : ℕ) → 0 < 256 ^ m
pos256 zero = lit< tt
pos256 (suc m) = let h = pos256 m in rw (pow-suc 256 m) (omega arith)

-- what the first octet holds of a value that a form spells is one of the form's values; and the form spells a value with that
pub in_room : (v room more size : ℕ) → size ≤ room * 256 ^ more → v < size → v / 256 ^ more < room
in_room v room more size h y = (div-lt_iff_lt-mul (pos256 more)).1 (omega arith)

in_size : (v more size : ℕ) → v < size → v / 256 ^ more * 256 ^ more < size
in_size v more size y = let e = div-add-mod' v (256 ^ more) in omega arith

-- a value of a later form is none of this one
pub past_room : (b room more size : ℕ) → size ≤ room * 256 ^ more → room ≤ b → size ≤ b * 256 ^ more
past_room b room more size h r = le_trans h (mul-le-mul_right (256 ^ more) r)

-- ---- written, then read

pub octets-length : (m v : ℕ) → length (octets m v) ≡ m
unfolding octets
octets-length zero v = refl
octets-length (suc m) v = ap suc (octets-length m v)

length_snoc : (xs : List ℕ) (a : ℕ) → length (xs ++ (a ∷ [])) ≡ suc (length xs)
length_snoc xs a = length-append xs (a ∷ []) ∙ add-one (length xs)

-- one more octet of v
digit : (m v : ℕ) → v / 256 ^ suc m * 256 + v / 256 ^ m % 256 ≡ v / 256 ^ m
digit m v = rw (pow-suc 256 m, ← div-div-eq-div-mul v (256 ^ m) 256) (div-add-mod' (v / 256 ^ m) 256)

-- reading the octets of v, after what stands above them
value_octets_lem : (m v : ℕ) (pre rest : List ℕ) → value_from (pre ++ (octets m v ++ rest)) (length pre) (v / 256 ^ m) m ≡ v
unfolding value_from octets
value_octets_lem zero v pre rest = omega arith
value_octets_lem (suc m) v pre rest =
    let d : ℕ = v / 256 ^ m % 256 in
    let s : List ℕ = pre ++ (d ∷ (octets m v ++ rest)) in
    let e : (pre ++ (d ∷ [])) ++ (octets m v ++ rest) ≡ s = append_snoc pre d (octets m v ++ rest) in
    ap (λ (x : ℕ). value_from s (suc (length pre)) (v / 256 ^ suc m * 256 + x) m) (get_or-append_seam pre d (octets m v ++ rest) 0)
    ∙ ap (λ (x : ℕ). value_from s (suc (length pre)) x m) (digit m v)
    ∙ ap₂ (λ (l : List ℕ) (k : ℕ). value_from l k (v / 256 ^ m) m) (sym e) (sym (length_snoc pre d))
    ∙ value_octets_lem m v (pre ++ (d ∷ [])) rest

behind-octets : (more size v low top first : ℕ) (pre rest : List ℕ) → v < size → low + v ≤ top
    → behind (pre ++ (first ∷ octets more v ++ rest)) (length pre) (v / 256 ^ more) more low size top
    ≡ got (low + v) (length pre + suc more)
unfolding behind
behind-octets more size v low top first pre rest h t =
    let s : List ℕ = pre ++ (first ∷ (octets more v ++ rest)) in
    let n : length s ≡ length pre + suc (more + length rest) = simp (length-append, octets-length) in
    let e : value_from s (length pre + 1) (v / 256 ^ more) more ≡ v =
    ap₂ (λ (l : List ℕ) (k : ℕ). value_from l k (v / 256 ^ more) more) (sym (append_snoc pre first (octets more v ++ rest))) (add-one (length pre) ∙ sym (length_snoc pre first))
    ∙ value_octets_lem more v (pre ++ (first ∷ [])) rest in
    let p : length pre + 1 + more ≡ length pre + suc more = omega arith in
    let q : length pre + more < length s = omega arith in
    rw (lt-ltb _ _ q, e, lt-ltb _ _ h, le-leb _ _ t, p)

-- the first octet holds at least what it held already
pub first_ge : (fs : List Share) (lead v : ℕ) → v < sizes_in fs → lead ≤ get_or (spell_in fs lead v) 0 0
unfolding spell_in sizes_in
first_ge [] lead v h = omega arith
first_ge (share room more size ∷ fs) lead v h =
    case v size (λ y. rw (lt-ltb v size y) (omega arith))
    (λ n. rw (le-ltb v size n) (let i = first_ge fs (lead + room) (v - size) (omega arith) in omega arith))

pub read_spelled : (fs : List Share) (top low lead v : ℕ) (pre rest : List ℕ) → Roomy fs → v < sizes_in fs → low + v ≤ top
    → read_in fs top low (pre ++ (spell_in fs lead v ++ rest)) (length pre) (get_or (spell_in fs lead v) 0 0 - lead)
    ≡ got (low + v) (length pre + length (spell_in fs lead v))
unfolding read_in spell_in sizes_in
read_spelled [] top low lead v pre rest ok h t = absurd (omega arith)
read_spelled (share room more size ∷ fs) top low lead v pre rest ok h t =
    case v size
    (λ y.
    let b : lead + v / 256 ^ more - lead ≡ v / 256 ^ more = omega arith in
    let sp = in_size v more size y in
    let n : length pre + suc (length (octets more v)) ≡ length pre + suc more = ap (λ (k : ℕ). length pre + suc k) (octets-length more v) in
    rw (lt-ltb v size y, b, lt-ltb _ _ sp, n) (behind-octets more size v low top (lead + v / 256 ^ more) pre rest y t))
    (λ n.
    let i = first_ge fs (lead + room) (v - size) (omega arith) in
    let w : List ℕ = spell_in fs (lead + room) (v - size) in
    let r1 : room ≤ get_or w 0 0 - lead = omega arith in
    let r2 = past_room _ _ _ _ ok.0 r1 in
    let e : get_or w 0 0 - lead - room ≡ get_or w 0 0 - (lead + room) = omega arith in
    let l : low + size + (v - size) ≡ low + v = omega arith in
    let ih = read_spelled fs top (low + size) (lead + room) (v - size) pre rest ok.1 (omega arith) (omega arith) in
    rw (le-ltb v size n, le-ltb _ _ r2, le-ltb _ _ r1, e) (rw l at ih))

-- ---- read, then written

-- the octets of the value that was read are those that were read
octets_value : (m : ℕ) (s : List ℕ) (at x : ℕ) → at + m ≤ length s → AreOctets s
    → (value_from s at x m / 256 ^ m ≡ x) × (octets m (value_from s at x m) ≡ take m (drop at s))
unfolding value_from octets
octets_value zero s at x h bytes = (omega arith, refl)
octets_value (suc m) s at x h bytes =
    let b = get_or s at 0 in
    let lb = bytes at in
    let v = value_from s (suc at) (x * 256 + b) m in
    let ih = octets_value m s (suc at) (x * 256 + b) (omega arith) bytes in
    let q : v / 256 ^ suc m ≡ x = rw (pow-suc 256 m, ← div-div-eq-div-mul v (256 ^ m) 256, ih.0) (omega arith) in
    let r : v / 256 ^ m % 256 ≡ b = rw ih.0 (omega arith) in
    let at< : at < length s = omega arith in
    (q, rw (drop-cons s at 0 at<, r, ih.1))

-- a test of a definition, taken apart
pub picks : (P : Result (Read ℕ) Fault → Type 0) (t : Bool) (a b : Result (Read ℕ) Fault) → (t ≡ true → P a) → (t ≡ false → P b) → P (pick t a b)
picks P true a b f g = f refl
picks P false a b f g = g refl

picked : {X : Type 0} (t : Bool) (a b g : Result (Read ℕ) Fault) → pick t a b ≡ g → (t ≡ true → a ≡ g → X) → (t ≡ false → b ≡ g → X) → X
picked {X} t a b g e f h = picks (λ k. k ≡ g → X) t a b f h e

never : {X : Type 0} (r : Refusal) (p : ℕ) (a : Read ℕ) → refused r p ≡ Ok a → X
never r p a e = let z : ◌≡◌ {A = ℕ} 0 1 = cc in absurd (omega arith)

-- what was accepted at `at`, with b in the field's bits of the octet there: its value is low + v, m octets follow, and all of them are how v is written
pub record Spelled (fs : List Share) (top low lead : ℕ) (s : List ℕ) (at b : ℕ) (a : Read ℕ) : Type 0 where
  pub v : ℕ
  pub m : ℕ
  pub is : a.value ≡ low + v
  pub small : v < sizes_in fs
  pub under : a.value ≤ top
  pub room : at + m < length s
  pub next : a.next.at ≡ at + 1 + m
  pub written : spell_in fs lead v ≡ (lead + b) ∷ take m (drop (at + 1) s)

behind_back : (more size top low : ℕ) (s : List ℕ) (at x : ℕ) (a : Read ℕ) → AreOctets s
    → behind s at x more low size top ≡ Ok a
    → (v : ℕ) × (a.value ≡ low + v) × (v < size) × (a.value ≤ top) × (at + more < length s) × (a.next.at ≡ at + 1 + more) × (v / 256 ^ more ≡ x) × (octets more v ≡ take more (drop (at + 1) s))
unfolding behind
behind_back more size top low s at x a bytes e =
    let v = value_from s (at + 1) x more in
    picked (ltb (at + more) (length s)) _ _ _ e
    (λ t1 e1. picked (ltb v size) _ _ _ e1
    (λ t2 e2. picked (leb (low + v) top) _ _ _ e2
    (λ t3 e3.
    let l : at + more < length s = ltb-true _ _ t1 in
    let o = octets_value more s (at + 1) x (omega arith) bytes in
    let en : low + v ≡ a.value = cc in
    let ec : record { at = at + 1 + more } ≡ a.next = cc in
    let t : low + v ≤ top = leb-true _ _ t3 in
    (v, sym en, ltb-true _ _ t2, omega arith, l, ap (λ (c : Cursor). c.at) (sym ec), o.0, o.1))
    (λ t3 e3. never Range at a e3))
    (λ t2 e2. never Padding at a e2))
    (λ t1 e1. never Truncated at a e1)

pub accepted : (fs : List Share) (top low lead : ℕ) (s : List ℕ) (at b : ℕ) (a : Read ℕ) → AreOctets s
    → read_in fs top low s at b ≡ Ok a → Spelled fs top low lead s at b a
unfolding read_in spell_in sizes_in
accepted [] top low lead s at b a bytes e = never Code at a e
accepted (share room more size ∷ fs) top low lead s at b a bytes e =
    picked (ltb (b * 256 ^ more) size) _ _ _ e
    (λ t1 e1.
    let t = behind_back more size top low s at b a bytes e1 in
    record { v = t.0; m = more; is = t.1; small = omega arith; under = t.3; room = t.4; next = t.5; written = rw (lt-ltb _ _ t.2, t.6, t.7) })
    (λ t1 e1. picked (ltb b room) _ _ _ e1
    (λ t2 e2. never Padding at a e2)
    (λ t2 e2.
    let ge : room ≤ b = ltb-false _ _ t2 in
    let i = accepted fs top (low + size) (lead + room) s at (b - room) a bytes e2 in
    let iv : size + i.v - size ≡ i.v = omega arith in
    let ib : lead + room + (b - room) ≡ lead + b = omega arith in
    let no : size ≤ size + i.v = omega arith in
    let isn : a.value ≡ low + size + i.v = i.is in
    let ism : i.v < sizes_in fs = i.small in
    record { v = size + i.v; m = i.m; is = omega arith; small = omega arith; under = i.under; room = i.room; next = i.next; written = rw (le-ltb _ _ no, iv, i.written, ib) }))
