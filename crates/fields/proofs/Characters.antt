-- The test of text is exact: octets pass it exactly when they are those of some characters (`text_exact`), and of one list of characters only (`one_list`).
-- Assumes nothing.
use Rattle.std.proofs.Common.{◌≡◌, ℕ, zero, suc, ◌+◌, ◌-◌, ◌*◌, ◌/◌, ◌%◌, ◌<◌, ◌≤◌, true, ◌&&◌, leb, ◌↔◌, List, [], ◌∷◌, ◌++◌, length, get_or, take, drop, sym, refl, ap, ◌∙◌, ap₂, arith, length-append, length-drop, take-append-drop, le-ltb, lt-ltb, le-leb, leb-true}
use native.Mathlib.Nat.{div-div-eq-div-mul}
use lib.Seq.{take-append_seam, drop-append_seam}
use Rattle.format.specs.Characters.{Range, ◌‥◌, among, characters, IsCharacter, tail, utf8, utf8s, All, IsText}
use Rattle.fields.specs.Utf8.{rows, fits, started_by, from_first, character, is_text}
use Rattle.fields.proofs.Laws.{case}
use Rattle.fields.proofs.Utf8.{told, never, both, alike, started, some_character, no_character, none_text}

-- what holds of each of a list, one after the other
infixr 20 ◌also◌
pub ◌also◌ : {A B : Type 0} → A → B → A × B
a also b = (a, b)

-- ---- ranges

abbrev pub In : Range → ℕ → Type 0
In (a ‥ z) n = (a ≤ n) × (n ≤ z)

pub in_range : (a z n : ℕ) → (leb a n && leb n z) ≡ true → In (a ‥ z) n
in_range a z n e = let p = both (leb a n) (leb n z) e in (leb-true _ _ p.0, leb-true _ _ p.1)

pub range_in : (a z n : ℕ) → In (a ‥ z) n → (leb a n && leb n z) ≡ true
range_in a z n h = rw (le-leb _ _ h.0, le-leb _ _ h.1)

-- a number in the range at place i is among them; a number among them is in one of them
pub in_among : (rs : List Range) (i n : ℕ) → In (get_or rs i (1 ‥ 0)) n → among rs n ≡ true
unfolding among
in_among [] zero n h = absurd (omega arith)
in_among [] (suc i) n h = absurd (omega arith)
in_among (a ‥ z ∷ rs) zero n h = rw (range_in a z n h)
in_among (a ‥ z ∷ rs) (suc i) n h = told (leb a n && leb n z) (λ e. rw e) (λ e. rw e (in_among rs i n h))

pub among_in : {X : Type 0} (rs : List Range) (n : ℕ) → among rs n ≡ true → All (λ r. In r n → X) rs → X
unfolding among
among_in [] n e fs = never e
among_in (a ‥ z ∷ rs) n e fs = told (leb a n && leb n z) (λ t. fs.0 (in_range a z n t)) (λ t. among_in rs n (rw t at e) fs.1)

abbrev InNth : ℕ → ℕ → Type 0
InNth i n = In (get_or characters i (1 ‥ 0)) n

-- one octet for each range, in it
abbrev pub Fits : List Range → List ℕ → Type 0
Fits [] [] = Unit {0}
Fits [] (b ∷ q) = ⊥
Fits (r ∷ rs) [] = ⊥
Fits (r ∷ rs) (b ∷ q) = In r b × Fits rs q

pub fit : (r : List Range) (q y : List ℕ) → Fits r q → (fits r (q ++ y) ≡ true) × (length r ≡ length q)
unfolding fits
fit [] [] y f = (refl, refl)
fit [] (b ∷ q) y f = absurd f
fit (r ∷ rs) [] y f = absurd f
fit (a ‥ z ∷ rs) (b ∷ q) y f = let p = fit rs q y f.1 in (rw (range_in a z b f.0) p.0, ap suc p.1)

pub fit_back : (r : List Range) (x : List ℕ) → fits r x ≡ true → Fits r (take (length r) x)
unfolding fits
fit_back [] x e = tt
fit_back (r ∷ rs) [] e = never e
fit_back (a ‥ z ∷ rs) (b ∷ x) e = let p = both (leb a b && leb b z) (fits rs x) e in (in_range a z b p.0, fit_back rs x p.1)

-- ---- by the number of octets

module _ (n : ℕ) where
  pub one : n < 0x80 → utf8 n ≡ n ∷ []
  unfolding utf8
  one h = rw (lt-ltb _ _ h)

  pub two : 0x80 ≤ n → n < 0x800 → utf8 n ≡ (0xC0 + n / 64) ∷ (0x80 + n % 64) ∷ []
  unfolding utf8 tail
  two h k = rw (le-ltb _ _ h, lt-ltb _ _ k)

  pub three : 0x800 ≤ n → n < 0x10000 → utf8 n ≡ (0xE0 + n / 4096) ∷ (0x80 + n / 64 % 64) ∷ (0x80 + n % 64) ∷ []
  unfolding utf8 tail
  three h k = rw (le-ltb n 0x80 (omega arith), le-ltb _ _ h, lt-ltb _ _ k)

  pub four : 0x10000 ≤ n → utf8 n ≡ (0xF0 + n / 262144) ∷ (0x80 + n / 4096 % 64) ∷ (0x80 + n / 64 % 64) ∷ (0x80 + n % 64) ∷ []
  unfolding utf8 tail
  four h = rw (le-ltb n 0x80 (omega arith), le-ltb n 0x800 (omega arith), le-ltb _ _ h)

-- what holds of the octets of each number
pub sized : (P : ℕ → List ℕ → Type 0)
    → ((n : ℕ) → n < 0x80 → P n (n ∷ []))
    → ((n : ℕ) → 0x80 ≤ n → n < 0x800 → P n ((0xC0 + n / 64) ∷ (0x80 + n % 64) ∷ []))
    → ((n : ℕ) → 0x800 ≤ n → n < 0x10000 → P n ((0xE0 + n / 4096) ∷ (0x80 + n / 64 % 64) ∷ (0x80 + n % 64) ∷ []))
    → ((n : ℕ) → 0x10000 ≤ n → P n ((0xF0 + n / 262144) ∷ (0x80 + n / 4096 % 64) ∷ (0x80 + n / 64 % 64) ∷ (0x80 + n % 64) ∷ []))
    → (n : ℕ) → P n (utf8 n)
sized P a b c d n =
    case n 0x80 (λ h. rw (one n h) (a n h)) (λ h. case n 0x800 (λ k. rw (two n h k) (b n h k))
    (λ k. case n 0x10000 (λ l. rw (three n k l) (c n k l)) (λ l. rw (four n l) (d n l))))

pub long : (n : ℕ) → 0 < length (utf8 n)
long = sized (λ n o. 0 < length o) (λ n h. omega arith) (λ n h k. omega arith) (λ n h k. omega arith) (λ n h. omega arith)

-- two and three groups of six bits
sixes : (n : ℕ) → (n / 64 / 64 ≡ n / 4096) × (n / 64 / 64 / 64 ≡ n / 262144)
sixes n =
    let a = div-div-eq-div-mul n 64 64 in
    (a, ap (λ (m : ℕ). m / 64) a ∙ div-div-eq-div-mul n 4096 64)

split : (n : ℕ) → n ≡ n / 64 / 64 / 64 * 262144 + n / 64 / 64 % 64 * 4096 + n / 64 % 64 * 64 + n % 64
split n = omega arith

-- the number that one character's octets have the bits of
value : List ℕ → ℕ
value (a ∷ []) = a
value (a ∷ b ∷ []) = (a - 0xC0) * 64 + (b - 0x80)
value (a ∷ b ∷ c ∷ []) = (a - 0xE0) * 4096 + (b - 0x80) * 64 + (c - 0x80)
value (a ∷ b ∷ c ∷ d ∷ o) = (a - 0xF0) * 262144 + (b - 0x80) * 4096 + (c - 0x80) * 64 + (d - 0x80)
value [] = 0

back : (n : ℕ) → value (utf8 n) ≡ n
unfolding value
back =
    sized (λ n o. value o ≡ n)
    (λ n h. refl)
    (λ n h k. omega arith)
    (λ n h k. let s = sixes n in omega arith)
    (λ n h. let s = sixes n in rw (← s.0, ← s.1) (let e = split n in omega arith))

-- ---- every character's octets are seen whole

first_row : (r : List Range) (rs : List (List Range)) (x : List ℕ) → fits r x ≡ true → from_first (r ∷ rs) x ≡ length r + 1
unfolding from_first
first_row r rs x e = rw e

second_row : (q r : List Range) → length q ≡ length r → (x : List ℕ) → fits r x ≡ true → from_first (q ∷ r ∷ []) x ≡ length r + 1
unfolding from_first
second_row q r l x e = told (fits q x) (λ t. rw (t, l)) (λ t. rw (t, e))

module _ (n : ℕ) (y : List ℕ) where
  abbrev Whole : Type 0
  Whole = character (utf8 n ++ y) ≡ length (utf8 n)

  -- the first octet is one from lo to hi, which the table does not tell apart, and the others fit a row r that it may start
  led : (b : ℕ) (o : List ℕ) (lo hi : ℕ) (r : List Range) → utf8 n ≡ b ∷ o → ((x : List ℕ) → fits r x ≡ true → from_first (started_by lo rows) x ≡ length r + 1)
      → alike lo hi rows ≡ true → In (lo ‥ hi) b × Fits r o → Whole
  unfolding character
  led b o lo hi r e s t f =
      let p = fit r o y f.1 in
      rw (e, started b lo hi f.0.0 f.0.1 rows t, s (o ++ y) p.0) (omega (arith, p.1))

  front : IsCharacter n → Whole
  unfolding characters started_by rows alike
  front h =
      among_in characters n h
      ((λ r. led _ _ 0x09 0x0A _ (one n (omega arith)) (first_row _ _) refl (omega arith))
      also (λ r. led _ _ 0x0D 0x0D _ (one n (omega arith)) (first_row _ _) refl (omega arith))
      also (λ r. case n 0x80
      (λ k. led _ _ 0x20 0x7F _ (one n k) (first_row _ _) refl (omega arith))
      (λ k. case n 0x800
      (λ l. led _ _ 0xC2 0xDF _ (two n k l) (first_row _ _) refl (omega arith))
      (λ l. case n 0x1000
      (λ m. led _ _ 0xE0 0xE0 _ (three n l (omega arith)) (first_row _ _) refl (omega arith))
      (λ m. case n 0xD000
      (λ o. led _ _ 0xE1 0xEC _ (three n l (omega arith)) (first_row _ _) refl (omega arith))
      (λ o. led _ _ 0xED 0xED _ (three n l (omega arith)) (first_row _ _) refl (omega arith))))))
      also (λ r. case n 0xF000
      (λ k. led _ _ 0xEE 0xEE _ (three n (omega arith) (omega arith)) (first_row _ _) refl (omega arith))
      (λ k. case n 0xFFC0
      (λ l. led _ _ 0xEF 0xEF _ (three n (omega arith) (omega arith)) (first_row _ _) refl (omega arith))
      (λ l. led _ _ 0xEF 0xEF _ (three n (omega arith) (omega arith)) (second_row _ _ refl) refl (omega arith))))
      also (λ r. case n 0x40000
      (λ l. led _ _ 0xF0 0xF0 _ (four n r.0) (first_row _ _) refl (omega arith))
      (λ l. case n 0x100000
      (λ m. led _ _ 0xF1 0xF3 _ (four n r.0) (first_row _ _) refl (omega arith))
      (λ m. led _ _ 0xF4 0xF4 _ (four n r.0) (first_row _ _) refl (omega arith))))
      also tt)

-- ---- octets that are seen as a character are one's

-- these octets are those of a character
pub record OfOne (o : List ℕ) : Type 0 where
  pub says : ℕ
  pub is : IsCharacter says
  pub octets : o ≡ utf8 says

-- a number by groups of six bits
module _ (n p q : ℕ) (h : q < 64) where
  group : n ≡ p * 64 + q → (n / 64 ≡ p) × (n % 64 ≡ q)
  group e = (omega arith, omega arith)

-- two, three and four octets that hold the bits of n
abbrev Two : ℕ → ℕ → ℕ → Type 0
Two n a b = (0xC2 ≤ a) × (a ≤ 0xDF) × (0x80 ≤ b) × (b ≤ 0xBF) × (n ≡ (a - 0xC0) * 64 + (b - 0x80))

abbrev Three : ℕ → ℕ → ℕ → ℕ → Type 0
Three n a b c = (0x800 ≤ n) × (0xE0 ≤ a) × (a ≤ 0xEF) × (0x80 ≤ b) × (b ≤ 0xBF) × (0x80 ≤ c) × (c ≤ 0xBF) × (n ≡ (a - 0xE0) * 4096 + (b - 0x80) * 64 + (c - 0x80))

abbrev Four : ℕ → ℕ → ℕ → ℕ → ℕ → Type 0
Four n a b c d =
    (0x10000 ≤ n) × (0xF0 ≤ a) × (0x80 ≤ b) × (b ≤ 0xBF) × (0x80 ≤ c) × (c ≤ 0xBF) × (0x80 ≤ d) × (d ≤ 0xBF)
    × (n ≡ (a - 0xF0) * 262144 + (b - 0x80) * 4096 + (c - 0x80) * 64 + (d - 0x80))

-- are its octets
module _ (n : ℕ) where
  made2 : (a b : ℕ) → Two n a b → a ∷ b ∷ [] ≡ utf8 n
  made2 a b h =
      let g = group n (a - 0xC0) (b - 0x80) (omega arith) (omega arith) in
      let x : 0xC0 + n / 64 ≡ a = omega arith in
      let y : 0x80 + n % 64 ≡ b = omega arith in
      sym (two n (omega arith) (omega arith) ∙ rw (x, y))

  made3 : (a b c : ℕ) → Three n a b c → a ∷ b ∷ c ∷ [] ≡ utf8 n
  made3 a b c h =
      let m : ℕ = (a - 0xE0) * 64 + (b - 0x80) in
      let g = group n m (c - 0x80) (omega arith) (omega arith) in
      let f = group m (a - 0xE0) (b - 0x80) (omega arith) refl in
      let s = rw g.0 at (sixes n).0 in
      let x : 0xE0 + n / 4096 ≡ a = omega arith in
      let y : 0x80 + n / 64 % 64 ≡ b = rw g.0 (omega arith) in
      let z : 0x80 + n % 64 ≡ c = omega arith in
      sym (three n (omega arith) (omega arith) ∙ rw (x, y, z))

  made4 : (a b c d : ℕ) → Four n a b c d → a ∷ b ∷ c ∷ d ∷ [] ≡ utf8 n
  made4 a b c d h =
      let m : ℕ = (a - 0xF0) * 64 + (b - 0x80) in
      let p : ℕ = m * 64 + (c - 0x80) in
      let g = group n p (d - 0x80) (omega arith) (omega arith) in
      let f = group p m (c - 0x80) (omega arith) refl in
      let v = group m (a - 0xF0) (b - 0x80) (omega arith) refl in
      let s : n / 4096 ≡ m = sym (rw (g.0, f.0) at (sixes n).0) in
      let t : n / 262144 ≡ a - 0xF0 = sym (rw (g.0, f.0, v.0) at (sixes n).1) in
      let w : 0xF0 + n / 262144 ≡ a = omega arith in
      let x : 0x80 + n / 4096 % 64 ≡ b = rw s (omega arith) in
      let y : 0x80 + n / 64 % 64 ≡ c = rw g.0 (omega arith) in
      let z : 0x80 + n % 64 ≡ d = omega arith in
      sym (four n (omega arith) ∙ rw (w, x, y, z))

-- octets that a row takes are those of a character, of range i
module _ (a : ℕ) where
  abbrev Good : List Range → Type 0
  Good r = (q : List ℕ) → Fits r q → OfOne (a ∷ q)

  module _ (i : ℕ) where
    character_of : (n : ℕ) (o : List ℕ) → InNth i n → o ≡ utf8 n → OfOne o
    character_of n o h e = record { says = n; is = in_among characters i n h; octets = e }

    good1 : InNth i a × (a < 0x80) → Good []
    good1 h [] f = character_of a _ h.0 (sym (one a h.1))
    good1 h (b ∷ q) f = absurd f

    good2 : (r : Range) → ((b n : ℕ) → n ≡ (a - 0xC0) * 64 + (b - 0x80) → In r b → InNth i n × Two n a b) → Good (r ∷ [])
    good2 r h [] f = absurd f
    good2 r h (b ∷ []) f = let p = h b _ refl f.0 in character_of _ _ p.0 (made2 _ a b p.1)
    good2 r h (b ∷ c ∷ q) f = absurd f.1

    good3 : (r s : Range) → ((b c n : ℕ) → n ≡ (a - 0xE0) * 4096 + (b - 0x80) * 64 + (c - 0x80) → In r b → In s c → InNth i n × Three n a b c) → Good (r ∷ s ∷ [])
    good3 r s h [] f = absurd f
    good3 r s h (b ∷ []) f = absurd f.1
    good3 r s h (b ∷ c ∷ []) f = let p = h b c _ refl f.0 f.1.0 in character_of _ _ p.0 (made3 _ a b c p.1)
    good3 r s h (b ∷ c ∷ d ∷ q) f = absurd f.1.1

    good4 : (r s t : Range)
        → ((b c d n : ℕ) → n ≡ (a - 0xF0) * 262144 + (b - 0x80) * 4096 + (c - 0x80) * 64 + (d - 0x80) → In r b → In s c → In t d → InNth i n × Four n a b c d)
        → Good (r ∷ s ∷ t ∷ [])
    good4 r s t h [] f = absurd f
    good4 r s t h (b ∷ []) f = absurd f.1
    good4 r s t h (b ∷ c ∷ []) f = absurd f.1.1
    good4 r s t h (b ∷ c ∷ d ∷ []) f = let p = h b c d _ refl f.0 f.1.0 f.1.1.0 in character_of _ _ p.0 (made4 _ a b c d p.1)
    good4 r s t h (b ∷ c ∷ d ∷ e ∷ q) f = absurd f.1.1.1

  -- of a row whose first range takes a
  abbrev GoodRow : List Range → Type 0
  GoodRow [] = Unit {0}
  GoodRow (r ∷ rs) = In r a → Good rs

  good : All GoodRow rows
  unfolding rows characters
  good =
      (λ r. good1 0 (omega arith))
      also (λ r. good1 1 (omega arith))
      also (λ r. good1 2 (omega arith))
      also (λ r. good2 2 (0x80 ‥ 0xBF) (λ b n e p. omega arith))
      also (λ r. good3 2 (0xA0 ‥ 0xBF) (0x80 ‥ 0xBF) (λ b c n e p q. omega arith))
      also (λ r. good3 2 (0x80 ‥ 0xBF) (0x80 ‥ 0xBF) (λ b c n e p q. omega arith))
      also (λ r. good3 2 (0x80 ‥ 0x9F) (0x80 ‥ 0xBF) (λ b c n e p q. omega arith))
      also (λ r. good3 3 (0x80 ‥ 0xBF) (0x80 ‥ 0xBF) (λ b c n e p q. omega arith))
      also (λ r. good3 3 (0x80 ‥ 0xBE) (0x80 ‥ 0xBF) (λ b c n e p q. omega arith))
      also (λ r. good3 3 (0xBF ‥ 0xBF) (0x80 ‥ 0xBD) (λ b c n e p q. omega arith))
      also (λ r. good4 4 (0x90 ‥ 0xBF) (0x80 ‥ 0xBF) (0x80 ‥ 0xBF) (λ b c d n e p q s. omega arith))
      also (λ r. good4 4 (0x80 ‥ 0xBF) (0x80 ‥ 0xBF) (0x80 ‥ 0xBF) (λ b c d n e p q s. omega arith))
      also (λ r. good4 4 (0x80 ‥ 0x8F) (0x80 ‥ 0xBF) (0x80 ‥ 0xBF) (λ b c d n e p q s. omega arith))
      also tt

  -- the first character that is seen
  seen : (k : ℕ) (x : List ℕ) (rs : List (List Range)) → All GoodRow rs → suc k ≡ from_first (started_by a rs) x → OfOne (a ∷ take k x)
  unfolding from_first started_by
  seen k x [] g e = absurd (omega arith)
  seen k x ([] ∷ rs) g e = seen k x rs g.1 e
  seen k x ((l ‥ h ∷ r) ∷ rs) g e =
      told (leb l a && leb a h)
      (λ t. told (fits r x)
      (λ f.
      let m : suc k ≡ length r + 1 = rw (t, f) at e in
      let n : length r ≡ k = omega arith in
      rw (← n) (g.0 (in_range l h a t) (take (length r) x) (fit_back r x f)))
      (λ f. seen k x rs g.1 (rw (t, f) at e)))
      (λ t. seen k x rs g.1 (rw t at e))

-- ---- the laws

-- the octets of characters pass
passes : (ns : List ℕ) → All IsCharacter ns → is_text (utf8s ns) ≡ true
unfolding utf8s
passes [] h = none_text
passes (n ∷ ns) h =
    let y = utf8s ns in
    (some_character (length (utf8 n)) (utf8 n ++ y) (sym (front n y h.0)) (λ z. let l = long n in omega arith)).1
    ∙ ap is_text (drop-append_seam (utf8 n) y)
    ∙ passes ns h.1

-- what passes, no longer than m, is the octets of characters
passed : (m : ℕ) (x : List ℕ) → length x ≤ m → is_text x ≡ true → IsText x
unfolding utf8s
passed zero [] l e = record { says = []; are = tt; octets = refl }
passed (suc m) [] l e = record { says = []; are = tt; octets = refl }
passed zero (b ∷ x) l e = absurd (omega arith)
passed (suc m) (b ∷ x) l e = go (character (b ∷ x)) refl (λ y. passed m y)
  where
    go : (k : ℕ) → k ≡ character (b ∷ x) → ((y : List ℕ) → length y ≤ m → is_text y ≡ true → IsText y) → IsText (b ∷ x)
    go zero c r = never (sym (no_character b x c) ∙ e)
    go (suc k) c r =
        let s = some_character (suc k) (b ∷ x) c (λ z. omega arith) in
        let o = seen b k x rows (good b) (unfold character in c) in
        let t = r (drop k x) (rw (length-drop k x) (omega arith)) (sym s.1 ∙ e) in
        record { says = o.says ∷ t.says; are = (o.is, t.are); octets = ap (λ y. b ∷ y) (sym (take-append-drop k x)) ∙ ap₂ (λ y z. y ++ z) o.octets t.octets }

pub text_exact : (x : List ℕ) → (is_text x ≡ true) ↔ IsText x
text_exact x = (λ e. passed (length x) x (omega arith) e, λ t. rw t.octets (passes t.says t.are))

some_octets : (n : ℕ) (y : List ℕ) → [] ≡ utf8 n ++ y → ⊥
some_octets n y e = let l = long n in let a = length-append (utf8 n) y in let z = ap length e in omega arith

pub one_list : (ns ms : List ℕ) → All IsCharacter ns → All IsCharacter ms → utf8s ns ≡ utf8s ms → ns ≡ ms
unfolding utf8s
one_list [] [] h k e = refl
one_list [] (m ∷ ms) h k e = absurd (some_octets m _ e)
one_list (n ∷ ns) [] h k e = absurd (some_octets n _ (sym e))
one_list (n ∷ ns) (m ∷ ms) h k e =
    let l : length (utf8 n) ≡ length (utf8 m) = sym (front n _ h.0) ∙ ap character e ∙ front m _ k.0 in
    let o : utf8 n ≡ utf8 m = sym (take-append_seam (utf8 n) _) ∙ ap₂ take l e ∙ take-append_seam (utf8 m) _ in
    let r : utf8s ns ≡ utf8s ms = sym (drop-append_seam (utf8 n) _) ∙ ap₂ drop l e ∙ drop-append_seam (utf8 m) _ in
    ap₂ (λ i is. i ∷ is) (sym (back n) ∙ ap value o ∙ back m) (one_list ns ms h.1 k.1 r)
