-- The rows of the table that an octet starts; the octets of one character; and those of a part, octet by octet and character by character.
-- Assumes nothing.
use Rattle.std.proofs.Common.{◌≡◌, ℕ, zero, suc, ◌+◌, ◌-◌, ◌*◌, ◌<◌, ◌≤◌, Bool, true, false, ◌&&◌, ◌||◌, ltb, leb, List, [], ◌∷◌, ◌++◌, length, get_or, take, drop, sym, refl, ap, ◌∙◌, true≢false, append-nil, add-one, arith, length-drop, take-append-drop, length-take, take_all, drop-cons, get_or-take, get_or-drop, Some, None, ltb-true, le-ltb, ne_eqb, le-leb}
use mathlib.Core.Bool.{and-false, or-true}
use borrow.Author.Tests.{lt-leb}
use lib.Seq.{take-nil}
use Rattle.format.specs.Numbers.{pick}
use Rattle.format.specs.Characters.{Range, ◌‥◌}
use Rattle.format.specs.Tables.{xml_prefix, xml_namespace}
use Rattle.fields.specs.Utf8.{rows, fits, started_by, from_first, character, text_behind, is_text, alone, ranges, each, Holds, by_rows, counted}
use Rattle.fields.specs.WeightContracts.{Plain, Alone}
use Rattle.fields.proofs.Laws.{case}

-- ---- tests

-- by what a test says
pub told : {X : Type 0} (t : Bool) → (t ≡ true → X) → (t ≡ false → X) → X
told true f g = f refl
told false f g = g refl

pub never : {X : Type 0} → false ≡ true → X
never e = absurd (true≢false (sym e))

pub both : (a b : Bool) → (a && b) ≡ true → (a ≡ true) × (b ≡ true)
both true b e = (refl, e)
both false b e = never e

-- ---- rows that fit

fits_long : (r : List Range) (x : List ℕ) → fits r x ≡ true → length r ≤ length x
unfolding fits
fits_long [] x e = omega arith
fits_long (r ∷ rs) [] e = never e
fits_long (a ‥ z ∷ rs) (b ∷ x) e = let l = fits_long rs x (both (leb a b && leb b z) (fits rs x) e).1 in omega arith

first_long : (rs : List (List Range)) (x : List ℕ) → from_first rs x ≤ length x + 1
unfolding from_first
first_long [] x = omega arith
first_long (r ∷ rs) x = told (fits r x) (λ e. let l = fits_long r x e in rw e (omega arith)) (λ e. rw e (first_long rs x))

-- ---- rows of the code's table

length-ranges : (k n : ℕ) (row : List ℕ) → length (ranges k n row) ≡ n
unfolding ranges
length-ranges k zero row = refl
length-ranges k (suc n) row = ap suc (length-ranges (suc k) n row)

-- octet k is tested by range k of n, and those behind it by those behind it
pub range_next : (row x : List ℕ) (k n : ℕ) → k < n → n ≤ length x → fits (ranges k (n - k) row) (drop k x)
    ≡ ((leb (get_or row (2 * k) 0) (get_or x k 0) && leb (get_or x k 0) (get_or row (2 * k + 1) 0)) && fits (ranges (k + 1) (n - (k + 1)) row) (drop (k + 1) x))
unfolding ranges fits
range_next row x k n h l = let m : n - k ≡ suc (n - (k + 1)) = omega arith in let i : k < length x = omega arith in rw (m, drop-cons x k 0 i, add-one k)

pub no_ranges : (row x : List ℕ) (k n : ℕ) → n ≤ k → fits (ranges k (n - k) row) x ≡ true
unfolding ranges fits
no_ranges row x k n h = let m : n - k ≡ 0 = omega arith in rw m

pub no_row : (n : ℕ) (rs : List (List ℕ)) (x : List ℕ) → length x < n → by_rows n rs x ≡ 0
unfolding by_rows
no_row n [] x h = refl
no_row n (row ∷ rs) x h =
    told (fits (ranges 0 n row) x) (λ e. absurd (let l = fits_long _ _ e in omega (arith, length-ranges 0 n row))) (λ e. rw e (no_row n rs x h))

pub row_next : (n : ℕ) (rows : List (List ℕ)) (d : List ℕ) (r : ℕ) (x : List ℕ) → r < length rows
    → by_rows n (drop r rows) x ≡ pick (fits (ranges 0 n (get_or rows r d)) x) n (by_rows n (drop (r + 1) rows) x)
unfolding by_rows
row_next n rows d r x h = rw (drop-cons rows r d h, add-one r)

-- ---- rows that an octet starts

-- the first ranges of these rows tell no octet from lo to hi apart
unfoldable pub alike : ℕ → ℕ → List (List Range) → Bool
alike lo hi [] = true
alike lo hi ([] ∷ rs) = alike lo hi rs
alike lo hi ((a ‥ z ∷ r) ∷ rs) = ((leb a lo || ltb hi a) && (leb hi z || ltb z lo)) && alike lo hi rs

module _ (b lo hi : ℕ) (l : lo ≤ b) (h : b ≤ hi) where
  alike_low : (a : ℕ) → (leb a lo || ltb hi a) ≡ true → leb a b ≡ leb a lo
  alike_low a e =
      case lo a
      (λ k. let m = ltb-true hi a (rw (lt-leb a lo k) at e) in rw (lt-leb a lo k, lt-leb a b (omega arith)))
      (λ k. rw (le-leb a lo k, le-leb a b (omega arith)))

  alike_high : (z : ℕ) → (leb hi z || ltb z lo) ≡ true → leb b z ≡ leb lo z
  alike_high z e =
      case z hi
      (λ k. let m = ltb-true z lo (rw (lt-leb hi z k) at e) in rw (lt-leb b z (omega arith), lt-leb lo z m))
      (λ k. rw (le-leb b z (omega arith), le-leb lo z (omega arith)))

  pub started : (rs : List (List Range)) → alike lo hi rs ≡ true → started_by b rs ≡ started_by lo rs
  unfolding alike started_by
  started [] e = refl
  started ([] ∷ rs) e = started rs e
  started ((a ‥ z ∷ r) ∷ rs) e =
      let p = both ((leb a lo || ltb hi a) && (leb hi z || ltb z lo)) (alike lo hi rs) e in
      let q = both (leb a lo || ltb hi a) (leb hi z || ltb z lo) p.0 in
      rw (alike_low a q.0, alike_high z q.1, started rs p.1)

-- no octet from lo to hi starts one of these rows
unfoldable pub apart : ℕ → ℕ → List (List Range) → Bool
apart lo hi [] = true
apart lo hi ([] ∷ rs) = apart lo hi rs
apart lo hi ((a ‥ z ∷ r) ∷ rs) = (ltb z lo || ltb hi a) && apart lo hi rs

module _ (b lo hi : ℕ) (l : lo ≤ b) (h : b ≤ hi) where
  outside : (a z : ℕ) → (ltb z lo || ltb hi a) ≡ true → (leb a b && leb b z) ≡ false
  outside a z e =
      case z lo
      (λ k. rw (lt-leb b z (omega arith), and-false (leb a b)))
      (λ k. let m = ltb-true hi a (rw (le-ltb z lo k) at e) in rw (lt-leb a b (omega arith)))

  skipped : (rs qs : List (List Range)) → apart lo hi rs ≡ true → started_by b (rs ++ qs) ≡ started_by b qs
  unfolding apart started_by
  skipped [] qs e = refl
  skipped ([] ∷ rs) qs e = skipped rs qs e
  skipped ((a ‥ z ∷ r) ∷ rs) qs e = let p = both (ltb z lo || ltb hi a) (apart lo hi rs) e in rw (outside a z p.0) (skipped rs qs p.1)

  -- between rows that are apart
  between : (ps rs qs : List (List Range)) → apart lo hi ps ≡ true → apart lo hi qs ≡ true → started_by b (ps ++ (rs ++ qs)) ≡ started_by b rs
  unfolding started_by
  between ps rs qs e f = skipped ps (rs ++ qs) e ∙ last rs
    where
      last : (rs : List (List Range)) → started_by b (rs ++ qs) ≡ started_by b rs
      last [] = ap (started_by b) (sym (append-nil qs)) ∙ skipped qs [] f
      last ([] ∷ rs) = last rs
      last ((a ‥ z ∷ r) ∷ rs) = rw (last rs)

-- rows of the code's table, one octet at least
by_each : (n : ℕ) (rs : List (List ℕ)) (b : ℕ) (x : List ℕ) → from_first (started_by b (each (suc n) rs)) x ≡ by_rows (suc n) rs (b ∷ x)
unfolding each ranges started_by from_first by_rows fits
by_each n [] b x = refl
by_each n (row ∷ rs) b x =
    told (leb (get_or row 0 0) b && leb b (get_or row 1 0))
    (λ e. rw (e, length-ranges 1 n row, add-one n, by_each n rs b x))
    (λ e. rw (e, by_each n rs b x))

-- ---- octets that are characters by themselves

-- as the first three rows have them
unfoldable pub single : ℕ → Bool
single b = (leb 0x09 b && leb b 0x0A) || ((leb 0x0D b && leb b 0x0D) || (leb 0x20 b && leb b 0x7F))

singles : (b : ℕ) (rs : List (List Range)) (x : List ℕ)
    → from_first (started_by b ((0x09 ‥ 0x0A ∷ []) ∷ (0x0D ‥ 0x0D ∷ []) ∷ (0x20 ‥ 0x7F ∷ []) ∷ rs)) x ≡ pick (single b) 1 (from_first (started_by b rs) x)
unfolding single started_by from_first fits
singles b rs x =
    told (leb 0x09 b && leb b 0x0A) (λ e. rw e)
    (λ e. told (leb 0x0D b && leb b 0x0D) (λ f. rw (e, f)) (λ f. told (leb 0x20 b && leb b 0x7F) (λ g. rw (e, f, g)) (λ g. rw (e, f, g))))

by_single : (b : ℕ) (x : List ℕ) → character (b ∷ x) ≡ pick (single b) 1 (from_first (started_by b (drop 3 rows)) x)
unfolding character rows
by_single b x = singles b (drop 3 rows) x

-- each row has a second range
unfoldable twos : List (List Range) → Bool
twos [] = true
twos ([] ∷ rs) = false
twos ((r ∷ []) ∷ rs) = false
twos ((r ∷ q ∷ l) ∷ rs) = twos rs

no_second : (b : ℕ) (rs : List (List Range)) → twos rs ≡ true → from_first (started_by b rs) [] ≡ 0
unfolding twos started_by from_first fits
no_second b [] t = refl
no_second b ([] ∷ rs) t = never t
no_second b ((r ∷ []) ∷ rs) t = never t
no_second b ((a ‥ z ∷ q ∷ l) ∷ rs) t = told (leb a b && leb b z) (λ e. rw e (no_second b rs t)) (λ e. rw e (no_second b rs t))

pub alone_single : (b : ℕ) → alone b ≡ single b
unfolding alone
alone_single b = rw (by_single b [], no_second b (drop 3 rows) (unfold twos rows in refl)) (told (single b) (λ e. rw e) (λ e. rw e))

pub alone_plain : (b : ℕ) → 0x20 ≤ b → b ≤ 0x7F → alone b ≡ true
unfolding single
alone_plain b l h =
    let t : (leb 0x20 b && leb b 0x7F) ≡ true = rw (le-leb 0x20 b l, le-leb b 0x7F h) in
    alone_single b ∙ rw (t, or-true (leb 0x0D b && leb b 0x0D)) (or-true (leb 0x09 b && leb b 0x0A))

alone-character : (b : ℕ) (x : List ℕ) → alone b ≡ true → 1 ≡ character (b ∷ x)
alone-character b x e = let s = sym (alone_single b) ∙ e in sym (by_single b x ∙ rw s)

-- ---- one character

character_long : (x : List ℕ) → character x ≤ length x
unfolding character
character_long [] = omega arith
character_long (b ∷ x) = let l = first_long (started_by b rows) x in omega arith

-- what is left of a character that is there is passed over
passed : (n : ℕ) (x : List ℕ) → n ≤ length x → text_behind n x ≡ is_text (drop n x)
unfolding text_behind is_text
passed zero x h = refl
passed (suc n) [] h = absurd (omega arith)
passed (suc n) (b ∷ x) h = passed n x (omega arith)

-- the first character of a text is there and can be passed; where there is none, it is no text
pub some_character : (n : ℕ) (x : List ℕ) → n ≡ character x → (n ≡ 0 → ⊥) → (n ≤ length x) × (is_text x ≡ is_text (drop n x))
unfolding is_text text_behind
some_character zero x e h = absurd (h refl)
some_character (suc n) [] e h = absurd (let l = character_long [] in omega arith)
some_character (suc n) (b ∷ x) e h =
    let l = character_long (b ∷ x) in
    let m : suc n - 1 ≡ n = omega arith in
    (omega arith, rw (← e, ne_eqb (suc n) 0 (λ z. omega arith), m) (passed n x (omega arith)))

pub no_character : (b : ℕ) (x : List ℕ) → 0 ≡ character (b ∷ x) → is_text (b ∷ x) ≡ false
unfolding is_text text_behind
no_character b x e = rw (← e)

-- its first octet is one from lo to hi, with which the rows of the table from `first` to before `end` start, and no others
pub by_group : (x : List ℕ) → 0 < length x → (t : List (List ℕ)) (n first end lo hi : ℕ) → Holds t (suc n) first end → apart lo hi (take first rows) ≡ true
    → apart lo hi (drop (end - first) (drop first rows)) ≡ true → lo ≤ get_or x 0 0 → get_or x 0 0 ≤ hi → by_rows (suc n) (take (end - first) (drop first t)) x ≡ character x
unfolding character Holds
by_group [] h t n first end lo hi k f g p q = absurd (omega arith)
by_group (b ∷ x) h t n first end lo hi k f g p q =
    let ps = take first rows in
    let rs = take (end - first) (drop first rows) in
    let qs = drop (end - first) (drop first rows) in
    let w : ps ++ (rs ++ qs) ≡ rows = ap (λ l. ps ++ l) (take-append-drop (end - first) (drop first rows)) ∙ take-append-drop first rows in
    let o : started_by b rows ≡ started_by b rs = ap (started_by b) (sym w) ∙ between b lo hi p q ps rs qs f g in
    rw (o, ← k, by_each n (take (end - first) (drop first t)) b x)

-- ---- text, character by character

-- what the code found of the first character
module _ (x : List ℕ) where
  pub text_next : (n : ℕ) → Some n ≡ counted (character x) → (1 ≤ n) × (n ≤ length x) × (is_text x ≡ is_text (take (length x - n) (drop n x)))
  text_next n e = of (character x) refl e
    where
      of : (m : ℕ) → m ≡ character x → Some n ≡ counted m → (1 ≤ n) × (n ≤ length x) × (is_text x ≡ is_text (take (length x - n) (drop n x)))
      of zero f g = cc
      of (suc m) f g =
          let h : suc m ≡ n = cc in
          let c = some_character (suc m) x f (λ z. omega arith) in
          let t : take (length x - n) (drop n x) ≡ drop n x = take_all (length x - n) (drop n x) (omega (arith, length-drop n x)) in
          rw t (rw (← h) (omega arith, c.0, c.1))

  pub text_none : 0 < length x → None ≡ counted (character x) → is_text x ≡ false
  text_none h e = of x h (character x) refl e
    where
      of : (x : List ℕ) → 0 < length x → (m : ℕ) → m ≡ character x → None ≡ counted m → is_text x ≡ false
      of [] h m f g = absurd (omega arith)
      of (b ∷ x) h zero f g = no_character b x f
      of (b ∷ x) h (suc m) f g = cc

-- no octets
pub none_text : is_text [] ≡ true
unfolding is_text text_behind
none_text = refl

-- each octet is a character by itself
pub alone_text : (x : List ℕ) → Alone x → is_text x ≡ true
alone_text [] f = none_text
alone_text (b ∷ x) f = (some_character 1 (b ∷ x) (alone-character b x (f 0 (omega arith))) (λ z. omega arith)).1 ∙ alone_text x (λ j h. f (suc j) (omega arith))

pub plain_text : (x : List ℕ) (from to : ℕ) → to ≤ length x → Plain x from to → true ≡ is_text (take (to - from) (drop from x))
plain_text x from to l f =
    sym (alone_text (take (to - from) (drop from x)) (λ j h.
    let k : j < to - from = omega (arith, length-take (to - from) (drop from x)) in
    let p = f (from + j) (omega arith) (omega arith) in
    rw (get_or-take (to - from) (drop from x) j 0 k, get_or-drop from x j 0) (alone_plain (get_or x (from + j) 0) p.0 p.1)))

pub drop-take : (n m : ℕ) (l : List ℕ) → drop n (take m l) ≡ take (m - n) (drop n l)
drop-take zero m l = let e : m - 0 ≡ m = omega arith in rw e
drop-take (suc n) zero l = let e : 0 - suc n ≡ 0 = omega arith in rw e
drop-take (suc n) (suc m) [] = sym (take-nil (suc m - suc n))
drop-take (suc n) (suc m) (x ∷ xs) = let e : suc m - suc n ≡ m - n = omega arith in rw e (drop-take n m xs)

-- ---- strings that are always there
pub built_in_texts : (is_text xml_prefix ≡ true) × (is_text xml_namespace ≡ true)
unfolding xml_prefix xml_namespace is_text text_behind character from_first started_by fits rows
built_in_texts = (refl, refl)
