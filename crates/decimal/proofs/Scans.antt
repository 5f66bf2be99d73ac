-- The machine on a text: what it finds is the least width whose shape the text has, and the octets that it writes are those of the text's integers.
-- Assumes nothing.
use mathlib.Core.Path.{◌≡◌, refl, sym, ap, ◌∙◌}
use mathlib.Core.Bool.{Bool, true, false, ◌&&◌, and-true, and-false}
use mathlib.Core.List.{List, [], ◌∷◌, ◌++◌, append-nil}
use mathlib.Core.Option.{Option as Maybe, none, some}
use Prim.Native.Nat.{ℕ, suc, ◌+◌, ◌≤◌, ◌<◌, max}
use native.Mathlib.Omega.{arith}
use borrow.Author.Tests.{lt-leb, le-leb, lt-ltb, le-ltb, ne_eqb, leb-true, leb-false}
use lib.Dec.{leb, ltb, eqb}
use lib.IntN.{ℤ}
use lib.ListN.{length}
use lib.Signed.{mag}
use Rattle.std.specs.Prelude.{Option, Some, None}
use Rattle.format.specs.Octets.{Octets}
use Rattle.format.specs.Numbers.{pick}
use Rattle.format.specs.Characters.{All}
use Rattle.format.specs.Integers.{half, Held, octets_of, all_octets}
use Rattle.fields.proofs.Laws.{case}
use Rattle.fields.proofs.Utf8.{told}
use Rattle.decimal.specs.Words.{parse, longer, words, word_count, both, parse_all, parse_list, all_held, held_in, shape, integers_in}
use Rattle.decimal.specs.Machine.{stepped, stepped_by, ended, integers, width_of, more, starting, found, scanned, scanned_by, counted, least_in, by_words, ended_octets, written, held_by, fitting}
use Rattle.decimal.specs.declared.scanning.Word.{Word}
use Rattle.decimal.specs.declared.scanning.Word.TheVariants.{Empty}
use Rattle.decimal.specs.declared.scanning.Integers.{Integers}
use Rattle.decimal.specs.declared.scanning.Scan.{Scan}
use Rattle.decimal.proofs.Texts.{words_some, both_some}
use Rattle.decimal.proofs.Shapes.{half_grows, shape_integers, integers_shape}
use Rattle.decimal.proofs.Machine.{within, ended_by, word_is}

-- ---- a text by its words

found_in : Option Integers → List Octets → Option Integers
found_in f [] = f
found_in f (y ∷ ys) = found_in (more f (ended_by Empty y)) ys

-- the first word goes on where the scan stands
found_from : Scan → List Octets → Option Integers
found_from s [] = found s
found_from s (y ∷ ys) = found_in (more s.before (ended_by s.word y)) ys

from_start : (f : Option Integers) (ys : List Octets) → 0 < length ys → found_from (record { word = Empty; before = f }) ys ≡ found_in f ys
unfolding found_from found_in
from_start f [] h = absurd (omega arith)
from_start f (y ∷ ys) h = refl

from_longer : (s : Scan) (o : ℕ) (ys : List Octets) → found_from s (longer o ys) ≡ found_from (record { word = stepped s.word o; before = s.before }) ys
unfolding found_from found_in longer stepped_by found
from_longer s o [] = refl
from_longer s o (y ∷ ys) = refl

scan_words : (s : Scan) (x : Octets) → found (scanned_by s x) ≡ found_from s (words x)
unfolding scanned_by words
scan_words s [] = unfold found_from found_in found stepped_by in refl
scan_words s (o ∷ x) =
    told (eqb o 0x20)
    (λ t. scan_words (scanned s o) x ∙ (unfold scanned words in rw t (from_start (found s) (words x) (words_some x) ∙ unfold found_from found stepped_by in refl)))
    (λ t. scan_words (scanned s o) x ∙ (unfold scanned words in rw t (sym (from_longer s o (words x)))))

-- ---- the least width: 2, 4 or 8; 16 where a word is no integer of eight octets

data Rung : ℕ → Type 0 where
  two : Rung 2
  four : Rung 4
  eight : Rung 8
  sixteen : Rung 16

needed : Maybe ℤ → ℕ
needed none = 16
needed (some z) = pick (ltb (mag z) (half 8)) (width_of z) 16

needed_all : List Octets → ℕ
needed_all [] = 2
needed_all (y ∷ ys) = max (needed (parse y)) (needed_all ys)

-- by how large an integer is
sized : {X : Type 0} (z : ℤ) → (mag z < half 2 → X) → (half 2 ≤ mag z → mag z < half 4 → X) → (half 4 ≤ mag z → mag z < half 8 → X) → (half 8 ≤ mag z → X) → X
sized z a b c d = case (mag z) (half 2) a (λ h. case (mag z) (half 4) (b h) (λ k. case (mag z) (half 8) (c k) d))

halves_grow : (half 2 < half 4) × (half 4 < half 8)
unfolding half
halves_grow = (omega arith, omega arith)

module _ (z : ℤ) where
  needed_short : mag z < half 2 → needed (some z) ≡ 2
  unfolding needed width_of
  needed_short h = let g = halves_grow in let a = g.0 in let b = g.1 in rw (lt-ltb (mag z) (half 8) (omega arith), lt-ltb (mag z) (half 2) h)

  needed_int : half 2 ≤ mag z → mag z < half 4 → needed (some z) ≡ 4
  unfolding needed width_of
  needed_int k h = let b = halves_grow.1 in rw (lt-ltb (mag z) (half 8) (omega arith), le-ltb (mag z) (half 2) k, lt-ltb (mag z) (half 4) h)

  needed_long : half 4 ≤ mag z → mag z < half 8 → needed (some z) ≡ 8
  unfolding needed width_of
  needed_long k h = let b = halves_grow.0 in rw (lt-ltb (mag z) (half 8) h, le-ltb (mag z) (half 2) (omega arith), le-ltb (mag z) (half 4) k)

  needed_more : half 8 ≤ mag z → needed (some z) ≡ 16
  unfolding needed
  needed_more k = rw (le-ltb (mag z) (half 8) k)

needed_rung : (r : Maybe ℤ) → Rung (needed r)
needed_rung none = unfold needed in sixteen
needed_rung (some z) =
    sized z (λ h. rw (needed_short z h) two) (λ k h. rw (needed_int z k h) four) (λ k h. rw (needed_long z k h) eight) (λ k. rw (needed_more z k) sixteen)

rung_max : {a b : ℕ} → Rung a → Rung b → Rung (max a b)
rung_max {a} {b} r s =
    case a b
    (λ l. let e : max a b ≡ b = omega arith in rw e s)
    (λ l. let e : max a b ≡ a = omega arith in rw e r)

all_rung : (ys : List Octets) → Rung (needed_all ys)
unfolding needed_all
all_rung [] = two
all_rung (y ∷ ys) = rung_max (needed_rung (parse y)) (all_rung ys)

-- ---- what is found, by the width that is needed

width-most : (z : ℤ) → width_of z ≤ 8
unfolding width_of
width-most z = told (ltb (mag z) (half 2)) (λ t. rw t (omega arith)) (λ t. rw t (told (ltb (mag z) (half 4)) (λ u. rw u (omega arith)) (λ u. rw u (omega arith))))

more_needed : (k w : ℕ) (r : Maybe ℤ) → more (integers k w) (within r) ≡ pick (leb (needed r) 8) (integers (k + 1) (max w (needed r))) None
unfolding more within needed
more_needed k w none = refl
more_needed k w (some z) = told (ltb (mag z) (half 8)) (λ t. rw (t, le-leb (width_of z) 8 (width-most z))) (λ t. rw t)

none_in : (ys : List Octets) → found_in None ys ≡ None
unfolding found_in more
none_in [] = refl
none_in (y ∷ ys) = none_in ys

-- a width more that is at most 8
leb_max : (a b : ℕ) → a ≤ 8 → leb (max a b) 8 ≡ leb b 8
leb_max a b h = case 8 b (λ l. lt-leb (max a b) 8 (omega arith) ∙ sym (lt-leb b 8 l)) (λ l. le-leb (max a b) 8 (omega arith) ∙ sym (le-leb b 8 l))

found_in_lem : (k w : ℕ) (ys : List Octets) → 2 ≤ w → found_in (integers k w) ys ≡ pick (leb (needed_all ys) 8) (integers (k + length ys) (max w (needed_all ys))) None
unfolding found_in needed_all
found_in_lem k w [] h = let a : k + 0 ≡ k = omega arith in let b : max w 2 ≡ w = omega arith in rw (a, b)
found_in_lem k w (y ∷ ys) h =
    let n : ℕ = needed (parse y) in
    let m : ℕ = needed_all ys in
    ap (λ f. found_in f ys) (ap (more (integers k w)) (word_is y) ∙ more_needed k w (parse y))
    ∙ told (leb n 8)
    (λ t.
    let a : k + 1 + length ys ≡ k + suc (length ys) = omega arith in
    let b : max (max w n) m ≡ max w (max n m) = omega arith in
    rw (t, leb_max n m (leb-true n 8 t)) (found_in_lem (k + 1) (max w n) ys (omega arith) ∙ rw (a, b)))
    (λ t. let l : 8 < n = leb-false n 8 t in rw (t, lt-leb (max n m) 8 (omega arith)) (none_in ys))

-- ---- the shapes, by the width that is needed

holds : (w : ℕ) → Maybe ℤ → Bool
holds w none = false
holds w (some z) = ltb (mag z) (half w)

held_more : (w : ℕ) (y : Octets) (ys : List Octets) → held_in w (parse_all (y ∷ ys)) ≡ (holds w (parse y) && held_in w (parse_all ys))
unfolding parse_all
held_more w y ys = of (parse y) (parse_all ys)
  where
    of : (r : Maybe ℤ) (rs : Maybe (List ℤ)) → held_in w (both r rs) ≡ (holds w r && held_in w rs)
    of none rs = unfold both held_in holds in refl
    of (some z) none = unfold both held_in holds in sym (and-false (ltb (mag z) (half w)))
    of (some z) (some zs) = unfold both held_in holds all_held in refl

leb_both : (a b w : ℕ) → leb (max a b) w ≡ (leb a w && leb b w)
leb_both a b w =
    case w a
    (λ l. lt-leb (max a b) w (omega arith) ∙ ap (λ t. t && leb b w) (sym (lt-leb a w l)))
    (λ l. rw (le-leb a w l) (case w b
    (λ k. lt-leb (max a b) w (omega arith) ∙ sym (lt-leb b w k))
    (λ k. le-leb (max a b) w (omega arith) ∙ sym (le-leb b w k))))

-- no rung stands between two
rung_steps : {w : ℕ} → Rung w → (2 ≤ w) × (w < 4 → w ≤ 2) × (w < 8 → w ≤ 4) × (w < 16 → w ≤ 8)
rung_steps two = (omega arith, λ h. omega arith, λ h. omega arith, λ h. omega arith)
rung_steps four = (omega arith, λ h. omega arith, λ h. omega arith, λ h. omega arith)
rung_steps eight = (omega arith, λ h. omega arith, λ h. omega arith, λ h. omega arith)
rung_steps sixteen = (omega arith, λ h. omega arith, λ h. omega arith, λ h. omega arith)

module _ (w : ℕ) (rung : Rung w) (most : w ≤ 8) where
  compared : (z : ℤ) (n : ℕ) → needed (some z) ≡ n → (n ≤ w → mag z < half w) → (w < n → half w ≤ mag z) → holds w (some z) ≡ leb (needed (some z)) w
  unfolding holds
  compared z n e f g =
      rw e (case w n
      (λ h. le-ltb (mag z) (half w) (g h) ∙ sym (lt-leb n w h))
      (λ h. lt-ltb (mag z) (half w) (f h) ∙ sym (le-leb n w h)))

  -- w octets hold just the integers that need no more
  each : (r : Maybe ℤ) → holds w r ≡ leb (needed r) w
  each none = unfold holds needed in sym (lt-leb 16 w (omega arith))
  each (some z) =
      let b = rung_steps rung in
      let l = b.0 in
      sized z
      (λ h. compared z 2 (needed_short z h) (λ i. let p = half_grows 2 w i in omega arith) (λ i. absurd (omega arith)))
      (λ k h. compared z 4 (needed_int z k h) (λ i. let p = half_grows 4 w i in omega arith) (λ i. let p = half_grows w 2 (b.1 i) in omega arith))
      (λ k h. compared z 8 (needed_long z k h) (λ i. let p = half_grows 8 w i in omega arith) (λ i. let p = half_grows w 4 (b.2 i) in omega arith))
      (λ k. compared z 16 (needed_more z k) (λ i. absurd (omega arith)) (λ i. let p = half_grows w 8 (b.3 i) in omega arith))

  held_needed : (ys : List Octets) → held_in w (parse_all ys) ≡ leb (needed_all ys) w
  unfolding needed_all
  held_needed [] = unfold parse_all held_in all_held in sym (le-leb 2 w (rung_steps rung).0)
  held_needed (y ∷ ys) = held_more w y ys ∙ rw (each (parse y), held_needed ys) (sym (leb_both (needed (parse y)) (needed_all ys) w))

  shape_needed : (x : Octets) → shape w x ≡ leb (needed_all (words x)) w
  unfolding shape parse_list
  shape_needed x = held_needed (words x)

-- ---- the law

least_rung : {w : ℕ} (k : ℕ) → Rung w
    → pick (leb w 8) (integers k (max 2 w)) None ≡ pick (leb w 2) (integers k 2) (pick (leb w 4) (integers k 4) (pick (leb w 8) (integers k 8) None))
least_rung k two = refl
least_rung k four = refl
least_rung k eight = refl
least_rung k sixteen = refl

pub scan_finds : (x : Octets) → found (scanned_by starting x) ≡ least_in x
unfolding starting least_in word_count
scan_finds x =
    let ys = words x in
    scan_words _ x
    ∙ from_start (integers 0 2) ys (words_some x)
    ∙ found_in_lem 0 2 ys (omega arith)
    ∙ rw (shape_needed 2 two (omega arith) x, shape_needed 4 four (omega arith) x, shape_needed 8 eight (omega arith) x)
    (let e : 0 + length ys ≡ length ys = omega arith in rw e (least_rung (length ys) (all_rung ys)))

-- as many integers as words at most, so that counting them leaves no type
pub counted_step : (s : Scan) (o : ℕ) → counted (scanned s o).before ≤ counted s.before + 1
unfolding scanned found more
counted_step s o = told (eqb o 0x20) (λ t. rw t (counted-more s.before (ended s.word))) (λ t. rw t (omega arith))
  where
    counted-more : (f : Option Integers) (e : Option ℤ) → counted (more f e) ≤ counted f + 1
    counted-more (Some i) (Some z) = omega arith
    counted-more (Some i) None = omega arith
    counted-more None e = omega arith

-- ---- octets, word by word

module _ {A : Type 0} (join : A → A → A) (f : Option ℤ → A) where
  over_words : Word → List Octets → A
  over_words u [] = f (ended u)
  over_words u (y ∷ []) = f (ended_by u y)
  over_words u (y ∷ z ∷ ys) = join (f (ended_by u y)) (over_words Empty (z ∷ ys))

  over_space : (u : Word) (ys : List Octets) → 0 < length ys → over_words u ([] ∷ ys) ≡ join (f (ended u)) (over_words Empty ys)
  unfolding over_words stepped_by
  over_space u [] h = absurd (omega arith)
  over_space u (y ∷ ys) h = refl

  over_longer : (u : Word) (o : ℕ) (ys : List Octets) → over_words u (longer o ys) ≡ over_words (stepped u o) ys
  unfolding over_words stepped_by longer
  over_longer u o [] = refl
  over_longer u o (y ∷ []) = refl
  over_longer u o (y ∷ z ∷ ys) = refl

  by_words_lem : (u : Word) (x : Octets) → by_words join f u x ≡ over_words u (words x)
  unfolding by_words words
  by_words_lem u [] = unfold over_words stepped_by in refl
  by_words_lem u (o ∷ x) =
      told (eqb o 0x20)
      (λ t. rw (by_words, words, t) (ap (join (f (ended u))) (by_words_lem Empty x) ∙ sym (over_space u (words x) (words_some x))))
      (λ t. rw (by_words, words, t) (by_words_lem (stepped u o) x ∙ sym (over_longer u o (words x))))

-- ---- a text of a width's shape

module _ (w : ℕ) (most : w ≤ 8) where
  held_within : (r : Maybe ℤ) → held_by w (within r) ≡ holds w r
  unfolding held_by within holds
  held_within none = refl
  held_within (some z) =
      case (mag z) (half 8)
      (λ h. rw (lt-ltb (mag z) (half 8) h))
      (λ h. let g = half_grows w 8 most in rw (le-ltb (mag z) (half 8) h, le-ltb (mag z) (half w) (omega arith)))

  held_word : (y : Octets) → held_by w (ended_by Empty y) ≡ holds w (parse y)
  held_word y = ap (held_by w) (word_is y) ∙ held_within (parse y)

  fitting_all : (ys : List Octets) → 0 < length ys → over_words ◌&&◌ (held_by w) Empty ys ≡ held_in w (parse_all ys)
  unfolding over_words
  fitting_all [] h = absurd (omega arith)
  fitting_all (y ∷ []) h = held_word y ∙ sym (held_more w y [] ∙ (unfold parse_all held_in all_held in and-true (holds w (parse y))))
  fitting_all (y ∷ z ∷ ys) h = rw (held_word y, fitting_all (z ∷ ys) (omega arith)) (sym (held_more w y (z ∷ ys)))

  pub fitting_is : (x : Octets) → fitting w Empty x ≡ shape w x
  unfolding fitting shape parse_list
  fitting_is x = by_words_lem ◌&&◌ (held_by w) Empty x ∙ fitting_all (words x) (words_some x)

  word_octets : (y : Octets) (z : ℤ) → parse y ≡ some z → Held w z → ended_octets w (ended_by Empty y) ≡ octets_of w z
  unfolding ended_octets within
  word_octets y z e h = let g = half_grows w 8 most in rw (word_is y, e, lt-ltb (mag z) (half 8) (omega arith))

  more-octets : (z : ℤ) (zs : List ℤ) {os : Octets} → os ≡ all_octets w zs → octets_of w z ++ os ≡ all_octets w (z ∷ zs)
  unfolding all_octets
  more-octets z zs e = ap (λ l. octets_of w z ++ l) e

  nothing : (zs : List ℤ) → parse_all [] ≡ some zs → [] ≡ all_octets w zs
  unfolding parse_all all_octets
  nothing zs e = let f : [] ≡ zs = cc in ap (all_octets w) f

  written_all : (ys : List Octets) (zs : List ℤ) → 0 < length ys → parse_all ys ≡ some zs → All (Held w) zs → over_words ◌++◌ (ended_octets w) Empty ys ≡ all_octets w zs
  unfolding over_words
  written_all [] zs h e a = absurd (omega arith)
  written_all (y ∷ []) zs h e a =
      let b = both_some (parse y) (parse_all []) zs (unfold parse_all in e) in
      let held : All (Held w) (b.0 ∷ b.1) = rw b.4 at a in
      word_octets y b.0 b.2 held.0 ∙ sym (append-nil (octets_of w b.0)) ∙ more-octets b.0 b.1 (nothing b.1 b.3) ∙ ap (all_octets w) (sym b.4)
  written_all (y ∷ z ∷ ys) zs h e a =
      let b = both_some (parse y) (parse_all (z ∷ ys)) zs (unfold parse_all in e) in
      let held : All (Held w) (b.0 ∷ b.1) = rw b.4 at a in
      ap (λ l. l ++ over_words ◌++◌ (ended_octets w) Empty (z ∷ ys)) (word_octets y b.0 b.2 held.0)
      ∙ ap (λ l. octets_of w b.0 ++ l) (written_all (z ∷ ys) b.1 (omega arith) b.3 held.1)
      ∙ more-octets b.0 b.1 refl
      ∙ ap (all_octets w) (sym b.4)

  pub written_is : (x : Octets) → shape w x ≡ true → written w Empty x ≡ integers_in w x
  unfolding written
  written_is x e =
      let i = shape_integers w x e in
      by_words_lem ◌++◌ (ended_octets w) Empty x
      ∙ written_all (words x) i.0 (words_some x) (unfold parse_list in i.1) i.2
      ∙ sym (integers_shape w x i.0 i.1 i.2).1

-- ---- the steps of a loop that writes

module _ (w : ℕ) (u : Word) where
  pub at_end : (fitting w u [] ≡ held_by w (ended u)) × (written w u [] ≡ ended_octets w (ended u))
  unfolding fitting written by_words
  at_end = (refl, refl)

  module _ (o : ℕ) (x : Octets) where
    pub at_space : o ≡ 0x20 → (fitting w u (o ∷ x) ≡ (held_by w (ended u) && fitting w Empty x)) × (written w u (o ∷ x) ≡ ended_octets w (ended u) ++ written w Empty x)
    unfolding fitting written
    at_space e = rw e (unfold by_words in (refl, refl))

    pub at_octet : (o ≡ 0x20 → ⊥) → (fitting w u (o ∷ x) ≡ fitting w (stepped u o) x) × (written w u (o ∷ x) ≡ written w (stepped u o) x)
    unfolding fitting written
    at_octet n = (by_octet ◌&&◌ (held_by w), by_octet ◌++◌ (ended_octets w))
      where
        by_octet : {A : Type 0} (join : A → A → A) (f : Option ℤ → A) → by_words join f u (o ∷ x) ≡ by_words join f (stepped u o) x
        by_octet join f = unfold by_words in rw (by_words, ne_eqb o 0x20 n)
