-- The laws of the stream, one for each `return`.
-- Assumes nothing.
use mathlib.Core.Path.{◌≡◌, refl, sym, ap, ◌∙◌, subst}
use mathlib.Core.Bool.{true, false}
use mathlib.Core.List.{List, [], ◌∷◌, ◌++◌}
use Prim.Native.Nat.{ℕ, zero, suc, ◌+◌, ◌-◌, ◌*◌, ◌/◌, ◌%◌, ◌^◌, ◌≤◌, ◌<◌}
use borrow.Author.Tests.{lt-ltb, le-ltb, ltb-true, ltb-false}
use lib.Dec.{ltb}
use native.Mathlib.Omega.{arith}
use lib.IntN.{ℤ}
use lib.ListN.{length, get_or, take, drop, length-take, length-drop}
use lib.Seq.{drop-cons, drop-drop, take-take}
use native.Mathlib.Numerals.{add-one}
use Rattle.std.specs.Prelude.{Some}
use Rattle.std.specs.Iterator.{MakesProgress, item_count}
use Rattle.std.proofs.lemmas.List.{drop_all}
use Rattle.format.specs.Numbers.{pick}
use Rattle.format.specs.Characters.{IsCharacter, utf8, utf8s}
use Rattle.format.specs.Integers.{figures, decimal, joined, list_text}
use Rattle.format.specs.Forms.{utf16, numeric, dates, at_places, width}
use Rattle.format.specs.declared.StringForm.{StringForm}
use Rattle.format.specs.declared.StringForm.TheVariants.{Utf8, Utf16, Numeric, Dates, Short, Int, Long}
use Rattle.fields.proofs.Utf8.{told, drop-take}
use Rattle.decimal.specs.Reading.{integer_of, integers_of, said_in}
use Rattle.decimal.specs.Texts as T
use Rattle.decimal.specs.declared.printing.Text.{Text}
use Rattle.forms.specs.declared.Said.{Said}
use Rattle.forms.specs.Reading.{decoded, is_text16, characters16, places_of, said}
use Rattle.forms.specs.Packing.{alphabet}
use Rattle.forms.specs.Streams.{part, plain, letters, with_digits, ahead, listed, Sound, Rest, Fine, Idle, Waits, Gives}
use Rattle.forms.proofs.Utf16 as U
use Rattle.forms.proofs.Utf16.{upper, lower}
use Rattle.forms.proofs.Alphabets as A
use Rattle.forms.proofs.Lists as L
use Rattle.forms.proofs.Forms.{IsAlphabet, by_integers, sound_said, sound_rest, sound_most}

-- ---- a part of a slice

module _ (s : List ℕ) (at to : ℕ) (h : to ≤ length s) where
  pub part_length : length (part s at to) ≡ to - at
  part_length = rw (length-take, length-drop) (omega arith)

pub part_none : (s : List ℕ) (at to : ℕ) → to ≤ at → part s at to ≡ []
part_none s at to h = let e : to - at ≡ 0 = omega arith in rw e

pub part_cons : (s : List ℕ) (at to : ℕ) → at < to → to ≤ length s → part s at to ≡ get_or s at 0 ∷ part s (at + 1) to
part_cons s at to h k =
    let l : at < length s = omega arith in
    let m : to - at ≡ suc (to - (at + 1)) = omega arith in
    rw (m, drop-cons s at 0 l, add-one at)

pub part-drop : (s : List ℕ) (at to n : ℕ) → drop n (part s at to) ≡ part s (at + n) to
part-drop s at to n = let e : to - at - n ≡ to - (at + n) = omega arith in drop-take n (to - at) (drop at s) ∙ rw (drop-drop n at s, e)

-- a list from a place on
module _ (x : List ℕ) (i : ℕ) where
  pub drop_next : i < length x → drop i x ≡ get_or x i 0 ∷ drop (i + 1) x
  drop_next h = rw (add-one i) (drop-cons x i 0 h)

  pub drop_end : length x ≤ i → drop i x ≡ []
  drop_end h = drop_all i x h

more_there : (s : List ℕ) (at to : ℕ) → to ≤ length s → ltb 0 (length (part s at to)) ≡ ltb at to
more_there s at to h =
    let n = part_length s at to h in
    told (ltb at to) (λ t. let l = ltb-true at to t in lt-ltb 0 (length (part s at to)) (omega arith) ∙ sym t) (λ t. let l = ltb-false at to t in le-ltb 0 (length (part s at to)) (omega arith) ∙ sym t)

-- ---- the first character of UTF-16

abbrev unit_at : List ℕ → ℕ → ℕ
unit_at s at = get_or s at 0 * 256 + get_or s (at + 1) 0

-- the character n is seen, in two octets or four, and y behind it
pub data Seen (s : List ℕ) (at to n : ℕ) (y : List ℕ) : Type 0 where
  single : at + 2 ≤ to → unit_at s at ≡ n → part s (at + 2) to ≡ y → n < 0xD800 → Seen s at to n y
  other : at + 2 ≤ to → unit_at s at ≡ n → part s (at + 2) to ≡ y → 0xE000 ≤ n → n < 0x10000 → Seen s at to n y
  double : at + 4 ≤ to → unit_at s at ≡ upper n → unit_at s (at + 2) ≡ lower n → part s (at + 4) to ≡ y → 0x10000 ≤ n → n ≤ 0x10FFFF → Seen s at to n y

module _ (s : List ℕ) (to : ℕ) (h : to ≤ length s) (at : ℕ) where
  part_2 : at + 2 ≤ to → part s at to ≡ get_or s at 0 ∷ get_or s (at + 1) 0 ∷ part s (at + 2) to
  part_2 l =
      let i : at + 1 + 1 ≡ at + 2 = omega arith in
      part_cons s at to (omega arith) h ∙ ap (λ (x : List ℕ). get_or s at 0 ∷ x) (part_cons s (at + 1) to (omega arith) h ∙ rw i)

module _ (s : List ℕ) (at to : ℕ) (h : to ≤ length s) where
  seen : (n : ℕ) (y : List ℕ) → IsCharacter n → part s at to ≡ utf16 n ++ y → Seen s at to n y
  seen n y c =
      U.sized (λ n o. part s at to ≡ o ++ y → Seen s at to n y)
      (λ n k e. let t = two n e in single t.0 t.1 t.2 k)
      (λ n k l e. let t = two n e in other t.0 t.1 t.2 k l)
      four n c
    where
      two : (n : ℕ) → part s at to ≡ n / 256 ∷ n % 256 ∷ y → (at + 2 ≤ to) × (unit_at s at ≡ n) × (part s (at + 2) to ≡ y)
      two n e =
          let l = rw (part_length s at to h) at (ap length e) in
          let p = sym (part_2 s to h at (omega arith)) ∙ e in
          let a = ap (λ (x : List ℕ). get_or x 0 0) p in
          let b = ap (λ (x : List ℕ). get_or x 1 0) p in
          (omega arith, rw (a, b) (omega arith), ap (drop 2) p)

      four : (n : ℕ) → 0x10000 ≤ n → n ≤ 0x10FFFF → part s at to ≡ upper n / 256 ∷ upper n % 256 ∷ lower n / 256 ∷ lower n % 256 ∷ y → Seen s at to n y
      four n k j e =
          let l = rw (part_length s at to h) at (ap length e) in
          let i : at + 2 + 2 ≡ at + 4 = omega arith in
          let p = sym (part_2 s to h at (omega arith)) ∙ e in
          let a = ap (λ (x : List ℕ). get_or x 0 0) p in
          let b = ap (λ (x : List ℕ). get_or x 1 0) p in
          let q = sym (part_2 s to h (at + 2) (omega arith)) ∙ ap (drop 2) p in
          let c = ap (λ (x : List ℕ). get_or x 0 0) q in
          let d = ap (λ (x : List ℕ). get_or x 1 0) q in
          double (omega arith) (rw (a, b) (omega arith)) (rw (c, d) (omega arith)) (rw i at (ap (drop 2) q)) k j

-- what the code finds by its tests, u and v being the first two units
module _ (s : List ℕ) (at to n : ℕ) (y : List ℕ) where
  unit_there : Seen s at to n y → at + 1 < to
  unit_there (single a b c d) = omega arith
  unit_there (other a b c d e) = omega arith
  unit_there (double a b c d e f) = omega arith

  one_unit : Seen s at to n y → (unit_at s at < 0xD800 → unit_at s at ≡ n) × (0xE000 ≤ unit_at s at → unit_at s at ≡ n)
  one_unit (single a b c d) = (λ h. b, λ h. b)
  one_unit (other a b c d e) = (λ h. b, λ h. b)
  one_unit (double a b c d e f) = (λ h. absurd (omega arith), λ h. absurd (omega arith))

  two_units : Seen s at to n y → 0xD800 ≤ unit_at s at → unit_at s at < 0xE000
      → (at + 3 < to) × (0xDC00 ≤ unit_at s (at + 2)) × (0x10000 + (unit_at s at - 0xD800) * 1024 + (unit_at s (at + 2) - 0xDC00) ≡ n)
  two_units (single a b c d) h k = absurd (omega arith)
  two_units (other a b c d e) h k = absurd (omega arith)
  two_units (double a b c d e f) h k = (omega arith, omega arith, omega arith)

  behind : Seen s at to n y → (n < 0x110000) × (n < 0x10000 → (at + 2 ≤ to) × (part s (at + 2) to ≡ y)) × (0x10000 ≤ n → (at + 4 ≤ to) × (part s (at + 4) to ≡ y))
  behind (single a b c d) = (omega arith, λ h. (a, c), λ h. absurd (omega arith))
  behind (other a b c d e) = (omega arith, λ h. (a, c), λ h. absurd (omega arith))
  behind (double a b c d e f) = (omega arith, λ h. absurd (omega arith), λ h. (a, d))

module _ (s : List ℕ) (at to : ℕ) (l : at < to) (h : to ≤ length s) (t : is_text16 (part s at to) ≡ true) where
  abbrev front : ℕ
  front = get_or (characters16 (part s at to)) 0 0

  record Front : Type 0 where
    pub y : List ℕ
    pub seen : Seen s at to front y
    pub rest : is_text16 y ≡ true
    pub says : plain Utf16 (part s at to) ≡ utf8 front ++ plain Utf16 y

  in_front : Front
  unfolding utf8s
  in_front =
      let f = U.first (part s at to) t (rw (part_length s at to h) (omega arith)) in
      let e : front ≡ f.n = rw f.says in
      record {
        y = f.y;
        seen = rw e (seen s at to h f.n f.y f.is f.octets);
        rest = f.rest;
        says = rw f.says;
      }

  pub there16 : at + 1 < to
  there16 = unit_there s at to front _ in_front.seen

  pub one16 : (u : ℕ) → u ≡ unit_at s at → (u < 0xD800 → u ≡ front) × (0xE000 ≤ u → u ≡ front)
  one16 u e = rw e (one_unit s at to front _ in_front.seen)

  pub two16 : (u : ℕ) → u ≡ unit_at s at → 0xD800 ≤ u → u < 0xE000
      → (at + 3 < to) × (0xDC00 ≤ unit_at s (at + 2)) × (0x10000 + (u - 0xD800) * 1024 + (unit_at s (at + 2) - 0xDC00) ≡ front)
  two16 u e = rw e (two_units s at to front _ in_front.seen)

  abbrev Behind : ℕ → Type 0
  Behind k = (at + k ≤ to) × (is_text16 (part s (at + k) to) ≡ true) × (plain Utf16 (part s at to) ≡ utf8 front ++ plain Utf16 (part s (at + k) to))

  pub behind16 : (front < 0x110000) × (front < 0x10000 → Behind 2) × (0x10000 ≤ front → Behind 4)
  behind16 =
      let f = in_front in
      let b = behind s at to front f.y f.seen in
      (b.0, (λ h. let c = b.1 h in rw c.1 (c.0, f.rest, f.says)), (λ h. let c = b.2 h in rw c.1 (c.0, f.rest, f.says)))

-- ---- one step

plain_nil : (f : StringForm) → plain f [] ≡ []
unfolding utf8s characters16 decoded at_places places_of said_in integers_of list_text joined
plain_nil Utf8 = refl
plain_nil Utf16 = refl
plain_nil Numeric = refl
plain_nil Dates = refl
plain_nil Short = refl
plain_nil Int = refl
plain_nil Long = refl

-- the octets that a step reads: the first is given, the others wait
module _ (u : Said) (i : Idle u) (at : ℕ) (h : at ≤ u.to) (l : u.to ≤ length u.s.now) (r : Rest u.form (part u.s.now at u.to)) (os : List ℕ)
    (e : plain u.form (part u.s.now u.at u.to) ≡ os ++ plain u.form (part u.s.now at u.to)) where
  pub gives : (o : ℕ) (v : Said) → Waits (record u { at = at }) os o v → Gives u o v
  unfolding ahead with_digits
  gives o v w = subst (λ (x : Said). Gives u o x) (sym w.2) (said, record { sound = h; there = l; few = w.1; digits = let z = i.1 in omega arith; rest = r })
    where
      said : ahead u ≡ o ∷ ahead (record u { at = at; left = v.left; a = v.a; b = v.b; c = v.c })
      said = rw (i.0, i.1) (e ∙ ap (λ (x : List ℕ). x ++ plain u.form (part u.s.now at u.to)) w.0)

queue : (k a b c : ℕ) → 0 < k → k ≤ 3 → take k (a ∷ b ∷ c ∷ []) ≡ a ∷ take (k - 1) (b ∷ c ∷ 0 ∷ [])
queue zero a b c h l = absurd (omega arith)
queue (suc zero) a b c h l = refl
queue (suc (suc zero)) a b c h l = refl
queue (suc (suc (suc zero))) a b c h l = refl
queue (suc (suc (suc (suc k)))) a b c h l = absurd (omega arith)

abbrev figure : ℕ → ℕ → ℕ
figure n k = 0x30 + n / 10 ^ k % 10

module _ (u : Said) (f : Fine u) where
  pub gives_waiting : 0 < u.left → Gives u u.a (record u { left = u.left - 1; a = u.b; b = u.c; c = 0 })
  unfolding ahead
  gives_waiting h = (
    rw (queue u.left u.a u.b u.c h f.few),
    record { sound = f.sound; there = f.there; few = let l = f.few in omega arith; digits = f.digits; rest = f.rest },
  )

  module _ (z : u.left ≡ 0) where
    -- a digit: after the last one a space waits, where there is more
    module _ (k : ℕ) (e : u.count ≡ suc k) where
      fine : (left a b c : ℕ) → left ≤ 3 → Fine (record u { count = k; left = left; a = a; b = b; c = c })
      fine left a b c l = record { sound = f.sound; there = f.there; few = l; digits = let d = f.digits in omega arith; rest = f.rest }

      pub digit_last : k ≡ 0 → u.at < u.to → Gives u (figure u.number k) (record u { count = k; left = 1; a = 0x20; b = 0; c = 0 })
      unfolding ahead with_digits figures
      digit_last j h = (rw (z, e, j, lt-ltb u.at u.to h), fine 1 0x20 0 0 (omega arith))

      pub digit_end : k ≡ 0 → u.to ≤ u.at → Gives u (figure u.number k) (record u { count = k })
      unfolding ahead with_digits figures
      digit_end j h = (rw (z, e, j, le-ltb u.at u.to h), fine u.left u.a u.b u.c (omega arith))

      pub digit_more : 0 < k → Gives u (figure u.number k) (record u { count = k })
      unfolding ahead with_digits figures
      digit_more j = go k refl j
        where
          go : (m : ℕ) → k ≡ m → 0 < m → Gives u (figure u.number k) (record u { count = k })
          go zero q j = absurd (omega arith)
          go (suc m) q j = (rw (z, e, q), fine u.left u.a u.b u.c (omega arith))

    module _ (k : u.count ≡ 0) where
      pub gives_done : u.to ≤ u.at → ahead u ≡ []
      unfolding ahead with_digits
      gives_done h = let e : u.to - u.at ≡ 0 = omega arith in rw (z, k, e) (plain_nil u.form)

-- ---- letters

module _ (as' : List ℕ) (o high : ℕ) (h : high ≡ get_or as' (o / 16) 0) (u : Said) (z : u.left ≡ 0) where
  pub letters_1 : 15 ≤ o % 16 → Waits u (letters as' o) high u
  unfolding letters
  letters_1 k = (rw (le-ltb _ _ k, h, z), omega arith, refl)

  pub letters_2 : (low : ℕ) → o % 16 < 15 → low ≡ get_or as' (o % 16) 0 → Waits u (letters as' o) high (record u { left = 1; a = low; b = 0; c = 0 })
  unfolding letters
  letters_2 low k e = (rw (lt-ltb _ _ k, h, e), omega arith, refl)

lettered : (f : StringForm) (o : ℕ) (x : List ℕ) → IsAlphabet f → Rest f (o ∷ x) → (o < 240) × Rest f x × (plain f (o ∷ x) ≡ letters (alphabet f) o ++ plain f x)
lettered Utf8 o x l r = absurd l
lettered Utf16 o x l r = absurd l
lettered Numeric o x l r = A.next_letters numeric A.is_numeric o x r
lettered Dates o x l r = A.next_letters dates A.is_dates o x r
lettered Short o x l r = absurd l
lettered Int o x l r = absurd l
lettered Long o x l r = absurd l

-- ---- the steps that read

module _ (u : Said) (f : Fine u) (i : Idle u) (l : u.at < u.to) where
  pub gives_utf8 : u.form ≡ Utf8 → Gives u (get_or u.s.now u.at 0) (record u { at = u.at + 1 })
  gives_utf8 q =
      gives u i (u.at + 1) (omega arith) f.there (subst (λ (g : StringForm). Rest g (part u.s.now (u.at + 1) u.to)) (sym q) tt) (get_or u.s.now u.at 0 ∷ [])
      (rw q (part_cons u.s.now u.at u.to l f.there)) _ _ (rw i.0, omega arith, refl)

  module _ (q : u.form ≡ Utf16) where
    abbrev front16 : ℕ
    front16 = get_or (characters16 (part u.s.now u.at u.to)) 0 0

    pub text16 : is_text16 (part u.s.now u.at u.to) ≡ true
    text16 = subst (λ (g : StringForm). Rest g (part u.s.now u.at u.to)) q f.rest

    step16 : (k : ℕ) → Behind u.s.now u.at u.to l f.there text16 k → (o : ℕ) (v : Said) → Waits (record u { at = u.at + k }) (utf8 front16) o v → Gives u o v
    step16 k b =
        gives u i (u.at + k) b.0 f.there (subst (λ (g : StringForm). Rest g (part u.s.now (u.at + k) u.to)) (sym q) b.1) (utf8 front16)
        (subst (λ (g : StringForm). plain g (part u.s.now u.at u.to) ≡ utf8 front16 ++ plain g (part u.s.now (u.at + k) u.to)) (sym q) b.2)

    module _ (n : ℕ) (e : n ≡ front16) where
      pub in_range16 : n < 0x110000
      in_range16 = rw e (behind16 u.s.now u.at u.to l f.there text16).0

      module _ (o : ℕ) (v : Said) where
        pub gives_short : n < 0x10000 → Waits (record u { at = u.at + 2 }) (utf8 n) o v → Gives u o v
        gives_short j w = step16 2 ((behind16 u.s.now u.at u.to l f.there text16).1 (rw e at j)) o v (rw e at w)

        pub gives_long : 0x10000 ≤ n → Waits (record u { at = u.at + 4 }) (utf8 n) o v → Gives u o v
        gives_long j w = step16 4 ((behind16 u.s.now u.at u.to l f.there text16).2 (rw e at j)) o v (rw e at w)

  module _ (q : IsAlphabet u.form) where
    abbrev octet : ℕ
    octet = get_or u.s.now u.at 0

    step_letters : (octet < 240) × Rest u.form (part u.s.now (u.at + 1) u.to) × (plain u.form (part u.s.now u.at u.to) ≡ letters (alphabet u.form) octet ++ plain u.form (part u.s.now (u.at + 1) u.to))
    step_letters =
        let p = part_cons u.s.now u.at u.to l f.there in
        let t = lettered u.form octet (part u.s.now (u.at + 1) u.to) q (subst (λ (x : List ℕ). Rest u.form x) p f.rest) in
        (t.0, t.1, ap (plain u.form) p ∙ t.2)

    pub letters_there : octet < 240
    letters_there = step_letters.0

    pub gives_letters : (o : ℕ) (v : Said) → Waits (record u { at = u.at + 1 }) (letters (alphabet u.form) octet) o v → Gives u o v
    gives_letters = let t = step_letters in gives u i (u.at + 1) (omega arith) f.there t.1 (letters (alphabet u.form) octet) t.2

  module _ (q : 0 < width u.form) where
    abbrev unread : List ℕ
    unread = part u.s.now u.at u.to

    abbrev next : ℕ
    next = u.at + width u.form

    abbrev rest : List ℕ
    rest = part u.s.now next u.to

    -- the integer that comes first, and what is behind it
    step_integer : L.Next (width u.form) q unread (rw (part_length u.s.now u.at u.to f.there) (omega arith)) (by_integers (λ f. Rest f unread → length unread % width f ≡ 0) (λ r. r) (λ r. r) (λ r. r) u.form q f.rest)
    step_integer = L.next (width u.form) q unread _ _

    pub integer_there : u.at + width u.form ≤ u.to
    integer_there = let n = part_length u.s.now u.at u.to f.there in let w = step_integer.there in omega arith

    abbrev integer : ℤ
    integer = integer_of (width u.form) (take (width u.form) (drop u.at u.s.now))

    rest_is : rest ≡ drop (width u.form) unread
    rest_is = sym (part-drop u.s.now u.at u.to (width u.form))

    pub rest_there : Rest u.form rest
    rest_there = by_integers (λ f. (x : List ℕ) → length x % width f ≡ 0 → Rest f x) (λ x e. e) (λ x e. e) (λ x e. e) u.form q rest (rw rest_is step_integer.whole)

    pub integer_fine : Fine (record u { at = next })
    integer_fine = record { sound = integer_there; there = f.there; few = f.few; digits = f.digits; rest = rest_there }

    as_integers : (x : List ℕ) → plain u.form x ≡ said_in (width u.form) x
    as_integers = by_integers (λ f. (x : List ℕ) → plain f x ≡ said_in (width f) x) (λ x. refl) (λ x. refl) (λ x. refl) u.form q

    said-integer : plain u.form unread ≡ decimal integer ++ pick (ltb next u.to) (0x20 ∷ plain u.form rest) (plain u.form rest)
    said-integer =
        let f' : take (width u.form) unread ≡ take (width u.form) (drop u.at u.s.now) = take-take (width u.form) (u.to - u.at) (drop u.at u.s.now) (let i = integer_there in omega arith) in
        rw (as_integers unread, as_integers rest, ← more_there u.s.now next u.to f.there, rest_is, ← f') step_integer.said

    module _ (t : Text) (e : T.left t ≡ decimal integer) where
      pub text_some : 1 ≤ t.count
      text_some = L.text_digits t integer e

      pub gives_text : (o : ℕ) (v : Said) → (T.left t ++ listed (record u { at = next }) ≡ o ∷ ahead v) × Fine v → Gives u o v
      unfolding ahead with_digits
      gives_text o v g = (rw (i.0, i.1) (said-integer ∙ rw e at g.0), g.1)

-- ---- an integer's text
module _ (u : Said) (t : Text) where
  abbrev digits-left : Said
  digits-left = record u { number = t.number; count = t.count }

  pub digits_fine : Fine u → t.count ≤ 20 → Fine digits-left
  digits_fine f g = record { sound = f.sound; there = f.there; few = f.few; digits = g; rest = f.rest }

module _ (u : Said) (z : u.left ≡ 0) (t : Text) (some : 1 ≤ t.count) where
  digits-ahead : ahead (digits-left u t) ≡ figures 10 0x30 t.count t.number ++ listed u
  unfolding ahead with_digits
  digits-ahead = rw z (go t.count some)
    where
      go : (k : ℕ) → 1 ≤ k → with_digits k t.number (ltb u.at u.to) (plain u.form (part u.s.now u.at u.to)) ≡ figures 10 0x30 k t.number ++ listed u
      go zero k = absurd (omega arith)
      go (suc k) l = refl

  module _ (f : Fine u) (g : t.count ≤ 20) where
    pub text_minus : t.minus ≡ true → (T.left t ++ listed u ≡ 0x2D ∷ ahead (digits-left u t)) × Fine (digits-left u t)
    unfolding T.left
    text_minus m = (rw (m, digits-ahead), digits_fine u t f g)

    pub text_digit : t.minus ≡ false → (o : ℕ) (v : Said) → Gives (digits-left u t) o v → (T.left t ++ listed u ≡ o ∷ ahead v) × Fine v
    unfolding T.left
    text_digit m o v g = (rw m (sym digits-ahead ∙ g.0), g.1)

-- ---- what a step gave: there is less ahead
pub progress : (u v : Said) (o : ℕ) → Gives u o v → MakesProgress Fine (item_count ahead) u (Some o) v
progress u v o g = record { on = λ t. (g.1, tt, rw g.0 (omega arith)); keeps = g.1; rests = λ t. tt }

-- ---- a whole string
pub over : (u : Said) → Idle u → u.at ≤ u.to → u.to ≤ length u.s.now → Sound u.form (part u.s.now u.at u.to) → Fine u × (said u.form (part u.s.now u.at u.to) ≡ ahead u)
unfolding ahead with_digits
over u i h l e =
    (record { sound = h; there = l; few = let z = i.0 in omega arith; digits = let z = i.1 in omega arith; rest = sound_rest u.form (part u.s.now u.at u.to) e }, rw (i.0, i.1) (sound_said u.form (part u.s.now u.at u.to) e))

pub bounded : (s : List ℕ) (f : StringForm) (at to : ℕ) → to ≤ length s → Sound f (part s at to) → length (said f (part s at to)) ≤ 4 * (to - at)
bounded s f at to l e = rw (part_length s at to l) at (sound_most f (part s at to) e)
