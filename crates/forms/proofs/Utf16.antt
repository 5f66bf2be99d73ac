-- UTF-16: its table is exact. What is written is read, and what is read was written.
-- Assumes nothing.
use mathlib.Core.Path.{◌≡◌, refl, sym, ap, ◌∙◌}
use mathlib.Core.Bool.{true}
use mathlib.Core.List.{List, [], ◌∷◌, ◌++◌}
use Prim.Native.Nat.{ℕ, zero, suc, ◌+◌, ◌-◌, ◌*◌, ◌/◌, ◌%◌, ◌≤◌, ◌<◌}
use native.Mathlib.Omega.{arith}
use borrow.Author.Tests.{lt-ltb, le-ltb, ne_eqb}
use lib.Dec.{ltb}
use lib.ListN.{length, get_or, take, drop, take-append-drop}
use Rattle.format.specs.Numbers.{pick}
use Rattle.format.specs.Characters.{Range, ◌‥◌, characters, IsCharacter, All}
use Rattle.format.specs.Forms.{unit, utf16, utf16s}
use Rattle.fields.proofs.Laws.{case}
use Rattle.fields.proofs.Utf8.{never}
use Rattle.fields.proofs.Characters.{◌also◌, In, in_among, among_in, Fits}
use Rattle.forms.specs.Reading.{size, whole, decoded, rows16, value16, is_text16, characters16}
use Rattle.forms.proofs.Rows.{fit2, fit4, size_is, size_some, step}

-- the two surrogates of a character above 0xFFFF
abbrev pub upper : ℕ → ℕ
upper n = 0xD800 + (n - 0x10000) / 1024

abbrev pub lower : ℕ → ℕ
lower n = 0xDC00 + (n - 0x10000) % 1024

module _ (n : ℕ) where
  one : n < 0x10000 → utf16 n ≡ n / 256 ∷ n % 256 ∷ []
  unfolding utf16 unit
  one h = rw (lt-ltb _ _ h)

  two : 0x10000 ≤ n → utf16 n ≡ upper n / 256 ∷ upper n % 256 ∷ lower n / 256 ∷ lower n % 256 ∷ []
  unfolding utf16 unit
  two h = rw (le-ltb _ _ h)

-- what holds of the octets of each character
pub sized : (P : ℕ → List ℕ → Type 0)
    → ((n : ℕ) → n < 0xD800 → P n (n / 256 ∷ n % 256 ∷ []))
    → ((n : ℕ) → 0xE000 ≤ n → n < 0x10000 → P n (n / 256 ∷ n % 256 ∷ []))
    → ((n : ℕ) → 0x10000 ≤ n → n ≤ 0x10FFFF → P n (upper n / 256 ∷ upper n % 256 ∷ lower n / 256 ∷ lower n % 256 ∷ []))
    → (n : ℕ) → IsCharacter n → P n (utf16 n)
unfolding characters
sized P a b c n h =
    among_in characters n h
    ((λ r. rw (one n (omega arith)) (a n (omega arith)))
    also (λ r. rw (one n (omega arith)) (a n (omega arith)))
    also (λ r. rw (one n (omega arith)) (a n (omega arith)))
    also (λ r. rw (one n (omega arith)) (b n (omega arith) (omega arith)))
    also (λ r. rw (two n (omega arith)) (c n (omega arith) (omega arith)))
    also tt)

-- a character's first octet says how many it has
lead : ℕ → ℕ
lead b = pick (ltb b 0xD8) 2 (pick (ltb b 0xE0) 4 2)

leads : (n : ℕ) → IsCharacter n → length (utf16 n) ≡ lead (get_or (utf16 n) 0 0)
unfolding lead
leads =
    sized (λ n o. length o ≡ lead (get_or o 0 0))
    (λ n h. rw (lt-ltb (n / 256) 0xD8 (omega arith)))
    (λ n h k. rw (le-ltb (n / 256) 0xD8 (omega arith), le-ltb (n / 256) 0xE0 (omega arith)))
    (λ n h k. rw (le-ltb (upper n / 256) 0xD8 (omega arith), lt-ltb (upper n / 256) 0xE0 (omega arith)))

pub long : (n : ℕ) → IsCharacter n → 2 ≤ length (utf16 n)
long = sized (λ n o. 2 ≤ length o) (λ n h. omega arith) (λ n h k. omega arith) (λ n h k. omega arith)

back : (n : ℕ) → IsCharacter n → value16 (utf16 n) ≡ n
unfolding value16
back = sized (λ n o. value16 o ≡ n) (λ n h. omega arith) (λ n h k. omega arith) (λ n h k. omega arith)

-- ---- every character's octets fit a row

row : (n : ℕ) → IsCharacter n → (i : ℕ) × Fits (get_or rows16 i []) (utf16 n)
unfolding rows16 characters
row n h =
    among_in characters n h
    ((λ r. (0, rw (one n (omega arith)) (omega arith)))
    also (λ r. (1, rw (one n (omega arith)) (omega arith)))
    also (λ r. case n 0x100 (λ k. (2, rw (one n (omega arith)) (omega arith))) (λ k. (3, rw (one n (omega arith)) (omega arith))))
    also (λ r. case n 0xFF00 (λ k. (4, rw (one n (omega arith)) (omega arith))) (λ k. (5, rw (one n (omega arith)) (omega arith))))
    also (λ r. (6, rw (two n (omega arith)) (omega arith)))
    also tt)

-- ---- octets that fit a row are a character's

abbrev Good : List ℕ → Type 0
Good o = IsCharacter (value16 o) × (utf16 (value16 o) ≡ o)

abbrev any : Range
any = 0x00 ‥ 0xFF

good2 : (i : ℕ) (r s : Range)
    → ((a b n : ℕ) → n ≡ a * 256 + b → In r a → In s b → In (get_or characters i (1 ‥ 0)) n × (n < 0x10000) × (b < 256))
    → (o : List ℕ) → Fits (r ∷ s ∷ []) o → Good o
unfolding value16
good2 i r s p =
    fit2 Good r s any any
    (λ a b h k.
    let n : ℕ = a * 256 + b in
    let q = p a b n refl h k in
    let x : n / 256 ≡ a = omega arith in
    let y : n % 256 ≡ b = omega arith in
    (in_among characters i n q.0, one n q.1 ∙ rw (x, y)))

made4 : (n a b c d : ℕ) → n ≡ 0x10000 + ((a - 0xD8) * 256 + b) * 1024 + ((c - 0xDC) * 256 + d) → In (0xD8 ‥ 0xDB) a → b < 256 → In (0xDC ‥ 0xDF) c → d < 256
    → utf16 n ≡ a ∷ b ∷ c ∷ d ∷ []
made4 n a b c d e h k j i =
    let u : upper n ≡ a * 256 + b = omega arith in
    let l : lower n ≡ c * 256 + d = omega arith in
    let w : (a * 256 + b) / 256 ≡ a = omega arith in
    let x : (a * 256 + b) % 256 ≡ b = omega arith in
    let y : (c * 256 + d) / 256 ≡ c = omega arith in
    let z : (c * 256 + d) % 256 ≡ d = omega arith in
    two n (omega arith) ∙ rw (u, l) (rw (w, x, y, z))

good : All (λ row. (o : List ℕ) → Fits row o → Good o) rows16
unfolding rows16 characters value16
good =
    good2 0 (0x00 ‥ 0x00) (0x09 ‥ 0x0A) (λ a b n e h k. omega arith)
    also good2 1 (0x00 ‥ 0x00) (0x0D ‥ 0x0D) (λ a b n e h k. omega arith)
    also good2 2 (0x00 ‥ 0x00) (0x20 ‥ 0xFF) (λ a b n e h k. omega arith)
    also good2 2 (0x01 ‥ 0xD7) any (λ a b n e h k. omega arith)
    also good2 3 (0xE0 ‥ 0xFE) any (λ a b n e h k. omega arith)
    also good2 3 (0xFF ‥ 0xFF) (0x00 ‥ 0xFD) (λ a b n e h k. omega arith)
    also fit4 Good (0xD8 ‥ 0xDB) any (0xDC ‥ 0xDF) any
    (λ a b c d h k j i. (in_among characters 4 _ (omega arith), made4 _ a b c d refl h (omega arith) j (omega arith)))
    also tt

-- ---- the laws

head_same : (o x : List ℕ) (k : ℕ) → 0 < length o → get_or (take (suc k) (o ++ x)) 0 0 ≡ get_or o 0 0
head_same [] x k h = absurd (omega arith)
head_same (b ∷ o) x k h = refl

-- The character at the front of what is written is seen whole. A row that fits has the octets of some character, and the first octet makes its length that of the one written.
front : (n : ℕ) (x : List ℕ) → IsCharacter n → size rows16 (utf16 n ++ x) ≡ length (utf16 n)
front n x h =
    let l = long n h in
    go (size rows16 (utf16 n ++ x)) refl (let r = row n h in size_some rows16 r.0 (utf16 n) x (unfold rows16 in refl) r.1 (omega arith))
  where
    go : (m : ℕ) → size rows16 (utf16 n ++ x) ≡ m → 0 < size rows16 (utf16 n ++ x) → size rows16 (utf16 n ++ x) ≡ length (utf16 n)
    go zero e p = absurd (omega arith)
    go (suc k) e p =
        let g = size_is Good rows16 (utf16 n ++ x) k e good in
        let o = take (suc k) (utf16 n ++ x) in
        let l : length o ≡ lead (get_or o 0 0) = rw g.0.1 at (leads (value16 o) g.0.0) in
        let m = long n h in
        e ∙ sym g.1 ∙ l ∙ ap lead (head_same (utf16 n) x k (omega arith)) ∙ sym (leads n h)

-- what is written is read
pub reads : (ns : List ℕ) → All IsCharacter ns → (is_text16 (utf16s ns) ≡ true) × (characters16 (utf16s ns) ≡ ns)
unfolding is_text16 characters16 whole decoded utf16s
reads [] h = (refl, refl)
reads (n ∷ ns) h =
    let l = long n h.0 in
    let p = step rows16 value16 (utf16 n) (utf16s ns) (omega arith) (front n _ h.0) in
    let q = reads ns h.1 in
    (p.0 ∙ q.0, rw (p.1, back n h.0, q.1))

-- what is read was written; k octets still belong to the character before
written : (k : ℕ) (x : List ℕ) → whole rows16 k x ≡ true → All IsCharacter (decoded rows16 value16 k x) × (utf16s (decoded rows16 value16 k x) ≡ drop k x)
unfolding whole decoded utf16s
written zero [] e = (tt, refl)
written (suc k) [] e = (tt, refl)
written zero (b ∷ x) e = go (size rows16 (b ∷ x)) refl (λ k. written k x) e
  where
    Back : ℕ → Type 0
    Back k = whole rows16 k x ≡ true → All IsCharacter (decoded rows16 value16 k x) × (utf16s (decoded rows16 value16 k x) ≡ drop k x)

    go : (m : ℕ) → size rows16 (b ∷ x) ≡ m → ((k : ℕ) → Back k) → whole rows16 0 (b ∷ x) ≡ true
        → All IsCharacter (decoded rows16 value16 0 (b ∷ x)) × (utf16s (decoded rows16 value16 0 (b ∷ x)) ≡ b ∷ x)
    go zero s w t = never (rw s at t)
    go (suc k) s w t =
        let g = size_is Good rows16 (b ∷ x) k s good in
        let m : suc k - 1 ≡ k = omega arith in
        let r = w k (rw (s, ne_eqb (suc k) 0 (λ z. omega arith), m) at t) in
        rw (s, m) ((g.0.0, r.0), rw (g.0.1, r.1, take-append-drop k x))
written (suc k) (b ∷ x) e = written k x e

pub writes : (x : List ℕ) → is_text16 x ≡ true → All IsCharacter (characters16 x) × (utf16s (characters16 x) ≡ x)
unfolding is_text16 characters16
writes x e = written 0 x e

-- what comes first in octets that are characters
pub record First (x : List ℕ) : Type 0 where
  pub n : ℕ
  pub y : List ℕ
  pub is : IsCharacter n
  pub octets : x ≡ utf16 n ++ y
  pub rest : is_text16 y ≡ true
  pub says : characters16 x ≡ n ∷ characters16 y

pub first : (x : List ℕ) → is_text16 x ≡ true → 0 < length x → First x
unfolding utf16s
first x e h = let w = writes x e in go (characters16 x) refl w.0 w.1
  where
    go : (ns : List ℕ) → characters16 x ≡ ns → All IsCharacter ns → utf16s ns ≡ x → First x
    go [] d c e = absurd (let l = ap length e in omega arith)
    go (n ∷ ns) d c e =
        let r = reads ns c.1 in
        record { n = n; y = utf16s ns; is = c.0; octets = sym e; rest = r.0; says = d ∙ ap (λ (l : List ℕ). n ∷ l) (sym r.1) }
