-- A number or a length, from its place on: what is read is what is written, and what is written is read.
use mathlib.Core.Path.{◌≡◌, refl, sym, ap, ap₂, ◌∙◌, subst}
use mathlib.Core.List.{List, [], ◌∷◌, ◌++◌}
use Prim.Native.Nat.{ℕ, suc, ◌+◌, ◌-◌, ◌*◌, ◌%◌, ◌^◌, ◌≤◌, ◌<◌}
use native.Mathlib.Omega.{arith}
use lib.Dec.{ltb, leb}
use lib.ListN.{length, get_or, take, drop, length-append, length-drop, take-append-drop}
use lib.Seq.{drop-cons, length-take-le}
use Rattle.format.specs.Octets.{Octets}
use Rattle.std.specs.Prelude.{Result, Ok as Num, Err as NoNum}
use Rattle.format.specs.Refusals.{refusal_number}
use Rattle.format.specs.declared.refusals.Fault.{Fault as NumFault}
use Rattle.format.specs.declared.refusals.Refusal.TheVariants.{Truncated, Padding, Range}
use Rattle.fields.specs.declared.Read.{Read}
use Rattle.fields.specs.Fields as F
use Rattle.format.specs.Numbers.{Form, spell, sizes}
use Rattle.fields.specs.Fields.{value_from, behind, Share, share, read_in, field_at}
use Rattle.fields.proofs.Laws.{spell_in, accepted}
use Rattle.fields.proofs.Forms.{shares, rooms, Ordered, sizes_are, spell_is}
use Rattle.fields.proofs.RoundTrip.{some_first, first-within, field_write}
use Rattle.theorems.proofs.Lists.{Fault, fault, test, test_lt, either, drop_add, drop_head}

pub record NumRead (s : Octets) (fs : List Form) (top base k n next : ℕ) : Type 0 where
  pub v : ℕ
  pub is : n ≡ suc v
  pub small : v < sizes fs
  pub under : n ≤ top
  pub here : drop k s ≡ spell fs base n ++ drop next s
  pub next_is : next ≡ k + length (spell fs base n)
  pub inside : next ≤ length s

-- what is told of a number and the place behind it; or the refusal is a fault of the document
abbrev pub Told : Octets → (ℕ → ℕ → Type 0) → Result (Read ℕ) NumFault → Type 0
Told s Q (Num r) = Q r.value r.next.at
Told s Q (NoNum f) = Fault s (refusal_number f.refusal) f.at

abbrev pub NumOk : Octets → List Form → ℕ → ℕ → ℕ → Result (Read ℕ) NumFault → Type 0
NumOk s fs top base k a = Told s (NumRead s fs top base k) a

-- whatever a number is refused for, it is at its place
abbrev Refusable : Octets → Result (Read ℕ) NumFault → Type 0
Refusable s (Num r) = Unit {0}
Refusable s (NoNum f) = Fault s (refusal_number f.refusal) f.at

behind_refusable : (s : Octets) (at x more low size top : ℕ) → at ≤ length s → Refusable s (behind s at x more low size top)
unfolding behind
behind_refusable s at x more low size top h =
    test (Refusable s) (F.refused Truncated at) (fault s 2 at refl h) (ltb (at + more) (length s)) _
    λ t1. test (Refusable s) (F.refused Padding at) (fault s 6 at refl h) (ltb (value_from s (at + 1) x more) size) _
    λ t2. test (Refusable s) (F.refused Range at) (fault s 7 at refl h) (leb (low + value_from s (at + 1) x more) top) _ λ t3. tt

read_refusable : (fs : List Share) (s : Octets) (top low at b : ℕ) → at ≤ length s → Refusable s (read_in fs top low s at b)
unfolding read_in
read_refusable [] s top low at b h = fault s 5 at refl h
read_refusable (share room more size ∷ fs) s top low at b h =
    either (Refusable s) (ltb (b * 256 ^ more) size) _ _ (λ t. behind_refusable s at b more low size top h)
    (λ t. either (Refusable s) (ltb b room) _ _ (λ u. fault s 6 at refl h) (λ u. read_refusable fs s top (low + size) at (b - room) h))

module _ (s : Octets) (bytes : (i : ℕ) → get_or s i 0 < 256) where
  -- `base` is what stands before the field in its first octet
  read_sound : (fs : List Form) → Ordered fs → (top base k b : ℕ) → k < length s → get_or s k 0 ≡ base + b → (a : Result (Read ℕ) NumFault) → read_in (shares fs) top 1 s k b ≡ a → NumOk s fs top base k a
  read_sound fs ok top base k b h z (NoNum f) e = subst (Refusable s) e (read_refusable (shares fs) s top 1 k b (omega arith))
  read_sound fs ok top base k b h z (Num r) e =
      let n : ℕ = r.value in
      let a = accepted (shares fs) top 1 base s k b r bytes e in
      let one : k + 1 ≡ suc k = omega arith in
      let m : ℕ = a.m in
      let i : n ≡ suc a.v = omega arith in
      let before : n - 1 ≡ a.v = omega arith in
      let w : spell fs base n ≡ get_or s k 0 ∷ take m (drop (suc k) s) = spell_is fs base n ok (omega arith) ∙ ap (λ (x : ℕ). spell_in (shares fs) base x) before ∙ a.written ∙ ap₂ (λ (x y : ℕ). x ∷ take m (drop y s)) (sym z) one in
      let nx : r.next.at ≡ suc k + m = omega arith in
      let lt : length (take m (drop (suc k) s)) ≡ m = length-take-le m (drop (suc k) s) (let q = length-drop (suc k) s in omega arith) in
      record {
        v = a.v;
        is = i;
        small = let z = sizes_are fs in omega arith;
        under = a.under;
        here =
            drop-cons s k 0 h
            ∙ ap (λ (l : Octets). get_or s k 0 ∷ l) (sym (take-append-drop m (drop (suc k) s)) ∙ ap (λ (l : Octets). take m (drop (suc k) s) ++ l) (drop_add s (suc k) m ∙ ap (λ (x : ℕ). drop x s) (sym nx)))
            ∙ ap (λ (l : Octets). l ++ drop r.next.at s) (sym w);
        next_is = let q = ap length w in omega arith;
        inside = omega arith;
      }

  pub num_sound : (fs : List Form) → Ordered fs → (top bit base k : ℕ) → k ≤ length s → get_or s k 0 ≡ base + get_or s k 0 % 2 ^ (9 - bit) → NumOk s fs top base k (field_at fs top bit s k)
  unfolding field_at
  num_sound fs ok top bit base k kl z =
      test_lt (NumOk s fs top base k) (F.refused Truncated k) (fault s 2 k refl kl) k (length s) _
      λ h. read_sound fs ok top base k (get_or s k 0 % 2 ^ (9 - bit)) h z (read_in (shares fs) top 1 s k (get_or s k 0 % 2 ^ (9 - bit))) refl

pub num_complete : (s : Octets) (fs : List Form) (top bit lead base n k : ℕ) (t : Octets) → Ordered fs → rooms fs ≤ 2 ^ (9 - bit) → 1 ≤ n → n ≤ sizes fs → n ≤ top → base ≡ lead * 2 ^ (9 - bit)
    → drop k s ≡ spell fs base n ++ t → field_at fs top bit s k ≡ F.got n (k + length (spell fs base n))
num_complete s fs top bit lead base n k t ok r p h u bl d =
    let w : Octets = spell fs base n in
    let some = some_first fs base n ok p h in
    let l1 = length-append w t in
    let l2 = length-drop k s in
    let l3 = ap length d in
    let lt : length (take k s) ≡ k = length-take-le k s (omega arith) in
    let e : s ≡ take k s ++ (w ++ t) = sym (take-append-drop k s) ∙ ap (λ (l : Octets). take k s ++ l) d in
    let q : field_at fs top bit (take k s ++ (w ++ t)) (length (take k s)) ≡ F.got n (length (take k s) + length w) = rw bl (field_write fs top bit lead n (take k s) t ok r p h u) in
    ap₂ (λ (l : Octets) (x : ℕ). field_at fs top bit l x) e (sym lt) ∙ q ∙ ap (λ (y : ℕ). F.got n (y + length w)) lt

-- the first octet
pub num_first : (s : Octets) (fs : List Form) (base n k : ℕ) (t : Octets) → Ordered fs → 1 ≤ n → n ≤ sizes fs → drop k s ≡ spell fs base n ++ t
    → (base ≤ get_or s k 0) × (get_or s k 0 < base + rooms fs) × (k < length s)
num_first s fs base n k t ok p h d = go (spell fs base n) refl
  where
    go : (w : Octets) → spell fs base n ≡ w → (base ≤ get_or s k 0) × (get_or s k 0 < base + rooms fs) × (k < length s)
    go [] e = absurd (let q = some_first fs base n ok p h in let z = ap length e in omega arith)
    go (o ∷ w) e =
        let a = drop_head s k o (w ++ t) (d ∙ ap (λ (l : Octets). l ++ t) e) in
        let x = first-within fs base n ok p h in
        let z : get_or (spell fs base n) 0 0 ≡ o = ap (λ (l : Octets). get_or l 0 0) e in
        (omega arith, omega arith, a.0)
