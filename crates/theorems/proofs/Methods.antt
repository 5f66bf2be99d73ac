-- The length of a string in an alphabet or by an algorithm, in the second octet of its field (C.29, then C.23 or C.24). The tests of it have an order of their own, and the first of them is of the whole field; yet
-- what they pass is what any length there is read as, and every length there passes.
use mathlib.Core.Path.{◌≡◌, refl, sym, ap, ◌∙◌, subst}
use mathlib.Core.Bool.{true, false}
use mathlib.Core.List.{List, ◌∷◌}
use Prim.Native.Nat.{ℕ, zero, suc, ◌+◌, ◌-◌, ◌*◌, ◌/◌, ◌%◌, ◌^◌, ◌≤◌, ◌<◌}
use native.Mathlib.Nat.{add-mul, mul-le-mul_right, div-add-mod', div-eq_of_lt-le, mod-lt}
use native.Mathlib.Decide.{ℕ_discrete}
use native.Mathlib.Omega.{arith}
use borrow.Author.Tests.{lt-ltb, le-ltb, le-leb, ltb-true, leb-true, eq-eqb, ne_eqb}
use lib.Dec.{eqb, ltb, leb}
use lib.ListN.{length, get_or, take, drop}
use lib.Pow.{pow_pos, pow_mono}
use Rattle.format.specs.Octets.{Octets, AreOctets}
use Rattle.format.specs.Numbers.{lengths}
use Rattle.std.specs.Prelude.{Result, Ok as Num, Err as NoNum}
use Rattle.format.specs.declared.refusals.Fault.{Fault as NumFault}
use Rattle.format.specs.declared.refusals.Refusal.{Refusal}
use Rattle.format.specs.declared.refusals.Refusal.TheVariants.{Truncated, Padding, Range, Format}
use Rattle.fields.specs.declared.Read.{Read}
use Rattle.fields.specs.Fields as F
use Rattle.fields.specs.Fields.{value_from, behind, Share, share, field_at, no_top}
use Rattle.fields.proofs.Laws.{case, sizes_in, rooms_in, Roomy}
use Rattle.fields.proofs.Cases.{behind_got, field_form, field_padding}
use Rattle.fields.proofs.FirstOctet.{doubled}
use Rattle.fields.proofs.Lengths.{length_shares, lengths_are, lengths_ordered}
use Rattle.fields.proofs.Bounds.{field_got}
use Rattle.read_names.specs.Strings.{method_at, is_read, method_behind, method_length}
use Rattle.tables.proofs.Found.{both_true}
use Rattle.theorems.proofs.Lists.{fault, test, test_le}
use Rattle.theorems.proofs.Numbers.{NumRead, NumOk, Told, num_sound}

-- ---- the bits of an octet before and behind the one where a length starts, as powers of 2
pub record Powers (bit : ℕ) : Type 0 where
  pub two : 2 ^ (8 - bit) ≡ 2 * 2 ^ (7 - bit)
  pub four : 2 ^ (9 - bit) ≡ 4 * 2 ^ (7 - bit)
  pub some : 1 ≤ 2 ^ (7 - bit)
  pub few : 2 ^ (7 - bit) ≤ 32
  pub before : 5 ≤ 2 ^ (bit - 1)

pub powers : (bit : ℕ) → 5 ≤ bit → bit ≤ 7 → Powers bit
powers bit l u =
    let a = doubled (8 - bit) (7 - bit) (omega arith) in
    let b = doubled (9 - bit) (8 - bit) (omega arith) in
    record { two = a; four = omega arith; some = pow_pos (7 - bit); few = pow_mono {i = 7 - bit} {j = 5} (omega arith); before = (let p = pow_mono {i = 4} {j = bit - 1} (omega arith) in omega arith) }

-- ---- the alphabets that are read, by format 2, and the algorithms, by format 3, by their number less 1
pub data Method : (format method : ℕ) → Type 0 where
  alphabet_1 : Method 2 0
  alphabet_2 : Method 2 1
  algorithm_3 : Method 3 2
  algorithm_4 : Method 3 3
  algorithm_5 : Method 3 4

an_alphabet : (a : ℕ) → a < 2 → Method 2 a
an_alphabet zero h = alphabet_1
an_alphabet (suc zero) h = alphabet_2
an_alphabet (suc (suc a)) h = absurd (omega arith)

an_algorithm : (a : ℕ) → 2 ≤ a → a < 5 → Method 3 a
an_algorithm zero l h = absurd (omega arith)
an_algorithm (suc zero) l h = absurd (omega arith)
an_algorithm (suc (suc zero)) l h = algorithm_3
an_algorithm (suc (suc (suc zero))) l h = algorithm_4
an_algorithm (suc (suc (suc (suc zero)))) l h = algorithm_5
an_algorithm (suc (suc (suc (suc (suc a))))) l h = absurd (omega arith)

pub read_method : (f a : ℕ) → 2 ≤ f → f < 4 → is_read f a ≡ true → Method f a
unfolding is_read
read_method zero a l h e = absurd (omega arith)
read_method (suc zero) a l h e = absurd (omega arith)
read_method (suc (suc zero)) a l h e = an_alphabet a (ltb-true a 2 e)
read_method (suc (suc (suc zero))) a l h e = let b = both_true (leb 2 a) (ltb a 5) e in an_algorithm a (leb-true 2 a b.0) (ltb-true a 5 b.1)
read_method (suc (suc (suc (suc f)))) a l h e = absurd (omega arith)

pub method_read : {f a : ℕ} → Method f a → (is_read f a ≡ true) × (2 ≤ f) × (f < 4)
unfolding is_read
method_read alphabet_1 = (refl, omega arith, omega arith)
method_read alphabet_2 = (refl, omega arith, omega arith)
method_read algorithm_3 = (refl, omega arith, omega arith)
method_read algorithm_4 = (refl, omega arith, omega arith)
method_read algorithm_5 = (refl, omega arith, omega arith)

few_methods : {f a : ℕ} → Method f a → a < 5
few_methods alphabet_1 = omega arith
few_methods alphabet_2 = omega arith
few_methods algorithm_3 = omega arith
few_methods algorithm_4 = omega arith
few_methods algorithm_5 = omega arith

-- ---- a number that is read: its value, and the place behind it
not_number : (c : Refusal) (p n next : ℕ) → F.refused {A = Read ℕ} c p ≡ F.got n next → ⊥
not_number c p n next e = cc

behind-told : (s : Octets) (at x more low size top n next : ℕ) → behind s at x more low size top ≡ F.got n next
    → (low + value_from s (at + 1) x more ≡ n) × (at + 1 + more ≡ next)
unfolding behind
behind-told s at x more low size top n next =
    let P : Result (Read ℕ) NumFault → Type 0 = (λ g. g ≡ F.got n next → (low + value_from s (at + 1) x more ≡ n) × (at + 1 + more ≡ next)) in
    test P (F.refused Truncated at) (λ e. absurd (not_number Truncated at n next e)) (ltb (at + more) (length s)) _
    λ t1. test P (F.refused Padding at) (λ e. absurd (not_number Padding at n next e)) (ltb (value_from s (at + 1) x more) size) _
    λ t2. test P (F.refused Range at) (λ e. absurd (not_number Range at n next e)) (leb (low + value_from s (at + 1) x more) top) _
    λ t3 e. (ap (elim [ Num a ↦ a.value | NoNum f ↦ 0 ]) e, ap (elim [ Num a ↦ a.next.at | NoNum f ↦ 0 ]) e)

module _ (s : Octets) (bit f : ℕ) (l : 5 ≤ bit) (u : bit ≤ 7) (k : ℕ) where
  -- the length, read as any other
  abbrev plain_length : Result (Read ℕ) NumFault
  plain_length = field_at (lengths bit) no_top bit s (suc k)

  -- b are the length's bits in the second octet: both definitions take them for the same form of a length, or for padding
  data Judged (b : ℕ) : Type 0 where
    clean : (x more low size : ℕ) → method_length bit f s k b ≡ method_behind bit f s k more (low + value_from s (k + 2) x more) true
        → (suc k < length s → behind s (suc k) x more low size no_top ≡ plain_length) → (AreOctets s → (value_from s (k + 2) x more < size) × (low + size ≤ no_top)) → Judged b
    padded : (more n : ℕ) → method_length bit f s k b ≡ method_behind bit f s k more n false → (suc k < length s → F.refused Padding (suc k) ≡ plain_length) → Judged b

  module _ (b : ℕ) (e : get_or s (suc k) 0 % 2 ^ (9 - bit) ≡ b) where
    -- form i has zero bits behind its code and then `more` octets; b is `first` where the zero bits are 0
    coded : (i more low size first : ℕ) {ss : List Share} → Roomy (take i (length_shares bit)) → drop i (length_shares bit) ≡ share (2 ^ (8 - (bit + 1))) more size ∷ ss
        → rooms_in (take i (length_shares bit)) ≡ first → low ≡ 1 + sizes_in (take i (length_shares bit)) → size ≡ 256 ^ more → 1 ≤ size → first ≤ b → b < first + 2 ^ (7 - bit)
        → method_length bit f s k b ≡ method_behind bit f s k more (low + value_from s (k + 2) 0 more) (eqb b first)
        → (AreOctets s → (value_from s (k + 2) 0 more < size) × (low + size ≤ no_top)) → Judged b
    coded i more low size first {ss = ss} ok d rooms lowest full any lo hi by g =
        let are = lengths_are bit (omega arith) u in
        let last : 2 ^ (8 - (bit + 1)) ≡ 2 ^ (7 - bit) = ap (λ (n : ℕ). 2 ^ n) (omega arith) in
        elim (ℕ_discrete b first) [
          | yes q ↦
              clean 0 more low size (by ∙ rw (eq-eqb b first q))
              (λ h. sym (field_form no_top bit s (suc k) (lengths bit) (length_shares bit) are h i ok _ more size ss d 0 (omega arith) low size lowest refl (omega arith))) g
          | no q ↦
              padded more (low + value_from s (k + 2) 0 more) (by ∙ rw (ne_eqb b first q))
              (λ h.
              let m = mul-le-mul_right {m = 1} {n = b - first} (256 ^ more) (omega arith) in
              sym (field_padding no_top bit s (suc k) (lengths bit) (length_shares bit) are h i ok _ more size ss d (b - first) (omega arith) (omega arith) (omega arith)))
        ]

    judged : Judged b
    unfolding method_length value_from sizes_in rooms_in
    judged =
        let p = powers bit l u in
        let last : 2 ^ (8 - (bit + 1)) ≡ 2 ^ (7 - bit) = ap (λ (n : ℕ). 2 ^ n) (omega arith) in
        let small = mod-lt (get_or s (suc k) 0) (pow_pos (9 - bit)) in
        case b (2 ^ (8 - bit))
        (λ h. clean b 0 1 (2 ^ (8 - bit)) (rw (lt-ltb _ _ h))
        (λ i. sym (field_form no_top bit s (suc k) (lengths bit) (length_shares bit) (lengths_are bit (omega arith) u) i 0 tt _ _ _ _ refl b (omega arith) 1 (2 ^ (8 - bit)) refl refl (omega arith))) (λ o. (h, omega arith)))
        (λ h. case b (3 * 2 ^ (7 - bit))
        (λ g. coded 1 1 (1 + 2 ^ (8 - bit)) 256 (2 * 2 ^ (7 - bit)) (omega arith) refl (omega arith) (omega arith) refl (omega arith) (omega arith) (omega arith) (rw (le-ltb _ _ h, lt-ltb _ _ g))
        (λ o. let a = o (k + 2) in (omega arith, omega arith)))
        (λ g. coded 2 4 (1 + 2 ^ (8 - bit) + 2 ^ 8) 4294967296 (3 * 2 ^ (7 - bit)) (omega arith) refl (omega arith) (omega arith) refl (omega arith) g (omega arith) (rw (le-ltb _ _ h, le-ltb _ _ g))
        (λ o. let a = o (k + 2) in let b = o (suc (k + 2)) in let c = o (suc (suc (k + 2))) in let d = o (suc (suc (suc (k + 2)))) in (omega arith, omega arith))))

  -- ---- sound
  module _ (lo : 2 ≤ f) (hi : f < 4) where
    few_read : is_read f (method_at bit s k) ≡ true → method_at bit s k < 5
    few_read q = few_methods (read_method f (method_at bit s k) lo hi q)

  pub record LengthRead (n next : ℕ) : Type 0 where
    pub known : is_read f (method_at bit s k) ≡ true
    pub first : get_or s k 0 % 2 ^ (9 - bit) ≡ 0
    pub reads : NumRead s (lengths bit) no_top (method_at bit s k * 2 ^ (9 - bit)) (suc k) n next

  -- the number of one that is read stands in the second octet alone
  module _ (h : method_at bit s k < 5) where
    known-first : get_or s k 0 % 2 ^ (9 - bit) ≡ 0
    unfolding method_at
    known-first =
        let p = powers bit l u in
        case 0 (get_or s k 0 % 2 ^ (9 - bit)) (λ i. absurd (let m = mul-le-mul_right (2 ^ (bit - 1)) i in omega arith)) (λ i. omega arith)

    known_second : get_or s (suc k) 0 ≡ method_at bit s k * 2 ^ (9 - bit) + get_or s (suc k) 0 % 2 ^ (9 - bit)
    unfolding method_at
    known_second =
        let z : 0 * 2 ^ (bit - 1) + get_or s (suc k) 0 / 2 ^ (9 - bit) ≡ get_or s (suc k) 0 / 2 ^ (9 - bit) = omega arith in
        rw (known-first, z) (sym (div-add-mod' (get_or s (suc k) 0) (2 ^ (9 - bit))))

  module _ (bytes : AreOctets s) (lo : 2 ≤ f) (hi : f < 4) where
    told : (n next : ℕ) → suc k < length s → is_read f (method_at bit s k) ≡ true → F.got n next ≡ plain_length → LengthRead n next
    told n next i q e =
        let h = few_read lo hi q in
        record {
          known = q;
          first = known-first h;
          reads = subst (NumOk s (lengths bit) no_top (method_at bit s k * 2 ^ (9 - bit)) (suc k)) (sym e)
              (num_sound s bytes (lengths bit) (lengths_ordered bit (omega arith) u) no_top bit (method_at bit s k * 2 ^ (9 - bit)) (suc k) (omega arith) (known_second h));
        }

    judged_sound : (b : ℕ) → k ≤ length s → Judged b → Told s LengthRead (method_length bit f s k b)
    unfolding method_behind
    judged_sound b kl (clean x more low size e p g) =
        let n : ℕ = low + value_from s (k + 2) x more in
        let few = g bytes in
        let two : suc k + 1 ≡ k + 2 = omega arith in
        rw e
        (test_le (Told s LengthRead) (F.refused Truncated k) (fault s 2 k refl kl) (k + 2 + more + n) (length s) _
        λ t1. test (Told s LengthRead) (F.refused Format k) (fault s 8 k refl kl) (is_read f (method_at bit s k)) _
        λ t2. told n (k + 2 + more) (omega arith) t2
        (sym (rw two at (behind_got s (suc k) x more low size no_top (value_from s (k + 2) x more) (omega arith) (rw two) few.0 (omega arith))) ∙ p (omega arith)))
    judged_sound b kl (padded more n e p) =
        rw e
        (test_le (Told s LengthRead) (F.refused Truncated k) (fault s 2 k refl kl) (k + 2 + more + n) (length s) _
        λ t1. test (Told s LengthRead) (F.refused Format k) (fault s 8 k refl kl) (is_read f (method_at bit s k)) _ λ t2. fault s 6 k refl kl)

    pub method_sound : k ≤ length s → Told s LengthRead (method_length bit f s k (get_or s (suc k) 0 % 2 ^ (9 - bit)))
    method_sound kl = judged_sound _ kl (judged _ refl)

  -- ---- complete
  -- the number, where it stands in the second octet alone
  pub method_is : (a : ℕ) → get_or s k 0 % 2 ^ (9 - bit) ≡ 0 → a * 2 ^ (9 - bit) ≤ get_or s (suc k) 0 → get_or s (suc k) 0 < a * 2 ^ (9 - bit) + 2 ^ (9 - bit) → method_at bit s k ≡ a
  unfolding method_at
  method_is a e lo hi =
      let m = add-mul a 1 (2 ^ (9 - bit)) in
      let d = div-eq_of_lt-le (2 ^ (9 - bit)) lo (omega arith) in
      rw e (omega arith)

  module _ (n next : ℕ) (e : plain_length ≡ F.got n next) (h : is_read f (method_at bit s k) ≡ true) (r : next + n ≤ length s) where
    judged_complete : (b : ℕ) → Judged b → method_length bit f s k b ≡ F.got n next
    unfolding method_behind
    judged_complete b (clean x more low size p g o) =
        let i = field_got no_top s (suc k) (lengths bit) bit e in
        let two : suc k + 1 ≡ k + 2 = omega arith in
        let m = rw two at (behind-told s (suc k) x more low size no_top n next (g (omega arith) ∙ e)) in
        p ∙ rw (m.0, m.1, le-leb (next + n) (length s) r, h)
    judged_complete b (padded more m p g) = absurd (let i = field_got no_top s (suc k) (lengths bit) bit e in not_number Padding (suc k) n next (g (omega arith) ∙ e))

    pub method_complete : method_length bit f s k (get_or s (suc k) 0 % 2 ^ (9 - bit)) ≡ F.got n next
    method_complete = judged_complete _ (judged _ refl)
