-- What the reading of a field is, by the bits of its first octet: for a form of any list.
-- Assumes nothing.
use Rattle.std.proofs.Common.{◌≡◌, ℕ, suc, ◌+◌, ◌-◌, ◌*◌, ◌/◌, ◌%◌, ◌^◌, ◌<◌, ◌≤◌, List, [], ◌∷◌, map, length, get_or, take, drop, refl, ap, mod-lt, pow-suc, arith, pow_pos, shr-shr}
use lib.Pow.{mod-pow-add, field}
use Rattle.format.specs.Numbers.{Form, form, behind_first}
use Rattle.format.specs.declared.refusals.Refusal.TheVariants.{Padding}
use Rattle.fields.specs.Fields.{refused, bits_of, behind, Share, share, share_of, field_at}
use Rattle.fields.proofs.Laws.{sizes_in, rooms_in, Roomy}
use Rattle.fields.proofs.Forms.{share_is}
use Rattle.fields.proofs.Cases.{field_form, field_padding}

-- what an octet holds from `bit` on is what its bits to `last` hold, and the rest
pub split : (o bit last : ℕ) → bit ≤ last + 1 → last ≤ 8 → o % 2 ^ (9 - bit) ≡ bits_of o bit last * 2 ^ (8 - last) + bits_of o (last + 1) 8
split o bit last h k =
    let w : 9 - bit ≡ last + 1 - bit + (8 - last) = omega arith in
    let l : 8 + 1 - (last + 1) ≡ 8 - last = omega arith in
    let n : o / 2 ^ (8 - 8) ≡ o = omega arith in
    rw (w, l, n) (mod-pow-add o (last + 1 - bit) (8 - last))

pub rest_below : (o last next x : ℕ) → next ≡ last + 1 → x ≡ bits_of o next 8 → x < 2 ^ (8 - last)
rest_below o last next x f e =
    let l : 8 + 1 - (last + 1) ≡ 8 - last = omega arith in
    rw (e, f, l) (mod-lt (o / 2 ^ (8 - 8)) (pow_pos (8 - last)))

-- a code that ends k bits behind its first one
pub code_first : (o bit k : ℕ) → bit + k ≤ 8 → (bits_of o bit (bit + k) / 2 ^ k ≡ bits_of o bit bit) × (bits_of o bit (bit + k) < 2 ^ (1 + k))
code_first o bit k h =
    let n : ℕ = o / 2 ^ (8 - (bit + k)) in
    let w : bit + k + 1 - bit ≡ 1 + k = omega arith in
    let v : bit + 1 - bit ≡ 1 = omega arith in
    let e : 8 - (bit + k) + k ≡ 8 - bit = omega arith in
    (rw (w, v, field n 1 k, shr-shr o (8 - (bit + k)) k, e), rw w (mod-lt n (pow_pos (1 + k))))

pub doubled : (n k : ℕ) → n ≡ suc k → 2 ^ n ≡ 2 * 2 ^ k
doubled n k e = rw (e, pow-suc 2 k) (omega arith)

module _ (top : ℕ) (s : List ℕ) (at : ℕ) (h : at < length s) where
  -- form k, whose code stands in the bits to `last`
  module _ (bit last k : ℕ) (fs : List Form) (gs ss : List Share) (are : map share_of fs ≡ gs) {code room more size : ℕ} (ok : (bit ≤ last + 1) × (last ≤ 8) × Roomy (take k gs))
      (d : drop k gs ≡ share room more size ∷ ss) (r : rooms_in (take k gs) ≡ code * 2 ^ (8 - last)) (c : bits_of (get_or s at 0) bit last ≡ code)
      {next : ℕ} (f : next ≡ last + 1) where
    holds : get_or s at 0 % 2 ^ (9 - bit) ≡ rooms_in (take k gs) + bits_of (get_or s at 0) next 8
    holds = rw (split (get_or s at 0) bit last ok.0 ok.1, c, r, f)

    pub at_form : {x low many : ℕ} → x ≡ bits_of (get_or s at 0) next 8 → low ≡ 1 + sizes_in (take k gs) → many ≡ size → x * 256 ^ more < size
        → field_at fs top bit s at ≡ behind s at x more low many top
    at_form e n m g = field_form top bit s at fs gs are h k ok.2 _ _ _ ss d _ (rw e holds) _ _ n m g

    pub at_padding : size ≤ bits_of (get_or s at 0) next 8 * 256 ^ more → bits_of (get_or s at 0) next 8 < room → field_at fs top bit s at ≡ refused Padding at
    at_padding g j = field_padding top bit s at fs gs are h k ok.2 _ _ _ ss d _ holds g j

  -- the first form: 0, and the octet's other bits
  pub at_least : (bit low : ℕ) (fs : List Form) {x many : ℕ} → 1 ≤ bit → bit ≤ 8 → bits_of (get_or s at 0) bit bit ≡ 0 → x ≡ bits_of (get_or s at 0) (bit + 1) 8
      → many ≡ 2 ^ (8 - bit) → field_at (form (0 ∷ []) 0 (8 - bit) low ∷ fs) top bit s at ≡ behind s at x 0 1 many top
  unfolding sizes_in rooms_in behind_first
  at_least bit low fs l u z e m =
      at_form bit bit 0 (form (0 ∷ []) 0 (8 - bit) low ∷ fs) _ (map share_of fs) (ap (λ (x : Share). x ∷ map share_of fs) (share_is (0 ∷ []) 0 (8 - bit) 0 (8 - bit) (omega arith) (omega arith) low))
      (omega arith, u, tt) refl (omega arith) z refl e refl m (let g = rest_below (get_or s at 0) bit _ _ refl e in omega arith)
