-- What the reading of a field is, by cases: a law for each way out of the code.
-- Assumes nothing.
use Rattle.std.proofs.Common.{◌≡◌, ℕ, zero, suc, ◌+◌, ◌-◌, ◌*◌, ◌%◌, ◌^◌, ◌<◌, ◌≤◌, List, [], ◌∷◌, map, length, get_or, take, drop, refl, lt_of_lt_of_le, pow-suc, add-one, arith, lit<, le-ltb, lt-ltb, le-leb}
use native.Mathlib.Nat.{pow-le-pow_right}
use Rattle.format.specs.Numbers.{Form}
use Rattle.format.specs.declared.refusals.Refusal.TheVariants.{Code, Padding}
use Rattle.fields.specs.Fields.{got, refused, value_from, behind, Share, share, share_of, read_in, field_at}
use Rattle.fields.proofs.Laws.{sizes_in, rooms_in, Roomy, past_room}

-- ---- the octets behind the first one

module _ (s : List ℕ) (at more : ℕ) where
  pub value_next : (w v o i : ℕ) → i < more → o ≡ get_or s (at + i) 0 → value_from s (at + i) v (more - i) ≡ w
      → value_from s (at + (i + 1)) (v * 256 + o) (more - (i + 1)) ≡ w
  unfolding value_from
  value_next w v o i h e q =
      let m : more - i ≡ suc (more - (i + 1)) = omega arith in
      let f : at + (i + 1) ≡ suc (at + i) = omega arith in
      rw (e, f) (rw m at q)

  pub value_end : (v i : ℕ) → more ≤ i → value_from s (at + i) v (more - i) ≡ v
  unfolding value_from
  value_end v i h = let m : more - i ≡ 0 = omega arith in rw m

pub value_grows : (v o i : ℕ) → v < 256 ^ (i + 1) → o < 256 → v * 256 + o < 256 ^ (i + 1 + 1)
value_grows v o i h k = rw (add-one (i + 1), pow-suc 256 (i + 1)) (omega arith)

pub value_small : (v i : ℕ) → i ≤ 4 → v < 256 ^ (i + 1) → v < 2 ^ 40
value_small v i h l = lt_of_lt_of_le l (pow-le-pow_right {n = 256} (lit< tt) {i = i + 1} {j = 5} (omega arith))

module _ (s : List ℕ) (at x more low size top : ℕ) (v : ℕ) (h : more < length s - at) (e : v ≡ value_from s (at + 1) x more) where
  enough : at + more < length s
  enough = omega arith

  pub behind_got : v < size → low + v ≤ top → behind s at x more low size top ≡ got (low + v) (at + 1 + more)
  unfolding behind
  behind_got k t = rw (lt-ltb _ _ enough, ← e, lt-ltb _ _ k, le-leb _ _ t)

-- ---- the first octet

-- k shares are passed over
passed : (k : ℕ) (fs : List Share) (top low : ℕ) (s : List ℕ) (at b x : ℕ) → Roomy (take k fs) → b ≡ rooms_in (take k fs) + x
    → read_in fs top low s at b ≡ read_in (drop k fs) top (low + sizes_in (take k fs)) s at x
unfolding read_in rooms_in sizes_in
passed zero fs top low s at b x ok e =
    let k : b ≡ x = omega arith in
    let l : low ≡ low + 0 = omega arith in
    rw (k, ← l)
passed (suc k) [] top low s at b x ok e = refl
passed (suc k) (share room more size ∷ fs) top low s at b x ok e =
    let r1 : room ≤ b = omega arith in
    let r2 = past_room _ _ _ _ ok.0 r1 in
    let l : low + (size + sizes_in (take k fs)) ≡ low + size + sizes_in (take k fs) = omega arith in
    rw (le-ltb _ _ r2, le-ltb _ _ r1, l) (passed k fs top (low + size) s at (b - room) x ok.1 (omega arith))

module _ (top bit : ℕ) (s : List ℕ) (at : ℕ) (fs : List Form) where
  module _ (gs : List Share) (are : map share_of fs ≡ gs) (h : at < length s) (k : ℕ) (ok : Roomy (take k gs)) where
    from_form : (x : ℕ) → get_or s at 0 % 2 ^ (9 - bit) ≡ rooms_in (take k gs) + x → field_at fs top bit s at ≡ read_in (drop k gs) top (1 + sizes_in (take k gs)) s at x
    unfolding field_at
    from_form x e = rw (lt-ltb _ _ h, are) (passed k gs top 1 s at _ x ok e)

    pub field_code : drop k gs ≡ [] → rooms_in (take k gs) ≤ get_or s at 0 % 2 ^ (9 - bit) → field_at fs top bit s at ≡ refused Code at
    unfolding read_in
    field_code d g = rw (from_form (get_or s at 0 % 2 ^ (9 - bit) - rooms_in (take k gs)) (omega arith), d)

    module _ (room more size : ℕ) (ss : List Share) (d : drop k gs ≡ share room more size ∷ ss) (x : ℕ) (e : get_or s at 0 % 2 ^ (9 - bit) ≡ rooms_in (take k gs) + x) where
      pub field_form : (low many : ℕ) → low ≡ 1 + sizes_in (take k gs) → many ≡ size → x * 256 ^ more < size → field_at fs top bit s at ≡ behind s at x more low many top
      unfolding read_in
      field_form low many l m g = rw (from_form x e, d, lt-ltb _ _ g, l, m)

      pub field_padding : size ≤ x * 256 ^ more → x < room → field_at fs top bit s at ≡ refused Padding at
      unfolding read_in
      field_padding g r = rw (from_form x e, d, le-ltb _ _ g, lt-ltb _ _ r)
