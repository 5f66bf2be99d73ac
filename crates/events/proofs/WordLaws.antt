-- What words say, by each way out of the code.
-- Assumes nothing.
use mathlib.Core.Path.{◌≡◌, refl, sym, ap}
use mathlib.Core.Logic.{inl, inr}
use mathlib.Core.Bool.{Bool, true, false, ◌&&◌, and-false}
use mathlib.Core.List.{List}
use Prim.Native.Nat.{ℕ, ◌+◌, ◌-◌, ◌≤◌, ◌<◌}
use native.Mathlib.Omega.{arith}
use native.Mathlib.Decide.{dec_lt}
use borrow.Author.Tests.{eq-eqb, ne_eqb, le-leb, lt-leb}
use lib.Dec.{leb, eqb}
use lib.ListN.{get_or, get_or-eq_default}
use Rattle.std.specs.Prelude.{Option, Some, None}
use Rattle.format.specs.Numbers.{pick}
use Rattle.format.specs.declared.StringForm.{StringForm}
use Rattle.format.specs.declared.StringForm.TheVariants.{Utf8}
use Rattle.format.specs.Forms.{form_number, form_of}
use Rattle.tables.proofs.ByNumber.{by_number_lem}
use Rattle.events.specs.declared.EventString.{EventString}
use Rattle.events.specs.declared.EventString.TheVariants.{Stretch}
use Rattle.events.specs.declared.Kind.{Kind}
use Rattle.events.specs.Records.{blank, unplaced}
use Rattle.events.specs.Words.{string_form}
use Rattle.events.specs.FromWords.{kind_of, tags, told_by_tag, told_by, told_at, framed, record_at, Misnamed}

pub tag_none : (n : ℕ) → 5 ≤ n → None ≡ told_by_tag n
unfolding told_by_tag
tag_none n h = sym (get_or-eq_default tags None h)

either_way : (b : Bool) (x : Option EventString) → pick b x x ≡ x
either_way true x = refl
either_way false x = refl

module _ (tag place size : ℕ) where
  pub told_stretch : tag ≡ 2 → Some (Stretch Utf8 place size) ≡ told_by tag place size
  unfolding told_by
  told_stretch e = rw (eq-eqb tag 2 e)

  pub told_formed : 5 ≤ tag → tag ≤ 10 → Some (Stretch (form_of (tag - 4)) place size) ≡ told_by tag place size
  unfolding told_by
  told_formed l h = rw (ne_eqb tag 2 (omega arith), le-leb 5 tag l, le-leb tag 10 h)

  -- a tag that no string has, whatever stands beside it
  pub told_none : 10 < tag → None ≡ told_by tag place size
  unfolding told_by
  told_none h = rw (ne_eqb tag 2 (omega arith), lt-leb tag 10 h, and-false (leb 5 tag), ← tag_none tag (omega arith), either_way (eqb place 0 && eqb size 0) None)

  -- no stretch
  module _ (t : tag ≡ 2 → ⊥) (l : tag < 5) where
    no_form : (leb 5 tag && leb tag 10) ≡ false
    no_form = rw (lt-leb 5 tag l)

    pub told-placed : (place ≡ 0 → ⊥) → None ≡ told_by tag place size
    unfolding told_by
    told-placed p = rw (ne_eqb tag 2 t, no_form, ne_eqb place 0 p)

    pub told-sized : place ≡ 0 → (size ≡ 0 → ⊥) → None ≡ told_by tag place size
    unfolding told_by
    told-sized p s = rw (ne_eqb tag 2 t, no_form, eq-eqb place 0 p, ne_eqb size 0 s)

    pub told_tagged : place ≡ 0 → size ≡ 0 → told_by_tag tag ≡ told_by tag place size
    unfolding told_by
    told_tagged p s = rw (ne_eqb tag 2 t, no_form, eq-eqb place 0 p, eq-eqb size 0 s)

module _ (w : List ℕ) (at : ℕ) where
  pub record_low : get_or w at 0 < 1 → blank ≡ record_at w at
  unfolding record_at
  record_low h = rw (lt-leb 1 (get_or w at 0) h)

  pub record_high : 1 ≤ get_or w at 0 → 7 < get_or w at 0 → blank ≡ record_at w at
  unfolding record_at
  record_high l h = rw (le-leb 1 (get_or w at 0) l, lt-leb (get_or w at 0) 7 h)

  pub record_framed : 1 ≤ get_or w at 0 → get_or w at 0 ≤ 7
      → framed (kind_of (get_or w at 0)) (told_at w (at + 1)) (told_at w (at + 4)) (told_at w (at + 7)) (told_at w (at + 10)) (get_or w (at + 13) 0) ≡ record_at w at
  unfolding record_at
  record_framed l h = rw (le-leb 1 (get_or w at 0) l, le-leb (get_or w at 0) 7 h)

-- ---- identifying strings in another form
abbrev Other : Option EventString → Type 0
Other None = Unit {0}
Other (Some x) = string_form x ≡ Utf8 → ⊥

-- the forms 1 to 6
numbered : (f : StringForm) → 1 ≤ form_number f → f ≡ Utf8 → ⊥
numbered f l e = let z : form_number f ≡ 0 = ap form_number e in omega arith

other_form : (n : ℕ) → 1 ≤ n → n ≤ 6 → form_of n ≡ Utf8 → ⊥
unfolding form_of
other_form n l h = numbered (form_of n) (by_number_lem (λ (k : ℕ). 1 ≤ form_number (form_of k)) 1 6 (omega arith, (omega arith, (omega arith, (omega arith, (omega arith, (omega arith, tt)))))) n l (omega arith))

pub told_other : (w : List ℕ) (at : ℕ) → 5 ≤ get_or w at 0 → Other (told_at w at)
told_other w at l =
    elim (dec_lt 10 (get_or w at 0)) [
      | yes h ↦ (rw (← told_none (get_or w at 0) (get_or w (at + 1) 0) (get_or w (at + 2) 0) h) tt)
      | no h ↦ (rw (← told_formed (get_or w at 0) (get_or w (at + 1) 0) (get_or w (at + 2) 0) l (omega arith)) (other_form (get_or w at 0 - 4) (omega arith) (omega arith)))
    ]

module _ (k : Kind) where
  prefix_other : (p n l v : Option EventString) (place : ℕ) → Other p → Misnamed (framed k p n l v place)
  prefix_other None n l v place h = inl refl
  prefix_other (Some p) None l v place h = inl refl
  prefix_other (Some p) (Some n) None v place h = inl refl
  prefix_other (Some p) (Some n) (Some l) None place h = inl refl
  prefix_other (Some p) (Some n) (Some l) (Some v) place h = inr (inl h)

  namespace_other : (p n l v : Option EventString) (place : ℕ) → Other n → Misnamed (framed k p n l v place)
  namespace_other None n l v place h = inl refl
  namespace_other (Some p) None l v place h = inl refl
  namespace_other (Some p) (Some n) None v place h = inl refl
  namespace_other (Some p) (Some n) (Some l) None place h = inl refl
  namespace_other (Some p) (Some n) (Some l) (Some v) place h = inr (inr (inl h))

  name_other : (p n l v : Option EventString) (place : ℕ) → Other l → Misnamed (framed k p n l v place)
  name_other None n l v place h = inl refl
  name_other (Some p) None l v place h = inl refl
  name_other (Some p) (Some n) None v place h = inl refl
  name_other (Some p) (Some n) (Some l) None place h = inl refl
  name_other (Some p) (Some n) (Some l) (Some v) place h = inr (inr (inr h))

module _ (w : List ℕ) (at : ℕ) where
  misnamed : ((k : Kind) → Misnamed (framed k (told_at w (at + 1)) (told_at w (at + 4)) (told_at w (at + 7)) (told_at w (at + 10)) (get_or w (at + 13) 0))) → Misnamed (record_at w at)
  unfolding record_at
  misnamed f = picked (leb 1 (get_or w at 0) && leb (get_or w at 0) 7)
    where
      picked : (b : Bool) → Misnamed (pick b (framed (kind_of (get_or w at 0)) (told_at w (at + 1)) (told_at w (at + 4)) (told_at w (at + 7)) (told_at w (at + 10)) (get_or w (at + 13) 0)) blank)
      picked true = f (kind_of (get_or w at 0))
      picked false = inl refl

  pub other_prefix : 5 ≤ get_or w (at + 1) 0 → Misnamed (record_at w at)
  other_prefix h = misnamed (λ k. prefix_other k (told_at w (at + 1)) (told_at w (at + 4)) (told_at w (at + 7)) (told_at w (at + 10)) (get_or w (at + 13) 0) (told_other w (at + 1) h))

  pub other_namespace : 5 ≤ get_or w (at + 4) 0 → Misnamed (record_at w at)
  other_namespace h = misnamed (λ k. namespace_other k (told_at w (at + 1)) (told_at w (at + 4)) (told_at w (at + 7)) (told_at w (at + 10)) (get_or w (at + 13) 0) (told_other w (at + 4) h))

  pub other_name : 5 ≤ get_or w (at + 7) 0 → Misnamed (record_at w at)
  other_name h = misnamed (λ k. name_other k (told_at w (at + 1)) (told_at w (at + 4)) (told_at w (at + 7)) (told_at w (at + 10)) (get_or w (at + 13) 0) (told_other w (at + 7) h))

-- ---- words that are the same but for the place say the same event
framed-unplaced : (k : Kind) (p n l v : Option EventString) (x y : ℕ) → unplaced (framed k p n l v x) ≡ unplaced (framed k p n l v y)
framed-unplaced k None n l v x y = refl
framed-unplaced k (Some p) None l v x y = refl
framed-unplaced k (Some p) (Some n) None v x y = refl
framed-unplaced k (Some p) (Some n) (Some l) None x y = refl
framed-unplaced k (Some p) (Some n) (Some l) (Some v) x y = refl

module _ (w u : List ℕ) (a b : ℕ) where
  pub same_event : get_or w a 0 ≡ get_or u b 0 → told_at w (a + 1) ≡ told_at u (b + 1) → told_at w (a + 4) ≡ told_at u (b + 4) → told_at w (a + 7) ≡ told_at u (b + 7) → told_at w (a + 10) ≡ told_at u (b + 10)
      → unplaced (record_at w a) ≡ unplaced (record_at u b)
  unfolding record_at
  same_event k p n l v = rw (k, p, n, l, v) (picked (leb 1 (get_or u b 0) && leb (get_or u b 0) 7))
    where
      picked : (c : Bool)
          → unplaced (pick c (framed (kind_of (get_or u b 0)) (told_at u (b + 1)) (told_at u (b + 4)) (told_at u (b + 7)) (told_at u (b + 10)) (get_or w (a + 13) 0)) blank)
          ≡ unplaced (pick c (framed (kind_of (get_or u b 0)) (told_at u (b + 1)) (told_at u (b + 4)) (told_at u (b + 7)) (told_at u (b + 10)) (get_or u (b + 13) 0)) blank)
      picked true = framed-unplaced (kind_of (get_or u b 0)) (told_at u (b + 1)) (told_at u (b + 4)) (told_at u (b + 7)) (told_at u (b + 10)) (get_or w (a + 13) 0) (get_or u (b + 13) 0)
      picked false = refl
