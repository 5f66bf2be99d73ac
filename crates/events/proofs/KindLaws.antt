-- A record of words is of a kind where it has the kind's number and all four strings.
-- Assumes nothing.
use mathlib.Core.Path.{◌≡◌, refl, sym, ◌∙◌}
use mathlib.Core.Bool.{Bool, true, false, true≢false, ◌&&◌, and-true, and-false}
use mathlib.Core.List.{List}
use Prim.Native.Nat.{ℕ, ◌+◌, ◌*◌, ◌/◌, ◌≤◌, ◌<◌}
use native.Mathlib.Omega.{arith}
use native.Mathlib.Decide.{dec_lt}
use borrow.Author.Tests.{eq-eqb, ne_eqb}
use lib.Dec.{eqb}
use lib.ListN.{length, get_or, drop, drop_of_length-le}
use Rattle.std.specs.Prelude.{Option, Some, None, is_some}
use Rattle.format.specs.Numbers.{pick}
use Rattle.tables.proofs.ByNumber.{by_number_lem}
use Rattle.events.specs.declared.EventString.{EventString}
use Rattle.events.specs.declared.Kind.{Kind}
use Rattle.events.specs.declared.Kind.TheVariants.{Blank, Namespace, Start, Attribute, Chunk, Comment, Instruction, End}
use Rattle.events.specs.Words.{kind_number}
use Rattle.events.specs.Records.{blank}
use Rattle.events.specs.FromWords.{kind_of, told_at, framed, record_at, records_of, begins_with}
use Rattle.events.proofs.FromWords.{records_length, records_drop}
use Rattle.events.proofs.WordLaws.{record_low, record_high, record_framed}

pub kind_number_lem : (n : ℕ) → n ≤ 7 → kind_number (kind_of n) ≡ n
unfolding kind_of
kind_number_lem n h = by_number_lem (λ (k : ℕ). kind_number (kind_of k) ≡ k) 0 8 (refl, (refl, (refl, (refl, (refl, (refl, (refl, (refl, tt)))))))) n (omega arith) (omega arith)

pub number_le : (k : Kind) → kind_number k ≤ 7
number_le Blank = omega arith
number_le Namespace = omega arith
number_le Start = omega arith
number_le Attribute = omega arith
number_le Chunk = omega arith
number_le Comment = omega arith
number_le Instruction = omega arith
number_le End = omega arith

framed_kind : (k : Kind) (p n l v : Option EventString) (place : ℕ) → (framed k p n l v place).kind ≡ pick (is_some p && (is_some n && (is_some l && is_some v))) k Blank
framed_kind k None n l v place = refl
framed_kind k (Some p) None l v place = refl
framed_kind k (Some p) (Some n) None v place = refl
framed_kind k (Some p) (Some n) (Some l) None place = refl
framed_kind k (Some p) (Some n) (Some l) (Some v) place = refl

-- the number of a kind, or of Blank, which is 0
picked : (b : Bool) (k : Kind) (number : ℕ) → 1 ≤ number → eqb (kind_number (pick b k Blank)) number ≡ b && eqb (kind_number k) number
picked true k number l = refl
picked false k number l = ne_eqb 0 number (omega arith)

module _ (w : List ℕ) (n number : ℕ) (low : 1 ≤ number) where
  pub none_begins : length w / 14 ≤ n → false ≡ begins_with number (drop n (records_of w))
  none_begins h =
      let e = records_length w in
      let l : length (records_of w) ≤ n = omega arith in
      rw (drop_of_length-le (records_of w) l)

  pub begins_inside : begins_with number (drop n (records_of w)) ≡ true → n < length w / 14
  begins_inside h =
      elim (dec_lt n (length w / 14)) [
        | yes l ↦ l
        | no l ↦ (absurd (true≢false (sym h ∙ sym (none_begins (omega arith)))))
      ]

  module _ (inside : n < length w / 14) where
    begins_is : begins_with number (drop n (records_of w)) ≡ eqb (kind_number (record_at w (14 * n)).kind) number
    begins_is = rw (records_drop w n inside)

    kind_is : 1 ≤ get_or w (14 * n) 0 → get_or w (14 * n) 0 ≤ 7
        → (record_at w (14 * n)).kind
        ≡ pick (is_some (told_at w (14 * n + 1)) && (is_some (told_at w (14 * n + 4)) && (is_some (told_at w (14 * n + 7)) && is_some (told_at w (14 * n + 10))))) (kind_of (get_or w (14 * n) 0)) Blank
    kind_is l h =
        rw (← record_framed w (14 * n) l h)
        (framed_kind (kind_of (get_or w (14 * n) 0)) (told_at w (14 * n + 1)) (told_at w (14 * n + 4)) (told_at w (14 * n + 7)) (told_at w (14 * n + 10)) (get_or w (14 * n + 13) 0))

    pub same_begins : number ≤ 7 → get_or w (14 * n) 0 ≡ number
        → (is_some (told_at w (14 * n + 1)) && (is_some (told_at w (14 * n + 4)) && (is_some (told_at w (14 * n + 7)) && is_some (told_at w (14 * n + 10))))) ≡ begins_with number (drop n (records_of w))
    same_begins high e =
        rw (begins_is, kind_is (omega arith) (omega arith), picked _ (kind_of (get_or w (14 * n) 0)) number low, eq-eqb _ _ (kind_number_lem _ (omega arith) ∙ e), and-true)

    blank_other : blank ≡ record_at w (14 * n) → false ≡ eqb (kind_number (record_at w (14 * n)).kind) number
    blank_other e = rw (← e, ne_eqb 0 number (omega arith))

    pub other_begins : (get_or w (14 * n) 0 ≡ number → ⊥) → false ≡ begins_with number (drop n (records_of w))
    other_begins e =
        rw begins_is
        (elim (dec_lt (get_or w (14 * n) 0) 1) [
          | yes l ↦ (blank_other (record_low w (14 * n) l))
          | no l ↦ (elim (dec_lt 7 (get_or w (14 * n) 0)) [
            | yes h ↦ (blank_other (record_high w (14 * n) (omega arith) h))
            | no h ↦ (rw (kind_is (omega arith) (omega arith), picked _ (kind_of (get_or w (14 * n) 0)) number low, ne_eqb _ _ (λ z. e (sym (kind_number_lem _ (omega arith)) ∙ z)), and-false))
          ])
        ])
