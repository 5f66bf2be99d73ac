-- Words that say a record are the words of that record, so no other words say it.
-- Assumes nothing.
use mathlib.Core.Path.{◌≡◌, refl, sym, ap, subst, ◌∙◌}
use mathlib.Core.Bool.{Bool, true, false, ◌&&◌}
use mathlib.Core.List.{List, [], ◌∷◌, ◌++◌}
use Prim.Native.Nat.{ℕ, ◌+◌, ◌-◌, ◌*◌, ◌/◌, ◌≤◌, ◌<◌}
use native.Mathlib.Omega.{arith}
use native.Mathlib.Decide.{dec_lt, ℕ_discrete}
use lib.Dec.{leb}
use lib.ListN.{length, get_or}
use borrow.Author.Tests.{leb-true}
use Rattle.std.specs.Prelude.{Option, Some, None}
use Rattle.tables.proofs.Found.{both_true}
use Rattle.format.specs.Numbers.{pick}
use Rattle.format.specs.Forms.{form_of}
use Rattle.tables.proofs.ByNumber.{by_number_lem}
use Rattle.events.specs.declared.Kind.TheVariants.{Blank}
use Rattle.events.specs.declared.EventString.{EventString}
use Rattle.events.specs.declared.Event.{Event}
use Rattle.events.specs.Records.{blank}
use Rattle.events.specs.Words.{kind_number, form_tag, string_words, record_words}
use Rattle.events.specs.FromWords.{kind_of, told_by_tag, told_by, told_at, framed, record_at, records_of}
use Rattle.events.proofs.FromWords.{record_nth}
use Rattle.events.proofs.WordLaws.{told_stretch, told_formed, told_none, told-placed, told-sized, told_tagged}
use Rattle.events.proofs.KindLaws.{kind_number_lem}

-- what is said, if anything, is said by these three words
abbrev SaidBy : Option EventString → (tag place size : ℕ) → Type 0
SaidBy (Some x) tag place size = string_words x ≡ tag ∷ place ∷ size ∷ []
SaidBy None tag place size = Unit {0}

form_tag_lem : (n : ℕ) → 1 ≤ n → n ≤ 6 → form_tag (form_of n) ≡ n + 4
unfolding form_of
form_tag_lem n l h = by_number_lem (λ (k : ℕ). form_tag (form_of k) ≡ k + 4) 1 6 (refl, (refl, (refl, (refl, (refl, (refl, tt)))))) n l (omega arith)

tag_said : (tag : ℕ) → tag < 5 → SaidBy (told_by_tag tag) tag 0 0
unfolding told_by_tag
tag_said tag h = by_number_lem (λ (k : ℕ). SaidBy (told_by_tag k) k 0 0) 0 5 (refl, (refl, (tt, (refl, (refl, tt))))) tag (omega arith) (omega arith)

said_by : (tag place size : ℕ) → SaidBy (told_by tag place size) tag place size
said_by tag place size =
    elim (ℕ_discrete tag 2) [
      | yes e ↦ rw (← told_stretch tag place size e, e)
      | no e ↦ elim (dec_lt 10 tag) [
        | yes h ↦ rw (← told_none tag place size h) tt
        | no h ↦ elim (dec_lt tag 5) [
          | no l ↦ (let z = form_tag_lem (tag - 4) (omega arith) (omega arith) in let y : tag - 4 + 4 ≡ tag = omega arith in rw (← told_formed tag place size (omega arith) (omega arith), z, y))
          | yes l ↦ elim (ℕ_discrete place 0) [
            | no p ↦ rw (← told-placed tag place size e l p) tt
            | yes p ↦ elim (ℕ_discrete size 0) [
              | no q ↦ rw (← told-sized tag place size e l p q) tt
              | yes q ↦ rw (← told_tagged tag place size e l p q, p, q) (tag_said tag l)
            ]
          ]
        ]
      ]
    ]

module _ (number place : ℕ) (kind : kind_number (kind_of number) ≡ number) where
  -- the words of a record that has a kind, from those of its strings
  framed-words : (p n l v : Option EventString) (p₁ p₂ p₃ n₁ n₂ n₃ l₁ l₂ l₃ v₁ v₂ v₃ : ℕ) → SaidBy p p₁ p₂ p₃ → SaidBy n n₁ n₂ n₃ → SaidBy l l₁ l₂ l₃ → SaidBy v v₁ v₂ v₃
      → ((framed (kind_of number) p n l v place).kind ≡ Blank → ⊥)
      → record_words (framed (kind_of number) p n l v place) ≡ number ∷ p₁ ∷ p₂ ∷ p₃ ∷ n₁ ∷ n₂ ∷ n₃ ∷ l₁ ∷ l₂ ∷ l₃ ∷ v₁ ∷ v₂ ∷ v₃ ∷ place ∷ []
  framed-words None n l v p₁ p₂ p₃ n₁ n₂ n₃ l₁ l₂ l₃ v₁ v₂ v₃ a b c d q = absurd (q refl)
  framed-words (Some p) None l v p₁ p₂ p₃ n₁ n₂ n₃ l₁ l₂ l₃ v₁ v₂ v₃ a b c d q = absurd (q refl)
  framed-words (Some p) (Some n) None v p₁ p₂ p₃ n₁ n₂ n₃ l₁ l₂ l₃ v₁ v₂ v₃ a b c d q = absurd (q refl)
  framed-words (Some p) (Some n) (Some l) None p₁ p₂ p₃ n₁ n₂ n₃ l₁ l₂ l₃ v₁ v₂ v₃ a b c d q = absurd (q refl)
  framed-words (Some p) (Some n) (Some l) (Some v) p₁ p₂ p₃ n₁ n₂ n₃ l₁ l₂ l₃ v₁ v₂ v₃ a b c d q = λ i. kind i ∷ a i ++ b i ++ c i ++ d i ++ (place ∷ [])

module _ (w : List ℕ) (at : ℕ) where
  -- the 14 words from `at` on, as the strings take them
  abbrev words_at : List ℕ
  words_at =
      get_or w at 0
      ∷ get_or w (at + 1) 0 ∷ get_or w (at + 1 + 1) 0 ∷ get_or w (at + 1 + 2) 0 ∷ get_or w (at + 4) 0 ∷ get_or w (at + 4 + 1) 0 ∷ get_or w (at + 4 + 2) 0
      ∷ get_or w (at + 7) 0 ∷ get_or w (at + 7 + 1) 0 ∷ get_or w (at + 7 + 2) 0 ∷ get_or w (at + 10) 0 ∷ get_or w (at + 10 + 1) 0 ∷ get_or w (at + 10 + 2) 0 ∷ get_or w (at + 13) 0 ∷ []

  same_word : (i j : ℕ) → i ≡ j → get_or w i 0 ≡ get_or w j 0
  same_word i j e = ap (λ (k : ℕ). get_or w k 0) e

  word_nth : (i : ℕ) → i < 14 → get_or w (at + i) 0 ≡ get_or words_at i 0
  word_nth i h =
      by_number_lem (λ (k : ℕ). get_or w (at + k) 0 ≡ get_or words_at k 0) 0 14
      (same_word _ _ (omega arith), (refl, (same_word _ _ (omega arith), (same_word _ _ (omega arith), (refl, (same_word _ _ (omega arith), (same_word _ _ (omega arith), (refl, (same_word _ _ (omega arith), (same_word _ _ (omega arith), (refl, (same_word _ _ (omega arith), (same_word _ _ (omega arith), (refl, tt))))))))))))))
      i (omega arith) (omega arith)

  record_words_lem : ((record_at w at).kind ≡ Blank → ⊥) → record_words (record_at w at) ≡ words_at
  unfolding record_at
  record_words_lem = tested (leb 1 (get_or w at 0) && leb (get_or w at 0) 7) refl
    where
      tested : (b : Bool) → (leb 1 (get_or w at 0) && leb (get_or w at 0) 7) ≡ b
          → ((pick b (framed (kind_of (get_or w at 0)) (told_at w (at + 1)) (told_at w (at + 4)) (told_at w (at + 7)) (told_at w (at + 10)) (get_or w (at + 13) 0)) blank).kind ≡ Blank → ⊥)
          → record_words (pick b (framed (kind_of (get_or w at 0)) (told_at w (at + 1)) (told_at w (at + 4)) (told_at w (at + 7)) (told_at w (at + 10)) (get_or w (at + 13) 0)) blank) ≡ words_at
      tested true e q =
          let high : get_or w at 0 ≤ 7 = leb-true (get_or w at 0) 7 (both_true (leb 1 (get_or w at 0)) (leb (get_or w at 0) 7) e).1 in
          framed-words (get_or w at 0) (get_or w (at + 13) 0) (kind_number_lem (get_or w at 0) (omega arith)) (told_at w (at + 1)) (told_at w (at + 4)) (told_at w (at + 7)) (told_at w (at + 10)) _ _ _ _ _ _ _ _ _ _ _ _
          (said_by _ _ _) (said_by _ _ _) (said_by _ _ _) (said_by _ _ _) q
      tested false e q = absurd (q refl)

pub records_only : (w : List ℕ) (n i : ℕ) → n < length w / 14 → i < 14 → ((get_or (records_of w) n blank).kind ≡ Blank → ⊥) → get_or w (14 * n + i) 0 ≡ get_or (record_words (get_or (records_of w) n blank)) i 0
records_only w n i there h kinded =
    let r = record_nth w n there in
    word_nth w (14 * n) i h
    ∙ ap (λ (l : List ℕ). get_or l i 0) (sym (record_words_lem w (14 * n) (subst (λ (e : Event). e.kind ≡ Blank → ⊥) r kinded)) ∙ ap (λ (e : Event). record_words e) (sym r))
