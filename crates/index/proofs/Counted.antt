-- The index beside the counts: at the start, and with one entry more.
-- Assumes nothing.
use mathlib.Core.Path.{◌≡◌, refl, sym, ap, ◌∙◌}
use mathlib.Core.Bool.{Bool}
use mathlib.Core.List.{List, [], ◌∷◌}
use Prim.Native.Nat.{ℕ, zero, suc, ◌+◌, ◌*◌, ◌≤◌, ◌<◌}
use native.Mathlib.Omega.{arith}
use native.Mathlib.Decide.{dec_lt}
use lib.ListN.{length, get_or, set, replicate, get_or-eq_default}
use lib.Seq.{get_or-set_same, get_or-set_other}
use Rattle.format.specs.Tables.{starting, link}
use Rattle.tables.specs.declared.Counts.{Counts}
use Rattle.tables.specs.Located.{start}
use Rattle.tables.specs.Counts.{counts_of}
use Rattle.tables.specs.Kept.{listed, unlisted, count_of, one_more}
use Rattle.tables.proofs.Laws.{counted_start}
use Rattle.index.specs.Indexed.{slots, in_words, Indexed, OneMore}
use Rattle.index.proofs.Entered.{indexed_bare}

-- ---- at the start
zeros : (n k : ℕ) → get_or {A = ℕ} (replicate n 0) k 0 ≡ 0
zeros zero k = refl
zeros (suc n) zero = refl
zeros (suc n) (suc k) = zeros n k

start_count_lem : (k : ℕ) → count_of (counts_of (start link)) (suc (suc k)) ≡ 0
unfolding count_of counts_of start starting link
start_count_lem k = zeros 8 k

start_two : (k : ℕ) → k < 2 → count_of (counts_of (start link)) k ≡ 1
unfolding count_of counts_of start starting link
start_two zero h = refl
start_two (suc zero) h = refl
start_two (suc (suc k)) h = absurd (omega arith)

-- the starting tables and an index of zeros
pub indexed_start : (only : ℕ → Bool) (s t index : List ℕ) → get_or t 1 0 ≡ 0 → get_or t 769 0 ≡ 0 → index ≡ replicate slots 0 → Indexed only s (count_of (counts_of (start link))) t index
indexed_start only s t index p n z = rw z (indexed_bare only s t (count_of (counts_of (start link))) counted_start bare (λ k l u. unnamed k l))
  where
    bare : (k i : ℕ) → k < 8 → i < count_of (counts_of (start link)) k → get_or t (768 * k + 3 * i + 1) 0 ≡ 0
    bare zero i l u = let c = start_two 0 (omega arith) in let z : 768 * 0 + 3 * i + 1 ≡ 1 = omega arith in rw z p
    bare (suc zero) i l u = let c = start_two 1 (omega arith) in let z : 768 * 1 + 3 * i + 1 ≡ 769 = omega arith in rw z n
    bare (suc (suc k)) i l u = let c = start_count_lem k in absurd (omega arith)

    unnamed : (k : ℕ) → 8 ≤ k → count_of (counts_of (start link)) k ≡ 0
    unnamed zero l = absurd (omega arith)
    unnamed (suc zero) l = absurd (omega arith)
    unnamed (suc (suc k)) l = start_count_lem k

-- ---- one entry more
listed_at : (l : List ℕ) (k : ℕ) → k < 10 → get_or (listed (unlisted l)) k 0 ≡ get_or l k 0
listed_at l zero h = refl
listed_at l (suc zero) h = refl
listed_at l (suc (suc zero)) h = refl
listed_at l (suc (suc (suc zero))) h = refl
listed_at l (suc (suc (suc (suc zero)))) h = refl
listed_at l (suc (suc (suc (suc (suc zero))))) h = refl
listed_at l (suc (suc (suc (suc (suc (suc zero)))))) h = refl
listed_at l (suc (suc (suc (suc (suc (suc (suc zero))))))) h = refl
listed_at l (suc (suc (suc (suc (suc (suc (suc (suc zero)))))))) h = refl
listed_at l (suc (suc (suc (suc (suc (suc (suc (suc (suc zero))))))))) h = refl
listed_at l (suc (suc (suc (suc (suc (suc (suc (suc (suc (suc k)))))))))) h = absurd (omega arith)

count_beyond : (c : Counts) (k : ℕ) → 10 ≤ k → count_of c k ≡ 0
unfolding count_of
count_beyond c k h = get_or-eq_default (listed c) 0 h

-- the counts as words of a slice
pub words_more : (w : List ℕ) (table : ℕ) → table < length w → OneMore table (get_or w table 0) (in_words w) (in_words (set w table (get_or w table 0 + 1)))
words_more w table h = record { was = refl; here = get_or-set_same w table _ 0 h; elsewhere = λ k ne. get_or-set_other w table k _ 0 ne }

-- the counts as a struct
pub counts_more : (c : Counts) (table : ℕ) → table < 10 → OneMore table (count_of c table) (count_of c) (count_of (one_more c table))
unfolding count_of one_more
counts_more c table h =
    let w = words_more (listed c) table h in
    record {
      was = refl;
      here = listed_at (set (listed c) table (get_or (listed c) table 0 + 1)) table h ∙ w.here;
      elsewhere = λ k ne. elim (dec_lt k 10) [
        | yes l ↦ (listed_at (set (listed c) table (get_or (listed c) table 0 + 1)) k l ∙ w.elsewhere k ne)
        | no l ↦ (count_beyond (one_more c table) k (omega arith) ∙ sym (count_beyond c k (omega arith)))
      ];
    }

-- the counts in ten words
pub words-listed : (c : List ℕ) → length c ≡ 10 → listed (unlisted c) ≡ c
words-listed [] h = absurd (omega arith)
words-listed (a ∷ []) h = absurd (omega arith)
words-listed (a ∷ b ∷ []) h = absurd (omega arith)
words-listed (a ∷ b ∷ c ∷ []) h = absurd (omega arith)
words-listed (a ∷ b ∷ c ∷ d ∷ []) h = absurd (omega arith)
words-listed (a ∷ b ∷ c ∷ d ∷ e ∷ []) h = absurd (omega arith)
words-listed (a ∷ b ∷ c ∷ d ∷ e ∷ f ∷ []) h = absurd (omega arith)
words-listed (a ∷ b ∷ c ∷ d ∷ e ∷ f ∷ g ∷ []) h = absurd (omega arith)
words-listed (a ∷ b ∷ c ∷ d ∷ e ∷ f ∷ g ∷ i ∷ []) h = absurd (omega arith)
words-listed (a ∷ b ∷ c ∷ d ∷ e ∷ f ∷ g ∷ i ∷ j ∷ []) h = absurd (omega arith)
words-listed (a ∷ b ∷ c ∷ d ∷ e ∷ f ∷ g ∷ i ∷ j ∷ k ∷ []) h = refl
words-listed (a ∷ b ∷ c ∷ d ∷ e ∷ f ∷ g ∷ i ∷ j ∷ k ∷ l ∷ m) h = absurd (omega arith)

module _ (c : List ℕ) (ten : length c ≡ 10) (t : ℕ) where
  pub count_at : count_of (unlisted c) t ≡ get_or c t 0
  unfolding count_of
  count_at = ap (λ (l : List ℕ). get_or l t 0) (words-listed c ten)

  pub one_more_lem : unlisted (set c t (get_or c t 0 + 1)) ≡ one_more (unlisted c) t
  unfolding count_of one_more
  one_more_lem = sym (ap (λ (l : List ℕ). unlisted (set l t (get_or l t 0 + 1))) (words-listed c ten))

  pub one_more-words : t < 10 → OneMore t (get_or c t 0) (count_of (unlisted c)) (count_of (unlisted (set c t (get_or c t 0 + 1))))
  one_more-words h = rw (one_more_lem, ← count_at) (counts_more (unlisted c) t h)
