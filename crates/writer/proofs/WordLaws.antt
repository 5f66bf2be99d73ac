-- What a writing into words leaves, by each way out; and that this is what writing and measuring leave.
-- Assumes nothing.
use mathlib.Core.Path.{◌≡◌, refl, ap, ◌∙◌}
use mathlib.Core.Bool.{Bool, true, false}
use mathlib.Core.List.{List, []}
use Prim.Native.Nat.{ℕ, ◌+◌, ◌*◌, ◌^◌, ◌≤◌, ◌<◌}
use native.Mathlib.Omega.{arith}
use borrow.Author.Tests.{eq-eqb, ne_eqb, le-leb, lt-leb}
use lib.Dec.{eqb, leb}
use lib.ListN.{length, replicate}
use Rattle.std.specs.Prelude as Std
use Rattle.std.specs.Prelude.{Ok, Err}
use Rattle.format.specs.Numbers.{pick}
use Rattle.format.specs.Tables.{link}
use Rattle.format.specs.Refusals.{refusal_number}
use Rattle.format.specs.declared.refusals.Fault.{Fault}
use Rattle.format.specs.declared.refusals.Refusal.TheVariants.{Room}
use Rattle.tables.specs.Counts.{table_words}
use Rattle.events.specs.FromWords.{records_of}
use Rattle.writer.specs.Writing.{Outcome, write_of}
use Rattle.writer.specs.Words.{WordsLeft, leaving, nothing, in_words, write_words, WordsMeasured, measured, measure_words}
use Rattle.writer.specs.RanContracts.{reached, ran_of, ran_words}
use Rattle.writer.specs.RunContracts.{remains, left_by}
use Rattle.writer.proofs.RanLaws.{ran_whole}
use Rattle.writer.proofs.StartLaws.{going_room}

-- ---- by cases
module _ (given records text : List ℕ) (room size t c : ℕ) where
  pub words_size : 16384 < length text → nothing 1 size t c ≡ ran_words given records text room size t c
  unfolding ran_words link
  words_size l = rw (lt-leb _ _ l)

  module _ (short : length text ≤ 16384) where
    pub words_counts : (c ≡ 10 → ⊥) → nothing 14 size t c ≡ ran_words given records text room size t c
    unfolding ran_words link
    words_counts n = rw (le-leb _ _ short, ne_eqb _ _ n)

    module _ (ten : c ≡ 10) where
      words_are : in_words (ran_of given (records_of records) text room size t) ≡ ran_words given records text room size t c
      unfolding ran_words link
      words_are = rw (le-leb _ _ short, eq-eqb _ _ ten)

      -- the run answered r
      pub words_written : (r : Std.Result ℕ Fault) (d out w : List ℕ) → remains size t r d out w ≡ ran_of given (records_of records) text room size t
          → left_by r size t c out w d ≡ ran_words given records text room size t c
      unfolding in_words
      words_written (Ok n) d out w e = let z : n * 2 ^ 32 ≡ n * 2 ^ 32 + (0 * 32 + 0) = omega arith in ap (λ (k : ℕ). leaving k out w d) z ∙ ap in_words e ∙ words_are
      words_written (Err f) d out w e =
          let z : f.at * 32 + refusal_number f.refusal ≡ 0 * 2 ^ 32 + (f.at * 32 + refusal_number f.refusal) = omega arith in
          (λ i. nothing (z i) size t (ten i)) ∙ ap in_words e ∙ words_are

      pub words_tables : (t ≡ table_words → ⊥) → nothing 14 size t c ≡ ran_words given records text room size t c
      words_tables n = words_written (Err (record { refusal = Room; at = 0 })) [] [] [] (going_room given (records_of records) text room size t short n)

-- ---- writing, with room for the output's length, and measuring, which looks at none of the output
module _ (given records text : List ℕ) where
  pub words-whole : (r t c : ℕ) → ran_words given records text r r t c ≡ write_words link given records text r t c
  unfolding ran_words write_words
  words-whole r t c = rw (ran_whole given (records_of records) text r t)

  abbrev beside : WordsLeft → WordsMeasured
  beside w = measured w.answer w.tables w.counts

  beside_same : (a b : Bool) (o : Outcome) (size room t c : ℕ)
      → beside (pick a (pick b (in_words (reached size o)) (nothing 14 size t c)) (nothing 1 size t c)) ≡ beside (pick a (pick b (in_words o) (nothing 14 room t c)) (nothing 1 room t c))
  unfolding in_words
  beside_same true true o size room t c = refl
  beside_same true false o size room t c = refl
  beside_same false b o size room t c = refl

  pub words-measured : (size t c : ℕ) {answer : ℕ} {out tables counts : List ℕ} → leaving answer out tables counts ≡ ran_words given records text 16384 size t c
      → measured answer tables counts ≡ measure_words link given records text t c
  unfolding ran_words ran_of measure_words write_words link
  words-measured size t c e = ap beside e ∙ beside_same (leb (length text) 16384) (eqb c 10) (write_of link given (records_of records) text 16384 t) size 16384 t c
