-- The words that `lomphachit_read` and `lomphachit_write` leave are those of what the row calls answer and leave, if 10 words are lent for the counts; if not, all are
-- 0, and the answer is a refusal (1 or 14) at place 0.
use Prim.Native.Nat.{ℕ, ◌/◌, ◌%◌, ◌≤◌, ◌<◌}
use mathlib.Core.Path.{◌≡◌, refl, sym, subst}
use mathlib.Core.Bool.{Bool, true, false}
use borrow.Author.Tests.{eq-eqb, ne_eqb, leb-true, leb-false}
use lib.ListN.{length}
use lib.Dec.{eqb, leb}
use Rattle.format.specs.Octets.{Octets, Words}
use Rattle.format.specs.Tables.{Version}
use Rattle.tables.specs.Counts.{table_words}
use Rattle.events.specs.FromWords.{records_of}
use Rattle.events.proofs.BlankWords.{blank_all, row_place}
use Rattle.reader.specs.Reading as Read
use Rattle.reader.specs.Words as ReadWords
use Rattle.writer.specs.Writing as Write
use Rattle.writer.specs.Words as WriteWords
use Rattle.theorems.specs.Demands.{InReadWords, InWriteWords}
use Rattle.theorems.proofs.Lists.{either}

-- ---- reading
module _ (ver : Version) (s : Octets) (r t : ℕ) where
  abbrev pub rows-read : Read.Outcome
  rows-read = Read.read_of ver s (r / 14) t

  pub in_read-words : InReadWords r rows-read (ReadWords.in_words r rows-read)
  unfolding ReadWords.in_words
  in_read-words = record { answer = refl; records = refl; places = row_place rows-read.row (r % 14); tables = refl; counts = refl }

  module _ (c : ℕ) where
    read-sized : c ≡ 10 → (b : Bool) → Read.sized ver s ≡ b → ReadWords.in_words r rows-read ≡ ReadWords.read_words ver s r t c
    unfolding ReadWords.read_words Read.read_of ReadWords.in_words
    read-sized h true e = rw (e, eq-eqb _ _ h)
    read-sized h false e = rw (e, h, blank_all r)

    pub read_worded : c ≡ 10 → InReadWords r rows-read (ReadWords.read_words ver s r t c)
    read_worded h = subst (InReadWords r rows-read) (read-sized h (Read.sized ver s) refl) in_read-words

    pub read_zeros : (c ≡ 10 → ⊥) → (P : ReadWords.WordsLeft → Type 0) → P (ReadWords.nothing 1 r t c) → P (ReadWords.nothing 14 r t c) → P (ReadWords.read_words ver s r t c)
    unfolding ReadWords.read_words
    read_zeros h P f g = rw (ne_eqb _ _ h) (either P (Read.sized ver s) _ _ (λ e. g) (λ e. f))

-- ---- writing
module _ (ver : Version) (given records : Words) (text : Octets) (r t : ℕ) where
  abbrev pub rows_written : Write.Outcome
  rows_written = Write.write_of ver given (records_of records) text r t

  pub in_write_words : InWriteWords rows_written (WriteWords.in_words rows_written)
  unfolding WriteWords.in_words
  in_write_words = record { answer = refl; out = refl; tables = refl; counts = refl }

  module _ (c : ℕ) where
    write_sized : c ≡ 10 → (b : Bool) → leb (length text) ver.octets ≡ b → WriteWords.in_words rows_written ≡ WriteWords.write_words ver given records text r t c
    unfolding WriteWords.write_words Write.write_of WriteWords.in_words
    write_sized h true e = rw (e, eq-eqb _ _ h)
    write_sized h false e = rw (e, h)

    pub write_worded : c ≡ 10 → InWriteWords rows_written (WriteWords.write_words ver given records text r t c)
    write_worded h = subst (InWriteWords rows_written) (write_sized h (leb (length text) ver.octets) refl) in_write_words

    pub write_zeros : (c ≡ 10 → ⊥) → (P : WriteWords.WordsLeft → Type 0) → (ver.octets < length text → P (WriteWords.nothing 1 r t c)) → (length text ≤ ver.octets → P (WriteWords.nothing 14 r t c))
        → P (WriteWords.write_words ver given records text r t c)
    unfolding WriteWords.write_words
    write_zeros h P f g = rw (ne_eqb _ _ h) (either P (leb (length text) ver.octets) _ _ (λ e. g (leb-true _ _ e)) (λ e. f (leb-false _ _ e)))
