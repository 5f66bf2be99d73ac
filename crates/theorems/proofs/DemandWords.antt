-- DEMANDS 2 AND 3 OF THE WORD CALLS AND THE CHECK: what the row calls do, `lomphachit_read` and `lomphachit_write` do in words; and the check answers 0 for what the rules
-- write, and for nothing else.
use Prim.Native.Nat.{ℕ, ◌+◌, ◌*◌, ◌/◌, ◌%◌, ◌^◌, ◌≤◌, ◌<◌}
use mathlib.Core.Path.{◌≡◌, refl, ap, ◌∙◌}
use mathlib.Core.Logic.{◌↔◌}
use mathlib.Core.Bool.{Bool, true, false}
use mathlib.Core.List.{List}
use native.Mathlib.Decide.{ℕ_discrete}
use native.Mathlib.Omega.{arith}
use borrow.Author.Tests.{ne_eqb, le-leb, lt-leb}
use lib.ListN.{length}
use Rattle.format.specs.Octets.{Octets, Words, AreOctets}
use Rattle.format.specs.Numbers.{pick}
use Rattle.format.specs.Events.{Item}
use Rattle.format.specs.Tables.{Version}
use Rattle.format.specs.Head.{Head}
use Rattle.format.specs.Items.{State}
use Rattle.format.specs.Document.{Document}
use Rattle.tables.specs.Counts.{table_words}
use Rattle.tables.specs.Told.{told_refused, low_word, whole_word}
use Rattle.events.specs.declared.Event.{Event}
use Rattle.events.specs.FromWords.{records_of}
use Rattle.reader.specs.Reading as Read
use Rattle.reader.specs.Words as ReadWords
use Rattle.writer.specs.Writing as Write
use Rattle.writer.specs.Words as WriteWords
use Rattle.theorems.specs.Bounded.{Bounded}
use Rattle.theorems.specs.Demands.{WriterNumber, ReadAnswers, WriteAnswers, WritesExactly, WordsRefusedBy, WritesExactlyInWords, ReadsExactlyInWords}
use Rattle.theorems.proofs.Calls.{check_accepts, written_is_checked}
use Rattle.theorems.proofs.InWords.{rows-read, read_worded, read_zeros, rows_written, write_worded, write_zeros}
use Rattle.theorems.proofs.DemandOne.{read_answers, write_answers}
use Rattle.theorems.proofs.DemandThree.{read_exactly}
use Rattle.theorems.proofs.DemandTwo.{write_exactly}

-- ---- reading
module _ (ver : Version) (ok : Bounded ver) (s : Octets) (bytes : AreOctets s) where
  pub check_exactly : (Read.check_of ver s ≡ 0) ↔ ((h : Head) × (items : List (Item Octets)) × (z : State Octets) × Document ver h items z s)
  check_exactly = (λ e. let w = check_accepts ver ok s bytes e in (w.head, w.items, w.last, w.writes), λ w. written_is_checked ver ok s bytes w.0 w.1 w.2 w.3)

  -- The check answers as the reader with an event record for each half of the longest document: 32,768 on the link.
  pub check_is_reading : Read.check_of ver s ≡ low_word (Read.read_of ver s (2 * ver.octets) table_words).told
  unfolding Read.check_of Read.read_of Read.reading Read.opening
  check_is_reading = from_size (Read.sized ver s) refl
    where
      told : (a : Read.Result) → Read.number_of a ≡ low_word (Read.outcome a (2 * ver.octets)).told
      told (Read.accepted is m) = refl
      told (Read.refusal n p) = refl

      from_size : (b : Bool) → Read.sized ver s ≡ b → Read.number_of (Read.reading ver s (2 * ver.octets)) ≡ low_word (pick b (Read.outcome (Read.reading ver s (2 * ver.octets)) (2 * ver.octets)) (Read.refusing 1 0 (2 * ver.octets) table_words)).told
      from_size true e = told (Read.reading ver s (2 * ver.octets))
      from_size false e = rw e

  module _ (r t : ℕ) where
    -- the number is in the low bits, so they tell whether it is 0
    row_accepted : (o : Read.Outcome) → ReadAnswers s (r / 14) t o → whole_word o.told % 2 ^ 32 ≡ 0 → o.told.number ≡ 0
    row_accepted o (ReadAnswers.accepts n p) h = n
    row_accepted o (ReadAnswers.refuses k l told row tables) h = let e = ap whole_word told in absurd (omega arith)

    read-words_accepted : (c : ℕ) → (ReadWords.read_words ver s r t c).answer % 2 ^ 32 ≡ 0 → (c ≡ 10) × ((rows-read ver s r t).told.number ≡ 0)
    read-words_accepted c e =
        elim (ℕ_discrete c 10) [
          | yes h ↦ (h, row_accepted (rows-read ver s r t) (read_answers ver ok s bytes (r / 14) t) (let w = read_worded ver s r t c h in rw w.answer at e))
          | no h ↦ absurd (read_zeros ver s r t c h (λ w. w.answer % 2 ^ 32 ≡ 0 → ⊥) (λ z. omega arith) (λ z. omega arith) e)
        ]

    read-words_only : (c : ℕ) → (ReadWords.read_words ver s r t c).answer % 2 ^ 32 ≡ 0
        → (h : Head) × (items : List (Item Octets)) × (z : State Octets) × Document ver h items z s × (length items ≤ r / 14) × (t ≡ table_words) × (c ≡ 10)
    read-words_only c e = let a = read-words_accepted c e in let b = (read_exactly ver ok s bytes (r / 14) t).only a.1 in (b.0, b.1, b.2, b.3, b.4, b.5, a.0)

    -- DEMAND 3 of `lomphachit_read`
    pub read-words_exactly : (c : ℕ) → ReadsExactlyInWords ver s r t c (ReadWords.read_words ver s r t c)
    read-words_exactly c =
        record {
          accepts = λ head items z w l m h. (rows-read ver s r t, (read_exactly ver ok s bytes (r / 14) t).accepts head items z w l m, read_worded ver s r t c h);
          only = read-words_only c;
          as_row = read_worded ver s r t c;
        }

-- ---- writing
numbered : {n : ℕ} → WriterNumber n → (1 ≤ n) × (n < 32)
numbered WriterNumber.size = omega arith
numbered WriterNumber.text = omega arith
numbered WriterNumber.repeat = omega arith
numbered WriterNumber.full = omega arith
numbered WriterNumber.depth = omega arith
numbered WriterNumber.room = omega arith
numbered WriterNumber.event = omega arith

module _ (ver : Version) (ok : Bounded ver) (given records : Words) (text : Octets) (r t : ℕ) where
  abbrev es : List Event
  es = records_of records

  row_written : (o : Write.Outcome) → WriteAnswers es r t o → whole_word o.told % 2 ^ 32 ≡ 0 → o.told.number ≡ 0
  row_written o (WriteAnswers.accepts n p) h = n
  row_written o (WriteAnswers.refuses k l told out tables) h = let e = ap whole_word told in let n = numbered k in absurd (omega arith)

  -- a word is one refusal's
  row_refused : (o : Write.Outcome) → WriteAnswers es r t o → (n p : ℕ) → 1 ≤ n → n < 32 → whole_word o.told ≡ p * 32 + n → o.told ≡ told_refused n p
  row_refused o (WriteAnswers.accepts z q) n p low high h = absurd (omega arith)
  row_refused o (WriteAnswers.refuses {n = m} {p = q} k l told out tables) n p low high h =
      let e = ap whole_word told in
      let small = (numbered k).1 in
      let same : m ≡ n = omega arith in
      let there : q ≡ p = omega arith in
      told ∙ rw (same, there)

  module _ (c : ℕ) where
    abbrev left : WriteWords.WordsLeft
    left = WriteWords.write_words ver given records text r t c

    write_words_accepted : left.answer % 2 ^ 32 ≡ 0 → (c ≡ 10) × ((rows_written ver given records text r t).told.number ≡ 0)
    write_words_accepted e =
        elim (ℕ_discrete c 10) [
          | yes h ↦ (h, row_written (rows_written ver given records text r t) (write_answers ver ok given es text r t) (let w = write_worded ver given records text r t c h in rw w.answer at e))
          | no h ↦ absurd (write_zeros ver given records text r t c h (λ w. w.answer % 2 ^ 32 ≡ 0 → ⊥) (λ l z. omega arith) (λ l z. omega arith) e)
        ]

    abbrev d : WritesExactly ver given es text r t (rows_written ver given records text r t)
    d = write_exactly ver ok given es text r t

    refused_so : (n p : ℕ) → 1 ≤ n → n < 32 → left.answer ≡ p * 32 + n → WordsRefusedBy ver given es text r t c n p
    refused_so n p low high e =
        elim (ℕ_discrete c 10) [
          | yes h ↦
              let w = write_worded ver given records text r t c h in
              WordsRefusedBy.as_records h ((d.refuses n p).0 (row_refused (rows_written ver given records text r t) (write_answers ver ok given es text r t) n p low high (rw w.answer at e)))
          | no h ↦
              write_zeros ver given records text r t c h (λ w. w.answer ≡ p * 32 + n → WordsRefusedBy ver given es text r t c n p)
              (λ l q. let a : n ≡ 1 = omega arith in let b : p ≡ 0 = omega arith in rw (a, b) (WordsRefusedBy.text_too_long l))
              (λ l q. let a : n ≡ 14 = omega arith in let b : p ≡ 0 = omega arith in rw (a, b) (WordsRefusedBy.wrong_count_room l h))
              e
        ]

    refuses_so : {n p : ℕ} → WordsRefusedBy ver given es text r t c n p → left.answer ≡ p * 32 + n
    unfolding WriteWords.write_words
    refuses_so (WordsRefusedBy.text_too_long l) = rw (lt-leb _ _ l)
    refuses_so (WordsRefusedBy.wrong_count_room l h) = rw (le-leb _ _ l, ne_eqb _ _ h)
    refuses_so {n} {p} (WordsRefusedBy.as_records h f) = let w = write_worded ver given records text r t c h in let e = w.answer ∙ ap whole_word ((d.refuses n p).1 f) in omega arith

    -- DEMAND 2 of `lomphachit_write`
    pub write_words_exactly : WritesExactlyInWords ver given es text r t c left
    write_words_exactly =
        record {
          accepts = λ s z a h. (rows_written ver given records text r t, d.accepts s z a, write_worded ver given records text r t c h);
          only = λ e. let a = write_words_accepted e in (a.0, d.only a.1);
          refuses = λ n p low high. (refused_so n p low high, refuses_so);
        }
