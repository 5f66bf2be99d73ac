-- What demand 1 says of each call: it answers; a refusal has one of the requirements' numbers and a place, and blanks everything. (That what stood in the room never matters is Calls'
-- and WriterCalls'.)
use Prim.Native.Nat.{ℕ, ◌/◌, ◌%◌, ◌≤◌, ◌*◌}
use mathlib.Core.Path.{◌≡◌, refl, sym, ap, ◌∙◌, subst}
use mathlib.Core.List.{List, ◌∷◌}
use native.Mathlib.Decide.{ℕ_discrete}
use native.Mathlib.Omega.{arith}
use lib.ListN.{length, length-append}
use Rattle.format.specs.Octets.{Octets, Words, AreOctets}
use Rattle.format.specs.Tables.{Version}
use Rattle.tables.specs.Counts.{table_words}
use Rattle.tables.specs.Told.{Told, whole_word}
use Rattle.events.specs.declared.Event.{Event}
use Rattle.events.specs.FromWords.{records_of}
use Rattle.reader.specs.Reading as Read
use Rattle.reader.specs.Words as ReadWords
use Rattle.events.proofs.BlankWords.{blank_all}
use Rattle.write_head.specs.Given.{Given, given_of}
use Rattle.write_head.specs.Head.{head_octets}
use Rattle.writer.specs.Writing as Write
use Rattle.writer.specs.Words as WriteWords
use Rattle.theorems.specs.Bounded.{Bounded}
use Rattle.theorems.specs.Verdicts.{head_of, HeadFault, not_entries, not_texts, not_new, not_few, not_room, Fault, not_an_event, not_text, too_deep, too_many, no_room, Refused, at_event, too_soon, no_room_for_end}
use Rattle.theorems.specs.Demands.{WriterNumber, CheckAnswers, ReadAnswers, ReadWordsAnswer, WriteAnswers, WriteWordsAnswer, MeasureWordsAnswer, InReadWords, InWriteWords}
use Rattle.theorems.proofs.Lists.{either, either_eq}
use Rattle.theorems.proofs.Document as Whole
use Rattle.theorems.proofs.WriterDocument.{RefusedWith, by_head, by_event, refused_by}
use Rattle.theorems.proofs.Asked.{result, by_asked}
use Rattle.theorems.proofs.Demands.{check_never_14}
use Rattle.theorems.proofs.InWords.{read_worded, read_zeros, write_worded, write_zeros}

-- ---- the check and the reader
module _ (ver : Version) (ok : Bounded ver) (s : Octets) (bytes : AreOctets s) where
  check_result : (a : Read.Result) → Whole.Means ver ok s bytes a → (Read.number_of a % 32 ≡ 14 → ⊥) → CheckAnswers s (Read.number_of a)
  check_result (Read.accepted is m) w h = CheckAnswers.passes
  check_result (Read.refusal n p) w h = CheckAnswers.fails (w.0, w.1) (λ e. h (omega arith)) w.2

  pub check_answers : CheckAnswers s (Read.check_of ver s)
  unfolding Read.check_of
  check_answers = check_result (Read.reading ver s (2 * ver.octets)) (Whole.means ver ok s bytes (2 * ver.octets)) (check_never_14 ver ok s bytes)

  module _ (room : ℕ) where
    read_result : (a : Read.Result) → Whole.Means ver ok s bytes a → ReadAnswers s room table_words (Read.outcome a room)
    read_result (Read.accepted is m) w = ReadAnswers.accepts refl refl
    read_result (Read.refusal n p) w = ReadAnswers.refuses (w.0, w.1) w.2 refl refl refl

    pub read_answers : (table : ℕ) → ReadAnswers s room table (Read.read_of ver s room table)
    unfolding Read.read_of
    read_answers table =
        either (ReadAnswers s room table) (Read.sized ver s) _ _
        (λ y. either_eq (ReadAnswers s room table) table table_words _ _
        (λ e. rw e (read_result (Read.reading ver s room) (Whole.means ver ok s bytes room)))
        (λ n. ReadAnswers.refuses {n = 14} {p = 0} (omega arith) (omega arith) refl refl refl))
        (λ y. ReadAnswers.refuses {n = 1} {p = 0} (omega arith) (omega arith) refl refl refl)

  -- in words
  module _ (r t : ℕ) where
    read-words : (o : Read.Outcome) (w : ReadWords.WordsLeft) → InReadWords r o w → ReadAnswers s (r / 14) t o → ReadWordsAnswer s r t 10 w
    read-words o w i (ReadAnswers.accepts n p) = ReadWordsAnswer.accepts (omega arith)
    read-words o w i (ReadAnswers.refuses {n} {p} k h told row tables) =
        let q = i.answer ∙ ap whole_word told in
        ReadWordsAnswer.refuses {n = n} {p = p} k h (omega arith) (i.records ∙ rw row (blank_all r)) (i.tables ∙ tables) (i.counts ∙ ap (λ (x : Told). x.counts) told)

    pub read-words_answer : (c : ℕ) → ReadWordsAnswer s r t c (ReadWords.read_words ver s r t c)
    read-words_answer c =
        elim (ℕ_discrete c 10) [
          | yes h ↦ rw h (read-words (Read.read_of ver s (r / 14) t) _ (read_worded ver s r t 10 refl) (read_answers (r / 14) t))
          | no h ↦
              read_zeros ver s r t c h (ReadWordsAnswer s r t c)
              (ReadWordsAnswer.refuses {n = 1} {p = 0} (omega arith) (omega arith) refl refl refl refl)
              (ReadWordsAnswer.refuses {n = 14} {p = 0} (omega arith) (omega arith) refl refl refl refl)
        ]

-- ---- the writer
module _ (ver : Version) (ok : Bounded ver) (given : Words) (es : List Event) (text : Octets) where
  abbrev g : Given
  g = given_of given

  module _ (room : ℕ) where
    head_number : {n : ℕ} → HeadFault ver text g room n → WriterNumber n
    head_number (not_entries a) = WriterNumber.event
    head_number (not_texts i a) = WriterNumber.text
    head_number (not_new i t a) = WriterNumber.repeat
    head_number (not_few i t n a) = WriterNumber.full
    head_number (not_room i t n f a) = WriterNumber.room

    fault_number : {before : List Event} {e : Event} {n : ℕ} → Fault ver (head_of ver text g) text room before e n → WriterNumber n
    fault_number (not_an_event a) = WriterNumber.event
    fault_number (not_text i a) = WriterNumber.text
    fault_number (too_deep i t a) = WriterNumber.depth
    fault_number (too_many i t s a) = WriterNumber.full
    fault_number (no_room i t s f a) = WriterNumber.room

    event_number : {n p : ℕ} → Refused ver (head_of ver text g) text room es n p → WriterNumber n × (p ≤ length es)
    event_number (at_event {before = b} {e = x} after is all f) = let k = ap length is in let l = length-append b (x ∷ after) in (fault_number f, omega arith)
    event_number (too_soon all nay) = (WriterNumber.event, omega arith)
    event_number (no_room_for_end all d nay) = (WriterNumber.room, omega arith)

    module _ (short : length text ≤ ver.octets) where
      refused_number : {n p : ℕ} → RefusedWith ver ok text short room g es n p → WriterNumber n × (p ≤ length es)
      refused_number (by_head f) = (head_number f, omega arith)
      refused_number (by_event right r) = event_number r

      write_result : (a : Write.Result) → Write.writing ver g text room es ≡ a → WriteAnswers es room table_words (Write.outcome ver (head_octets ver text g) a room)
      write_result (Write.written is hs z) e = WriteAnswers.accepts refl refl
      write_result (Write.refusal n p) e = let w = refused_number (refused_by ver ok text short room g es n p e) in WriteAnswers.refuses w.0 w.1 refl refl refl

    pub write_answers : (table : ℕ) → WriteAnswers es room table (Write.write_of ver given es text room table)
    write_answers table =
        by_asked ver given es text room table (WriteAnswers es room table)
        (λ short right e. subst (λ (n : ℕ). WriteAnswers es room n (result ver given es text room table)) (sym right) (write_result short (Write.writing ver g text room es) refl))
        (λ l. WriteAnswers.refuses {p = 0} WriterNumber.size (omega arith) refl refl refl)
        (λ l n. WriteAnswers.refuses {p = 0} WriterNumber.room (omega arith) refl refl refl)
        (λ l right n. WriteAnswers.refuses {p = 0} WriterNumber.event (omega arith) refl refl refl)

-- in words
module _ (ver : Version) (ok : Bounded ver) (given records : Words) (text : Octets) where
  module _ (r t : ℕ) where
    write_words_lem : (o : Write.Outcome) (w : WriteWords.WordsLeft) → InWriteWords o w → WriteAnswers (records_of records) r t o → WriteWordsAnswer (records_of records) r t 10 w
    write_words_lem o w i (WriteAnswers.accepts n p) = WriteWordsAnswer.accepts (omega arith)
    write_words_lem o w i (WriteAnswers.refuses {n} {p} k h told out tables) =
        let q = i.answer ∙ ap whole_word told in
        WriteWordsAnswer.refuses {n = n} {p = p} k h (omega arith) (i.out ∙ out) (i.tables ∙ tables) (i.counts ∙ ap (λ (x : Told). x.counts) told)

    pub write_words_answer : (c : ℕ) → WriteWordsAnswer (records_of records) r t c (WriteWords.write_words ver given records text r t c)
    write_words_answer c =
        elim (ℕ_discrete c 10) [
          | yes h ↦ rw h (write_words_lem (Write.write_of ver given (records_of records) text r t) _ (write_worded ver given records text r t 10 refl) (write_answers ver ok given (records_of records) text r t))
          | no h ↦
              write_zeros ver given records text r t c h (WriteWordsAnswer (records_of records) r t c)
              (λ l. WriteWordsAnswer.refuses {p = 0} WriterNumber.size (omega arith) refl refl refl refl)
              (λ l. WriteWordsAnswer.refuses {p = 0} WriterNumber.room (omega arith) refl refl refl refl)
        ]

-- measuring: as writing with room for the longest document, without what stands in the output
module _ (ver : Version) (ok : Bounded ver) (given records : Words) (text : Octets) (t c : ℕ) where
  without_output : (w : WriteWords.WordsLeft) → WriteWordsAnswer (records_of records) ver.octets t c w
      → MeasureWordsAnswer (records_of records) t c (WriteWords.measured w.answer w.tables w.counts)
  without_output w (WriteWordsAnswer.accepts e) = MeasureWordsAnswer.accepts e
  without_output w (WriteWordsAnswer.refuses {n} {p} k h e out tables counts) = MeasureWordsAnswer.refuses {n = n} {p = p} k h e tables counts

  pub measure_words_answer : MeasureWordsAnswer (records_of records) t c (WriteWords.measure_words ver given records text t c)
  unfolding WriteWords.measure_words
  measure_words_answer = without_output _ (write_words_answer ver ok given records text ver.octets t c)
