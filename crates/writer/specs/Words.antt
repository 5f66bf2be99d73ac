-- Writing from words and into them, for callers that have no enums: what a writer leaves, as words.
use Rattle.std.specs.Prelude.{ℕ, length, replicate, eqb, leb}
use Rattle.format.specs.Octets.{Octets, Words}
use Rattle.format.specs.Numbers.{pick}
use Rattle.format.specs.Tables.{Version}
use Rattle.format.specs.Refusals.{SIZE, ROOM}
use Rattle.tables.specs.Told.{whole_word}
use Rattle.events.specs.FromWords.{records_of}
use Rattle.writer.specs.Writing.{Outcome, write_of}

-- What a call answers and leaves: the answer, every octet of the output, every word for tables and counts.
pub record WordsLeft : Type 0 where
  pub answer : ℕ
  pub out : Octets
  pub tables : Words
  pub counts : Words

abbrev pub leaving : ℕ → (out : Octets) (tables counts : Words) → WordsLeft
leaving answer out tables counts = record { answer = answer; out = out; tables = tables; counts = counts }

abbrev pub nothing : (number room tables counts : ℕ) → WordsLeft
nothing k r t c = leaving k (replicate r 0) (replicate t 0) (replicate c 0)

-- An outcome in words. The answer has the octet count above the low 32 bits, and in them 0, or the event's number times 32 plus
-- the refusal's.
unfoldable pub in_words : Outcome → WordsLeft
in_words o = leaving (whole_word o.told) o.out o.tables o.told.counts

-- From the words given for the head and the records of these words, over this text area, with r octets of output and t and c words for tables and counts lent: SIZE (1), then the room of the
-- counts, which are the tables' (14), both at place 0; then what writing with r octets and t table words leaves.
unfoldable pub write_words : Version → (given records : Words) → Octets → (r t c : ℕ) → WordsLeft
write_words ver given records text r t c =
    pick (leb (length text) ver.octets) (pick (eqb c 10) (in_words (write_of ver given (records_of records) text r t)) (nothing ROOM r t c)) (nothing SIZE r t c)

-- What measuring answers and leaves: the answer, every word for tables and counts. No output is lent.
pub record WordsMeasured : Type 0 where
  pub answer : ℕ
  pub tables : Words
  pub counts : Words

abbrev pub measured : ℕ → (tables counts : Words) → WordsMeasured
measured answer tables counts = record { answer = answer; tables = tables; counts = counts }

-- Measuring, with t and c words for tables and counts lent: what writing with room for the longest document answers, and leaves in tables and counts.
unfoldable pub measure_words : Version → (given records : Words) → Octets → (t c : ℕ) → WordsMeasured
measure_words ver given records text t c =
    let w : WordsLeft = write_words ver given records text ver.octets t c in
    measured w.answer w.tables w.counts
