-- Reading into words, for callers that have no enums: what a reader leaves, as words.
use Rattle.std.specs.Prelude.{ℕ, ◌/◌, ◌%◌, ◌++◌, replicate, eqb}
use Rattle.format.specs.Octets.{Octets, Words}
use Rattle.format.specs.Numbers.{pick}
use Rattle.format.specs.Tables.{Version}
use Rattle.format.specs.Refusals.{SIZE, ROOM}
use Rattle.tables.specs.Told.{whole_word}
use Rattle.events.specs.Words.{row_words}
use Rattle.reader.specs.Reading.{Outcome, sized, read_of}

-- What a call answers and leaves: the answer, every word for records, tables and counts.
pub record WordsLeft : Type 0 where
  pub answer : ℕ
  pub records : Words
  pub tables : Words
  pub counts : Words

abbrev pub leaving : ℕ → (records tables counts : Words) → WordsLeft
leaving answer records tables counts = record { answer = answer; records = records; tables = tables; counts = counts }

abbrev pub nothing : (number records tables counts : ℕ) → WordsLeft
nothing k r t c = leaving k (replicate r 0) (replicate t 0) (replicate c 0)

-- An outcome in r words for records, of which those behind the last whole record are 0. The answer has the event count above the
-- low 32 bits, and in them 0, or the place times 32 plus the refusal's number.
unfoldable pub in_words : (r : ℕ) → Outcome → WordsLeft
in_words r o = leaving (whole_word o.told) (row_words o.row ++ replicate (r % 14) 0) o.tables o.told.counts

-- With r, t and c words lent for records, tables and counts: SIZE (1), then the room of the counts, which are the tables' (14),
-- both at place 0; then what reading into r / 14 event records and t table words leaves.
unfoldable pub read_words : Version → Octets → (r t c : ℕ) → WordsLeft
read_words ver s r t c = pick (sized ver s) (pick (eqb c 10) (in_words r (read_of ver s (r / 14) t)) (nothing ROOM r t c)) (nothing SIZE r t c)
