-- `into_words` meets its contract: a law for each way out.
-- Assumes nothing.
use mathlib.Core.Path.{sym, ◌∙◌}
use native.Mathlib.Omega.{arith}
use lib.ListN.{length}
use Rattle.tables.proofs.Zeros.{zeroed}
use Rattle.reader.proofs.WordLaws.{words_size, room_refused, words_left}
use Rattle.reader.proofs.run.into_words.Goals as goal
use Rattle.reader.proofs.run.into_words.Goals.{then-tables-ne-WORDS-via-then-tables-ne-WORDS, then-tables-ne-WORDS-via-else-tables-ne-WORDS+then-counts-ne-TABLES}

pub returns-then-not-sized : goal.returns-then-not-sized
returns-then-not-sized c = words_size _ _ _ _ c.at.ensures (sym c.if-not-sized.true ∙ c.sized.ensures)

pub returns-then-tables-ne-WORDS : goal.returns-then-tables-ne-WORDS
returns-then-tables-ne-WORDS c =
    room_refused _ _ _ _ (sym c.if-not-sized.false ∙ c.sized.ensures) c.at-then-tables-ne-WORDS.ensures λ a b.
    elim c.then-tables-ne-WORDS.branch [
      | then-tables-ne-WORDS-via-then-tables-ne-WORDS w ↦ w.if-tables-ne-WORDS.true a
      | then-tables-ne-WORDS-via-else-tables-ne-WORDS+then-counts-ne-TABLES w ↦ w.if-counts-ne-TABLES.true b
    ]

pub reading-requires : goal.reading-requires
reading-requires c =
    let a = c.wipe.auto in
    (zeroed _ (length c.args.tables.now) 7680 c.wipe.ensures.1 (omega arith), omega arith)

pub returns : goal.returns
returns c = words_left _ _ _ _ (sym c.if-not-sized.false ∙ c.sized.ensures) (omega arith) (omega arith) c.reading.result c.reading.ensures c.wipe.ensures.0
