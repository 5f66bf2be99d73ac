-- `into_words` meets its contract: a law for each way out.
-- Assumes nothing.
use native.Mathlib.Omega.{arith}
use mathlib.Core.Path.{◌≡◌}
use lib.ListN.{length}
use Rattle.writer.proofs.WordLaws.{words_size, words_counts, words_tables, words_written}
use Rattle.writer.proofs.run.into_words.Goals as goal

pub returns-then-text-gt-OCTETS : goal.returns-then-text-gt-OCTETS
returns-then-text-gt-OCTETS c = rw c.at.ensures (words_size _ _ _ _ _ _ _ (omega arith), omega arith)

pub returns-then-counts-ne-TABLES : goal.returns-then-counts-ne-TABLES
returns-then-counts-ne-TABLES c = rw c.at-then-counts-ne-TABLES.ensures (words_counts _ _ _ _ _ _ _ (omega arith) (omega arith), omega arith)

pub returns-then-tables-ne-WORDS : goal.returns-then-tables-ne-WORDS
returns-then-tables-ne-WORDS c =
    rw c.at-then-tables-ne-WORDS.ensures (words_tables _ _ _ _ _ _ _ (omega arith) (omega arith) (omega arith), omega arith)

pub returns : goal.returns
returns c =
    let a = c.wipe.auto in
    let out : length c.wipe.new.out ≡ length c.args.out.now = omega arith in
    let tables : length c.wipe.new.tables ≡ length c.args.tables.now = omega arith in
    (words_written _ _ _ _ _ _ _ (omega arith) (omega arith) c.written.result _ _ _ (rw (out, tables) at c.written.ensures.0), c.written.ensures.1)
