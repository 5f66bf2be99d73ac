-- `written`: the run that is underway leads to what the definition leaves.
-- Assumes nothing.
use Rattle.std.proofs.Common.{◌≡◌, length}
use Rattle.format.specs.Tables.{link}
use Rattle.tables.specs.Counts.{table_words}
use Rattle.writer.specs.Writing.{write_of}
use Rattle.writer.specs.RunContracts.{Underway}
use Rattle.write_rows.proofs.written.Given as goal

abbrev pub invariant-loop-i : goal.invariant-loop-i
invariant-loop-i l =
    record {
      table : length l.fn.tables ≡ table_words;
      under : Underway (write_of link l.given l.events l.text (length l.fn.out) (length l.fn.tables)) l.text (length l.fn.out) l.events l.i l.st l.counts l.out l.tables l.index;
    }
