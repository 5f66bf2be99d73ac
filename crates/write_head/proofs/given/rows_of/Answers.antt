-- `rows_of` meets its contract: the rows of a table are inside the words.
-- Assumes nothing.
use Rattle.write_head.specs.Given.{rows_of}
use Rattle.write_head.proofs.RowLaws.{rows_inside}
use Rattle.write_head.proofs.given.rows_of.Goals as goal

pub returns : goal.returns
unfolding rows_of
returns c = let e = c.entries_before.ensures.0 in let i = rows_inside c.args.given.now c.requires.0 c.args.table c.requires.1 in (rw e, rw e i)
