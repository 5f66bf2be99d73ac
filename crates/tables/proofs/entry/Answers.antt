-- `entry` meets its contract: the three words of the row.
-- Assumes nothing.
use Rattle.tables.specs.Kept.{row_at}
use Rattle.tables.proofs.entry.Goals as goal

pub returns : goal.returns
unfolding row_at
returns c = rw c.at-j.ensures
