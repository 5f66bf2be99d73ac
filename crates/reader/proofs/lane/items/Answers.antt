-- `items` meets its contract: one item after the other.
-- Assumes nothing.
use Rattle.reader.proofs.LaneLaws.{skims_then}
use Rattle.reader.proofs.lane.items.Goals as goal

pub loop-next-preserved : goal.loop-next-preserved
loop-next-preserved c = skims_then c.loop-next.invariant c.in-Some.ensures
