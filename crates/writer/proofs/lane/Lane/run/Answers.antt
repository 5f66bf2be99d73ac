-- `Lane::run` meets its contract: what is next may be passed.
-- Assumes nothing.
use Rattle.writer.proofs.LaneLaws.{ahead_passable}
use Rattle.writer.proofs.lane.Lane.run.Goals as goal

pub pass-l-requires : goal.pass-l-requires
pass-l-requires c = ahead_passable c.loop-taken.invariant.safe c.in-Some.ensures.0 c.in-Some.ensures.1
