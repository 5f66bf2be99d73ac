-- `Lane::pass` meets its contract: an End or a Start, as what is next says.
-- Assumes nothing.
use native.Mathlib.Omega.{arith}
use Rattle.writer.proofs.LaneLaws.{passed_end, passed_start}
use Rattle.writer.proofs.lane.Lane.pass.Goals as goal

pub returns-in-End : goal.returns-in-End
returns-in-End c = rw c.in-End.is (passed_end c.args.w.now 0 (rw c.in-End.is at c.requires) c.closed.ensures)

pub opened-requires : goal.opened-requires
opened-requires c = let m = rw c.in-Start.is at c.requires in let n = m.name in (omega arith, m.level, m.there, n.0, n.1)

pub returns-in-Start : goal.returns-in-Start
returns-in-Start c = rw c.in-Start.is (passed_start c.args.w.now _ (rw c.in-Start.is at c.requires) c.opened.ensures)
