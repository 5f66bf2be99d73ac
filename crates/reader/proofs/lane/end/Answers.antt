-- `end` meets its contract: the end is a step, and so is the item after its padding.
-- Assumes nothing.
use native.Mathlib.Omega.{arith}
use Rattle.reader.proofs.LaneLaws.{takes_end}
use Rattle.reader.proofs.lane.end.Goals as goal

pub returns : goal.returns
returns c = takes_end c.requires.0 (omega arith) c.requires.1 (omega arith) (omega arith) c.keep.ensures c.end-e.ensures
