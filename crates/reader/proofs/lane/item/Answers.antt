-- `item` meets its contract, by the first octet.
-- Assumes nothing.
use native.Mathlib.Omega.{arith}
use Rattle.reader.proofs.LaneLaws.{takes_below}
use Rattle.reader.proofs.lane.item.Goals as goal

pub returns-in-128-to-159 : goal.returns-in-128-to-159
returns-in-128-to-159 c = takes_below _ _ _ _ _ _ _ _ _ _ (omega arith) c.spelled.ensures
