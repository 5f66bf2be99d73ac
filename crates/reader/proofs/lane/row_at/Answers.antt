-- `row_at` meets its contract: one octet, or two.
-- Assumes nothing.
use native.Mathlib.Omega.{arith}
use Rattle.reader.proofs.LaneLaws.{row_one, row_two}
use Rattle.reader.proofs.lane.row_at.Goals as goal

pub returns-then-b-ones : goal.returns-then-b-ones
returns-then-b-ones c = row_one _ _ _ _ c.requires.0 c.requires.1 (omega arith) c.from.ensures

pub returns : goal.returns
returns c = row_two _ _ _ _ c.requires.0 c.requires.1 (omega arith) c.requires.2 (omega arith) (omega arith)
