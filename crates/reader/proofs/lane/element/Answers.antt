-- `element` meets its contract: an element whose number is that of a row, not too deep, is a step.
-- Assumes nothing.
use native.Mathlib.Omega.{arith}
use Rattle.reader.proofs.LaneLaws.{takes_start, name_in_row}
use Rattle.reader.proofs.lane.element.Goals as goal

pub keep_start-requires : goal.keep_start-requires
keep_start-requires c = name_in_row c.requires.0 _ (omega arith)

pub returns : goal.returns
returns c =
    takes_start c.requires.0 (omega (arith, c.keep_start.auto)) _ c.requires.1 _ c.requires.2 c.row_at-name.ensures (omega arith) (omega arith) c.keep_start.ensures
