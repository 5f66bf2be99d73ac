-- `is_right` meets its contract: by the kind of its table.
-- Assumes nothing.
use native.Mathlib.Omega.{arith}
use Rattle.write_head.specs.RowContracts.{keeps_row}
use Rattle.write_head.proofs.RowLaws.{right_identifying, right_string, right_name}
use Rattle.write_head.proofs.judge.is_right.Goals as goal

pub returns-then-table-lt-ATTRIBUTE_VALUE : goal.returns-then-table-lt-ATTRIBUTE_VALUE
unfolding keeps_row
returns-then-table-lt-ATTRIBUTE_VALUE c = rw (← c.rows_of.ensures.0) (right_identifying _ _ _ _ (omega arith) _ c.is_stretch.ensures)

pub returns-then-table-lt-ELEMENT_NAME : goal.returns-then-table-lt-ELEMENT_NAME
unfolding keeps_row
returns-then-table-lt-ELEMENT_NAME c = rw (← c.rows_of.ensures.0) (right_string _ _ _ _ (omega arith) (omega arith) _ c.is_string.ensures)

pub returns : goal.returns
unfolding keeps_row
returns c = rw (← c.rows_of.ensures.0) (right_name _ _ _ _ (omega arith) _ c.is_name.ensures)
