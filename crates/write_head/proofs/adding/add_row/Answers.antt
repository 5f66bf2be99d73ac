-- `add_row` meets its contract: by the kind of its table.
-- Assumes nothing.
use native.Mathlib.Omega.{arith}
use Rattle.write_head.proofs.AddLaws.{row_string, row_name}
use Rattle.write_head.proofs.adding.add_row.Goals as goal

pub add_string-requires : goal.add_string-requires
add_string-requires c = (c.requires.0, omega arith, c.requires.2, c.requires.3, c.requires.4 (omega arith))

pub returns-then-table-lt-ELEMENT_NAME : goal.returns-then-table-lt-ELEMENT_NAME
returns-then-table-lt-ELEMENT_NAME c = let e = c.add_string.ensures in (row_string _ _ _ _ _ _ (omega arith) e.0, e.1)

pub returns : goal.returns
returns c = let e = c.add_name.ensures in (row_name _ _ _ _ _ _ (omega arith) e.0, e.1)
