-- `is_built_in` meets its contract: no name is.
-- Assumes nothing.
use native.Mathlib.Omega.{arith}
use borrow.Author.Tests.{le-ltb}
use Rattle.write_head.proofs.RowLaws.{starts_name, starts_string}
use Rattle.write_head.proofs.repeats.is_built_in.Goals as goal

pub is_built_in-requires : goal.is_built_in-requires
is_built_in-requires c = let p = c.requires.1 (omega arith) in omega arith

pub returns-then-table-lt-ELEMENT_NAME : goal.returns-then-table-lt-ELEMENT_NAME
returns-then-table-lt-ELEMENT_NAME c = starts_string _ _ _ _ (omega arith) (c.requires.1 (omega arith)).0 _ c.is_built_in.ensures

pub returns-else-table-lt-ELEMENT_NAME : goal.returns-else-table-lt-ELEMENT_NAME
returns-else-table-lt-ELEMENT_NAME c = rw (le-ltb c.args.table 8 (omega arith)) (starts_name _ _ _ _ (omega arith))
