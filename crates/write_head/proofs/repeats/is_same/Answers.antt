-- `is_same` meets its contract: strings by their octets, names by their numbers.
-- Assumes nothing.
use native.Mathlib.Omega.{arith}
use Rattle.std.proofs.lemmas.Bool.Decides.{nat_tests}
use Rattle.tables.specs.Rows.{triple_at}
use Rattle.format.specs.Tables.{same_triple}
use Rattle.write_head.specs.RowContracts.{same_row}
use Rattle.write_head.proofs.RowLaws.{same_string}
use Rattle.write_head.proofs.repeats.is_same.Goals as goal

pub returns-then-given-a-2 : goal.returns-then-given-a-2
unfolding same_row same_triple triple_at
returns-then-given-a-2 c = grind (arith, nat_tests)

pub returns-else-given-a-2 : goal.returns-else-given-a-2
unfolding same_row same_triple triple_at
returns-else-given-a-2 c = grind (arith, nat_tests)

pub same_octets-requires : goal.same_octets-requires
same_octets-requires c = let p = c.requires.2 (omega arith) in omega arith

pub returns-then-table-lt-ELEMENT_NAME : goal.returns-then-table-lt-ELEMENT_NAME
returns-then-table-lt-ELEMENT_NAME c = let p = c.requires.2 (omega arith) in same_string _ _ _ _ _ (omega arith) p.0 p.2 _ c.same_octets.ensures
