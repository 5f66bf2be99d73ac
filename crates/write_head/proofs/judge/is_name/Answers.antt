-- `is_name` meets its contract: by its five tests.
-- Assumes nothing.
use native.Mathlib.Omega.{arith}
use Rattle.std.proofs.lemmas.Bool.Decides.{nat_tests}
use Rattle.tables.specs.Rows.{triple_at}
use Rattle.write_head.specs.RowContracts.{is_right_name}
use Rattle.write_head.proofs.judge.is_name.Goals as goal

pub returns-then-prefix-eq0 : goal.returns-then-prefix-eq0
unfolding is_right_name triple_at
returns-then-prefix-eq0 c = grind (arith, nat_tests)

pub returns-else-prefix-eq0 : goal.returns-else-prefix-eq0
unfolding is_right_name triple_at
returns-else-prefix-eq0 c = grind (arith, nat_tests)

pub returns-else-local-given : goal.returns-else-local-given
unfolding is_right_name triple_at
returns-else-local-given c = grind (arith, nat_tests)
