-- `are_few` meets its contract: the tables before are within their limit.
-- Assumes nothing.
use mathlib.Core.Path.{◌≡◌}
use mathlib.Core.Bool.{true}
use Rattle.write_head.specs.RowContracts.{below, few_table}
use Rattle.write_head.proofs.judge.are_few.Given as goal

abbrev pub invariant-loop-table : goal.invariant-loop-table
invariant-loop-table l = below (few_table l.given) l.table ≡ true
