-- `add_tables` meets its contract: the tables before are added.
-- Assumes nothing.
use mathlib.Core.Path.{◌≡◌}
use mathlib.Core.Bool.{true}
use Rattle.write_head.specs.RowContracts.{below, keeps_table}
use Rattle.write_head.proofs.AddLaws.{Added}
use Rattle.write_head.proofs.adding.add_tables.Given as goal

abbrev pub invariant-loop-table : goal.invariant-loop-table
invariant-loop-table l = Added l.text l.given l.table l.counts l.t l.index × (below (keeps_table 11 l.text l.given) l.table ≡ true)
