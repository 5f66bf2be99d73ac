-- `put_tables` meets its contract: the tables before are put.
-- Assumes nothing.
use Prim.Native.Nat.{◌+◌, ◌*◌, ◌≤◌}
use Rattle.fields.specs.PutContracts.{Puts}
use Rattle.write_head.specs.RowContracts.{join_below, table_octets_of, table_most}
use Rattle.write_head.proofs.octets.put_tables.Given as goal

abbrev pub invariant-loop-table : goal.invariant-loop-table
invariant-loop-table l = (Puts l.initial.out l.from l.at l.out (join_below (table_octets_of l.text l.given) l.table)) × (l.at ≤ 7 + l.table * table_most)
