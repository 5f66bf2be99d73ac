-- `put_rows` meets its contract: the rows before are put.
-- Assumes nothing.
use mathlib.Core.Path.{◌≡◌}
use Prim.Native.Nat.{◌+◌, ◌*◌, ◌≤◌}
use Rattle.fields.specs.PutContracts.{Puts}
use Rattle.write_head.specs.Given.{rows_of}
use Rattle.write_head.specs.RowContracts.{rows_octets, row_most}
use Rattle.write_head.proofs.octets.put_rows.Given as goal

abbrev pub invariant-loop-i : goal.invariant-loop-i
invariant-loop-i l = (Puts l.initial.out l.from l.at l.out (rows_octets l.text l.given l.table l.i)) × (l.at ≤ l.from + l.i * row_most) × (l.rows ≡ rows_of l.given l.table)
