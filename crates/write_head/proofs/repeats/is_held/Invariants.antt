-- `is_held` meets its contract: none of the rows before is the same.
-- Assumes nothing.
use mathlib.Core.Path.{◌≡◌}
use mathlib.Core.Bool.{false}
use Prim.Native.Nat.{ℕ, ◌+◌, ◌*◌}
use Rattle.write_head.specs.RowContracts.{some_below, same_row}
use Rattle.write_head.specs.Given.{rows_of}
use Rattle.write_head.proofs.repeats.is_held.Given as goal

abbrev pub invariant-loop-j : goal.invariant-loop-j
invariant-loop-j l = some_below (λ (k : ℕ). same_row l.text l.given l.table (rows_of l.given l.table + 3 * k) (rows_of l.given l.table + 3 * l.i)) l.j ≡ false
