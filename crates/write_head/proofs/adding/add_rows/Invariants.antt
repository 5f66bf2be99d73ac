-- `add_rows` meets its contract: the rows before are added.
-- Assumes nothing.
use mathlib.Core.Path.{◌≡◌}
use mathlib.Core.Bool.{true}
use Rattle.write_names.specs.Promises.{tables_in}
use Rattle.write_head.specs.Given.{rows_of}
use Rattle.write_head.specs.RowContracts.{below, keeps_row, add_rows, Grown}
use Rattle.write_head.proofs.adding.add_rows.Given as goal

abbrev pub invariant-loop-i : goal.invariant-loop-i
invariant-loop-i l = Grown l.text l.table l.i (add_rows l.given (tables_in l.initial.counts l.initial.t) l.table l.i) l.initial.counts l.counts l.t l.index × (l.rows ≡ rows_of l.given l.table) × (below (keeps_row 11 l.text l.given l.table) l.i ≡ true)
