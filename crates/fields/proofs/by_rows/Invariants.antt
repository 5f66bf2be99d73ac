-- `by_rows` meets its contract: row by row, the octets fit one of the rows from here on where they fit one of all.
-- Assumes nothing.
use Rattle.std.proofs.Common.{◌≡◌, drop}
use Rattle.fields.specs.Utf8.{by_rows}
use Rattle.fields.proofs.by_rows.Given as goal

abbrev pub invariant-loop-row : goal.invariant-loop-row
invariant-loop-row l = by_rows l.n l.rows l.s ≡ by_rows l.n (drop l.row-index l.rows) l.s
