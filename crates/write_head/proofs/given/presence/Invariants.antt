-- `presence` meets its contract: a bit for each table before.
-- Assumes nothing.
use mathlib.Core.Path.{◌≡◌}
use Rattle.write_head.proofs.RowLaws.{bits_before}
use Rattle.write_head.proofs.given.presence.Given as goal

abbrev pub invariant-loop-count : goal.invariant-loop-count
invariant-loop-count l = l.bits ≡ bits_before l.given l.count-index
