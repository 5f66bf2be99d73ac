-- `announced`: the records before number k are declarations, so that what is announced is announced from there.
-- Assumes nothing.
use Rattle.std.proofs.Common.{◌≡◌, drop}
use Rattle.write_items.specs.Steps.{announced}
use Rattle.write_rows.proofs.ahead.announced.Given as goal

abbrev pub invariant-loop-k : goal.invariant-loop-k
invariant-loop-k l = announced (drop l.k l.events) ≡ announced (drop l.fn.i l.fn.events)
