-- `announced`: the records before number k are declarations, so that what is announced is announced from there.
-- Assumes nothing.
use Rattle.std.proofs.Common.{◌≡◌, drop}
use Rattle.events.specs.FromWords.{records_of}
use Rattle.write_items.specs.Steps.{announced}
use Rattle.writer.proofs.ahead.announced.Given as goal

abbrev pub invariant-loop-k : goal.invariant-loop-k
invariant-loop-k l = announced (drop l.k (records_of l.records)) ≡ announced (drop l.fn.i (records_of l.records))
