-- `value_from` meets its contract: what is left to read behind v is what was to be read behind x.
-- Assumes nothing.
use Rattle.std.proofs.Common.{◌≡◌, ◌+◌, ◌-◌, ◌^◌, ◌<◌}
use Rattle.fields.specs.Fields.{value_from}
use Rattle.fields.proofs.value_from.Given as goal

abbrev pub invariant-loop-o : goal.invariant-loop-o
invariant-loop-o l = (value_from l.s (l.at + l.o-index) l.v (l.more - l.o-index) ≡ value_from l.s l.at l.x l.more) × (l.v < 256 ^ (l.o-index + 1))
