-- `remember` meets its contract: one word is set.
-- Assumes nothing.
use mathlib.Core.Path.{refl}
use Rattle.writer.proofs.lane.remember.Goals as goal

pub returns : goal.returns
returns c = record { slot = c.slot-s.result; is = refl }
