-- `recalled` meets its contract: the slot names a record, and it is the same.
-- Assumes nothing.
use native.Mathlib.Omega.{arith}
use Rattle.writer.specs.LaneContracts.{Filed}
use Rattle.writer.proofs.lane.recalled.Goals as goal

pub same_record-requires : goal.same_record-requires
unfolding Filed
same_record-requires c = let f = c.requires.1 c.slot.result (omega (arith, c.if-m-ne0.true)) in (omega arith, omega (arith, c.record_of.ensures))
