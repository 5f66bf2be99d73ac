-- `Lane::run`: the lane is where it may go on, and what was passed leads where it led.
-- Assumes nothing.
use Rattle.std.proofs.Common.{◌-◌, ◌/◌, length}
use Rattle.writer.specs.LaneContracts.{Safe, Passes, Onward}
use Rattle.writer.proofs.lane.Lane.run.Given as goal

abbrev pub invariant-loop-taken : goal.invariant-loop-taken
invariant-loop-taken l =
    record { safe : Safe l.w l.memory l.l; passes : Passes l.w l.memory l.room l.initial.l l.initial.out l.l l.out; on : Onward l.initial.l.i l.l.i (length l.w / 14) }

abbrev pub decreases-loop-taken : goal.decreases-loop-taken
decreases-loop-taken l = length l.w / 14 - l.l.i
