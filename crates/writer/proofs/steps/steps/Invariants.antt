-- `steps` meets its contract: a step and a ride leave a run underway.
-- Assumes nothing.
use Rattle.std.proofs.Common.{◌-◌, ◌/◌, length}
use Rattle.writer.proofs.RideLaws.{Stepping, Begins}
use Rattle.writer.proofs.steps.steps.Given as goal

abbrev pub invariant-loop-i : goal.invariant-loop-i
invariant-loop-i l =
    Stepping (Begins l.records l.text l.room l.initial.st l.initial.counts l.initial.out l.initial.t l.initial.index) l.records l.text l.room l.i l.st l.counts l.out l.t l.index l.memory

abbrev pub decreases-loop-i : goal.decreases-loop-i
decreases-loop-i l = length l.records / 14 - l.i
