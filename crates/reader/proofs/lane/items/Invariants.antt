-- `items`: what the lane took so far, and each turn has one event more.
-- Assumes nothing.
use Prim.Native.Nat.{◌-◌}
use Rattle.reader.specs.LaneContracts.{Skims}
use Rattle.reader.proofs.lane.items.Given as goal

abbrev pub invariant-loop-next : goal.invariant-loop-next
invariant-loop-next l = Skims l.s l.full l.initial.lane l.initial.t l.initial.counts l.initial.records l.lane l.t l.counts l.records

abbrev pub decreases-loop-next : goal.decreases-loop-next
decreases-loop-next l = l.full - l.lane.n
