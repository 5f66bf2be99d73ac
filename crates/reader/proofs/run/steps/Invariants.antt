-- `steps` meets its contract: the run is underway at each turn, before the lane and behind it, and each way out ends it.
-- Assumes nothing.
use mathlib.Core.Path.{◌≡◌}
use lib.ListN.{length}
use Rattle.tables.specs.Rows.{vocabulary}
use Rattle.tables.specs.Kept.{unlisted}
use Rattle.read_items.specs.Promises.{lent}
use Rattle.reader.specs.Reading.{origin}
use Rattle.reader.specs.LaneContracts.{Underway}
use Rattle.reader.proofs.run.steps.Given as goal

abbrev pub invariant-loop-left : goal.invariant-loop-left
invariant-loop-left l =
    (length l.t ≡ length l.initial.t) × (length l.counts ≡ length l.initial.counts) × (length l.index ≡ length l.initial.index) × Underway l.s l.initial.records l.room (origin l.body (vocabulary (unlisted l.initial.counts) l.initial.t)) l.left l.n l.st (lent l.t l.counts l.index l.records)

abbrev pub decreases-loop-left : goal.decreases-loop-left
decreases-loop-left l = l.left
