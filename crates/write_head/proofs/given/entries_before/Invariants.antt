-- `entries_before` meets its contract: the counts of the tables before are summed.
-- Assumes nothing.
use Prim.Native.Nat.{◌*◌, ◌≤◌}
use mathlib.Core.Path.{◌≡◌}
use Rattle.write_head.specs.Given.{entries_before}
use Rattle.write_head.proofs.given.entries_before.Given as goal

abbrev pub invariant-loop-count : goal.invariant-loop-count
invariant-loop-count l = (l.n ≡ entries_before l.given l.count-index) × (l.n ≤ l.count-index * 0x1_0000_0000)
