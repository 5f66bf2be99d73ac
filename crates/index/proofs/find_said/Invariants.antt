-- `find_said` meets its contract: the walk along a chain, as that of `find_chained`.
-- Assumes nothing.
use Prim.Native.Nat.{◌≤◌}
use Rattle.tables.specs.Located.{stretch, octets_of}
use Rattle.index.proofs.Walks.{StringWalk}
use Rattle.index.proofs.find_said.Given as goal

abbrev pub invariant-loop-i : goal.invariant-loop-i
invariant-loop-i l = StringWalk l.s l.t l.table l.n (octets_of l.s (stretch l.form l.place l.len)) l.i × (l.i ≤ l.n)

abbrev pub decreases-loop-i : goal.decreases-loop-i
decreases-loop-i l = l.i
