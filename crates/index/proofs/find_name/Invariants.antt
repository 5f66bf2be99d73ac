-- `find_name` meets its contract: the walk along a chain; the number itself falls.
-- Assumes nothing.
use Prim.Native.Nat.{◌≤◌}
use Rattle.index.proofs.Walks.{NameWalk}
use Rattle.index.proofs.find_name.Given as goal

abbrev pub invariant-loop-j : goal.invariant-loop-j
invariant-loop-j l =
    NameWalk l.t l.table l.n (record { prefix = l.prefix; namespace = l.namespace; local = l.local }) l.j × (l.j ≤ l.n)

abbrev pub decreases-loop-j : goal.decreases-loop-j
decreases-loop-j l = l.j
