-- `find_chained` meets its contract: the walk along a chain; the number itself falls.
-- Assumes nothing.
use mathlib.Core.Path.{◌≡◌}
use Prim.Native.Nat.{◌+◌, ◌-◌, ◌≤◌}
use lib.ListN.{get_or}
use Rattle.tables.specs.Located.{stretch, octets_of}
use Rattle.index.proofs.Walks.{StringWalk}
use Rattle.format.specs.declared.StringForm.TheVariants.{Utf8}
use Rattle.index.proofs.find_chained.Given as goal

abbrev pub invariant-loop-k : goal.invariant-loop-k
invariant-loop-k l =
    (l.last ≡ get_or l.s (l.place + (l.len - 1)) 0) × StringWalk l.s l.t l.table l.n (octets_of l.s (stretch Utf8 l.place l.len)) l.k × (l.k ≤ l.n)

abbrev pub decreases-loop-k : goal.decreases-loop-k
decreases-loop-k l = l.k
