-- `is_listed` meets its contract: the walk along a chain, as that of `find_chained`.
-- Assumes nothing.
use mathlib.Core.Path.{◌≡◌}
use Prim.Native.Nat.{◌+◌, ◌-◌, ◌≤◌}
use lib.ListN.{get_or}
use Rattle.tables.specs.Located.{stretch, octets_of}
use Rattle.index.proofs.Walks.{StringWalk}
use Rattle.format.specs.declared.StringForm.TheVariants.{Utf8}
use Rattle.index.proofs.is_listed.Given as goal

abbrev pub invariant-loop-row : goal.invariant-loop-row
invariant-loop-row l =
    (l.last ≡ get_or l.s (l.place + (l.len - 1)) 0) × StringWalk l.s l.t l.table l.n (octets_of l.s (stretch Utf8 l.place l.len)) l.row × (l.row ≤ l.n)

abbrev pub decreases-loop-row : goal.decreases-loop-row
decreases-loop-row l = l.row
