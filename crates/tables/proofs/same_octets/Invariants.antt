-- `same_octets` meets its contract: octets of another length differ, and what is left to compare tells what the whole does.
-- Assumes nothing.
use mathlib.Core.Path.{◌≡◌}
use Prim.Native.Nat.{◌≤◌}
use Rattle.format.specs.Tables.{same}
use Rattle.format.specs.declared.StringForm.TheVariants.{Utf8}
use Rattle.tables.specs.Located.{stretch, octets_of}
use Rattle.tables.proofs.same_octets.Given as goal

abbrev pub invariant-loop-i : goal.invariant-loop-i
invariant-loop-i l =
    (l.i ≤ l.n) × (l.m ≡ l.n) × (same (octets_of l.x (stretch Utf8 l.a l.i)) (octets_of l.y (stretch Utf8 l.b l.i)) ≡ same (octets_of l.x (stretch Utf8 l.a l.m)) (octets_of l.y (stretch Utf8 l.b l.n)))

abbrev pub decreases-loop-i : goal.decreases-loop-i
decreases-loop-i l = l.i
