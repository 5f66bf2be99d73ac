-- `eights` meets its contract: eight octets at a time: what is left from octet i on gives what all that count give, and those before it and the last eight are plain
-- where no high bit was seen.
-- Assumes nothing.
use mathlib.Core.Path.{◌≡◌}
use Prim.Native.Nat.{◌-◌, ◌/◌, ◌<◌}
use Rattle.tables.specs.Located.{stretch, octets_of}
use Rattle.index.specs.Hash.{rolled}
use Rattle.index.proofs.Plain.{EightsSeen}
use Rattle.format.specs.declared.StringForm.TheVariants.{Utf8}
use Rattle.index.proofs.eights.Given as goal

abbrev pub invariant-loop-i : goal.invariant-loop-i
invariant-loop-i l =
    (l.i < l.n) × (l.number < 0x100000000)
    × (rolled (octets_of l.s (stretch Utf8 l.place l.n)) l.i ((l.n - l.i - 1) / 8) l.number ≡ rolled (octets_of l.s (stretch Utf8 l.place l.n)) 0 ((l.n - 1) / 8) 0)
    × EightsSeen l.s l.place l.n l.i l.other

abbrev pub decreases-loop-i : goal.decreases-loop-i
decreases-loop-i l = l.n - l.i
