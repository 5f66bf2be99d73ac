-- `found_octets` meets its contract: what is found from here on is what is found in all.
-- Assumes nothing.
use Prim.Native.Nat.{◌≤◌}
use mathlib.Core.Path.{◌≡◌}
use lib.ListN.{drop}
use Rattle.decimal.specs.Machine.{found, scanned_by, counted, least_in}
use Rattle.forms.specs.Streams.{part}
use Rattle.forms.proofs.integers.found_octets.Given as goal

abbrev pub invariant-loop-o : goal.invariant-loop-o
invariant-loop-o l =
    (counted l.u.before ≤ l.o-index) × (found (scanned_by l.u (drop l.o-index (part l.s l.from l.to))) ≡ least_in (part l.s l.from l.to))
