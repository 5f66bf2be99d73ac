-- `found_said` meets its contract: what is found from here on is what is found in all.
-- Assumes nothing.
use Prim.Native.Nat.{◌≤◌, ◌+◌}
use mathlib.Core.Path.{◌≡◌}
use lib.ListN.{length}
use Rattle.decimal.specs.Machine.{found, scanned_by, counted, least_in}
use Rattle.forms.specs.Streams.{ahead}
use Rattle.forms.proofs.integers.found_said.Given as goal

abbrev pub invariant-loop-o : goal.invariant-loop-o
invariant-loop-o l =
    (counted l.scan.before + length (ahead l.o-iterator) ≤ length (ahead l.initial.o-iterator)) × (found (scanned_by l.scan (ahead l.o-iterator)) ≡ least_in (ahead l.initial.o-iterator))
