-- `pack_said` meets its contract: two octets that the stream gives are put in one, behind those before.
-- Assumes nothing.
use mathlib.Core.Path.{◌≡◌}
use mathlib.Core.Bool.{true}
use lib.ListN.{length}
use Rattle.forms.specs.Packing.{alphabet, all_letters, packed_by}
use Rattle.forms.specs.Streams.{ahead, Fine}
use Rattle.forms.proofs.Puts.{Left}
use Rattle.forms.proofs.packing.pack_said.Given as goal

abbrev pub invariant-loop-o : goal.invariant-loop-o
invariant-loop-o l =
    Fine l.u × (all_letters (alphabet l.letters) (ahead l.u) ≡ true) × Left l.initial.out l.at (packed_by (alphabet l.letters) (ahead l.initial.u)) l.out l.i (packed_by (alphabet l.letters) (ahead l.u))

abbrev pub decreases-loop-o : goal.decreases-loop-o
decreases-loop-o l = length (ahead l.u)
