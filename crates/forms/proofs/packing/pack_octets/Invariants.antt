-- `pack_octets` meets its contract: two octets are put in one, after those before, and the last alone where it is left over.
-- Assumes nothing.
use mathlib.Core.Path.{◌≡◌}
use mathlib.Core.Bool.{true}
use Rattle.forms.specs.Packing.{alphabet, all_letters, packed_by}
use Rattle.forms.specs.Streams.{part}
use Rattle.forms.proofs.Puts.{Left}
use Rattle.forms.proofs.packing.pack_octets.Given as goal

abbrev pub invariant-loop-pair : goal.invariant-loop-pair
invariant-loop-pair l =
    (l.pair-iterator.size ≡ 2) × (all_letters (alphabet l.letters) l.pair-iterator.rest.now ≡ true)
    × Left l.initial.out l.at (packed_by (alphabet l.letters) (part l.s l.from l.to)) l.out l.i (packed_by (alphabet l.letters) l.pair-iterator.rest.now)
