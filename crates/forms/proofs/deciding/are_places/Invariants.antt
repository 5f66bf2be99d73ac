-- `are_places` meets its contract: what is left is places where the whole is.
-- Assumes nothing.
use mathlib.Core.Path.{◌≡◌}
use lib.ListN.{drop}
use Rattle.forms.specs.Reading.{are_places}
use Rattle.forms.proofs.Sizes.{places_left}
use Rattle.forms.proofs.deciding.are_places.Given as goal

abbrev pub invariant-loop-o : goal.invariant-loop-o
invariant-loop-o l = places_left l.fills (drop l.o-index l.s) ≡ are_places l.s
