-- `is_text16` meets its contract: what is left is characters where the whole is.
-- Assumes nothing.
use mathlib.Core.Path.{◌≡◌}
use lib.ListN.{length}
use Rattle.forms.specs.Reading.{is_text16}
use Rattle.forms.proofs.deciding.is_text16.Given as goal

abbrev pub invariant-loop-rest : goal.invariant-loop-rest
invariant-loop-rest l = is_text16 l.rest ≡ is_text16 l.s

abbrev pub decreases-loop-rest : goal.decreases-loop-rest
decreases-loop-rest l = length l.rest
