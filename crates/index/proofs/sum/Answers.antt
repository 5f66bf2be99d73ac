-- `sum` meets its contract: three products that fit.
-- Assumes nothing.
use mathlib.Core.Path.{refl}
use Rattle.index.specs.Hash.{summed}
use Rattle.index.proofs.sum.Goals as goal

pub returns : goal.returns
unfolding summed
returns c = refl
