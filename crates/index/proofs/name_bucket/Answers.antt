-- `name_bucket` meets its contract: three numbers, spread.
-- Assumes nothing.
use mathlib.Core.Path.{◌∙◌}
use Rattle.index.specs.Hash.{name_bucket}
use Rattle.index.proofs.name_bucket.Goals as goal

pub returns : goal.returns
unfolding name_bucket
returns c = (c.spread.ensures.0 ∙ rw (c.from.ensures, c.from-2.ensures, c.from-3.ensures), c.spread.ensures.1)
