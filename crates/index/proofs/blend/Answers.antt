-- `blend` meets its contract: one remainder.
-- Assumes nothing.
use native.Mathlib.Omega.{arith}
use Rattle.index.specs.Hash.{blended}
use Rattle.index.proofs.blend.Goals as goal

pub returns : goal.returns
unfolding blended
returns c = (rw c.sum.ensures, omega arith)
