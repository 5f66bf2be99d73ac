-- `spread` meets its contract: a remainder by 128.
-- Assumes nothing.
use native.Mathlib.Omega.{arith}
use Rattle.index.specs.Hash.{spread}
use Rattle.index.proofs.spread.Goals as goal

pub returns : goal.returns
unfolding spread
returns c = (rw c.sum.ensures, omega arith)
