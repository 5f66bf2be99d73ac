-- `push` meets its contract: two stores.
-- Assumes nothing.
use native.Mathlib.Omega.{arith}
use lib.ListN.{length-set}
use Rattle.index.specs.Chain.{pushed}
use Rattle.index.proofs.push.Goals as goal

pub bounds-index-front-2 : goal.bounds-index-front-2
bounds-index-front-2 c = simp length-set (omega arith)

pub returns : goal.returns
unfolding pushed
returns c = rw c.wide.ensures
