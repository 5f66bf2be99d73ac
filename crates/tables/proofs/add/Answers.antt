-- `add` meets its contract: three stores, one behind the other.
-- Assumes nothing.
use native.Mathlib.Omega.{arith}
use native.Mathlib.Numerals.{add-one, add-two}
use lib.ListN.{length-set}
use Rattle.tables.specs.Kept.{stored}
use Rattle.tables.proofs.add.Goals as goal

pub bounds-t-j-2 : goal.bounds-t-j-2
bounds-t-j-2 c = simp length-set (omega arith)

pub bounds-t-j-3 : goal.bounds-t-j-3
bounds-t-j-3 c = simp length-set (omega arith)

pub returns : goal.returns
unfolding stored
returns c = rw (c.at-j.ensures, add-one, add-two)
