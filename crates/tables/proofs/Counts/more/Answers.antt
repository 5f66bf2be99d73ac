-- `Counts::more` meets its contract: each number changes its count.
-- Assumes nothing.
use mathlib.Core.Path.{refl}
use native.Mathlib.Omega.{arith}
use Rattle.tables.proofs.ByNumber.{one_more_at}
use Rattle.tables.proofs.Counts.more.Goals as goal

pub returns-in-0 : goal.returns-in-0
returns-in-0 c = one_more_at _ _ _ 0 _ (omega arith) c.of-n.ensures refl

pub returns-in-1 : goal.returns-in-1
returns-in-1 c = one_more_at _ _ _ 1 _ (omega arith) c.of-n.ensures refl

pub returns-in-2 : goal.returns-in-2
returns-in-2 c = one_more_at _ _ _ 2 _ (omega arith) c.of-n.ensures refl

pub returns-in-3 : goal.returns-in-3
returns-in-3 c = one_more_at _ _ _ 3 _ (omega arith) c.of-n.ensures refl

pub returns-in-4 : goal.returns-in-4
returns-in-4 c = one_more_at _ _ _ 4 _ (omega arith) c.of-n.ensures refl

pub returns-in-5 : goal.returns-in-5
returns-in-5 c = one_more_at _ _ _ 5 _ (omega arith) c.of-n.ensures refl

pub returns-in-6 : goal.returns-in-6
returns-in-6 c = one_more_at _ _ _ 6 _ (omega arith) c.of-n.ensures refl

pub returns-in-7 : goal.returns-in-7
returns-in-7 c = one_more_at _ _ _ 7 _ (omega arith) c.of-n.ensures refl

pub returns-in-8 : goal.returns-in-8
returns-in-8 c = one_more_at _ _ _ 8 _ (omega arith) c.of-n.ensures refl

pub returns-in_default : goal.returns-in_default
returns-in_default c = one_more_at _ _ _ 9 _ (omega arith) c.of-n.ensures refl
