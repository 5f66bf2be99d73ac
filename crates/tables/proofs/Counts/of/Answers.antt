-- `Counts::of` meets its contract: each number picks its count.
-- Assumes nothing.
use native.Mathlib.Omega.{arith}
use Rattle.tables.proofs.ByNumber.{count_at}
use Rattle.tables.proofs.Counts.of.Goals as goal

pub returns-in-0 : goal.returns-in-0
returns-in-0 c = count_at _ _ 0 (omega arith)

pub returns-in-1 : goal.returns-in-1
returns-in-1 c = count_at _ _ 1 (omega arith)

pub returns-in-2 : goal.returns-in-2
returns-in-2 c = count_at _ _ 2 (omega arith)

pub returns-in-3 : goal.returns-in-3
returns-in-3 c = count_at _ _ 3 (omega arith)

pub returns-in-4 : goal.returns-in-4
returns-in-4 c = count_at _ _ 4 (omega arith)

pub returns-in-5 : goal.returns-in-5
returns-in-5 c = count_at _ _ 5 (omega arith)

pub returns-in-6 : goal.returns-in-6
returns-in-6 c = count_at _ _ 6 (omega arith)

pub returns-in-7 : goal.returns-in-7
returns-in-7 c = count_at _ _ 7 (omega arith)

pub returns-in-8 : goal.returns-in-8
returns-in-8 c = count_at _ _ 8 (omega arith)

pub returns-in_default : goal.returns-in_default
returns-in_default c = count_at _ _ 9 (omega arith)
