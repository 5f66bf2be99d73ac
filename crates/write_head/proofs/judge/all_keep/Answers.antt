-- `all_keep` meets its contract: the rows of the tables before, and those before in this one, keep to the rule.
-- Assumes nothing.
use native.Mathlib.Omega.{arith}
use Rattle.std.proofs.Common.{below_more}
use Rattle.write_head.proofs.judge.all_keep.Goals as goal

pub loop-table-init : goal.loop-table-init
loop-table-init g c = λ t h. absurd (omega arith)

pub loop-i-init : goal.loop-i-init
loop-i-init g c = λ j h. absurd (omega arith)

pub loop-i-preserved : goal.loop-i-preserved
loop-i-preserved g c = below_more _ _ c.loop-i.invariant (rw c.if-not-keeps.false at c.keeps.ensures)

pub loop-table-preserved : goal.loop-table-preserved
loop-table-preserved g c = below_more _ _ c.loop-table.invariant (λ i h. c.loop-i.invariant i (omega arith))

pub returns-clause-all : goal.returns-clause-all
returns-clause-all g c = λ e t i h l. c.loop-table.invariant t (omega arith) i l
