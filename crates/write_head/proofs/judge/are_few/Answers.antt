-- `are_few` meets its contract: the tables before are within their limit.
-- Assumes nothing.
use native.Mathlib.Omega.{arith}
use mathlib.Core.Path.{sym}
use Rattle.write_head.proofs.RowLaws.{below_none, few_more, few_not, below_end}
use Rattle.write_head.proofs.judge.are_few.Goals as goal

pub loop-table-init : goal.loop-table-init
loop-table-init c = below_none _

pub returns-then-built_in-given : goal.returns-then-built_in-given
returns-then-built_in-given c = few_not _ _ _ c.from-built_in.ensures (omega arith) (omega arith)

pub loop-table-preserved : goal.loop-table-preserved
loop-table-preserved c = few_more _ _ _ c.from-built_in.ensures c.loop-table.invariant (omega arith)

pub returns : goal.returns
returns c = sym (below_end _ _ _ c.loop-table.invariant (omega arith) (omega arith))
