-- `find_any` meets its contract: the lowest number among the entries left is that among all.
-- Assumes nothing.
use mathlib.Core.Path.{sym, ◌∙◌}
use native.Mathlib.Omega.{arith}
use Rattle.tables.proofs.Search.{left_next, left_here, left_end, strings-left, all_at}
use Rattle.tables.proofs.find_any.Goals as goal

pub loop-i-init : goal.loop-i-init
loop-i-init c = strings-left _ _ _ _ _

pub is_string-requires : goal.is_string-requires
is_string-requires c = (omega arith, omega arith, omega arith, omega arith, all_at _ _ _ _ _ c.requires.4 (omega arith))

pub returns-then-is_string : goal.returns-then-is_string
returns-then-is_string c = left_here _ _ _ _ _ _ c.loop-i.invariant (omega arith) (sym c.is_string.ensures ∙ c.if-is_string.true)

pub loop-i-preserved : goal.loop-i-preserved
loop-i-preserved c = left_next _ _ _ _ _ _ c.loop-i.invariant (omega arith) (sym c.is_string.ensures ∙ c.if-is_string.false)

pub returns : goal.returns
returns c = left_end _ _ _ _ _ _ c.loop-i.invariant (omega arith)
