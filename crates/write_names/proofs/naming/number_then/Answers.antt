-- `number_then` meets its contract: the number that the string has, none, or the next one of its table.
-- Assumes nothing.
use native.Mathlib.Omega.{arith}
use borrow.Author.Tests.{eqb-true, eqb-false}
use mathlib.Core.Path.{sym, ◌∙◌}
use Rattle.write_names.proofs.NameLaws.{then_held, then_absent, then_next}
use Rattle.write_names.proofs.naming.number_then.Goals as goal

pub returns-then-k-ne0 : goal.returns-then-k-ne0
returns-then-k-ne0 c = then_held _ _ _ (omega arith)

pub returns-then-is_absent : goal.returns-then-is_absent
returns-then-is_absent c = then_absent _ _ _ (omega arith) (eqb-true _ _ (sym c.is_absent.ensures ∙ c.if-is_absent.true))

pub returns : goal.returns
returns c = then_next _ _ _ (omega arith) (eqb-false _ _ (sym c.is_absent.ensures ∙ c.if-is_absent.false))
