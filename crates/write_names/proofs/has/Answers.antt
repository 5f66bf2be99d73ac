-- `has` meets its contract: a law for each way out.
-- Assumes nothing.
use borrow.Author.Tests.{eqb-true, eqb-false}
use mathlib.Core.Path.{sym, ◌∙◌}
use Rattle.write_names.proofs.StringLaws.{has_none, has_one}
use Rattle.write_names.proofs.has.Goals as goal

pub returns-then-is_absent : goal.returns-then-is_absent
returns-then-is_absent c = has_none c.args.x (eqb-true _ _ (sym c.is_absent.ensures ∙ c.if-is_absent.true))

pub returns : goal.returns
returns c = has_one c.args.x (eqb-false _ _ (sym c.is_absent.ensures ∙ c.if-is_absent.false))
