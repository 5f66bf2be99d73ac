-- `learn` meets its contract: a law for each way out.
-- Assumes nothing.
use native.Mathlib.Omega.{arith}
use Rattle.writer.proofs.RideLaws.{learned}
use mathlib.Core.Path.{sym, ◌∙◌}
use Rattle.writer.proofs.steps.learn.Goals as goal

pub returns-then-is_kind : goal.returns-then-is_kind
returns-then-is_kind c = learned c.args.records.now c.args.i (omega arith) c.args.before c.args.n (omega arith) (sym c.is_kind.ensures ∙ c.if-is_kind.true) c.remember.ensures
