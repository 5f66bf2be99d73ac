-- `step` meets its contract: a law for each way out.
-- Assumes nothing.
use mathlib.Core.Path.{sym}
use Rattle.std.proofs.lemmas.Result.{err_from_is_err_and}
use Rattle.write_items.specs.StepContracts.{verdict}
use Rattle.write_items.proofs.Faults.{judge_fault}
use Rattle.write_items.proofs.StepLaws.{step_fit, step_full, step_held}
use Rattle.write_items.proofs.items.step.Goals as goal

pub returns-in_err-judge : goal.returns-in_err-judge
unfolding verdict
returns-in_err-judge c =
    let p = err_from_is_err_and c.from_residual.result c.from_residual.ensures.1 in
    rw (p.1, p.2) (judge_fault _ _ _ _ _ _ _ _ (sym (c.in_err-judge.ensures _)))

pub item-requires : goal.item-requires
item-requires c =
    step_fit c.args.text.now c.args.st c.args.counts.now c.args.t.now c.args.e c.requires (sym (c.in_ok-judge.ensures _)) c.settle-settled.ensures.0

pub returns-in_err-next : goal.returns-in_err-next
returns-in_err-next c =
    let p = err_from_is_err_and c.from_residual-in_err-next.result c.from_residual-in_err-next.ensures.1 in
    rw (p.1, p.2) (step_full c.args.text.now c.args.st c.args.counts.now c.args.t.now c.args.e c.args.a (sym (c.in_ok-judge.ensures _)) c.args.room _ c.args.out.now _ c.settle-settled.ensures _ c.in_err-next.ensures)

pub returns : goal.returns
returns c =
    step_held c.args.text.now c.args.st c.args.counts.now c.args.t.now c.args.e c.args.a (sym (c.in_ok-judge.ensures _)) c.args.room _ c.args.out.now _ c.settle-settled.ensures c.in_ok-next.ensures _ (c.held.ensures _)
