-- `fill` meets its contract: each turn takes one step, and each way out ends the run.
-- Assumes nothing.
use mathlib.Core.Path.{refl, ap, ◌∙◌}
use native.Mathlib.Omega.{arith}
use Rattle.std.specs.Prelude.{Ok}
use Rattle.read_names.proofs.StringLaws.{handed_on}
use Rattle.read_rows.proofs.Laws.{filling_start, filling_more, filling_quiet, filled_spent, filled_full, filled_fault, filled_done}
use Rattle.read_rows.proofs.fill.Goals as goal
use Rattle.read_rows.proofs.fill.Goals.{in-Event+else-n-events, in-Quiet}

pub loop-init : goal.loop-init
loop-init c = filling_start c.requires.0 c.requires.1 c.requires.2 c.begin-st.ensures (omega arith)

pub returns-in_err-next : goal.returns-in_err-next
returns-in_err-next c = rw (handed_on _ _ c.from_residual.ensures) (filled_fault c.loop.invariant (omega arith) refl c.step.ensures c.in_err-next.was refl)

pub returns-then-n-events : goal.returns-then-n-events
returns-then-n-events c =
    let k = c.loop.auto.events in
    filled_full c.loop.invariant (omega arith) refl c.step.ensures (c.in_ok-next.was ∙ ap Ok c.in-Event.is) (omega arith) c.at.ensures

pub returns-in-Done : goal.returns-in-Done
returns-in-Done c = filled_done c.loop.invariant (omega arith) refl c.step.ensures (c.in_ok-next.was ∙ ap Ok c.in-Done.is)

pub loop-preserved : goal.loop-preserved
loop-preserved c =
    let u = c.loop.invariant in
    let f = u.few in
    let k = c.loop.auto.events in
    elim c.match-branch-2.branch [
      | in-Event+else-n-events w ↦ rw (w.events-is, w.store.ensures, w.st-is, w.n-is)
          (filling_more u (omega arith) refl c.step.ensures (c.in_ok-next.was ∙ ap Ok w.in-Event.is) (let n = w.if-n-events.false in omega arith) w.from_words.ensures (omega arith))
      | in-Quiet w ↦ rw (w.events-is, w.st-is, w.n-is) (filling_quiet u (omega arith) refl c.step.ensures (c.in_ok-next.was ∙ ap Ok w.in-Quiet.is) (omega arith))
    ]

pub returns : goal.returns
returns c = filled_spent c.loop.invariant (omega arith) c.at-2.ensures
