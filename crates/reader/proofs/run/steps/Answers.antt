-- `steps` meets its contract: the run is underway at each turn, before the lane and after it, and each way out ends it.
-- Assumes nothing.
use native.Mathlib.Omega.{arith}
use mathlib.Core.Path.{refl, ap, ◌∙◌}
use Rattle.std.specs.Prelude.{Ok}
use Rattle.read_names.proofs.StringLaws.{handed_on}
use Rattle.reader.proofs.RunLaws.{underway_start, underway_quiet, underway_more, ran_full, ran_done, ran_stop, ran_spent}
use Rattle.reader.proofs.run.steps.Goals as goal

pub begin-st-requires : goal.begin-st-requires
begin-st-requires c =
    let g = c.requires.1.size in
    omega arith

pub overflow_mul-left : goal.overflow_mul-left
overflow_mul-left c =
    let g = c.requires.1.size in
    omega arith

pub overflow_add-left : goal.overflow_add-left
overflow_add-left c =
    let g = c.requires.1.size in
    omega arith

pub loop-left-init : goal.loop-left-init
loop-left-init c =
    (refl, refl, refl, underway_start c.requires.0 c.requires.1 _ _ c.begin-st.ensures)

pub skim-y-requires : goal.skim-y-requires
skim-y-requires c =
    let u = c.loop-left.invariant.3 in
    let g = u.good.tidy.size in
    let a = u.good.at in
    let f = u.fuel in
    (record { index = _; tidy = u.good.tidy }, omega arith, omega arith, u.fits, omega arith)

pub overflow_add-left-in-loop-left : goal.overflow_add-left-in-loop-left
overflow_add-left-in-loop-left c =
    let u = c.loop-left.invariant.3 in
    let g = u.good.tidy.size in
    let f = u.fuel in
    omega arith

pub overflow_sub-left : goal.overflow_sub-left
overflow_sub-left c =
    let h = c.skim-y.ensures.short in
    omega arith

pub overflow_sub-left-in-loop-left : goal.overflow_sub-left-in-loop-left
overflow_sub-left-in-loop-left c =
    let h = c.skim-y.ensures.short in
    omega arith

pub step-requires : goal.step-requires
step-requires c =
    (c.skim-y.ensures.goes c.loop-left.invariant.3).good

pub returns-then-n-room : goal.returns-then-n-room
returns-then-n-room c =
    let u = c.skim-y.ensures.goes c.loop-left.invariant.3 in
    let h = c.skim-y.ensures.short in
    ran_full u (omega arith) c.step.ensures (c.in_ok-next.was ∙ ap Ok c.in-Event.is) c.if-n-room.true c.at.ensures

pub loop-left-preserved-in-Event : goal.loop-left-preserved-in-Event
loop-left-preserved-in-Event c =
    let u = c.skim-y.ensures.goes c.loop-left.invariant.3 in
    let h = c.skim-y.ensures.short in
    let i = c.loop-left.invariant in
    let k = c.skim-y.auto in
    let q = c.step.auto in
    (omega arith, omega arith, omega arith, underway_more u (omega arith) c.step.ensures (c.in_ok-next.was ∙ ap Ok c.in-Event.is) c.if-n-room.false (omega arith))

pub loop-left-preserved : goal.loop-left-preserved
loop-left-preserved c =
    let u = c.skim-y.ensures.goes c.loop-left.invariant.3 in
    let h = c.skim-y.ensures.short in
    let i = c.loop-left.invariant in
    let k = c.skim-y.auto in
    let q = c.step.auto in
    (omega arith, omega arith, omega arith, underway_quiet u (omega arith) c.step.ensures (c.in_ok-next.was ∙ ap Ok c.in-Quiet.is) (omega arith))

pub returns-in-Done : goal.returns-in-Done
returns-in-Done c =
    let u = c.skim-y.ensures.goes c.loop-left.invariant.3 in
    let h = c.skim-y.ensures.short in
    ran_done u (omega arith) c.step.ensures (c.in_ok-next.was ∙ ap Ok c.in-Done.is)

pub returns-in_err-next : goal.returns-in_err-next
returns-in_err-next c =
    let u = c.skim-y.ensures.goes c.loop-left.invariant.3 in
    let h = c.skim-y.ensures.short in
    rw (handed_on _ _ c.from_residual.ensures) (ran_stop u (omega arith) c.step.ensures c.in_err-next.was refl)

pub returns : goal.returns
returns c = ran_spent c.loop-left.invariant.3 (omega arith) c.at-2.ensures
