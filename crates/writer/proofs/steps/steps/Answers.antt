-- `steps` meets its contract: a step and a ride leave a run underway.
-- Assumes nothing.
use native.Mathlib.Omega.{arith}
use mathlib.Core.Path.{refl}
use Rattle.writer.proofs.RideLaws.{stepping_start, stepping_ready, stepping_small, stepped, step_stopped, stepped_few, stepped_safe, stepped_learned, stepped_filed, stepping_on, stepped_through, misnamed_stopped}
use Rattle.writer.proofs.steps.steps.Goals as goal

pub loop-i-init : goal.loop-i-init
loop-i-init c =
    let a = c.args in
    stepping_start a.records.now a.text.now a.room a.first a.counts.now a.out.now a.t.now a.index.now 128 c.requires

pub returns-then-not-names_in_utf8 : goal.returns-then-not-names_in_utf8
returns-then-not-names_in_utf8 c =
    rw c.at.ensures ((λ o g. misnamed_stopped c.loop-i.invariant c.loop-i-test.true (c.names_in_utf8.ensures c.if-not-names_in_utf8.true) o g), stepping_small c.loop-i.invariant)

pub step-requires : goal.step-requires
step-requires c = stepping_ready c.loop-i.invariant

pub returns-in-Err : goal.returns-in-Err
returns-in-Err c =
    rw c.at-in-Err.ensures ((λ o g. step_stopped c.loop-i.invariant c.loop-i-test.true c.from_words-e.ensures c.announces-a.ensures c.step.result c.step.new.out c.step.new.counts c.step.new.t c.step.new.index c.step.ensures c.in-Err.is (omega (arith, c.step.auto)) o g), stepping_small c.loop-i.invariant)

pub learn-requires : goal.learn-requires
learn-requires c =
    let s = stepped c.loop-i.invariant c.loop-i-test.true c.from_words-e.ensures c.announces-a.ensures c.step.result c.step.new.out c.step.new.counts c.step.new.t c.step.new.index c.step.ensures c.in-Ok.is in
    (c.loop-i-test.true, stepping_small c.loop-i.invariant, stepped_few s)

pub ride-l-requires : goal.ride-l-requires
ride-l-requires c =
    let s = stepped c.loop-i.invariant c.loop-i-test.true c.from_words-e.ensures c.announces-a.ensures c.step.result c.step.new.out c.step.new.counts c.step.new.t c.step.new.index c.step.ensures c.in-Ok.is in
    let kept = c.learn.new.memory in
    let learned = stepped_learned s kept c.learn.ensures in
    ((stepped_safe s).0, (stepped_safe s).1, stepped_filed s kept learned)

pub loop-i-preserved : goal.loop-i-preserved
loop-i-preserved c =
    let s = stepped c.loop-i.invariant c.loop-i-test.true c.from_words-e.ensures c.announces-a.ensures c.step.result c.step.new.out c.step.new.counts c.step.new.t c.step.new.index c.step.ensures c.in-Ok.is in
    let kept = c.learn.new.memory in
    stepping_on s kept (stepped_learned s kept c.learn.ensures) c.loop-i-test.true c.ride-l.ensures c.arrived-st.ensures

pub returns : goal.returns
returns c = ((λ o g. stepped_through c.loop-i.invariant (omega (arith, c.loop-i-test.false)) o g), tt)
