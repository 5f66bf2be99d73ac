-- `written` meets its contract: the head, all the records, then the end.
-- Assumes nothing.
use native.Mathlib.Omega.{arith}
use mathlib.Core.Path.{refl}
use lib.ListN.{length}
use Rattle.std.proofs.lemmas.Result.{err_from_is_err_and}
use Rattle.std.specs.Prelude.{Ok, Err}
use Rattle.events.specs.FromWords.{records_of}
use Rattle.events.proofs.FromWords.{records_length}
use Rattle.writer.proofs.RunLaws.{run_finished, underway_number}
use Rattle.writer.proofs.StartLaws.{readied, readied_not, remains_in}
use Rattle.writer.proofs.run.written.Goals as goal

pub returns-in_err-first : goal.returns-in_err-first
returns-in_err-first c =
    let a = c.args in
    let b = c.begun.new in
    let p = err_from_is_err_and c.from_residual.result c.from_residual.ensures.1 in
    rw (p.1, p.2) (readied_not a.given.now a.text.now a.room (length a.t.now) _ b.counts b.out b.t b.index c.in_err-first.ensures.0 (omega (arith, c.begun.auto)) (records_of a.records.now), c.in_err-first.ensures.1)

pub steps-requires : goal.steps-requires
steps-requires c =
    let a = c.args in
    let b = c.begun.new in
    record { to = _; under = (readied a.given.now a.text.now a.room (length a.t.now) (Ok c.in_ok-first.first) b.counts b.out b.t b.index c.in_ok-first.ensures.0 {size = length a.out.now} (omega (arith, c.begun.auto)) (records_of a.records.now)).1 }

pub returns-in_err-last : goal.returns-in_err-last
returns-in_err-last c =
    let a = c.args in
    let b = c.begun.new in
    let g = readied a.given.now a.text.now a.room (length a.t.now) (Ok c.in_ok-first.first) b.counts b.out b.t b.index c.in_ok-first.ensures.0 {size = length a.out.now} (omega (arith, c.begun.auto)) (records_of a.records.now) in
    let d = c.steps.new in
    let p = err_from_is_err_and c.from_residual-in_err-last.result c.from_residual-in_err-last.ensures.1 in
    rw (p.1, p.2) (remains_in (Err c.in_err-last.field-0.0) d.counts d.out d.t (c.in_err-last.ensures.0 _ g.1) (omega (arith, c.begun.auto, c.steps.auto)) g.0, c.in_err-last.ensures.1)

pub ended-requires : goal.ended-requires
ended-requires c =
    let a = c.args in
    let b = c.begun.new in
    let g = readied a.given.now a.text.now a.room (length a.t.now) (Ok c.in_ok-first.first) b.counts b.out b.t b.index c.in_ok-first.ensures.0 {size = length a.out.now} (omega (arith, c.begun.auto)) (records_of a.records.now) in
    let u = (c.in_ok-last.ensures.0 _ g.1).1 in
    let n = records_length a.records.now in
    let m = underway_number u in
    (u.ready.at, omega arith)

pub returns : goal.returns
returns c =
    let a = c.args in
    let b = c.begun.new in
    let g = readied a.given.now a.text.now a.room (length a.t.now) (Ok c.in_ok-first.first) b.counts b.out b.t b.index c.in_ok-first.ensures.0 {size = length a.out.now} (omega (arith, c.begun.auto)) (records_of a.records.now) in
    let u = (c.in_ok-last.ensures.0 _ g.1).1 in
    let n = records_length a.records.now in
    let d = c.steps.new in
    (remains_in c.ended.result d.counts c.ended.new.out d.t (run_finished u (omega arith) c.ended.result c.ended.new.out (rw (← n) at c.ended.ensures.0)) (omega (arith, c.begun.auto, c.steps.auto)) g.0, c.ended.ensures.1)
