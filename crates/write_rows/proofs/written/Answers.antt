-- `written` meets its contract: the head, all the records, then the end.
-- Assumes nothing.
use native.Mathlib.Omega.{arith}
use mathlib.Core.Path.{◌≡◌}
use lib.ListN.{length}
use Rattle.std.proofs.lemmas.Result.{err_from_is_err_and}
use Rattle.std.specs.Prelude.{Ok, Err}
use Rattle.index.proofs.Counted.{words-listed}
use Rattle.writer.proofs.RunLaws.{run_finished, underway_number}
use Rattle.writer.proofs.StartLaws.{remains_in}
use Rattle.write_rows.proofs.RowLaws.{row_begun, row_refused, row_on, row_stopped}
use Rattle.write_rows.proofs.written.Goals as goal

pub returns-in_err-st : goal.returns-in_err-st
returns-in_err-st c =
    let a = c.args in
    let b = c.begun.new in
    let p = err_from_is_err_and c.from_residual.result c.from_residual.ensures.1 in
    rw (p.1, p.2) (row_refused a.given.now a.text.now (length a.tables.now) b.counts b.out b.t b.index (omega (arith, c.begun.auto)) a.events.now _ c.in_err-st.ensures.0)

pub loop-i-init : goal.loop-i-init
loop-i-init c =
    let a = c.args in
    let b = c.begun.new in
    let g = row_begun a.given.now a.text.now (length a.tables.now) b.counts b.out b.t b.index {size = length a.out.now} (omega (arith, c.begun.auto)) a.events.now _ c.in_ok-st.ensures.0 in
    record { table = g.0; under = g.1 }

pub step-requires : goal.step-requires
step-requires c = c.loop-i.invariant.under.ready

pub loop-i-preserved : goal.loop-i-preserved
loop-i-preserved c =
    let n = c.step.new in
    record {
      table = c.loop-i.invariant.table;
      under = row_on c.loop-i.invariant.under c.loop-i-test.true c.announces-a.ensures c.step.result n.out n.counts n.t n.index (rw c.load.ensures at c.step.ensures) c.in-Ok.is;
    }

pub returns-in-Err : goal.returns-in-Err
returns-in-Err c =
    let n = c.step.new in
    rw c.at.ensures (row_stopped c.loop-i.invariant.under c.loop-i-test.true c.announces-a.ensures c.step.result n.out n.counts n.t n.index (rw c.load.ensures at c.step.ensures) c.in-Err.is (omega (arith, c.step.auto)) (omega arith) c.loop-i.invariant.table)

pub ended-requires : goal.ended-requires
ended-requires c =
    let u = c.loop-i.invariant.under in
    let n = underway_number u in
    (u.ready.at, omega (arith, c.loop-i-test.false))

pub returns-in_err-octets : goal.returns-in_err-octets
returns-in_err-octets c =
    let l = c.loop-i in
    let z : l.i ≡ length c.args.events.now = omega (arith, c.loop-i-test.false) in
    let u = rw z at l.invariant.under in
    let p = err_from_is_err_and c.from_residual-in_err-octets.result c.from_residual-in_err-octets.ensures.1 in
    rw (p.1, p.2) (remains_in (Err c.in_err-octets.field-0.0) l.counts c.ended.new.out l.tables (run_finished u (omega arith) (Err c.in_err-octets.field-0.0) c.ended.new.out c.in_err-octets.ensures.0) (omega arith) l.invariant.table)

pub returns : goal.returns
returns c =
    let l = c.loop-i in
    let z : l.i ≡ length c.args.events.now = omega (arith, c.loop-i-test.false) in
    let u = rw z at l.invariant.under in
    rw (c.counts_in.ensures, words-listed l.counts u.ready.order.ten) (run_finished u (omega arith) (Ok c.in_ok-octets.octets) c.ended.new.out c.in_ok-octets.ensures.0)
