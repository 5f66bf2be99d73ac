-- `same_octets` meets its contract: octets of another length differ, and what is left to compare tells what the whole does.
-- Assumes nothing.
use mathlib.Core.Path.{◌≡◌, sym, ◌∙◌}
use Prim.Native.Nat.{◌+◌, ◌-◌}
use native.Mathlib.Omega.{arith}
use Rattle.tables.proofs.Search.{other_length, same_before, same_differ, same_between}
use Rattle.tables.proofs.Weights.{weights}
use Rattle.tables.proofs.same_octets.Goals as goal

pub returns-then-m-n : goal.returns-then-m-n
returns-then-m-n c = other_length _ _ _ _ _ _ (omega arith) (omega arith) (omega arith)

pub returns-then-n-lt8 : goal.returns-then-n-lt8
returns-then-n-lt8 c =
    let e : c.args.m ≡ c.args.n = omega arith in
    rw e c.same_short.ensures

pub loop-i-init : goal.loop-i-init
loop-i-init c =
    let e : c.args.m ≡ c.args.n = omega arith in
    (omega arith, e, rw e)

pub returns-then-eight : goal.returns-then-eight
returns-then-eight c =
    let a = c.args in
    let l = c.loop-i in
    let w = weights a.x.now a.y.now (a.a + (l.i - 8)) (a.b + (l.i - 8)) 8 _ _ (omega arith) (omega arith) c.eight.ensures c.eight-in-loop-i.ensures in
    same_differ _ _ _ a.a a.b l.i 8 _ _ (omega arith) (omega arith) (omega arith) w l.invariant.2 c.if-eight.true

pub loop-i-preserved : goal.loop-i-preserved
loop-i-preserved c =
    let a = c.args in
    let l = c.loop-i in
    let w = weights a.x.now a.y.now (a.a + (l.i - 8)) (a.b + (l.i - 8)) 8 _ _ (omega arith) (omega arith) c.eight.ensures c.eight-in-loop-i.ensures in
    (omega arith, omega arith, same_before _ _ _ a.a a.b l.i 8 _ _ (omega arith) (omega arith) (omega arith) w l.invariant.2 c.if-eight.false)

pub returns : goal.returns
returns c =
    let l = c.loop-i in
    sym (weights _ _ _ _ 8 _ _ (omega arith) (omega arith) c.eight-2.ensures c.eight-3.ensures)
    ∙ same_between _ _ _ _ _ l.i 8 c.args.n (omega arith) (omega arith) (omega arith) (omega arith) l.invariant.2 (rw l.invariant.1)
