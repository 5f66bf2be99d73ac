-- `same_few` meets its contract: what is left to compare tells what the whole does.
-- Assumes nothing.
use mathlib.Core.Path.{refl}
use native.Mathlib.Omega.{arith}
use Rattle.tables.proofs.Search.{same-octet, same_before, same_differ, same_none}
use Rattle.tables.proofs.same_few.Goals as goal

pub loop-i-init : goal.loop-i-init
loop-i-init c = refl

pub returns-then-x-a : goal.returns-then-x-a
returns-then-x-a c =
    let a = c.args in
    let l = c.loop-i in
    same_differ _ _ _ a.a a.b l.i 1 _ _ (omega arith) (omega arith) (omega arith) (same-octet _ _ _ _ (omega arith) (omega arith)) l.invariant c.if-x-a.true

pub loop-i-preserved : goal.loop-i-preserved
loop-i-preserved c =
    let a = c.args in
    let l = c.loop-i in
    same_before _ _ _ a.a a.b l.i 1 _ _ (omega arith) (omega arith) (omega arith) (same-octet _ _ _ _ (omega arith) (omega arith)) l.invariant c.if-x-a.false

pub returns : goal.returns
returns c = same_none _ _ _ _ _ _ (omega arith) c.loop-i.invariant
