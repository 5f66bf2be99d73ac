-- `same_short` meets its contract: where the last four octets are the same, the first four tell what the whole does.
-- Assumes nothing.
use mathlib.Core.Path.{refl, sym, ◌∙◌}
use Prim.Native.Nat.{◌+◌, ◌-◌}
use native.Mathlib.Omega.{arith}
use Rattle.tables.proofs.Search.{same_before, same_differ, same_between}
use Rattle.tables.proofs.Weights.{weights}
use Rattle.tables.proofs.same_short.Goals as goal

pub returns-then-four : goal.returns-then-four
returns-then-four c =
    let a = c.args in
    let f = c.four.ensures in
    let g = c.four-2.ensures in
    let w = weights a.x.now a.y.now (a.a + (a.n - 4)) (a.b + (a.n - 4)) 4 _ _ (omega arith) (omega arith) (f.0, f.1) (g.0, g.1) in
    same_differ _ _ _ a.a a.b a.n 4 _ _ (omega arith) (omega arith) (omega arith) w refl c.if-four.true

pub returns : goal.returns
returns c =
    let a = c.args in
    let f = c.four.ensures in
    let g = c.four-2.ensures in
    let p = c.four-3.ensures in
    let q = c.four-4.ensures in
    let w = weights a.x.now a.y.now (a.a + (a.n - 4)) (a.b + (a.n - 4)) 4 _ _ (omega arith) (omega arith) (f.0, f.1) (g.0, g.1) in
    let e = same_before _ _ _ a.a a.b a.n 4 _ _ (omega arith) (omega arith) (omega arith) w refl c.if-four.false in
    sym (weights a.x.now a.y.now a.a a.b 4 _ _ (omega arith) (omega arith) (p.0, p.1) (q.0, q.1))
    ∙ same_between _ _ _ a.a a.b (a.n - 4) 4 a.n (omega arith) (omega arith) (omega arith) (omega arith) e refl
