-- `put_said` meets its contract: each octet that the stream gives is put after the one before.
-- Assumes nothing.
use borrow.Author.Rules.{rules}
use native.Mathlib.Omega.{arith}
use Rattle.forms.proofs.Streams.{bounded}
use Rattle.forms.proofs.Puts.{left_done, left_next, left-place}
use Rattle.forms.proofs.put_said.Goals as goal

pub loop-o-init : goal.loop-o-init
loop-o-init c = λ r out' p. p

pub overflow_add-i : goal.overflow_add-i
overflow_add-i c =
    let a = c.args in
    let p = c.requires in
    let b = rw (c.over-o-items.ensures.1, ← c.into_iter-o-iterator.ensures.into_iter_gives) at (bounded a.s.now a.form a.from a.to p.2 p.4) in
    let i = left-place _ _ _ _ c.loop-o.i _ c.loop-o.invariant in
    search rules

pub loop-o-preserved : goal.loop-o-preserved
loop-o-preserved c = left_next _ _ _ c.loop-o.out c.loop-o.i _ _ _ _ c.in-Some.ensures.steps c.put.ensures c.loop-o.invariant

pub returns : goal.returns
returns c =
    let a = c.args in
    let p = c.requires in
    let e = rw c.into_iter-o-iterator.ensures.into_iter_gives at (left_done _ _ _ _ _ _ c.in-None.ensures.steps.0 c.loop-o.invariant) in
    let b = rw c.over-o-items.ensures.1 at (bounded a.s.now a.form a.from a.to p.2 p.4) in
    let i = e.behind in
    (rw c.over-o-items.ensures.1 e, omega arith)
