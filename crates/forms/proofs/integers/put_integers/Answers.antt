-- `put_integers` meets its contract: where a word ends, its integer is put after those before.
-- Assumes nothing.
use native.Mathlib.Omega.{arith}
use Rattle.format.specs.Forms.{width}
use Rattle.forms.specs.Streams.{ahead}
use Rattle.forms.proofs.Streams.{bounded}
use Rattle.forms.proofs.Puts.{left-place}
use Rattle.forms.proofs.Scanned.{width-most, all_fit, all_written, written-most, end_held, end_put, space_held, space_behind, space_put, octet-fits, octet-left}
use Rattle.forms.proofs.integers.put_integers.Goals as goal

pub loop-o-init : goal.loop-o-init
loop-o-init c =
    let e = c.over-o-items.ensures.1 in
    (rw c.into_iter-o-iterator.ensures.into_iter_gives (all_fit (width c.args.integers) (width-most c.args.integers) _ (rw e at c.requires.5)), λ r out' p. p)

-- in the loop, and after it: the place is in range
pub put_ended-i-requires : goal.put_ended-i-requires
put_ended-i-requires c =
    let a = c.args in
    let p = c.requires in
    let w = width-most a.integers in
    let e = c.over-o-items.ensures.1 in
    let b = rw e at (bounded a.s.now a.form a.from a.to p.2 p.4) in
    let m = written-most (width a.integers) w (ahead c.over-o-items.result) (rw e at p.5) in
    let l = rw c.into_iter-o-iterator.ensures.into_iter_gives at c.loop-o.invariant in
    let i = left-place _ _ _ _ c.loop-o.i _ l.1 in
    (omega arith, rw c.ended.ensures (space_held (width a.integers) _ _ _ _ _ c.loop-o.word _ c.loop-o.invariant.0 c.loop-o.invariant.1 _ _ c.in-Some.ensures.steps c.if-o-eq32.true))

pub loop-o-preserved-then-o-eq32 : goal.loop-o-preserved-then-o-eq32
loop-o-preserved-then-o-eq32 c =
    let l = c.loop-o.invariant in
    let g = c.in-Some.ensures.steps in
    (space_behind (width c.args.integers) _ _ _ _ _ c.loop-o.word _ l.0 l.1 _ _ g c.if-o-eq32.true, space_put (width c.args.integers) _ _ _ _ _ c.loop-o.word _ l.0 l.1 _ _ g c.if-o-eq32.true _ _ (rw c.ended.ensures at c.put_ended-i.ensures))

pub loop-o-preserved : goal.loop-o-preserved
loop-o-preserved c =
    let l = c.loop-o.invariant in
    let g = c.in-Some.ensures.steps in
    rw c.step-word.ensures
    (octet-fits (width c.args.integers) _ _ _ _ _ c.loop-o.word _ l.0 l.1 _ _ g (λ z. omega arith), octet-left (width c.args.integers) _ _ _ _ _ c.loop-o.word _ l.0 l.1 _ _ g (λ z. omega arith))

pub put_ended-requires : goal.put_ended-requires
put_ended-requires c =
    let a = c.args in
    let p = c.requires in
    let w = width-most a.integers in
    let e = c.over-o-items.ensures.1 in
    let b = rw e at (bounded a.s.now a.form a.from a.to p.2 p.4) in
    let m = written-most (width a.integers) w (ahead c.over-o-items.result) (rw e at p.5) in
    let l = rw c.into_iter-o-iterator.ensures.into_iter_gives at c.loop-o.invariant in
    let i = left-place _ _ _ _ c.loop-o.i _ l.1 in
    (omega arith, rw c.ended-2.ensures (end_held (width a.integers) _ _ _ _ _ c.loop-o.word _ c.loop-o.invariant.0 c.loop-o.invariant.1 c.in-None.ensures.steps.0))

pub returns : goal.returns
returns c =
    let e = c.over-o-items.ensures.1 in
    let r = end_put (width c.args.integers) _ _ _ _ _ c.loop-o.word _ c.loop-o.invariant.0 c.loop-o.invariant.1 c.in-None.ensures.steps.0 _ _ (rw c.ended-2.ensures at c.put_ended.ensures) in
    rw (e, ← all_written (width c.args.integers) (width-most c.args.integers) _ (rw e at c.requires.5)) (rw c.into_iter-o-iterator.ensures.into_iter_gives at r)
