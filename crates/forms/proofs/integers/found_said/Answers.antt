-- `found_said` meets its contract: what is found from here on is what is found in all.
-- Assumes nothing.
use native.Mathlib.Omega.{arith}
use mathlib.Core.Path.{ap, ◌∙◌}
use lib.ListN.{length}
use Rattle.decimal.specs.Machine.{starting}
use Rattle.decimal.proofs.Scans.{scan_finds, counted_step}
use Rattle.forms.specs.Streams.{ahead}
use Rattle.forms.proofs.Scanned.{found_end, found_next, found_none}
use Rattle.forms.proofs.integers.found_said.Goals as goal

pub loop-o-init : goal.loop-o-init
unfolding starting
loop-o-init c = let e = c.start-scan.ensures in (rw e (omega arith), rw e (scan_finds (ahead c.into_iter-o-iterator.result)))

pub found-requires : goal.found-requires
found-requires c = let h = rw (← c.into_iter-o-iterator.ensures.into_iter_gives) at c.requires.1 in let n = c.loop-o.invariant.0 in omega arith

pub step-scan-requires : goal.step-scan-requires
step-scan-requires c = let h = rw (← c.into_iter-o-iterator.ensures.into_iter_gives) at c.requires.1 in let n = c.loop-o.invariant.0 in omega arith

pub returns-then-is_lost : goal.returns-then-is_lost
returns-then-is_lost c =
    rw (← c.into_iter-o-iterator.ensures.into_iter_gives)
    (found_none _ _ _ c.loop-o.invariant.1 _ _ c.in-Some.ensures.steps _ c.step-scan.ensures (c.is_lost.ensures c.if-is_lost.true))

pub loop-o-preserved : goal.loop-o-preserved
loop-o-preserved c =
    let k = counted_step c.loop-o.scan c.in-Some.o in
    let l = ap length c.in-Some.ensures.steps in
    let n = c.loop-o.invariant.0 in
    (rw c.step-scan.ensures (omega arith), found_next _ _ _ c.loop-o.invariant.1 _ _ c.in-Some.ensures.steps _ c.step-scan.ensures)

pub returns : goal.returns
returns c = rw (← c.into_iter-o-iterator.ensures.into_iter_gives) (c.found.ensures ∙ found_end _ _ _ c.loop-o.invariant.1 c.in-None.ensures.steps.0)
