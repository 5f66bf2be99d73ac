-- `found_octets` meets its contract: what is found from here on is what is found in all.
-- Assumes nothing.
use native.Mathlib.Omega.{arith}
use mathlib.Core.Path.{◌∙◌}
use lib.ListN.{get_or}
use Rattle.decimal.specs.Machine.{starting}
use Rattle.decimal.proofs.Scans.{scan_finds, counted_step}
use Rattle.forms.specs.Streams.{part}
use Rattle.forms.proofs.Streams.{drop_next, drop_end}
use Rattle.forms.proofs.Scanned.{found_end, found_next, found_none}
use Rattle.forms.proofs.integers.found_octets.Goals as goal

pub loop-o-init : goal.loop-o-init
unfolding starting
loop-o-init c = let e = c.start-u.ensures in (rw e (omega arith), rw e (scan_finds (part c.args.s.now c.args.from c.args.to)))

pub returns-then-is_lost : goal.returns-then-is_lost
returns-then-is_lost c =
    found_none _ _ _ c.loop-o.invariant.1 _ _ (drop_next (part c.args.s.now c.args.from c.args.to) c.loop-o.o-index c.loop-o-test.true) _ c.step-u.ensures (c.is_lost.ensures c.if-is_lost.true)

pub loop-o-preserved : goal.loop-o-preserved
loop-o-preserved c =
    let x = part c.args.s.now c.args.from c.args.to in
    let k = counted_step c.loop-o.u (get_or x c.loop-o.o-index 0) in
    let n = c.loop-o.invariant.0 in
    (rw c.step-u.ensures (omega arith), found_next _ _ _ c.loop-o.invariant.1 _ _ (drop_next x c.loop-o.o-index c.loop-o-test.true) _ c.step-u.ensures)

pub returns : goal.returns
returns c = c.found.ensures ∙ found_end _ _ _ c.loop-o.invariant.1 (drop_end (part c.args.s.now c.args.from c.args.to) c.loop-o.o-index c.loop-o-test.false)
