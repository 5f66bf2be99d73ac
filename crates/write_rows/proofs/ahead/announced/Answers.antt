-- `announced` meets its contract: declarations are passed over, and what follows is a Start with attributes or not.
-- Assumes nothing.
use Rattle.std.proofs.Common.{◌≤◌, ◌∙◌, length, sym, arith}
use lib.ListN.{drop_of_length-le}
use Rattle.write_items.specs.Steps.{announced}
use Rattle.writer.proofs.AheadLaws.{past_declared, behind_declared}
use Rattle.write_rows.proofs.ahead.announced.Goals as goal

pub returns-then-not-is_kind : goal.returns-then-not-is_kind
returns-then-not-is_kind c = c.is_attributed.ensures ∙ behind_declared c.args.events.now c.loop-k.k (sym c.is_kind.ensures ∙ c.if-not-is_kind.true) c.loop-k.invariant

pub loop-k-preserved : goal.loop-k-preserved
loop-k-preserved c = past_declared c.args.events.now c.loop-k.k (sym c.is_kind.ensures ∙ c.if-not-is_kind.false) ∙ c.loop-k.invariant

pub returns : goal.returns
unfolding announced
returns c =
    let l : length c.args.events.now ≤ c.loop-k.k = omega (arith, c.loop-k-test.false) in
    rw (drop_of_length-le c.args.events.now l) at c.loop-k.invariant
