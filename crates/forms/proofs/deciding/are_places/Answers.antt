-- `are_places` meets its contract: what is left is places where the whole is.
-- Assumes nothing.
use mathlib.Core.Path.{refl}
use Rattle.forms.proofs.Streams.{drop_next, drop_end}
use Rattle.forms.proofs.Sizes.{places_end, places_filled, places_high, places_next}
use Rattle.forms.proofs.deciding.are_places.Goals as goal
use Rattle.forms.proofs.deciding.are_places.Goals.{then-fills-via-then-fills, then-fills-via-else-fills+then-o-ge240}

pub loop-o-init : goal.loop-o-init
loop-o-init c = refl

pub returns-then-fills : goal.returns-then-fills
returns-then-fills c =
    let e = drop_next c.args.s.now c.loop-o.o-index c.loop-o-test.true in
    elim c.then-fills.branch [
      | then-fills-via-then-fills w ↦ places_filled c.args.s.now _ _ c.loop-o.invariant _ _ e w.if-fills.true
      | then-fills-via-else-fills+then-o-ge240 w ↦ places_high c.args.s.now _ _ c.loop-o.invariant _ _ e w.if-fills.false w.if-o-ge240.true
    ]

pub loop-o-preserved : goal.loop-o-preserved
loop-o-preserved c = places_next c.args.s.now _ _ c.loop-o.invariant _ _ (drop_next c.args.s.now c.loop-o.o-index c.loop-o-test.true) c.if-fills.false c.if-o-ge240.false

pub returns : goal.returns
returns c = places_end c.args.s.now _ _ c.loop-o.invariant (drop_end c.args.s.now c.loop-o.o-index c.loop-o-test.false)
