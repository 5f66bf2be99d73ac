-- `fit_said` meets its contract: what was seen, with what is to come, is letters where the whole is.
-- Assumes nothing.
use mathlib.Core.Path.{refl}
use Rattle.format.specs.Forms.{numeric, dates}
use Rattle.forms.proofs.Packs.{seen_next, seen_end}
use Rattle.forms.proofs.packing.fit_said.Goals as goal

pub loop-o-init : goal.loop-o-init
loop-o-init c = (refl, refl)

pub loop-o-preserved : goal.loop-o-preserved
loop-o-preserved c =
    let l = c.loop-o.invariant in
    let f = c.fit_octet.ensures in
    let g = c.in-Some.ensures.steps in
    (seen_next numeric _ _ _ l.0 _ _ _ _ g f.0 c.and-all.ensures.0, seen_next dates _ _ _ l.1 _ _ _ _ g f.1 c.and-all.ensures.1)

pub returns : goal.returns
returns c =
    let e = c.in-None.ensures.steps.0 in
    rw (← c.into_iter-o-iterator.ensures.into_iter_gives) (seen_end numeric _ _ _ c.loop-o.invariant.0 e, seen_end dates _ _ _ c.loop-o.invariant.1 e)
