-- `fit_octets` meets its contract: what was seen, with what is to come, is letters where the whole is.
-- Assumes nothing.
use mathlib.Core.Path.{refl, ◌∙◌}
use Rattle.std.proofs.lemmas.Bool.{not-true}
use Rattle.format.specs.Forms.{numeric, dates}
use Rattle.forms.specs.Streams.{part}
use Rattle.forms.proofs.Streams.{drop_next, drop_end}
use Rattle.forms.proofs.Packs.{seen_next, seen_end, seen_not}
use Rattle.forms.proofs.packing.fit_octets.Goals as goal

pub loop-o-init : goal.loop-o-init
loop-o-init c = (refl, refl)

pub returns-then-not-all-2 : goal.returns-then-not-all-2
returns-then-not-all-2 c =
    let l = c.loop-o.invariant in
    let f = c.fit_octet.ensures in
    let g = drop_next (part c.args.s.now c.args.from c.args.to) c.loop-o.o-index c.loop-o-test.true in
    let n = not-true _ c.if-not-all.true in
    let d = not-true _ c.if-not-all-2.true in
    (n ∙ seen_not numeric _ _ _ (seen_next numeric _ _ _ l.0 _ _ _ _ g f.0 c.and-all.ensures.0) n, d ∙ seen_not dates _ _ _ (seen_next dates _ _ _ l.1 _ _ _ _ g f.1 c.and-all.ensures.1) d)

pub loop-o-preserved : goal.loop-o-preserved
loop-o-preserved c =
    let l = c.loop-o.invariant in
    let f = c.fit_octet.ensures in
    let g = drop_next (part c.args.s.now c.args.from c.args.to) c.loop-o.o-index c.loop-o-test.true in
    (seen_next numeric _ _ _ l.0 _ _ _ _ g f.0 c.and-all.ensures.0, seen_next dates _ _ _ l.1 _ _ _ _ g f.1 c.and-all.ensures.1)

pub returns : goal.returns
returns c =
    let e = drop_end (part c.args.s.now c.args.from c.args.to) c.loop-o.o-index c.loop-o-test.false in
    (seen_end numeric _ _ _ c.loop-o.invariant.0 e, seen_end dates _ _ _ c.loop-o.invariant.1 e)
