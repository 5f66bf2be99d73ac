-- `is_text16` meets its contract: what is left is characters where the whole is.
-- Assumes nothing.
use native.Mathlib.Omega.{arith}
use Prim.Native.Nat.{◌-◌}
use mathlib.Core.Path.{refl, sym, ◌∙◌}
use lib.ListN.{length, drop, length-drop}
use Rattle.std.proofs.lemmas.List.{take_all}
use Rattle.forms.proofs.Sizes.{text_not, text_next, text_end}
use Rattle.forms.proofs.deciding.is_text16.Goals as goal

pub loop-rest-init : goal.loop-rest-init
loop-rest-init c = refl

pub returns-then-n-eq0 : goal.returns-then-n-eq0
returns-then-n-eq0 c = sym (text_not c.loop-rest.rest.now c.loop-rest-test.ensures (sym c.if-n-eq0.true ∙ c.size16-n.ensures)) ∙ c.loop-rest.invariant

pub slice_bounds-rest-count : goal.slice_bounds-rest-count
slice_bounds-rest-count c = (text_next c.loop-rest.rest.now _ c.size16-n.ensures (λ z. omega arith)).0

pub slice_bounds-rest-start : goal.slice_bounds-rest-start
slice_bounds-rest-start c = (text_next c.loop-rest.rest.now _ c.size16-n.ensures (λ z. omega arith)).0

pub loop-rest-preserved : goal.loop-rest-preserved
loop-rest-preserved c =
    let x = c.loop-rest.rest.now in
    let n = c.size16-n.result in
    let p = text_next x n c.size16-n.ensures (λ z. omega arith) in
    rw (take_all (length x - n) (drop n x) (omega (arith, length-drop n x))) (sym p.1 ∙ c.loop-rest.invariant)

pub returns : goal.returns
returns c = sym (text_end c.loop-rest.rest.now c.loop-rest-test.ensures) ∙ c.loop-rest.invariant
