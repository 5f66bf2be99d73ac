-- `element_head` meets its contract: each way out is a case of the definition.
-- Assumes nothing.
use native.Mathlib.Omega.{arith}
use mathlib.Core.Path.{sym, ◌∙◌}
use Rattle.states.specs.States.{state_of}
use Rattle.read_items.proofs.ItemLaws.{element_padding, element_second, element_lone, element_deep, element_declaring}
use Rattle.read_items.proofs.HeadLaws.{tells_stop, tells_declared, tells_numbered, tells_parts}
use Rattle.read_items.proofs.items.element_head.Goals as goal

pub returns-then-name_padding : goal.returns-then-name_padding
returns-then-name_padding c =
    λ s h. rw c.at.ensures (tells_stop (λ w. element_padding s _ _ _ (state_of c.args.st w) (sym c.if-name_padding.true ∙ c.name_padding.ensures)))

pub returns-then-not-may_start : goal.returns-then-not-may_start
returns-then-not-may_start c =
    let u = sym c.if-name_padding.false ∙ c.name_padding.ensures in
    λ s h. rw c.at-then-not-may_start.ensures
    (tells_stop (λ w. element_second s _ _ _ (state_of c.args.st w) u (sym c.if-not-may_start.true ∙ c.may_start.ensures)))

pub returns-then-b-lt56 : goal.returns-then-b-lt56
returns-then-b-lt56 c =
    let u = sym c.if-name_padding.false ∙ c.name_padding.ensures in
    let m = sym c.if-not-may_start.false ∙ c.may_start.ensures in
    λ s h. tells_numbered s _ _ _ _ h u m (omega arith)

pub returns-then-bits-eq2 : goal.returns-then-bits-eq2
returns-then-bits-eq2 c =
    let u = sym c.if-name_padding.false ∙ c.name_padding.ensures in
    let m = sym c.if-not-may_start.false ∙ c.may_start.ensures in
    λ s h. rw c.at-then-bits-eq2.ensures (tells_stop (λ w. element_lone s _ _ _ (state_of c.args.st w) u m (omega arith) (omega arith)))

pub returns-then-st-ge-LEVELS : goal.returns-then-st-ge-LEVELS
returns-then-st-ge-LEVELS c =
    let u = sym c.if-name_padding.false ∙ c.name_padding.ensures in
    let m = sym c.if-not-may_start.false ∙ c.may_start.ensures in
    λ s h. rw c.at-then-st-ge-LEVELS.ensures
    (tells_stop (λ w. element_deep s _ _ _ (state_of c.args.st w) u m (omega arith) (omega arith) (omega arith)))

pub returns-then-b-eq56 : goal.returns-then-b-eq56
returns-then-b-eq56 c =
    let u = sym c.if-name_padding.false ∙ c.name_padding.ensures in
    let m = sym c.if-not-may_start.false ∙ c.may_start.ensures in
    λ s h. tells_declared (omega arith) (omega arith)
    (λ w. element_declaring s _ _ _ (state_of c.args.st w) u m (omega arith) (omega arith) (omega arith) (omega arith))

pub returns : goal.returns
returns c =
    let u = sym c.if-name_padding.false ∙ c.name_padding.ensures in
    let m = sym c.if-not-may_start.false ∙ c.may_start.ensures in
    λ s h. tells_parts s _ _ _ _ h u m (omega arith) (omega arith) (omega arith) (omega arith)
