-- `look` meets its contract, by what it takes of the string.
-- Assumes nothing.
use mathlib.Core.Path.{sym, ◌∙◌}
use mathlib.Core.Bool.{true≢false}
use borrow.Author.Tests.{leb-true, ne_eqb}
use Rattle.fields.specs.WeightContracts.{high_bits}
use Rattle.index.proofs.look.Goals as goal

pub returns-then-x-eq0 : goal.returns-then-x-eq0
unfolding high_bits
returns-then-x-eq0 c =
    let t = c.take-x.ensures in
    (c.spread.ensures.0 ∙ t.1, c.spread.ensures.1, λ e. t.2 c.if-x-eq0.true (leb-true _ _ e))

pub returns-else-x-eq0 : goal.returns-else-x-eq0
returns-else-x-eq0 c =
    let t = c.take-x.ensures in
    (c.spread.ensures.0 ∙ t.1, c.spread.ensures.1, λ e. absurd (true≢false (sym e ∙ ne_eqb _ 0 c.if-x-eq0.false)))
