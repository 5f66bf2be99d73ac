-- `step` meets its contract: an end, padding, or an item.
-- Assumes nothing.
use mathlib.Core.Path.{sym, ◌∙◌}
use Rattle.read_items.proofs.StepLaws.{met_by, refuse_here}
use Rattle.read_items.proofs.EndLaws.{ends_low, ends_within}
use Rattle.read_items.proofs.ItemLaws.{step_end, step_padding, step_item}
use Rattle.read_items.proofs.items.step.Goals as goal

pub end_at-requires : goal.end_at-requires
end_at-requires c = (
  ends_within _ _ _ (sym c.if-ends_here.true ∙ c.ends_here.ensures),
  c.requires.tidy.size,
  ends_low _ _
      (sym c.if-ends_here.true ∙ c.ends_here.ensures),
)

pub returns-then-ends_here : goal.returns-then-ends_here
returns-then-ends_here c =
    met_by (c.end_at.ensures _ _ _ c.requires)
    (step_end _ _ (sym c.if-ends_here.true ∙ c.ends_here.ensures))

pub returns-then-not-pads_at : goal.returns-then-not-pads_at
returns-then-not-pads_at c =
    rw c.at.ensures
    (refuse_here c.requires (step_padding _ _
    (sym c.if-ends_here.false ∙ c.ends_here.ensures)
    (sym c.if-not-pads_at.true ∙ c.pads_at.ensures)))

pub returns : goal.returns
returns c =
    met_by c.item_at.ensures (step_item _ _ (sym c.if-ends_here.false ∙ c.ends_here.ensures)
    (sym c.if-not-pads_at.false ∙ c.pads_at.ensures))
