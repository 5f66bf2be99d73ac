-- `settle` meets its contract: a law for each way out.
-- Assumes nothing.
use mathlib.Core.Path.{sym, ◌∙◌}
use Rattle.write_items.specs.Events.{event_of}
use Rattle.write_items.proofs.ItemLaws.{no_member, settled_elsewhere, settled_member, settled-behind}
use Rattle.write_items.proofs.items.settle.Goals as goal

pub returns-then-not-is_listing : goal.returns-then-not-is_listing
returns-then-not-is_listing c = settled_elsewhere _ _ _ (sym c.is_listing.ensures ∙ c.if-not-is_listing.true)

pub returns-in-Attribute : goal.returns-in-Attribute
unfolding event_of
returns-in-Attribute c = settled_member _ _ _ (sym c.is_listing.ensures ∙ c.if-not-is_listing.false) (rw c.in-Attribute.is)

pub returns-in_default : goal.returns-in_default
returns-in_default c = rw c.behind_end.ensures (settled-behind _ _ _ (sym c.is_listing.ensures ∙ c.if-not-is_listing.false) (no_member _ _ c.in_default.not-Attribute) c.put_end.ensures)
