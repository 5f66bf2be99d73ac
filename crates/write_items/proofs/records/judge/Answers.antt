-- `judge` meets its contract: each way out is a case of the definition.
-- Assumes nothing.
use mathlib.Core.Path.{sym, ◌∙◌}
use Rattle.write_items.proofs.WellMade.{made_placed}
use Rattle.write_items.proofs.records.judge.Goals as goal

pub all_text-requires : goal.all_text-requires
all_text-requires c = made_placed _ _ (sym c.well_made.ensures ∙ c.if-not-well_made.false)
