-- `keep_named` meets its contract: no record, or the name's strings in it.
-- Assumes nothing.
use mathlib.Core.Path.{sym, ◌∙◌}
use borrow.Author.Tests.{ltb-false}
use Rattle.events.proofs.Kept.{kept_not}
use Rattle.read_items.proofs.items.keep_named.Goals as goal

pub returns-then-not-has_record : goal.returns-then-not-has_record
returns-then-not-has_record c = kept_not _ _ _ _ (ltb-false _ _ (sym c.has_record.ensures ∙ c.if-not-has_record.true))
