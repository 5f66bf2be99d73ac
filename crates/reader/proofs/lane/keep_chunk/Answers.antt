-- `keep_chunk` meets its contract: no record, or the chunk in it, or it is left.
-- Assumes nothing.
use mathlib.Core.Path.{sym, ◌∙◌}
use borrow.Author.Tests.{ltb-false}
use Rattle.events.proofs.Kept.{kept_not}
use Rattle.reader.proofs.LaneLaws.{chunk_plain}
use Rattle.reader.proofs.lane.keep_chunk.Goals as goal

pub returns-then-not-has_record : goal.returns-then-not-has_record
returns-then-not-has_record c = kept_not _ _ _ _ (ltb-false _ _ (sym c.has_record.ensures ∙ c.if-not-has_record.true))

pub returns : goal.returns
returns c =
    rw (← chunk_plain _ _ _ c.entry-x.ensures c.if-x-ne0.false c.if-x-eq0.false, ← c.chunk-e.ensures) c.keep.ensures
