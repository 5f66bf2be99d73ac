-- `by_characters` meets its contract: character by character, what is left is text where all is.
-- Assumes nothing.
use Rattle.std.proofs.Common.{rules, ◌∙◌}
use Rattle.fields.proofs.Utf8.{text_next}
use Rattle.fields.proofs.by_characters.Goals as goal

pub slice_bounds-rest-count : goal.slice_bounds-rest-count
slice_bounds-rest-count c = (text_next c.loop-rest.rest.now _ c.in-Some.ensures).1

pub slice_bounds-rest-start : goal.slice_bounds-rest-start
slice_bounds-rest-start c = let p = text_next c.loop-rest.rest.now _ c.in-Some.ensures in search rules

pub loop-rest-preserved : goal.loop-rest-preserved
loop-rest-preserved c = c.loop-rest.invariant ∙ (text_next c.loop-rest.rest.now _ c.in-Some.ensures).2
