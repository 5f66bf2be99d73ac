-- `put_header` meets its contract: the header as one part, and the counts.
-- Assumes nothing.
use mathlib.Core.Path.{ap, ◌∙◌}
use Rattle.tables.specs.Kept.{listed}
use Rattle.write_head.proofs.put_header.Goals as goal

pub returns : goal.returns
returns c = (c.put_part.ensures.is, c.put_counts.ensures ∙ ap listed c.start.ensures)
