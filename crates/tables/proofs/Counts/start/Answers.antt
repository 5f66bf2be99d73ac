-- `Counts::start` meets its contract: the counts of the tables at the start.
-- Assumes nothing.
use mathlib.Core.Path.{refl}
use Rattle.format.specs.Tables.{starting, link}
use Rattle.tables.specs.Counts.{counts_of}
use Rattle.tables.specs.Located.{start}
use Rattle.tables.proofs.Counts.start.Goals as goal

pub returns : goal.returns
unfolding counts_of start starting link
returns c = refl
