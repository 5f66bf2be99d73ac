-- `table` meets its contract: the rows of the code's table are those of the definition, computed over the whole table.
-- Assumes nothing.
use Rattle.std.proofs.Common.{refl}
use Rattle.fields.specs.Utf8.{rows, ranges, each, Holds}
use Rattle.fields.proofs.table.Goals as goal

pub returns : goal.returns
unfolding rows ranges each Holds
returns c = (refl, refl, refl, refl)
