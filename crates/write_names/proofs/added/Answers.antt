-- `added` meets its contract: the row is entered, and counted.
-- Assumes nothing.
use mathlib.Core.Path.{refl}
use Rattle.write_names.proofs.added.Goals as goal

pub enter_in-requires : goal.enter_in-requires
enter_in-requires c = c.requires.1

pub returns : goal.returns
returns c = (refl, c.enter_in.ensures)
