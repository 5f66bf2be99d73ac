-- `number_of` meets its contract: by the kind of its table.
-- Assumes nothing.
use native.Mathlib.Omega.{arith}
use Rattle.write_head.proofs.AddLaws.{spells_suits}
use Rattle.write_head.proofs.adding.number_of.Goals as goal

pub number_of-requires : goal.number_of-requires
number_of-requires c = (c.requires.0, omega arith, spells_suits _ _ c.args.x c.requires.2 (c.requires.3 (omega arith)))
