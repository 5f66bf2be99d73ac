-- `numbered` meets its contract: the number is that of a name, or of none.
-- Assumes nothing.
use Rattle.read_names.proofs.NameLaws.{number_held}
use Rattle.read_names.proofs.StringLaws.{held_from_one}
use Rattle.read_names.proofs.names.numbered.Goals as goal

pub returns : goal.returns
returns c = (
  λ w x tidy l. number_held _ _ w x _ _ tidy c.requires.1 c.requires.2 _ c.number.ensures _ c.held.ensures,
  rw c.held.ensures (held_from_one _ _ _ _ _ _ c.number.ensures),
)
