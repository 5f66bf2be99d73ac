-- `number_said` meets its contract: a string that is spelled is a stretch, and is looked for.
-- Assumes nothing.
use Rattle.write_names.proofs.Stretches.{as_given, no_stretch}
use Rattle.write_names.proofs.StringLaws.{find_said_ready, held_stretch}
use Rattle.write_names.proofs.number_said.Goals as goal

pub returns-in_default : goal.returns-in_default
returns-in_default c =
    absurd (no_stretch _ c.args.x c.requires.3 c.in_default.not-Stretch)

pub find_said-requires : goal.find_said-requires
find_said-requires c =
    let s = as_given c.args.text.now c.args.x c.requires.3 c.in-Stretch.is in
    find_said_ready _ _ _ _ _ c.requires.0 c.requires.2 c.requires.1 _ _ _ _ s

pub returns : goal.returns
returns c =
    let s = as_given c.args.text.now c.args.x c.requires.3 c.in-Stretch.is in
    held_stretch _ _ _ _ _ c.requires.0 _ _ _ _ _ s.is c.requires.2 c.find_said.ensures
