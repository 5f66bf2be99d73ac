-- `letters_in` meets its contract: by the last octet.
-- Assumes nothing.
use Rattle.write_names.proofs.Stretches.{letters_odd, letters_even}
use Rattle.write_names.proofs.letters_in.Goals as goal

pub returns-then-text-from-eq15 : goal.returns-then-text-from-eq15
returns-then-text-from-eq15 c = letters_odd c.args.text.now c.args.from c.args.size c.requires.0 c.requires.1 c.if-text-from-eq15.true

pub returns : goal.returns
returns c = letters_even c.args.text.now c.args.from c.args.size c.requires.0 c.requires.1 c.if-text-from-eq15.false
