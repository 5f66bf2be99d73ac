-- `write_words` meets its contract: where the room is the output's length, a call leaves what the definition says.
-- Assumes nothing.
use borrow.Author.Rules.{rules}
use mathlib.Core.Path.{◌∙◌}
use Rattle.writer.proofs.WordLaws.{words-whole}
use Rattle.writer.proofs.run.write_words.Goals as goal

pub returns : goal.returns
returns c = c.in_words.ensures ∙ words-whole _ _ _ _ _ _
