-- `measure_words` meets its contract: what a call leaves beside the octets does not depend on the output.
-- Assumes nothing.
use borrow.Author.Rules.{rules}
use Rattle.writer.proofs.WordLaws.{words-measured}
use Rattle.writer.proofs.run.measure_words.Goals as goal

pub returns : goal.returns
returns c = words-measured _ _ _ _ _ _ c.in_words.ensures
