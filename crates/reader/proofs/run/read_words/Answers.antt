-- `read_words` meets its contract: what a run left in words that were 0, or words that are 0 again.
-- Assumes nothing.
use mathlib.Core.Path.{refl, ◌∙◌}
use native.Mathlib.Omega.{arith}
use lib.ListN.{length}
use Rattle.tables.proofs.Zeros.{zeroed}
use Rattle.reader.proofs.WordLaws.{words_accepted, words_refused}
use Rattle.reader.proofs.run.read_words.Goals as goal

pub returns-in-Ok : goal.returns-in-Ok
returns-in-Ok c = words_accepted _ _ _ _ refl refl refl c.in-Ok.ensures c.from.ensures

pub returns-in-Err : goal.returns-in-Err
returns-in-Err c =
    let b = c.into_words.auto in
    words_refused _ _ _ _ refl refl refl _ c.in-Err.ensures (c.from-in-Err.ensures ∙ c.number.ensures)
    (zeroed _ (length c.into_words.new.records) _ c.wipe.ensures.0 (omega arith))
    (zeroed _ (length c.into_words.new.tables) _ c.wipe.ensures.1 (omega arith))
    (zeroed _ (length c.into_words.new.counts) _ c.wipe.ensures.2 (omega arith))
