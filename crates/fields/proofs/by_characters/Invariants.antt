-- `by_characters` meets its contract: character by character, what is left is text where all is.
-- Assumes nothing.
use Rattle.std.proofs.Common.{◌≡◌, length}
use Rattle.fields.specs.Utf8.{is_text}
use Rattle.fields.proofs.by_characters.Given as goal

abbrev pub invariant-loop-rest : goal.invariant-loop-rest
invariant-loop-rest l = is_text l.s ≡ is_text l.rest

abbrev pub decreases-loop-rest : goal.decreases-loop-rest
decreases-loop-rest l = length l.rest
