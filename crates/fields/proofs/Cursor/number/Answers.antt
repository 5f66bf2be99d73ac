-- `Cursor::number` meets its contract: the octet alone, or a longer number.
-- Assumes nothing.
use Rattle.std.proofs.Common.{◌∙◌, sym, arith}
use Rattle.format.specs.Numbers.{numbers}
use Rattle.fields.proofs.FirstOctet.{at_least}
use Rattle.fields.proofs.Cursor.number.Goals as goal

pub returns-then-bits-eq0 : goal.returns-then-bits-eq0
unfolding numbers
returns-then-bits-eq0 g c = c.behind.ensures ∙ sym (at_least _ _ _ (omega arith) _ _ _ (omega arith) (omega arith) (omega arith) (omega arith) (omega arith))
