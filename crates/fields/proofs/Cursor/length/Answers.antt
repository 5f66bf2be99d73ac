-- `Cursor::length` meets its contract: each code picks its form.
-- Assumes nothing.
use Rattle.std.proofs.Common.{◌∙◌, sym, arith}
use Rattle.format.specs.Numbers.{lengths}
use Rattle.fields.proofs.FirstOctet.{at_least}
use Rattle.fields.proofs.Lengths.{length_middle, length_long, length_padding}
use Rattle.fields.proofs.Cursor.length.Goals as goal

pub returns-then-bits-eq0 : goal.returns-then-bits-eq0
unfolding lengths
returns-then-bits-eq0 c = c.behind.ensures ∙ sym (at_least _ _ _ (omega arith) _ _ _ (omega arith) (omega arith) (omega arith) (omega arith) (omega arith))

pub returns-then-bits-ne0 : goal.returns-then-bits-ne0
returns-then-bits-ne0 c = rw c.at-then-bits-ne0.ensures (sym (length_padding _ _ _ (omega arith) _ (omega arith) (omega arith) (omega arith) (omega arith)))

pub returns-then-bits-eq2 : goal.returns-then-bits-eq2
returns-then-bits-eq2 c = c.behind-then-bits-eq2.ensures ∙ sym (length_middle _ _ _ (omega arith) _ (omega arith) (omega arith) (omega arith) (omega arith) (omega arith))

pub returns : goal.returns
returns c = c.behind-2.ensures ∙ sym (length_long _ _ _ (omega arith) _ (omega arith) (omega arith) (omega arith) (omega arith) (omega arith) (omega arith))
