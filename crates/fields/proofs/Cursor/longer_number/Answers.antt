-- `Cursor::longer_number` meets its contract: each code picks its form.
-- Assumes nothing.
use Rattle.std.proofs.Common.{◌∙◌, sym, arith}
use Rattle.fields.proofs.Numbers.{number_middle, number_long, number-longest, number_padding, number_code}
use Rattle.fields.proofs.Cursor.longer_number.Goals as goal

pub returns-then-code-eq4 : goal.returns-then-code-eq4
returns-then-code-eq4 c = c.behind.ensures ∙ sym (number_middle _ _ _ (omega arith) _ (omega arith) (omega arith) (omega arith) (omega arith) (omega arith) (omega arith))

pub returns-then-code-eq5 : goal.returns-then-code-eq5
returns-then-code-eq5 c = c.behind-then-code-eq5.ensures ∙ sym (number_long _ _ _ (omega arith) _ (omega arith) (omega arith) (omega arith) (omega arith) (omega arith) (omega arith))

pub returns-then-code-ne6 : goal.returns-then-code-ne6
returns-then-code-ne6 c = rw c.at.ensures (sym (number_code _ _ _ (omega arith) _ (omega arith) (omega arith) (omega arith) (omega arith) (omega arith) (omega arith)))

pub returns-then-rest-ne0 : goal.returns-then-rest-ne0
returns-then-rest-ne0 c = rw c.at-then-rest-ne0.ensures (sym (number_padding _ _ _ (omega arith) _ (omega arith) (omega arith) (omega arith) (omega arith)))

pub returns : goal.returns
returns c = c.behind-2.ensures ∙ sym (number-longest _ _ _ (omega arith) _ (omega arith) (omega arith) (omega arith) (omega arith) (omega arith))
