-- `unit_before` meets its contract: a law for each way out.
-- Assumes nothing.
use native.Mathlib.Omega.{arith}
use Rattle.write_names.proofs.FormLaws.{unit_seven, unit-five}
use Rattle.write_names.proofs.unit_before.Goals as goal

pub returns-then-bit-eq7 : goal.returns-then-bit-eq7
returns-then-bit-eq7 c = unit_seven c.requires (omega arith)

pub returns : goal.returns
returns c = unit-five c.requires (λ e. omega arith)
