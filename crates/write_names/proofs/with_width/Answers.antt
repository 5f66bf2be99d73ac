-- `with_width` meets its contract: each width has its form.
-- Assumes nothing.
use native.Mathlib.Omega.{arith}
use Rattle.write_names.proofs.FormLaws.{width_two, width_four, width_other}
use Rattle.write_names.proofs.with_width.Goals as goal

pub returns-in-2 : goal.returns-in-2
returns-in-2 c = width_two _ c.in-2.is

pub returns-in-4 : goal.returns-in-4
returns-in-4 c = width_four _ c.in-4.is

pub returns-in_default : goal.returns-in_default
returns-in_default c = width_other _ (λ e. omega arith) (λ e. omega arith)
