-- `held` meets its contract: a law for each way out.
-- Assumes nothing.
use native.Mathlib.Omega.{arith}
use Rattle.write_items.proofs.ItemLaws.{held_over, held_fitting}
use Rattle.write_items.proofs.items.held.Goals as goal

pub returns-then-min-st : goal.returns-then-min-st
returns-then-min-st c = λ text. held_over text _ _ (omega arith)

pub returns : goal.returns
returns c = λ text. held_fitting text _ _ (omega arith)
