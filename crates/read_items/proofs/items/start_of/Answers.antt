-- `start_of` meets its contract, by the level.
-- Assumes nothing.
use native.Mathlib.Omega.{arith}
use mathlib.Core.Path.{ap}
use Rattle.std.specs.Prelude.{Ok, Err}
use Rattle.read_items.specs.declared.Step.TheVariants.{Event}
use Rattle.read_items.proofs.StepLaws.{start_deep, start-opened}
use Rattle.read_items.proofs.items.start_of.Goals as goal

pub returns-then-st-ge-LEVELS : goal.returns-then-st-ge-LEVELS
returns-then-st-ge-LEVELS c = start_deep _ _ _ _ _ _ (omega arith) (ap (λ f. Err f) c.at.ensures)

pub returns : goal.returns
returns c = start-opened _ _ _ _ _ _ (omega arith) (ap (λ x. Ok (Event x c.args.k)) c.opened.ensures) c.keep_named.ensures
