-- `is_stretch` meets its contract: only the tag of a stretch stands for one.
-- Assumes nothing.
use native.Mathlib.Omega.{arith}
use borrow.Author.Tests.{ne_eqb}
use lib.ListN.{get_or}
use mathlib.Core.Path.{◌∙◌}
use Rattle.write_head.proofs.RowLaws.{other_tag, stretch_tag}
use Rattle.write_head.proofs.judge.is_stretch.Goals as goal

pub returns-then-given-at-eq-STRETCH : goal.returns-then-given-at-eq-STRETCH
returns-then-given-at-eq-STRETCH c = c.lies_in.ensures ∙ stretch_tag _ _ _ (omega arith)

pub returns-else-given-at-eq-STRETCH : goal.returns-else-given-at-eq-STRETCH
returns-else-given-at-eq-STRETCH c = rw (ne_eqb (get_or c.args.given.now c.args.at 0) 2 (omega arith)) (other_tag _ _ _ (omega arith))
