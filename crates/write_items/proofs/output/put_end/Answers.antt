-- `put_end` meets its contract, in either half of an octet.
-- Assumes nothing.
use mathlib.Core.Path.{◌∙◌}
use native.Mathlib.Omega.{arith}
use Rattle.write_items.proofs.OutputLaws.{end_first, end_second}
use Rattle.write_items.proofs.output.put_end.Goals.{then-at-eq0, else-at-eq0}
use Rattle.write_items.proofs.output.put_end.Goals as goal

pub returns : goal.returns
returns c =
    elim c.if-at-eq0.branch [
      | then-at-eq0 w ↦ c.put.ensures ∙ rw (w.put-is, ← (end_first c.args.at (omega (arith, w.if-at-eq0.true))))
      | else-at-eq0 w ↦ c.put.ensures ∙ rw (w.put-is, ← (end_second c.args.at (omega (arith, w.if-at-eq0.false))))
    ]
