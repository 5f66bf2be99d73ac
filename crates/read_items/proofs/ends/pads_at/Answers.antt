-- `pads_at` meets its contract: an even half, or 0000.
-- Assumes nothing.
use native.Mathlib.Omega.{arith}
use mathlib.Core.Path.{ap, ◌∙◌}
use Prim.Native.Nat.{ℕ}
use lib.Dec.{eqb}
use Rattle.read_items.proofs.EndLaws.{pads_even, pads_odd}
use Rattle.read_items.proofs.ends.pads_at.Goals as goal

pub returns-then-at-eq0 : goal.returns-then-at-eq0
returns-then-at-eq0 c = pads_even _ _ (omega arith)

pub returns : goal.returns
returns c = ap (λ (n : ℕ). eqb n 0) c.half.ensures ∙ pads_odd _ _ (omega arith)
