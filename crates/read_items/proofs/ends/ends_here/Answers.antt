-- `ends_here` meets its contract: not among declarations, and where the half is 1111.
-- Assumes nothing.
use native.Mathlib.Omega.{arith}
use mathlib.Core.Path.{ap, ◌∙◌}
use Prim.Native.Nat.{ℕ}
use lib.Dec.{eqb}
use Rattle.read_items.proofs.EndLaws.{ends_not, ends_half}
use Rattle.read_items.proofs.ends.ends_here.Goals as goal

pub returns-then-st-ge-DECLARING : goal.returns-then-st-ge-DECLARING
returns-then-st-ge-DECLARING c = ends_not _ _ (omega arith)

pub returns : goal.returns
returns c = ap (λ (n : ℕ). eqb n 15) c.half.ensures ∙ ends_half _ _ _ (omega arith)
