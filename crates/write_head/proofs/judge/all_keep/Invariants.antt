-- `all_keep` meets its contract: the rows of the tables before, and those before in this one, keep to the rule.
-- Assumes nothing.
use mathlib.Core.Bool.{true}
use Prim.Native.Nat.{ℕ, ◌<◌}
use lib.ListN.{get_or}
use Rattle.write_head.proofs.judge.all_keep.Given as goal

abbrev pub invariant-loop-i : goal.invariant-loop-i
invariant-loop-i g l = (j : ℕ) → j < l.i → goal.F-post g l.keeps l.table j true

abbrev pub invariant-loop-table : goal.invariant-loop-table
invariant-loop-table g l = (t : ℕ) → t < l.table → (i : ℕ) → i < get_or l.given t 0 → goal.F-post g l.keeps t i true
