-- `extremes` meets its contract: of each stretch the octets so far; the second starts where the first has ended, or before.
-- Assumes nothing.
use Rattle.std.proofs.Common.{ℕ, ◌+◌, ◌<◌, ◌≤◌, get_or}
use Rattle.fields.proofs.extremes.Given as goal

abbrev pub invariant-loop-i : goal.invariant-loop-i
invariant-loop-i l =
    ((j : ℕ) → j < l.i → (l.low ≤ get_or l.s j 0) × (get_or l.s j 0 ≤ l.high)) × ((j : ℕ) → j < l.i → (l.low ≤ get_or l.s (l.second + j) 0) × (get_or l.s (l.second + j) 0 ≤ l.high))
