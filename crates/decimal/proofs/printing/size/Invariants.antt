-- `size` meets its contract: n has k digits where it is the first power of ten above n.
-- Assumes nothing.
use Rattle.std.proofs.Common.{◌-◌, ◌^◌, ◌≤◌}
use Rattle.decimal.proofs.printing.size.Given as goal

abbrev pub invariant-loop-k : goal.invariant-loop-k
invariant-loop-k l = 2 ≤ l.k → 10 ^ (l.k - 1) ≤ l.n
