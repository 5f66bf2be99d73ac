-- `extremes` meets its contract: of each stretch the octets so far; the second starts where the first has ended, or before.
-- Assumes nothing.
use Rattle.std.proofs.Common.{ℕ, ◌≤◌, get_or, arith}
use Rattle.fields.proofs.Plain.{two_stretches}
use Rattle.fields.proofs.extremes.Goals as goal

pub returns : goal.returns
returns c =
    let s = c.args.s.now in
    let l = c.loop-i in
    λ j h. two_stretches (λ (j : ℕ). (l.low ≤ get_or s j 0) × (get_or s j 0 ≤ l.high)) l.i _ l.invariant.0 l.invariant.1 (omega arith) j (omega arith)
