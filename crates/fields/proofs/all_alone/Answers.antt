-- `all_alone` meets its contract: of each stretch no octet so far is raised to less than `low`.
-- Assumes nothing.
use Rattle.std.proofs.Common.{arith, leb-true}
use Rattle.fields.proofs.Plain.{two_stretches}
use Rattle.fields.proofs.all_alone.Invariants.{Single}
use Rattle.fields.proofs.all_alone.Goals as goal

pub returns : goal.returns
returns c =
    let l = c.loop-i in
    λ e n j h. two_stretches (Single c.args.s.now l.low) l.i _ l.invariant.0 l.invariant.1 (omega arith) j (omega arith) (leb-true _ _ e) (n j h)
