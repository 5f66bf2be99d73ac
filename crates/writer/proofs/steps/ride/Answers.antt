-- `ride` meets its contract: a law for each way out.
-- Assumes nothing.
use native.Mathlib.Omega.{arith}
use Rattle.writer.proofs.RideLaws.{rides_not, rides_on}
use Rattle.writer.proofs.steps.ride.Goals as goal

pub returns-then-st-ne-CONTENT : goal.returns-then-st-ne-CONTENT
returns-then-st-ne-CONTENT c = rides_not c.args.records.now c.args.memory.now c.args.room c.args.i c.args.st c.args.out.now

pub run-requires : goal.run-requires
run-requires c = record { at = omega arith; level = omega arith; filed = c.requires.2 }

pub returns : goal.returns
returns c =
    let a = c.args in
    rides_on a.records.now a.memory.now a.room a.i a.st a.out.now (omega arith) (λ q. omega arith) c.run.ensures.0 c.run.ensures.1 c.run.ensures.2
