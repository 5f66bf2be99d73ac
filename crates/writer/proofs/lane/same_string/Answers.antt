-- `same_string` meets its contract: three words are the same.
-- Assumes nothing.
use native.Mathlib.Omega.{arith}
use borrow.Author.Tests.{eqb-true}
use Rattle.writer.proofs.lane.same_string.Goals as goal

pub returns-then-w-a-2 : goal.returns-then-w-a-2
returns-then-w-a-2 c = λ q. record { first = omega arith; second = omega arith; third = eqb-true _ _ q }

pub returns-else-w-a-2 : goal.returns-else-w-a-2
returns-else-w-a-2 c = λ q. absurd (c.if-w-a-2.false (eqb-true _ _ q))

pub returns-else-w-a : goal.returns-else-w-a
returns-else-w-a c = λ q. absurd (c.if-w-a.false (eqb-true _ _ q))
