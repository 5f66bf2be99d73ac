-- `no_string` meets its contract: three words are 0.
-- Assumes nothing.
use native.Mathlib.Omega.{arith}
use borrow.Author.Tests.{eqb-true}
use Rattle.writer.proofs.lane.no_string.Goals as goal

pub returns-then-w-at-eq0-2 : goal.returns-then-w-at-eq0-2
returns-then-w-at-eq0-2 c = λ q. record { first = omega arith; second = omega arith; third = eqb-true _ _ q }

pub returns-else-w-at-eq0-2 : goal.returns-else-w-at-eq0-2
returns-else-w-at-eq0-2 c = λ q. absurd (c.if-w-at-eq0-2.false (eqb-true _ _ q))

pub returns-else-w-at-eq0 : goal.returns-else-w-at-eq0
returns-else-w-at-eq0 c = λ q. absurd (c.if-w-at-eq0.false (eqb-true _ _ q))
