-- `same_record` meets its contract: all words are the same.
-- Assumes nothing.
use native.Mathlib.Omega.{arith}
use Rattle.writer.proofs.LaneLaws.{same-words}
use mathlib.Core.Path.{sym, ◌∙◌}
use Rattle.tables.proofs.Found.{clash}
use borrow.Author.Tests.{eqb-true}
use Prim.Native.Nat.{◌*◌}
use Rattle.writer.proofs.lane.same_record.Goals as goal

pub returns-then-same_string-3 : goal.returns-then-same_string-3
returns-then-same_string-3 c =
    let a = c.args in
    λ q. same-words a.w.now (14 * a.i) (14 * a.j) (omega arith) (c.same_string-then-same_string.ensures c.if-same_string-2.true) (c.same_string-then-same_string-2.ensures c.if-same_string-3.true) (c.same_string.ensures c.if-same_string.true) (c.same_string-then-same_string-3.ensures q)

pub returns-else-same_string-3 : goal.returns-else-same_string-3
returns-else-same_string-3 c = λ q. clash (sym c.if-same_string-3.false ∙ q)

pub returns-else-same_string-2 : goal.returns-else-same_string-2
returns-else-same_string-2 c = λ q. clash (sym c.if-same_string-2.false ∙ q)

pub returns-else-same_string : goal.returns-else-same_string
returns-else-same_string c = λ q. clash (sym c.if-same_string.false ∙ q)

pub returns-else-w-a : goal.returns-else-w-a
returns-else-w-a c = λ q. absurd (c.if-w-a.false (eqb-true _ _ q))
