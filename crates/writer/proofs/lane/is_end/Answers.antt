-- `is_end` meets its contract: the words of an End.
-- Assumes nothing.
use native.Mathlib.Omega.{arith}
use Rattle.writer.proofs.LaneLaws.{end_words}
use mathlib.Core.Path.{sym, ◌∙◌}
use Rattle.tables.proofs.Found.{clash}
use borrow.Author.Tests.{eqb-true}
use Prim.Native.Nat.{◌*◌}
use Rattle.writer.proofs.lane.is_end.Goals as goal

pub returns-then-no_string-3 : goal.returns-then-no_string-3
returns-then-no_string-3 c =
    let a = c.args in
    λ q. end_words a.w.now (14 * a.i) (omega arith) (c.no_string.ensures c.if-no_string.true) (c.no_string-then-no_string.ensures c.if-no_string-2.true) (c.no_string-then-no_string-2.ensures c.if-no_string-3.true) (c.no_string-then-no_string-3.ensures q)

pub returns-else-no_string-3 : goal.returns-else-no_string-3
returns-else-no_string-3 c = λ q. clash (sym c.if-no_string-3.false ∙ q)

pub returns-else-no_string-2 : goal.returns-else-no_string-2
returns-else-no_string-2 c = λ q. clash (sym c.if-no_string-2.false ∙ q)

pub returns-else-no_string : goal.returns-else-no_string
returns-else-no_string c = λ q. clash (sym c.if-no_string.false ∙ q)

pub returns-else-w-at-eq-END : goal.returns-else-w-at-eq-END
returns-else-w-at-eq-END c = λ q. absurd (c.if-w-at-eq-END.false (eqb-true _ _ q))
