-- `ended` meets its contract: a law for each way out.
-- Assumes nothing.
use native.Mathlib.Omega.{arith}
use mathlib.Core.Path.{sym, ◌∙◌}
use Rattle.writer.proofs.RunLaws.{finish_owed, finish_full, finish_written}
use Rattle.writer.proofs.run.ended.Goals as goal

pub returns-then-not-complete : goal.returns-then-not-complete
returns-then-not-complete c =
    let a = c.args in
    rw c.at.ensures (finish_owed a.room a.st a.out.now a.i (sym c.if-not-complete.true ∙ c.complete.ensures), omega arith)

pub returns-then-min-octets : goal.returns-then-min-octets
returns-then-min-octets c =
    let a = c.args in
    rw c.at-then-min-octets.ensures (finish_full a.room a.st a.out.now a.i (sym c.if-not-complete.false ∙ c.complete.ensures) (omega arith), omega arith)

pub returns : goal.returns
returns c =
    let a = c.args in
    (finish_written a.room a.st a.out.now a.i (sym c.if-not-complete.false ∙ c.complete.ensures) (omega arith) c.put_end.ensures, tt)
