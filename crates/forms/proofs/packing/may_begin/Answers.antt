-- `may_begin` meets its contract: what it refuses is a letter of neither alphabet.
-- Assumes nothing.
use native.Mathlib.Omega.{arith}
use borrow.Author.Tests.{eqb-false}
use Rattle.forms.proofs.Packs.{no_letter}
use Rattle.forms.proofs.packing.may_begin.Goals as goal

pub returns : goal.returns
returns c = λ z. no_letter c.args.o (omega arith) (omega arith) c.if-o-eq84.false c.if-o-eq90.false (eqb-false _ _ z)
