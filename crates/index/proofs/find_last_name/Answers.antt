-- `find_last_name` meets its contract: a table that is not full, or row 255.
-- Assumes nothing.
use native.Mathlib.Omega.{arith}
use mathlib.Core.Path.{sym, ◌∙◌}
use borrow.Author.Tests.{eq-eqb, ne_eqb}
use Rattle.index.specs.Chain.{last_row}
use Rattle.index.specs.Indexed.{names}
use Rattle.index.proofs.find_last_name.Goals as goal

pub returns-then-n-le-LAST : goal.returns-then-n-le-LAST
unfolding last_row
returns-then-n-le-LAST c = rw (ne_eqb c.args.n 256 (omega arith))

pub returns-then-is_name : goal.returns-then-is_name
unfolding last_row names
returns-then-is_name c = rw (eq-eqb c.args.n 256 (omega arith), sym c.is_name.ensures ∙ c.if-is_name.true) (omega arith)

pub returns : goal.returns
unfolding last_row names
returns c = rw (eq-eqb c.args.n 256 (omega arith), sym c.is_name.ensures ∙ c.if-is_name.false)
