-- `find_last` meets its contract: a table that is not full, or row 255.
-- Assumes nothing.
use native.Mathlib.Omega.{arith}
use mathlib.Core.Path.{sym, ◌∙◌}
use borrow.Author.Tests.{eq-eqb, ne_eqb}
use Rattle.tables.proofs.Search.{all_at}
use Rattle.index.specs.Chain.{last_row}
use Rattle.index.specs.Indexed.{strings, strings_at}
use Rattle.index.proofs.find_last.Goals as goal

pub returns-then-n-le-LAST : goal.returns-then-n-le-LAST
unfolding last_row
returns-then-n-le-LAST c = rw (ne_eqb c.args.n 256 (omega arith))

pub is_string-requires : goal.is_string-requires
is_string-requires c = (omega arith, omega arith, omega arith, omega arith, all_at _ _ _ _ 255 c.requires.4 (omega arith))

pub returns-then-is_string : goal.returns-then-is_string
unfolding last_row strings strings_at
returns-then-is_string c = rw (eq-eqb c.args.n 256 (omega arith), sym c.is_string.ensures ∙ c.if-is_string.true) (omega arith)

pub returns : goal.returns
unfolding last_row strings strings_at
returns c = rw (eq-eqb c.args.n 256 (omega arith), sym c.is_string.ensures ∙ c.if-is_string.false)
