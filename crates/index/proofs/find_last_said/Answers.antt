-- `find_last_said` meets its contract: a table that is not full, or row 255.
-- Assumes nothing.
use native.Mathlib.Omega.{arith}
use mathlib.Core.Path.{sym, ◌∙◌}
use borrow.Author.Tests.{eq-eqb, ne_eqb}
use Rattle.tables.proofs.Search.{all_at}
use Rattle.tables.proofs.SaidLaws.{row_sound, row_other}
use Rattle.index.specs.Chain.{last_row}
use Rattle.index.specs.Indexed.{strings, strings_at}
use Rattle.index.proofs.find_last_said.Goals as goal

pub returns-then-n-le-LAST : goal.returns-then-n-le-LAST
unfolding last_row
returns-then-n-le-LAST c = rw (ne_eqb c.args.n 256 (omega arith))

pub is_said-requires : goal.is_said-requires
is_said-requires c =
    let p = c.requires in
    (omega arith, omega arith, omega arith, omega arith, p.6, row_sound _ _ _ _ p.1 p.2 (all_at _ _ _ _ 255 p.7 (omega arith)) (all_at _ _ _ _ 255 p.8 (omega arith)))

pub returns-then-is_said : goal.returns-then-is_said
unfolding last_row strings strings_at
returns-then-is_said c =
    let a = c.args in
    let p = c.requires in
    rw (eq-eqb a.n 256 (omega arith), sym (row_other a.s.now a.t.now a.table _ _ p.1 p.2) ∙ sym c.is_said.ensures ∙ c.if-is_said.true) (omega arith)

pub returns : goal.returns
unfolding last_row strings strings_at
returns c =
    let a = c.args in
    let p = c.requires in
    rw (eq-eqb a.n 256 (omega arith), sym (row_other a.s.now a.t.now a.table _ _ p.1 p.2) ∙ sym c.is_said.ensures ∙ c.if-is_said.false)
