-- `is_name` meets its contract: each number is compared.
-- Assumes nothing.
use mathlib.Core.Path.{sym, ◌∙◌}
use mathlib.Core.Bool.{and-false, and-true}
use borrow.Author.Tests.{eq-eqb, ne_eqb}
use Rattle.fields.proofs.Utf8.{never}
use Rattle.format.specs.Tables.{same_triple}
use Rattle.tables.specs.Rows.{triple_at}
use Rattle.tables.proofs.is_name.Goals as goal
use Rattle.tables.proofs.is_name.Goals.{then-t-j, else-t-j}

pub returns-then-t-j-2 : goal.returns-then-t-j-2
unfolding triple_at same_triple
returns-then-t-j-2 c =
    elim c.if-t-j.branch [
      | then-t-j w ↦ rw (eq-eqb _ _ w.if-t-j.true, sym w.value-is ∙ c.if-t-j-2.true, and-true)
      | else-t-j w ↦ never (sym (sym c.if-t-j-2.true ∙ w.value-is ∙ ne_eqb _ _ w.if-t-j.false))
    ]

pub returns-else-t-j-2 : goal.returns-else-t-j-2
unfolding triple_at same_triple
returns-else-t-j-2 c =
    elim c.if-t-j.branch [
      | then-t-j w ↦ rw (sym w.value-is ∙ c.if-t-j-2.false, and-false) c.if-t-j-2.false
      | else-t-j w ↦ rw (ne_eqb _ _ w.if-t-j.false, and-false, and-false) c.if-t-j-2.false
    ]
