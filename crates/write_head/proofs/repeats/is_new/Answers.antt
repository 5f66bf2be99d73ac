-- `is_new` meets its contract: a law for each way out.
-- Assumes nothing.
use native.Mathlib.Omega.{arith}
use mathlib.Core.Path.{sym, ◌∙◌}
use mathlib.Core.Bool.{true≢false}
use borrow.Author.Tests.{ltb-true, ltb-false, lt-leb}
use Rattle.write_head.proofs.RowLaws.{new_other, new_low, new_name_lem}
use Rattle.write_head.proofs.repeats.is_new.Goals.{then-table-ge-ATTRIBUTE_VALUE, else-table-ge-ATTRIBUTE_VALUE}
use Rattle.write_head.proofs.repeats.is_new.Goals as goal

pub returns-then-may_repeat : goal.returns-then-may_repeat
returns-then-may_repeat c =
    rw c.if-may_repeat.true (new_other _ _ _ _
    (elim c.if-table-ge-ATTRIBUTE_VALUE.branch [
      | then-table-ge-ATTRIBUTE_VALUE w ↦ (omega arith, ltb-true _ 8 (sym w.may_repeat-is ∙ c.if-may_repeat.true))
      | else-table-ge-ATTRIBUTE_VALUE w ↦ absurd (true≢false (sym c.if-may_repeat.true ∙ w.may_repeat-is ∙ lt-leb 5 _ w.if-table-ge-ATTRIBUTE_VALUE.false))
    ]))

pub returns-else-may_repeat : goal.returns-else-may_repeat
returns-else-may_repeat c =
    elim c.if-table-ge-ATTRIBUTE_VALUE.branch [
      | then-table-ge-ATTRIBUTE_VALUE w ↦ new_name_lem _ _ _ _ (ltb-false _ 8 (sym w.may_repeat-is ∙ c.if-may_repeat.false)) _ c.is_held.ensures
      | else-table-ge-ATTRIBUTE_VALUE w ↦ new_low _ _ _ _ (omega arith) _ c.is_held.ensures
    ]
