-- `is_text` meets its contract: names have none.
-- Assumes nothing.
use native.Mathlib.Omega.{arith}
use Rattle.write_head.specs.RowContracts.{keeps_row}
use Rattle.write_head.proofs.RowLaws.{right_lies, text_name, text_string}
use Rattle.write_head.proofs.judge.is_text.Goals as goal

pub returns-then-table-ge-ELEMENT_NAME : goal.returns-then-table-ge-ELEMENT_NAME
unfolding keeps_row
returns-then-table-ge-ELEMENT_NAME c = text_name _ _ _ _ (omega arith)

pub is_text-requires : goal.is_text-requires
is_text-requires c =
    let e = c.rows_of.ensures.0 in
    let l = rw (← e) at (right_lies _ _ c.requires.3 _ _ c.requires.1 c.requires.2 (omega arith)).1 in
    omega arith

pub returns : goal.returns
unfolding keeps_row
returns c = rw (← c.rows_of.ensures.0) (text_string _ _ _ _ _ (omega arith) c.form_given.ensures _ c.is_text.ensures.0)
