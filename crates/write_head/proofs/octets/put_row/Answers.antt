-- `put_row` meets its contract: by the kind of its table.
-- Assumes nothing.
use native.Mathlib.Omega.{arith}
use Rattle.tables.specs.Rows.{triple_at}
use Rattle.write_head.proofs.RowLaws.{row_utf8, row_spells}
use Rattle.write_head.proofs.OctetLaws.{row_string, row_name}
use Rattle.write_head.proofs.octets.put_row.Goals as goal

pub put_string-requires : goal.put_string-requires
put_string-requires c =
    let row = c.requires.4.0 (omega arith) in
    let form = c.form_given-form.ensures in
    (c.requires.0, omega arith, row_spells c.args.text.now c.args.given.now c.args.table c.args.row row _ form, row_utf8 c.args.text.now c.args.given.now c.args.table c.args.row row _ form, c.requires.3)

pub returns-then-table-lt-ELEMENT_NAME : goal.returns-then-table-lt-ELEMENT_NAME
returns-then-table-lt-ELEMENT_NAME c = row_string _ _ _ _ (omega arith) (rw (← c.form_given-form.ensures) c.put_string.ensures)

pub put_name-requires : goal.put_name-requires
put_name-requires c = let f = c.requires.4.1 (omega arith) in omega arith

pub returns : goal.returns
unfolding triple_at
returns c = row_name _ _ _ _ (omega arith) c.put_name.ensures
