-- `put_name_number` meets its contract: a law for each way out.
-- Assumes nothing.
use native.Mathlib.Omega.{arith}
use Rattle.write_names.proofs.StringLaws.{element_forms, attribute_forms}
use Rattle.write_names.proofs.put_name_number.Goals as goal

pub returns-then-table-eq-ELEMENT_NAME : goal.returns-then-table-eq-ELEMENT_NAME
returns-then-table-eq-ELEMENT_NAME c = rw (element_forms c.args.table (omega arith)) c.put_number.ensures

pub returns : goal.returns
returns c = rw (attribute_forms c.args.table (omega arith)) (c.put_number_at_bit_2.ensures.0, omega arith)
