-- `parts_bits` meets its contract: the table picks its layout.
-- Assumes nothing.
use Rattle.tables.proofs.Layouts.{element_parts, attribute_parts}
use Rattle.tables.proofs.parts_bits.Goals as goal

pub returns-then-table-eq-ELEMENT_NAME : goal.returns-then-table-eq-ELEMENT_NAME
returns-then-table-eq-ELEMENT_NAME c = element_parts _ c.if-table-eq-ELEMENT_NAME.true

pub returns : goal.returns
returns c = attribute_parts _ c.if-table-eq-ELEMENT_NAME.false
