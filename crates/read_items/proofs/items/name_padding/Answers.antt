-- `name_padding` meets its contract: each way out is a case of the definition.
-- Assumes nothing.
use native.Mathlib.Omega.{arith}
use Rattle.read_items.proofs.ItemLaws.{padding_longest, padding_in_parts, padding_none}
use Rattle.read_items.proofs.items.name_padding.Goals as goal

pub returns-then-bits-eq6 : goal.returns-then-bits-eq6
returns-then-bits-eq6 c = padding_longest _ (omega arith) (omega arith) _ c.bits-then-bits-eq6.ensures

pub returns-then-bits-eq14 : goal.returns-then-bits-eq14
returns-then-bits-eq14 c = padding_in_parts _ (omega arith) (omega arith) (omega arith) _ c.bits-then-bits-eq14.ensures

pub returns : goal.returns
returns c = padding_none _ (omega arith) (omega arith) (omega arith)
