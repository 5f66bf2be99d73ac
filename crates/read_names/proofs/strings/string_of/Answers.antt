-- `string_of` meets its contract: an entry with octets is their stretch, one without is what its table has built in.
-- Assumes nothing.
use native.Mathlib.Omega.{arith}
use Rattle.read_names.proofs.StringLaws.{entry_octets, entry_formed, entry_built_in, built_in_prefix_lem, built_in_namespace_lem, built_in_none}
use Rattle.read_names.proofs.strings.string_of.Goals as goal

pub returns-in-0 : goal.returns-in-0
returns-in-0 c = entry_built_in _ _ _ _ c.entry-e.ensures _ (omega arith) (built_in_prefix_lem _ (omega arith))

pub returns-in-1 : goal.returns-in-1
returns-in-1 c = entry_built_in _ _ _ _ c.entry-e.ensures _ (omega arith) (built_in_namespace_lem _ (omega arith))

pub returns-in_default : goal.returns-in_default
returns-in_default c = entry_built_in _ _ _ _ c.entry-e.ensures _ (omega arith) (built_in_none _ (omega arith) (omega arith) (omega arith))

pub returns-then-table-le-OTHER_URI : goal.returns-then-table-le-OTHER_URI
returns-then-table-le-OTHER_URI c = entry_octets _ _ _ _ c.entry-e.ensures (omega arith) (omega arith)

pub returns-else-table-le-OTHER_URI : goal.returns-else-table-le-OTHER_URI
returns-else-table-le-OTHER_URI c = entry_formed _ _ _ _ c.entry-e.ensures _ c.of-form.ensures (omega arith) (omega arith) (omega arith)
