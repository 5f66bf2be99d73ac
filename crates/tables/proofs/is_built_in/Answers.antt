-- `is_built_in` meets its contract: each number picks its string.
-- Assumes nothing.
use mathlib.Core.Path.{◌≡◌}
use native.Mathlib.Omega.{arith}
use Rattle.format.specs.Tables.{xml_prefix, xml_namespace}
use Rattle.tables.specs.Rows.{table_of, built_in}
use Rattle.tables.specs.Located.{octets_of}
use Rattle.tables.proofs.Search.{none_built_in}
use Rattle.tables.proofs.is_built_in.Goals as goal

pub returns-in-0 : goal.returns-in-0
unfolding octets_of built_in table_of xml_prefix
returns-in-0 c = let z : c.args.table ≡ 0 = omega arith in rw z c.same_octets.ensures

pub returns-in-1 : goal.returns-in-1
unfolding octets_of built_in table_of xml_namespace
returns-in-1 c = let z : c.args.table ≡ 1 = omega arith in rw z c.same_octets-in-1.ensures

pub returns-in_default : goal.returns-in_default
returns-in_default c = none_built_in _ _ _ _ (omega arith) (omega arith) (omega arith)
