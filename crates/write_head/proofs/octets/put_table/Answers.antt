-- `put_table` meets its contract: nothing of an empty one.
-- Assumes nothing.
use native.Mathlib.Omega.{arith}
use mathlib.Core.Path.{refl}
use Rattle.write_head.proofs.RowLaws.{few_at}
use Rattle.write_head.proofs.OctetLaws.{table_none, table_some}
use Rattle.write_head.proofs.octets.put_table.Goals as goal

pub returns-then-n-eq0 : goal.returns-then-n-eq0
returns-then-n-eq0 c = table_none _ _ _ (omega arith) refl

pub put_count-behind-requires : goal.put_count-behind-requires
put_count-behind-requires c = let f = few_at c.args.given.now c.args.table c.requires.4 c.requires.1 in omega arith

pub returns : goal.returns
returns c = table_some _ _ _ _ refl (omega arith) c.put_count-behind.ensures c.put_rows.ensures
