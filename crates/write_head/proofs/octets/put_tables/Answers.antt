-- `put_tables` meets its contract: the tables before are put.
-- Assumes nothing.
use native.Mathlib.Omega.{arith}
use mathlib.Core.Path.{◌≡◌}
use Rattle.write_head.proofs.OctetLaws.{joins_none, joins_more}
use Rattle.write_head.proofs.octets.put_tables.Goals as goal

pub loop-table-init : goal.loop-table-init
loop-table-init c = (joins_none _, omega arith)

pub put_table-at-requires : goal.put_table-at-requires
put_table-at-requires c = (omega arith, omega arith, c.requires.1, c.requires.2, c.requires.3, c.requires.4, c.requires.5)

pub loop-table-preserved : goal.loop-table-preserved
loop-table-preserved c = let p = c.put_table-at.ensures in (joins_more _ _ c.loop-table.invariant.0 p.0, omega arith)

pub returns : goal.returns
returns c = let l = c.loop-table in let e : l.table ≡ 10 = omega arith in rw (← e) l.invariant.0
