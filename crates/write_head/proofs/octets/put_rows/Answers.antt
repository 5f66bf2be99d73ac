-- `put_rows` meets its contract: the rows before are put.
-- Assumes nothing.
use native.Mathlib.Omega.{arith}
use mathlib.Core.Path.{◌≡◌}
use lib.ListN.{get_or}
use Rattle.write_head.proofs.RowLaws.{right_fits, few_at}
use Rattle.write_head.proofs.OctetLaws.{rows_none, rows_more}
use Rattle.write_head.proofs.octets.put_rows.Goals as goal

pub loop-i-init : goal.loop-i-init
loop-i-init c = (rows_none _ _ _, omega arith, c.rows_of-rows.ensures.0)

pub put_row-at-requires : goal.put_row-at-requires
put_row-at-requires c =
    let f = few_at c.args.given.now c.args.table c.requires.4 c.requires.1 in
    let e = c.loop-i.invariant.2 in
    (omega arith, c.requires.1, omega arith, c.requires.5, rw e (right_fits _ _ c.requires.3 _ _ c.requires.1 (omega arith) c.requires.6 c.requires.4))

pub loop-i-preserved : goal.loop-i-preserved
loop-i-preserved c = let l = c.loop-i in let p = c.put_row-at.ensures in (rows_more _ _ _ _ _ l.invariant.2 l.invariant.0 p.0, omega arith, l.invariant.2)

pub returns : goal.returns
returns c =
    let f = few_at c.args.given.now c.args.table c.requires.4 c.requires.1 in
    let l = c.loop-i in
    let e : l.i ≡ get_or c.args.given.now c.args.table 0 = omega arith in
    (rw (← e) l.invariant.0, omega arith)
