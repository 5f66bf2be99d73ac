-- `add_rows` meets its contract: the rows before are added.
-- Assumes nothing.
use native.Mathlib.Omega.{arith}
use mathlib.Core.Path.{◌≡◌, sym, ◌∙◌}
use lib.ListN.{get_or}
use Rattle.tables.proofs.Found.{clash}
use Rattle.write_head.proofs.RowLaws.{right_row_lem, below_none, below_more, table_keeps, table_breaks}
use Rattle.write_head.proofs.AddLaws.{rows_none, rows_more, tells_held}
use Rattle.write_head.proofs.NewLaws.{row_told}
use Rattle.write_head.proofs.adding.add_rows.Goals as goal

pub loop-i-init : goal.loop-i-init
loop-i-init c = (rows_none _ _ _ _ _ c.requires.0, c.rows_of-rows.ensures.0, below_none _)

pub add_row-requires : goal.add_row-requires
add_row-requires c =
    let l = c.loop-i in
    let e = l.invariant.1 in
    let h = l.invariant.0.here in
    (l.invariant.0.order, c.requires.1, omega arith, omega arith, λ k. rw e (right_row_lem _ _ c.requires.3 _ _ c.requires.1 (omega arith) c.requires.6 k))

pub returns-in_err-add_row : goal.returns-in_err-add_row
returns-in_err-add_row c =
    let l = c.loop-i in
    let told = c.in_err-add_row.ensures.1 in
    let held = table_breaks _ _ _ _ _ (omega arith) (sym (row_told _ _ c.requires.3 _ _ (omega arith) c.requires.1 _ _ _ l.invariant.1 l.invariant.0.tables c.requires.5) ∙ told.0) in
    (tells_held _ _ _ c.from_residual.ensures.1 told.1 held, λ e. clash (sym held ∙ e))

pub loop-i-preserved : goal.loop-i-preserved
loop-i-preserved c =
    let l = c.loop-i in
    let told = c.in_ok-add_row.ensures in
    let new = row_told _ _ c.requires.3 _ _ (omega arith) c.requires.1 _ _ _ l.invariant.1 l.invariant.0.tables c.requires.5 in
    (rows_more _ _ _ _ _ _ _ l.invariant.1 l.invariant.0 told.0, l.invariant.1, below_more _ _ l.invariant.2 (sym new ∙ told.1))

pub returns : goal.returns
returns c =
    let l = c.loop-i in
    let e : l.i ≡ get_or c.args.given.now c.args.table 0 = omega arith in
    (table_keeps _ _ _ _ _ e l.invariant.2, λ k. rw (← e) l.invariant.0)
