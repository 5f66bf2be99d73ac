-- `add_tables` meets its contract: the tables before are added.
-- Assumes nothing.
use native.Mathlib.Omega.{arith}
use mathlib.Core.Path.{◌≡◌, sym, ◌∙◌}
use Rattle.tables.proofs.Found.{clash}
use Rattle.write_head.proofs.RowLaws.{few_at, below_none, below_more, all_tables, one_breaks}
use Rattle.write_head.proofs.AddLaws.{tables_more, tells_held}
use Rattle.write_head.proofs.adding.add_tables.Goals as goal

pub loop-table-init : goal.loop-table-init
loop-table-init c = (record { order = c.requires.0; tables = c.requires.4; fresh = λ j h. c.requires.5 j }, below_none _)

pub add_rows-requires : goal.add_rows-requires
add_rows-requires c =
    let l = c.loop-table in
    let f = l.invariant.0.fresh l.table (omega arith) in
    let k = few_at c.args.given.now l.table c.requires.3 (omega arith) in
    (l.invariant.0.order, omega arith, c.requires.1, c.requires.2, omega arith, l.invariant.0.tables, c.requires.6)

pub returns-in_err-add_rows : goal.returns-in_err-add_rows
returns-in_err-add_rows c =
    let told = c.in_err-add_rows.ensures.0 in
    let held = one_breaks _ _ _ _ (omega arith) told.0 in
    (tells_held _ _ _ c.from_residual.ensures.1 told.1 held, λ e. clash (sym held ∙ e))

pub loop-table-preserved : goal.loop-table-preserved
loop-table-preserved c =
    let l = c.loop-table in
    let told = c.in_ok-add_rows.ensures in
    (tables_more _ _ _ l.invariant.0 (told.1 told.0), below_more _ _ l.invariant.1 told.0)

pub returns : goal.returns
returns c =
    let l = c.loop-table in
    let e : l.table ≡ 10 = omega arith in
    (all_tables _ _ _ _ e l.invariant.1, λ k. (rw (← e) l.invariant.0.tables, l.invariant.0.order))
