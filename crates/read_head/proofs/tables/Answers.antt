-- `tables` meets its contract: one table after the other, and those from i on are read from where the loop stands.
-- Assumes nothing.
use native.Mathlib.Omega.{arith}
use mathlib.Core.Path.{sym, ◌∙◌}
use Rattle.read_names.proofs.StringLaws.{handed_on}
use Rattle.read_head.proofs.HeadLaws.{left-then, tables_end, tables_next, tables_refused}
use Rattle.read_head.proofs.tables.Goals as goal

pub returns-in_err-place : goal.returns-in_err-place
returns-in_err-place c =
    let r = c.in_err-place.ensures in
    rw (handed_on _ _ c.from_residual.ensures) (tables_refused _ _ c.loop-i.i _ _ (omega arith) _ _ r.0 ∙ c.loop-i.invariant.reads, r.1)

pub loop-i-preserved : goal.loop-i-preserved
loop-i-preserved c =
    let r = c.in_ok-place.ensures in
    let inv = c.loop-i.invariant in
    record { left = left-then inv.left r.1; reads = tables_next _ _ c.loop-i.i _ _ (omega arith) _ _ r.0 ∙ inv.reads }

pub returns : goal.returns
returns c = let inv = c.loop-i.invariant in (sym (tables_end _ _ c.loop-i.i _ _ (omega arith) (omega arith)) ∙ inv.reads, inv.left)
