-- `entries` meets its contract: one entry after the other, and those that are left are read from where the loop stands.
-- Assumes nothing.
use native.Mathlib.Omega.{arith}
use Prim.Native.Nat.{◌+◌, ◌-◌}
use mathlib.Core.Path.{sym, ◌∙◌}
use Rattle.read_names.proofs.StringLaws.{handed_on}
use Rattle.read_head.proofs.HeadLaws.{left-then, entries_end, entries_next, entries_refused}
use Rattle.read_head.proofs.entries.Goals as goal

pub returns-in_err-place : goal.returns-in_err-place
returns-in_err-place c =
    let r = c.in_err-place.ensures in
    rw (handed_on _ _ c.from_residual.ensures) (entries_refused _ _ _ _ _ (c.args.n - (c.loop-i._i + 1)) (omega arith) _ _ r.0 ∙ c.loop-i.invariant.reads, r.1)

pub loop-i-preserved : goal.loop-i-preserved
loop-i-preserved c =
    let r = c.in_ok-place.ensures in
    let inv = c.loop-i.invariant in
    record { left = left-then inv.left r.1; reads = entries_next _ _ _ _ _ _ (omega arith) _ _ r.0 ∙ inv.reads }

pub returns : goal.returns
returns c = let inv = c.loop-i.invariant in (sym (entries_end _ _ _ _ _ (omega arith)) ∙ inv.reads, inv.left)
