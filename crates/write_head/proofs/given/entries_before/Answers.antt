-- `entries_before` meets its contract: the counts of the tables before are summed.
-- Assumes nothing.
use native.Mathlib.Omega.{arith}
use mathlib.Core.Path.{◌≡◌}
use Rattle.std.proofs.lemmas.List.{get_or-take, length-take-le}
use Rattle.write_head.proofs.RowLaws.{before_none, before_more}
use Rattle.write_head.proofs.given.entries_before.Goals as goal

pub loop-count-init : goal.loop-count-init
loop-count-init c = (before_none _, omega arith)

pub overflow_add-n : goal.overflow_add-n
overflow_add-n c = let e = length-take-le c.args.table c.args.given.now (omega arith) in omega arith

pub loop-count-preserved : goal.loop-count-preserved
loop-count-preserved c =
    let e = length-take-le c.args.table c.args.given.now (omega arith) in
    let k = get_or-take c.args.table c.args.given.now c.loop-count.count-index 0 (omega arith) in
    (before_more _ _ _ _ c.loop-count.invariant.0 k, omega (arith, c.type_inv.given c.loop-count.count-index))

pub returns : goal.returns
returns c =
    let l = c.loop-count in
    let t = length-take-le c.args.table c.args.given.now (omega arith) in
    let e : l.count-index ≡ c.args.table = omega arith in
    (rw (← e) l.invariant.0, omega arith)
