-- `not_plain_by_eights` meets its contract: the eights that were looked at, from the first octet on, and the last eight, which are looked at first.
-- Assumes nothing.
use Rattle.std.proofs.Common.{◌≡◌, ◌+◌, ◌-◌, ◌*◌, length, arith}
use Rattle.fields.specs.WeightContracts.{high_bits}
use Rattle.fields.proofs.Plain.{neither, eight_plain, At, joined}
use Rattle.fields.proofs.not_plain_by_eights.Goals as goal

pub loop-k-init : goal.loop-k-init
loop-k-init c =
    let x = c.args.s.now in
    let e : length x - 8 + 8 ≡ length x = omega arith in
    λ z. ((λ j l h. absurd (omega arith)), rw e at (eight_plain x (length x - 8) _ c.eight.ensures (rw c.not_plain-seen.ensures at z)))

pub loop-k-preserved : goal.loop-k-preserved
loop-k-preserved c =
    let x = c.args.s.now in
    let l = c.loop-k in
    let e : 8 * l.k + 8 ≡ 8 * (l.k + 1) = omega arith in
    λ z.
    let n = neither l.seen c.not_plain-seen-in-loop-k.result (high_bits 8) z in
    let m = eight_plain x (8 * l.k) _ c.eight-in-loop-k.ensures (rw c.not_plain-seen-in-loop-k.ensures at n.1) in
    let p = l.invariant n.0 in
    (rw e at (joined (At x) 0 (8 * l.k) p.0 (8 * l.k) (8 * l.k + 8) m (omega arith)), p.1)

pub returns : goal.returns
returns c =
    let l = c.loop-k in
    λ z. let p = l.invariant z in joined (At c.args.s.now) 0 (8 * l.k) p.0 _ _ p.1 (omega arith)
