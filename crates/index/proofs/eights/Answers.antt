-- `eights` meets its contract: eight octets at a time: what is left from octet i on gives what all that count give, and those before it and the last eight are plain
-- where no high bit was seen.
-- Assumes nothing.
use mathlib.Core.Path.{◌≡◌}
use Prim.Native.Nat.{◌≤◌, ◌<◌}
use native.Mathlib.Omega.{arith}
use Rattle.index.proofs.Hash.{rolled-start, rolled_next, rolled_end, bucket-counted}
use Rattle.index.proofs.Plain.{eights_start, eights_next, eights_end}
use Rattle.index.proofs.eights.Goals as goal

pub loop-i-init : goal.loop-i-init
loop-i-init c = (
  omega arith,
  omega arith,
  rolled-start _ c.min-n.result,
  rw c.not_plain-other.ensures (eights_start _ _ _ _ (omega arith) c.eight-last.ensures),
)

pub loop-i-preserved : goal.loop-i-preserved
loop-i-preserved c =
    let x = c.eight-x.ensures in
    let inv = c.loop-i.invariant in
    let e = rolled_next _ _ _ (omega arith) _ _ _ (omega arith) inv.2 in (
      omega arith,
      c.blend-number.ensures.1,
      rw (c.blend-number.ensures.0, x.0) e,
      rw c.not_plain-other-in-loop-i.ensures (eights_next _ _ _ _ _ _ x inv.3),
    )

pub returns : goal.returns
returns c =
    let inv = c.loop-i.invariant in
    let m = c.min-n.ensures in
    let r = c.min-n.result in
    let n : (9 ≤ r) × (r ≤ c.args.len) × (c.args.len ≤ 65 → r ≡ c.args.len) × (65 < c.args.len → r ≡ 65) = (omega arith, omega arith, λ l. omega arith, λ l. omega arith) in (
      inv.1,
      bucket-counted _ _ _ _ _ _ (omega arith) n (rolled_end _ _ _ _ _ (omega arith) inv.2) c.eight-last.ensures.0,
      λ z l. rw (n.2 l) at (eights_end _ _ _ _ _ inv.3 (omega arith) z),
    )
