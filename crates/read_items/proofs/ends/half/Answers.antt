-- `half` meets its contract: the four high bits, or the four low ones.
-- Assumes nothing.
use native.Mathlib.Omega.{arith}
use Prim.Native.Nat.{◌/◌}
use Rattle.read_items.proofs.EndLaws.{half_none, half_high, half_low}
use Rattle.read_items.proofs.ends.half.Goals as goal

pub returns-then-s-k : goal.returns-then-s-k
returns-then-s-k c = half_none _ _ (omega arith)

pub returns-then-at-eq0 : goal.returns-then-at-eq0
returns-then-at-eq0 c =
    half_high _ _ (omega arith) _ (omega (arith, c.type_inv.s (c.args.at / 2))) (omega arith) c.bits.ensures

pub returns : goal.returns
returns c =
    half_low _ _ (omega arith) _ (omega (arith, c.type_inv.s (c.args.at / 2))) (omega arith) c.bits-2.ensures
