-- `bits` meets its contract: a mask of k bits is the remainder by 2 ^ k.
-- Assumes nothing.
use Rattle.std.proofs.Common.{◌≡◌, ℕ, ◌+◌, ◌-◌, ◌*◌, ◌%◌, ◌^◌, ◌<◌, ◌∙◌, one-mul, arith, lit<, pow_pos, shl_exact}
use lib.Bits.{and_mask}
use Rattle.fields.proofs.bits.Goals as goal

shifted : (k : ℕ) → k < 8 → (1 * 2 ^ k) % 256 ≡ 2 ^ k
shifted k h = shl_exact 1 k 8 (lit< tt) (omega arith) ∙ one-mul (2 ^ k)

pub overflow_sub-result-3 : goal.overflow_sub-result-3
overflow_sub-result-3 c = rw (shifted (c.args.last + 1 - c.args.first) (omega arith)) (pow_pos _)

pub returns : goal.returns
returns c = rw (shifted (c.args.last + 1 - c.args.first) (omega arith)) (and_mask _ (c.args.last + 1 - c.args.first))
