-- `values` meets its contract: 1 shifted by at most 32 places loses nothing.
-- Assumes nothing.
use Rattle.std.proofs.Common.{◌≡◌, ℕ, ◌*◌, ◌%◌, ◌^◌, ◌≤◌, ◌∙◌, one-mul, arith, lit<, pow_mono, shl_exact}
use Rattle.fields.proofs.values.Goals as goal

shifted : (k : ℕ) → k ≤ 32 → (1 * 2 ^ k) % 2 ^ 64 ≡ 2 ^ k
shifted k h = shl_exact 1 k 64 (lit< tt) (omega arith) ∙ one-mul (2 ^ k)

pub returns : goal.returns
returns c = let e = shifted c.args.k c.requires in (e, rw e (pow_mono c.requires))
