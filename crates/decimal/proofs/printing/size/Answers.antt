-- `size` meets its contract: n has k digits where 10 ^ k is the first power of ten above it, and 20 where none is.
-- Assumes nothing.
use Rattle.std.proofs.Common.{◌≡◌, arith}
use Rattle.decimal.proofs.Tens.{size_is}
use Rattle.decimal.proofs.printing.size.Goals as goal

pub returns : goal.returns
returns c = let l = c.loop-k in let e : l.k ≡ 20 = omega arith in (size_is _ 20 (omega arith) (omega arith) (rw e at l.invariant), omega arith)
