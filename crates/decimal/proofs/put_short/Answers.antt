-- `put_short` meets its contract: the library's octets of the integer are the definition's.
-- Assumes nothing.
use Rattle.std.proofs.Common.{arith}
use mir.Syntax.{w16}
use Rattle.format.specs.Integers.{half}
use Rattle.decimal.proofs.Bytes.{octets_put}
use Rattle.decimal.proofs.put_short.Goals as goal

pub returns : goal.returns
unfolding half
returns c = rw (octets_put 2 w16 (omega arith) (omega arith) c.args.z c.ranges.z c.to_be_bytes.ensures) at c.put_part.ensures
