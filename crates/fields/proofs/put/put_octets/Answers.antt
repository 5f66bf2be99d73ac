-- `put_octets` meets its contract: i octets are put, and the rest are left.
-- Assumes nothing.
use Rattle.std.proofs.Common.{arith}
use Rattle.fields.proofs.Laws.{octets-length}
use Rattle.fields.proofs.Puts.{puts_next, puts_all, octet_at}
use Rattle.fields.proofs.put.put_octets.Goals as goal

pub loop-i-preserved : goal.loop-i-preserved
loop-i-preserved c =
    let n = octets-length c.args.more c.args.v in puts_next _ _ c.loop-i.invariant (omega arith) (octet_at _ _ _ (omega arith)) c.put.ensures

pub returns : goal.returns
returns c = puts_all _ _ c.loop-i.invariant (octets-length _ _) (omega arith) (omega arith)
