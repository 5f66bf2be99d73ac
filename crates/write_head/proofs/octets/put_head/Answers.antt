-- `put_head` meets its contract: the identification, the bits and the tables.
-- Assumes nothing.
use native.Mathlib.Omega.{arith}
use mathlib.Core.Path.{refl}
use Rattle.write_head.proofs.OctetLaws.{head_puts}
use Rattle.write_head.proofs.octets.put_head.Goals as goal

pub returns : goal.returns
returns c = head_puts _ _ _ _ _ c.presence-bits.ensures.0 refl refl c.put_part-fifth.ensures c.put.ensures refl c.put-2.ensures (omega arith) c.put-3.ensures (omega arith) c.put_tables.ensures
