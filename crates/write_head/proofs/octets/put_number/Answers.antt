-- `put_number` meets its contract: nothing for no part.
-- Assumes nothing.
use native.Mathlib.Omega.{arith}
use mathlib.Core.Path.{refl}
use Rattle.write_head.proofs.OctetLaws.{part_none, part-number}
use Rattle.write_head.proofs.octets.put_number.Goals as goal

pub returns-then-n-eq0 : goal.returns-then-n-eq0
returns-then-n-eq0 c = part_none c.args.n (omega arith) refl refl

pub returns : goal.returns
returns c = part-number _ (omega arith) c.put_number_at_bit_2.ensures
