-- `close` meets its contract: a law for each way out.
-- Assumes nothing.
use native.Mathlib.Omega.{arith}
use Rattle.write_items.proofs.ItemLaws.{end_lands}
use Rattle.write_items.proofs.items.close.Goals as goal

pub returns : goal.returns
returns c = λ text a d w ix order. rw c.behind_end.ensures (end_lands text a _ d w ix order (omega arith) (omega arith) c.put_end.ensures)
