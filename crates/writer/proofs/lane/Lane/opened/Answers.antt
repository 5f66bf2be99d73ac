-- `Lane::opened` meets its contract: the name by its number.
-- Assumes nothing.
use Rattle.writer.proofs.LaneLaws.{started}
use mathlib.Core.Path.{refl}
use Rattle.writer.proofs.lane.Lane.opened.Goals as goal

pub returns : goal.returns
returns c =
    let a = c.args in
    started a.w.now a.k c.is_kind-a.ensures c.attribute_bit.ensures.0 c.put_number-at.ensures.0 c.put_number-at.ensures.1 refl
