-- `skim` meets its contract: no item, or those of the lane.
-- Assumes nothing.
use native.Mathlib.Omega.{arith}
use mathlib.Core.Path.{sym, ◌∙◌}
use Rattle.reader.proofs.LaneLaws.{enters_is, advances_lane}
use Rattle.reader.proofs.lane.skim.Goals as goal

pub items-to-requires : goal.items-to-requires
items-to-requires c =
    let l = (enters_is _ (sym c.if-not-enters.false ∙ c.enters.ensures)).0 in
    (c.requires.0, l, omega arith, omega arith, omega arith)

pub returns : goal.returns
returns c =
    advances_lane _ _ (sym c.if-not-enters.false ∙ c.enters.ensures) (omega arith) (omega arith) c.items-to.ensures
