-- `four` meets its contract: the octets that are read are those that are meant.
-- Assumes nothing.
use Rattle.std.proofs.Common.{arith}
use Rattle.fields.specs.WeightContracts.{weight}
use Rattle.fields.proofs.Weights.{four_octets}
use Rattle.fields.proofs.four.Goals as goal

pub returns : goal.returns
unfolding weight
returns c =
    let a = c.args in
    rw (four_octets a.x.now a.at (omega arith))
    (omega arith, (omega arith, (omega arith, (omega arith, (omega arith, tt)))), omega arith)
