-- `eight` meets its contract: it is four octets and four more.
-- Assumes nothing.
use Rattle.std.proofs.Common.{arith}
use Rattle.fields.proofs.Weights.{eight_octets}
use Rattle.fields.proofs.eight.Goals as goal

pub returns : goal.returns
returns c =
    let a = c.args in
    let f = c.four.ensures in
    let g = c.four-2.ensures in
    eight_octets a.x.now a.at _ _ (omega arith) (f.0, f.1) (g.0, g.1)
