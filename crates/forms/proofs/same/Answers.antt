-- `same` meets its contract: both strings are compared from their first octets on.
-- Assumes nothing.
use Rattle.forms.specs.Streams.{ahead}
use Rattle.forms.proofs.Compared.{compared}
use Rattle.forms.proofs.same.Goals as goal

pub returns : goal.returns
returns c =
    let r = c.eq.ensures.ran in
    let w = rw r.7 at (compared ahead c.over.result r.0 r.5 r.6 r.1 r.2 r.3 r.4 c.eq.result r.8 r.9 r.10 r.11) in
    rw (c.over.ensures.1, c.over-2.ensures.1) w
