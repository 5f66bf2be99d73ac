-- `mark` meets its contract: plain octets are text, and of others it is asked.
-- Assumes nothing.
use native.Mathlib.Omega.{arith}
use mathlib.Core.Path.{◌≡◌, ◌∙◌}
use Prim.Native.Nat.{◌+◌, ◌-◌}
use Rattle.tables.specs.Located.{octets_of}
use Rattle.index.proofs.Plain.{plain_string}
use Rattle.index.proofs.mark.Goals as goal

pub returns-then-x : goal.returns-then-x
returns-then-x c = (c.look-x.ensures.0, c.look-x.ensures.1, c.if-x.true ∙ plain_string _ _ _ (omega arith) (c.look-x.ensures.2 c.if-x.true))

pub returns-else-x : goal.returns-else-x
unfolding octets_of
returns-else-x c =
    let a = c.args in
    let z : a.place + a.len - a.place ≡ a.len = omega arith in
    (c.look-x.ensures.0, c.look-x.ensures.1, c.is_text.ensures ∙ rw z)
