-- `integers_for` meets its contract: UTF-8 is looked at as it stands, another form as it is given.
-- Assumes nothing.
use native.Mathlib.Omega.{arith}
use Rattle.forms.proofs.Forms.{said-utf8}
use Rattle.forms.proofs.Streams.{bounded}
use Rattle.forms.proofs.integers.integers_for.Goals as goal

pub found_said-requires : goal.found_said-requires
found_said-requires c = let a = c.args in let p = c.requires in let b = rw c.over.ensures.1 at (bounded a.s.now a.form a.from a.to p.1 p.3) in (c.over.ensures.0, omega arith)

pub returns-in-Utf8 : goal.returns-in-Utf8
returns-in-Utf8 c = rw (said-utf8 _ _ c.in-Utf8.is) c.found_octets.ensures

pub returns-in_default : goal.returns-in_default
returns-in_default c = rw c.over.ensures.1 c.found_said.ensures
