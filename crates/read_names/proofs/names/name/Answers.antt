-- `name` meets its contract: by number or in parts.
-- Assumes nothing.
use native.Mathlib.Omega.{arith}
use Rattle.read_names.proofs.NameLaws.{name_numbered, name_parts}
use Rattle.read_names.proofs.names.name.Goals as goal

pub returns-then-b-parts_bits : goal.returns-then-b-parts_bits
returns-then-b-parts_bits c =
    let e = c.numbered.ensures.0 c.args.t.now c.args.index.now c.requires.0 (omega arith) in
    (name_numbered _ _ _ _ _ _ _ c.parts_bits.ensures.0 c.if-b-parts_bits.true e.0, e.1, c.numbered.ensures.1)

pub returns : goal.returns
returns c = (
  name_parts _ _ _ _ _ _ _ c.parts_bits.ensures.0 c.if-b-parts_bits.false c.in_parts.ensures.0,
  c.in_parts.ensures.1,
  c.in_parts.ensures.2,
)
