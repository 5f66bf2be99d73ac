-- `declared` meets its contract: a prefix and a namespace behind their octet.
-- Assumes nothing.
use native.Mathlib.Omega.{arith}
use mathlib.Core.Path.{refl}
use Rattle.tables.specs.Rows.{table_of}
use Rattle.write_names.proofs.NameLaws.{declared_is}
use Rattle.write_names.proofs.naming.declared.Goals as goal

pub pair-requires : goal.pair-requires
unfolding table_of
pair-requires c =
    let k = c.number_of-k.ensures in
    let n = c.number_of-n.ensures in
    (c.requires.0, c.requires.1, refl, refl, (omega arith, c.requires.2, k.0, k.1), (omega arith, c.requires.3, n.0, n.1))

pub returns : goal.returns
returns c =
    rw (declared_is _ _ _ _ c.has.ensures.0 c.has-2.ensures.0) c.pair.ensures
