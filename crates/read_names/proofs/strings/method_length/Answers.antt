-- `method_length` meets its contract: the length's bits in its first octet pick the case of the definition.
-- Assumes nothing.
use mathlib.Core.Path.{refl}
use native.Mathlib.Omega.{arith}
use Rattle.read_names.proofs.MethodLaws.{length_short, length_middle, length_long}
use Rattle.read_names.proofs.strings.method_length.Goals as goal

pub returns-then-b-half : goal.returns-then-b-half
returns-then-b-half c =
    length_short c.args.bit c.requires.0 c.requires.1 _ _ _ _ _ _ c.octet.ensures c.bits-b.ensures refl _ c.if-b-half.true c.method_behind.ensures

pub returns-then-b-half-2 : goal.returns-then-b-half-2
returns-then-b-half-2 c =
    length_middle c.args.bit c.requires.0 c.requires.1 _ _ _ _ _ _ c.octet.ensures c.bits-b.ensures refl _ (omega arith) c.if-b-half-2.true c.method_behind-then-b-half-2.ensures

pub returns : goal.returns
returns c =
    length_long c.args.bit c.requires.0 c.requires.1 _ _ _ _ _ _ c.octet.ensures c.bits-b.ensures refl _ (omega arith) c.method_behind-2.ensures
