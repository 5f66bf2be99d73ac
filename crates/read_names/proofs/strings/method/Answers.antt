-- `method` meets its contract: both parts of the number lie in their octets as the definition says.
-- Assumes nothing.
use native.Mathlib.Omega.{arith}
use Rattle.read_names.proofs.MethodLaws.{method_is}
use Rattle.read_names.proofs.strings.method.Goals as goal

pub returns : goal.returns
returns c = method_is _ c.requires.0 c.requires.1 _ _ _ _ _ c.octet.ensures c.octet-2.ensures (omega arith) c.bits-high.ensures
