-- `id` meets its contract: bit 1 says whether the string is spelled or numbered.
-- Assumes nothing.
use native.Mathlib.Omega.{arith}
use Rattle.read_names.proofs.StringLaws.{id_held}
use Rattle.read_names.proofs.strings.id.Goals as goal

pub returns : goal.returns
returns c =
    id_held _ _ _ _ _ _ c.requires.0 (omega arith) (omega arith) _ c.number_at_bit_2.ensures _ c.held.ensures
