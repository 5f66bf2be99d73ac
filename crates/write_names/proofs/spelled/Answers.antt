-- `spelled` meets its contract: a law for each way out.
-- Assumes nothing.
use native.Mathlib.Omega.{arith}
use Rattle.write_names.proofs.StringLaws.{puts_spelled}
use Rattle.write_names.proofs.spelled.Goals as goal

pub returns : goal.returns
returns c = puts_spelled _ _ _ _ _ (omega arith) (omega arith) c.put_length-behind.ensures c.put_part.ensures
