-- `octet` meets its contract: a law for each way out.
-- Assumes nothing.
use native.Mathlib.Omega.{arith}
use Rattle.write_items.proofs.ItemLaws.{octet-aligned}
use Rattle.write_items.proofs.items.octet.Goals as goal

pub returns : goal.returns
returns c = (octet-aligned _, omega arith)
