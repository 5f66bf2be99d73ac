-- `is_declaring` meets its contract.
-- Assumes nothing.
use Rattle.write_items.proofs.ModeLaws.{declares}
use Rattle.write_items.proofs.records.is_declaring.Goals as goal

pub returns : goal.returns
returns c = rw (declares c.args.mode)
