-- `bucket_of` meets its contract: a look tells it.
-- Assumes nothing.
use Rattle.index.proofs.bucket_of.Goals as goal

pub returns : goal.returns
returns c = (c.look.ensures.0, c.look.ensures.1)
