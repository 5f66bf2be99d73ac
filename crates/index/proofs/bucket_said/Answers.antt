-- `bucket_said` meets its contract: by the octets as they stand, or by what they say.
-- Assumes nothing.
use Rattle.index.proofs.bucket_said.Goals as goal

pub returns-in-Utf8 : goal.returns-in-Utf8
returns-in-Utf8 c = (rw c.in-Utf8.is c.bucket_of.ensures.0, c.bucket_of.ensures.1)
