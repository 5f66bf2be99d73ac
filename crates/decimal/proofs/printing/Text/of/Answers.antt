-- `Text::of` meets its contract: the sign, the integer without it, and how many digits it has.
-- Assumes nothing.
use Rattle.decimal.proofs.TextsWritten.{text_of}
use Rattle.decimal.proofs.printing.Text.of.Goals as goal

pub returns : goal.returns
returns c = (text_of c.args.z _ _ c.ranges.z c.unsigned_abs-n.ensures.value c.size.ensures.0, c.size.ensures.1)
