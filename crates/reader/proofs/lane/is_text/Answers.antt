-- `is_text` meets its contract: one or two octets that are plain are text.
-- Assumes nothing.
use native.Mathlib.Omega.{arith}
use mathlib.Core.Path.{sym, ◌∙◌}
use Rattle.reader.proofs.LaneLaws.{one_text, two_text}
use Rattle.reader.proofs.lane.is_text.Goals as goal

pub returns-in-len1 : goal.returns-in-len1
returns-in-len1 c = one_text _ (omega arith) (sym c.is_plain.ensures ∙ c.if-is_plain.true)

pub returns-in-len2 : goal.returns-in-len2
returns-in-len2 c =
    two_text _ (omega arith) (sym c.is_plain-then-this-lt3.ensures ∙ c.if-is_plain-2.true) (sym c.is_plain-then-is_plain-2.ensures ∙ c.if-is_plain-3.true)
