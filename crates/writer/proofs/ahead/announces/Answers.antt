-- `announces` meets its contract, by the mode.
-- Assumes nothing.
use mathlib.Core.Path.{◌∙◌}
use borrow.Author.Tests.{le-leb, lt-leb}
use Rattle.writer.proofs.ModeLaws.{bit-known}
use Rattle.writer.proofs.ahead.announces.Goals as goal

pub returns-then-mode-ge-DECLARING : goal.returns-then-mode-ge-DECLARING
returns-then-mode-ge-DECLARING c = rw (bit-known _ c.args.mode, le-leb _ _ c.if-mode-ge-DECLARING.true)

pub returns : goal.returns
returns c = c.announced.ensures ∙ rw (bit-known _ c.args.mode, lt-leb _ _ c.if-mode-ge-DECLARING.false)
