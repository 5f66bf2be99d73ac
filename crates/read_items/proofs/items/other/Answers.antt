-- `other` meets its contract: an end, another format, or no code.
-- Assumes nothing.
use native.Mathlib.Omega.{arith}
use mathlib.Core.Path.{◌≡◌}
use borrow.Author.Tests.{lt-ltb, le-ltb}
use lib.Dec.{ltb}
use Rattle.format.specs.Numbers.{pick}
use Rattle.read_items.proofs.StepLaws.{other_end, other_format, other_none}
use Rattle.read_items.proofs.items.other.Goals as goal
use Rattle.read_items.proofs.items.other.Goals.{then-level-gt0, else-level-gt0}

pub returns-then-o-ge240 : goal.returns-then-o-ge240
returns-then-o-ge240 c = other_end _ _ (omega arith)

pub returns-then-bits-unread : goal.returns-then-bits-unread
returns-then-bits-unread c =
    let unread : c.if-level-gt0.unread ≡ pick (ltb 0 c.args.level) 0x32 0x31 = elim c.if-level-gt0.branch [
      | then-level-gt0 w ↦ rw (lt-ltb _ _ w.if-level-gt0.true) w.unread-is
      | else-level-gt0 w ↦ rw (le-ltb _ _ w.if-level-gt0.false) w.unread-is
    ] in
    other_format _ _ (omega arith) _ _ c.bits.ensures unread c.if-bits-unread.true

pub returns : goal.returns
returns c =
    let unread : c.if-level-gt0.unread ≡ pick (ltb 0 c.args.level) 0x32 0x31 = elim c.if-level-gt0.branch [
      | then-level-gt0 w ↦ rw (lt-ltb _ _ w.if-level-gt0.true) w.unread-is
      | else-level-gt0 w ↦ rw (le-ltb _ _ w.if-level-gt0.false) w.unread-is
    ] in
    other_none _ _ (omega arith) _ _ c.bits.ensures unread c.if-bits-unread.false
