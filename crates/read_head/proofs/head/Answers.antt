-- `head` meets its contract: the two octets of presence bits, and then the tables.
-- Assumes nothing.
use native.Mathlib.Omega.{arith}
use Rattle.read_head.proofs.HeadLaws.{head_missing, head_padded, head_other, head_short, head_empty, head_read}
use Rattle.read_head.proofs.head.Goals as goal

pub returns-then-s-at : goal.returns-then-s-at
returns-then-s-at c =
    rw c.at.ensures (head_missing _ _ _ (omega arith), (omega arith, c.requires.1))

pub returns-then-first-ge32 : goal.returns-then-first-ge32
returns-then-first-ge32 c =
    rw c.at-then-first-ge32.ensures (head_padded _ _ _ (omega arith) (omega arith), (omega arith, c.requires.1))

pub returns-then-first-ge4 : goal.returns-then-first-ge4
returns-then-first-ge4 c =
    rw c.at-then-first-ge4.ensures (head_other _ _ _ (omega arith) (omega arith) (omega arith), (omega arith, c.requires.1))

pub returns-then-s-at-2 : goal.returns-then-s-at-2
returns-then-s-at-2 c =
    rw c.at-then-s-at-2.ensures (head_short _ _ _ (omega arith) (omega arith) (omega arith), (omega arith, c.requires.1))

pub returns-then-presence-eq0 : goal.returns-then-presence-eq0
returns-then-presence-eq0 c =
    rw c.at-then-presence-eq0.ensures (head_empty _ _ _ c.if-s-at.false c.if-first-ge4.false c.if-s-at-2.false _ (omega arith) c.if-presence-eq0.true, (omega arith, c.requires.1))

pub returns : goal.returns
returns c =
    (head_read _ _ _ c.if-s-at.false c.if-first-ge4.false c.if-s-at-2.false _ (omega arith) c.if-presence-eq0.false _ c.tables.ensures.0, c.tables.ensures.1)
