-- `surrogate` meets its contract: the first octet, and then the parts.
-- Assumes nothing.
use native.Mathlib.Omega.{arith}
use mathlib.Core.Path.{refl}
use Rattle.read_head.proofs.EntryLaws.{surrogate_missing, surrogate_padded, surrogate_lone}
use Rattle.read_head.proofs.listed.surrogate.Goals as goal

pub returns-then-s-at : goal.returns-then-s-at
returns-then-s-at c =
    rw c.at.ensures (surrogate_missing c.args.s.now c.args.counts.now c.args.t.now c.args.index.now _ _ c.requires.1 (omega arith))

pub returns-then-b-ge4 : goal.returns-then-b-ge4
returns-then-b-ge4 c =
    rw c.at-then-b-ge4.ensures (surrogate_padded c.args.s.now c.args.counts.now c.args.t.now _ _ c.if-s-at.false _ refl c.args.index.now c.if-b-ge4.true)

pub returns-then-b-eq2 : goal.returns-then-b-eq2
returns-then-b-eq2 c =
    rw c.at-then-b-eq2.ensures (surrogate_lone c.args.s.now c.args.counts.now c.args.t.now _ _ c.if-s-at.false _ refl c.args.index.now c.if-b-eq2.true)
