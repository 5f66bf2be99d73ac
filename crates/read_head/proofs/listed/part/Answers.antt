-- `part` meets its contract: each answer is one of the definition.
-- Assumes nothing.
use native.Mathlib.Omega.{arith}
use Rattle.read_head.proofs.EntryLaws.{part_absent, part_code, part_padded, part-read}
use Rattle.read_head.proofs.listed.part.Goals as goal

pub returns-then-not-there : goal.returns-then-not-there
returns-then-not-there c = part_absent c.args.s.now c.args.counts.now c.args.table c.args.at c.args.there c.requires.3 c.if-not-there.true

pub returns-then-bits-eq7 : goal.returns-then-bits-eq7
returns-then-bits-eq7 c =
    rw c.at.ensures (part_code c.args.s.now c.args.counts.now c.args.table c.args.at c.args.there c.if-not-there.false (omega arith))

pub returns-then-o-ge128 : goal.returns-then-o-ge128
returns-then-o-ge128 c =
    rw c.at-then-o-ge128.ensures (part_padded c.args.s.now c.args.counts.now c.args.table c.args.at c.args.there c.if-not-there.false (omega arith) (omega arith))

pub returns : goal.returns
returns c =
    part-read c.args.s.now c.args.counts.now c.args.table c.args.at c.args.there c.if-not-there.false (omega arith) (omega arith) _ c.number_at_bit_2.ensures _ c.held.ensures
