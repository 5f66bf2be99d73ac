-- `child_at` meets its contract, by the first octet.
-- Assumes nothing.
use native.Mathlib.Omega.{arith}
use Rattle.read_items.proofs.StepLaws.{met_by, refuse_here, other}
use Rattle.read_items.proofs.ItemLaws.{child_missing, child_text_outside, child_text, child_instruction, child_comment, child_other}
use Rattle.read_items.proofs.items.child_at.Goals as goal

pub returns-then-s-k : goal.returns-then-s-k
returns-then-s-k c = rw c.at.ensures (refuse_here c.requires.0 (child_missing _ _ _ (omega arith)))

pub returns-then-st-eq0 : goal.returns-then-st-eq0
returns-then-st-eq0 c =
    let known = c.type_inv.s c.args.k in
    let b = c.bits.ensures in
    rw c.at-then-st-eq0.ensures (refuse_here c.requires.0 (child_text_outside _ _ _ (omega arith) (omega arith) (omega arith) (omega arith)))

pub returns-then-bits-eq2 : goal.returns-then-bits-eq2
returns-then-bits-eq2 c =
    let known = c.type_inv.s c.args.k in
    let b = c.bits.ensures in
    let i = c.if-s-k.false in
    let j = c.if-bits-eq2.true in
    met_by c.chunk_at.ensures (child_text _ _ _ (omega (arith, i)) (omega (arith, b, j, known)) (omega (arith, b, j, known)) (omega (arith, c.if-st-eq0.false)))

pub returns-then-o : goal.returns-then-o
returns-then-o c =
    met_by c.instruction_at.ensures (child_instruction _ _ _ (omega (arith, c.if-s-k.false)) (omega (arith, c.if-o.true)))

pub returns-then-o-2 : goal.returns-then-o-2
returns-then-o-2 c =
    met_by c.comment_at.ensures (child_comment _ _ _ (omega (arith, c.if-s-k.false)) (omega (arith, c.if-o-2.true)))

pub returns : goal.returns
returns c =
    let known = c.type_inv.s c.args.k in
    let b = c.bits.ensures in
    let high = c.requires.2 (omega arith) in
    rw (c.at-2.ensures, c.other.ensures) (met_by (other c.requires.0 _) (child_other _ _ _ (omega arith) (omega arith) (omega arith) (omega arith) (omega arith)))
