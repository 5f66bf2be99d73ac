-- `child_head` meets its contract: an element by its bits, or another child.
-- Assumes nothing.
use native.Mathlib.Omega.{arith}
use Rattle.read_items.proofs.ItemLaws.{child_element}
use Rattle.read_items.proofs.HeadLaws.{tells_by}
use Rattle.read_items.proofs.items.child_head.Goals as goal

pub returns-then-code-lt2 : goal.returns-then-code-lt2
returns-then-code-lt2 c =
    let a = c.args in
    tells_by (c.element_head.ensures _ (omega arith)) (λ w. child_element _ _ _ (omega arith) _ _ (omega (arith, c.type_inv.s a.k)) c.bits-code.ensures c.bits.ensures (omega (arith, c.if-code-lt2.true)))
