-- `head_at` meets its contract, by the mode.
-- Assumes nothing.
use native.Mathlib.Omega.{arith}
use mathlib.Core.Path.{◌∙◌}
use Rattle.read_items.proofs.ItemLaws.{shallow_declaring, item_child, item_attribute, item_declaring, declaring_name, declaring_more}
use Rattle.read_items.proofs.HeadLaws.{tells_by, tells_declared}
use Rattle.read_items.proofs.items.head_at.Goals as goal

pub returns-then-st-eq-CONTENT : goal.returns-then-st-eq-CONTENT
returns-then-st-eq-CONTENT c = tells_by c.child_head.ensures (λ w. item_child _ _ _ _ (omega arith))

pub returns-then-st-lt-DECLARING : goal.returns-then-st-lt-DECLARING
returns-then-st-lt-DECLARING c = tells_by (c.attribute_head.ensures _) (λ w. item_attribute _ _ _ _ (omega arith) (omega arith))

pub returns-then-octet : goal.returns-then-octet
returns-then-octet c =
    tells_by (c.named_head.ensures _ (shallow_declaring _ _ c.requires.2 (omega arith))) (λ w. item_declaring _ _ _ _ (omega arith) ∙ declaring_name _ _ _ _ (omega (arith, c.octet.ensures, c.if-octet.true)))

pub returns : goal.returns
returns c =
    tells_declared c.requires.0 (shallow_declaring _ _ c.requires.2 (omega arith)) (λ w. item_declaring _ _ _ _ (omega arith) ∙ declaring_more _ _ _ _ (λ e. omega (arith, c.octet.ensures, c.if-octet.false)))
