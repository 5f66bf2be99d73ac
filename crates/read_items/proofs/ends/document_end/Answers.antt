-- `document_end` meets its contract: each way out is a case of the definition.
-- Assumes nothing.
use native.Mathlib.Omega.{arith}
use mathlib.Core.Path.{sym, ◌∙◌}
use Rattle.read_items.proofs.EndLaws.{document_rootless, document_padding, document_done, document_behind}
use Rattle.read_items.proofs.ends.document_end.Goals as goal

pub returns-then-st-eq0 : goal.returns-then-st-eq0
returns-then-st-eq0 c = λ n a g. rw c.at.ensures (document_rootless g (omega arith))

pub returns-then-not-pads_at : goal.returns-then-not-pads_at
returns-then-not-pads_at c = λ n a g. rw c.at-then-not-pads_at.ensures (document_padding g (omega arith) (sym c.if-not-pads_at.true ∙ c.pads_at.ensures))

pub returns-then-behind-s : goal.returns-then-behind-s
returns-then-behind-s c = λ n a g. document_done g (omega arith) (sym c.if-not-pads_at.false ∙ c.pads_at.ensures) (omega arith)

pub returns : goal.returns
returns c = λ n a g. rw c.at-2.ensures (document_behind g (omega arith) (sym c.if-not-pads_at.false ∙ c.pads_at.ensures) (omega arith))
