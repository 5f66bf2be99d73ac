-- `takes_element` meets its contract: each way out is a case of the definition.
-- Assumes nothing.
use Rattle.format.specs.Items.{may_start}
use Rattle.write_items.proofs.records.takes_element.Goals as goal

pub returns-then-among_children : goal.returns-then-among_children
unfolding may_start
returns-then-among_children c = λ v. rw (← c.is_declaring.ensures, c.if-is_declaring.false, ← c.among_children.ensures, c.if-among_children.true) c.may_start.ensures
