-- `among_children` meets its contract.
-- Assumes nothing.
use borrow.Author.Tests.{eq-eqb, ne_eqb}
use Rattle.write_items.proofs.ModeLaws.{is_among}
use Rattle.write_items.proofs.records.among_children.Goals as goal

pub returns-then-mode-eq-CONTENT : goal.returns-then-mode-eq-CONTENT
returns-then-mode-eq-CONTENT c = rw (is_among c.args.mode, eq-eqb _ _ c.if-mode-eq-CONTENT.true)

pub returns-else-mode-eq-CONTENT : goal.returns-else-mode-eq-CONTENT
returns-else-mode-eq-CONTENT c = rw (is_among c.args.mode, ne_eqb _ _ c.if-mode-eq-CONTENT.false)
