-- `is_listing` meets its contract.
-- Assumes nothing.
use borrow.Author.Tests.{eq-eqb, ne_eqb}
use Rattle.write_items.proofs.ModeLaws.{lists}
use Rattle.write_items.proofs.records.is_listing.Goals as goal

pub returns-then-mode-eq-LISTING : goal.returns-then-mode-eq-LISTING
returns-then-mode-eq-LISTING c = rw (lists c.args.mode, eq-eqb _ _ c.if-mode-eq-LISTING.true)

pub returns-else-mode-eq-LISTING : goal.returns-else-mode-eq-LISTING
returns-else-mode-eq-LISTING c = rw (lists c.args.mode, ne_eqb _ _ c.if-mode-eq-LISTING.false)
