-- `name_lead` meets its contract.
-- Assumes nothing.
use native.Mathlib.Omega.{arith}
use mathlib.Core.Path.{refl}
use borrow.Author.Tests.{eq-eqb, ne_eqb}
use Rattle.write_items.proofs.ModeLaws.{lead_of_name}
use Rattle.write_items.proofs.items.name_lead.Goals as goal

pub returns-then-mode-eq-CONTENT : goal.returns-then-mode-eq-CONTENT
returns-then-mode-eq-CONTENT c = rw (lead_of_name c.args.a c.args.mode, eq-eqb _ _ c.if-mode-eq-CONTENT.true) c.attribute_bit.ensures

pub returns-else-mode-eq-CONTENT : goal.returns-else-mode-eq-CONTENT
returns-else-mode-eq-CONTENT c = rw (lead_of_name c.args.a c.args.mode, ne_eqb _ _ c.if-mode-eq-CONTENT.false) (refl, omega arith)
