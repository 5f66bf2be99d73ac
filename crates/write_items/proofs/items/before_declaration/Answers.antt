-- `before_declaration` meets its contract, by the mode.
-- Assumes nothing.
use native.Mathlib.Omega.{arith}
use mathlib.Core.Path.{refl}
use Rattle.fields.proofs.Puts.{puts_nothing, puts_one}
use borrow.Author.Tests.{eq-eqb, ne_eqb}
use Rattle.write_items.proofs.ModeLaws.{first_declaration}
use Rattle.write_items.proofs.items.before_declaration.Goals as goal

pub returns-then-mode-ne-CONTENT : goal.returns-then-mode-ne-CONTENT
returns-then-mode-ne-CONTENT c = rw (first_declaration c.args.a c.args.mode, ne_eqb _ _ c.if-mode-ne-CONTENT.true) (puts_nothing refl, omega arith)

pub returns : goal.returns
returns c = rw (first_declaration c.args.a c.args.mode, eq-eqb _ _ c.if-mode-ne-CONTENT.false, ← c.attribute_bit.ensures.0) (puts_one c.put.ensures, omega arith)
