-- `before_name` meets its contract, by the mode.
-- Assumes nothing.
use native.Mathlib.Omega.{arith}
use mathlib.Core.Path.{refl}
use Rattle.fields.proofs.Puts.{puts_nothing, puts_one}
use borrow.Author.Tests.{le-leb, lt-leb}
use Rattle.write_items.proofs.ModeLaws.{last_declaration}
use Rattle.write_items.proofs.items.before_name.Goals as goal

pub returns-then-mode-lt-DECLARING : goal.returns-then-mode-lt-DECLARING
returns-then-mode-lt-DECLARING c = rw (last_declaration c.args.mode, lt-leb _ _ c.if-mode-lt-DECLARING.true) (puts_nothing refl, omega arith)

pub returns : goal.returns
returns c = rw (last_declaration c.args.mode, le-leb _ _ c.if-mode-lt-DECLARING.false) (puts_one c.put.ensures, omega arith)
