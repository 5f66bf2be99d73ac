-- `plain_most` meets its contract: by the bit.
-- Assumes nothing.
use borrow.Author.Tests.{eq-eqb, ne_eqb}
use native.Mathlib.Omega.{arith}
use Rattle.write_names.proofs.plain_most.Goals as goal

pub returns-then-bit-eq7 : goal.returns-then-bit-eq7
returns-then-bit-eq7 c = rw (eq-eqb c.args.bit 7 (omega arith))

pub returns : goal.returns
returns c = rw (ne_eqb c.args.bit 7 (λ e. omega arith))
