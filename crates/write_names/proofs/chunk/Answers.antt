-- `chunk` meets its contract: a law for each way out.
-- Assumes nothing.
use native.Mathlib.Omega.{arith}
use Rattle.write_names.specs.Promises.{at_bit_7}
use Rattle.write_names.proofs.StringLaws.{chunk_numbered, chunk_spelled}
use Rattle.write_names.proofs.chunk.Goals as goal

pub number_said-k-requires : goal.number_said-k-requires
number_said-k-requires c =
    (c.requires.0, omega arith, omega arith, c.requires.2)

pub returns-then-k-ne0 : goal.returns-then-k-ne0
returns-then-k-ne0 c =
    chunk_numbered _ _ _ _ c.requires.0 c.args.x c.requires.2 _ c.number_said-k.ensures.0 (λ e. omega arith) c.put_number.ensures

pub literal-requires : goal.literal-requires
literal-requires c =
    let held = c.number_said-k.ensures.0 in
    (c.requires.0, c.requires.1, c.requires.2, omega arith, (omega arith, omega arith, at_bit_7, omega arith))

pub returns : goal.returns
returns c =
    let new = c.if-k-ne0.false in
    rw (← chunk_spelled _ _ _ _ c.requires.0 c.args.x c.requires.2 _ c.number_said-k.ensures.0 (omega (arith, new))) c.literal.ensures
