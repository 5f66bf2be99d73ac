-- `value` meets its contract: a law for each way out.
-- Assumes nothing.
use native.Mathlib.Omega.{arith}
use Rattle.write_names.specs.Promises.{at_bit_5}
use Rattle.write_names.proofs.StringLaws.{fills_spells, value_empty, value_numbered, value_spelled}
use Rattle.write_names.proofs.value.Goals as goal

pub returns-then-size-eq0 : goal.returns-then-size-eq0
returns-then-size-eq0 c =
    value_empty _ _ _ _ _ c.requires.0 c.args.x c.requires.4 (omega arith) c.put.ensures

pub number_said-k-requires : goal.number_said-k-requires
number_said-k-requires c =
    (c.requires.0, c.requires.2, c.requires.3, fills_spells c.args.text.now c.args.x c.requires.4 (λ e. omega arith))

pub returns-then-k-ne0 : goal.returns-then-k-ne0
returns-then-k-ne0 c =
    value_numbered _ _ _ _ _ c.requires.0 c.args.x _ c.number_said-k.ensures.0 c.requires.4 (λ e. omega arith) (λ e. omega arith) c.put_number_at_bit_2.ensures

pub literal-requires : goal.literal-requires
literal-requires c =
    let held = c.number_said-k.ensures.0 in
    (c.requires.0, c.requires.1, fills_spells c.args.text.now c.args.x c.requires.4 (λ e. omega arith), omega arith, (c.requires.2, c.requires.3, at_bit_5, omega arith))

pub returns : goal.returns
returns c =
    let some = c.if-size-eq0.false in
    let size = c.size.ensures in
    let new = c.if-k-ne0.false in
    rw (← value_spelled _ _ _ _ c.args.table c.requires.0 c.args.x _ c.number_said-k.ensures.0 c.requires.4 (λ e. omega (arith, some, size)) (omega (arith, new))) c.literal.ensures
