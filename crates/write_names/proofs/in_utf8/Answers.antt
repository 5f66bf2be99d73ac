-- `in_utf8` meets its contract: a law for each way out.
-- Assumes nothing.
use native.Mathlib.Omega.{arith}
use mathlib.Core.Path.{sym, ◌∙◌}
use Rattle.write_names.proofs.Stretches.{stretched, part_sound, said-length}
use Rattle.write_names.proofs.FormLaws.{bit_range}
use Rattle.write_names.proofs.FieldLaws.{puts_plain, puts_said}
use Rattle.write_names.proofs.in_utf8.Goals as goal

pub put_length-behind-requires : goal.put_length-behind-requires
put_length-behind-requires c =
    let s = stretched c.args.text.now c.args.x c.requires.0 c.form-form.ensures c.place-from.ensures c.size-size.ensures in
    omega (arith, bit_range c.requires.3, said-length s c.requires.1)

pub put_part-requires : goal.put_part-requires
put_part-requires c =
    let s = stretched c.args.text.now c.args.x c.requires.0 c.form-form.ensures c.place-from.ensures c.size-size.ensures in
    omega (arith, s.lies, c.put_length-behind.ensures.1)

pub returns-then-number-eq0 : goal.returns-then-number-eq0
returns-then-number-eq0 c =
    let s = stretched c.args.text.now c.args.x c.requires.0 c.form-form.ensures c.place-from.ensures c.size-size.ensures in
    puts_plain _ _ s _ c.requires.5 (let l = said-length s c.requires.1 in omega arith) c.put_length-behind.ensures (sym c.number.ensures.0 ∙ c.if-number-eq0.true) c.put_part.ensures

pub put_said-requires : goal.put_said-requires
put_said-requires c =
    let s = stretched c.args.text.now c.args.x c.requires.0 c.form-form.ensures c.place-from.ensures c.size-size.ensures in
    (omega (arith, c.put_length-behind.ensures.1), omega arith, omega (arith, s.lies), omega arith, part_sound s)

pub returns : goal.returns
returns c =
    let s = stretched c.args.text.now c.args.x c.requires.0 c.form-form.ensures c.place-from.ensures c.size-size.ensures in
    puts_said _ _ s _ c.requires.5 (let l = said-length s c.requires.1 in omega arith) c.put_length-behind.ensures c.put_said.ensures.0
