-- `in_other` meets its contract: a law for each way out.
-- Assumes nothing.
use native.Mathlib.Omega.{arith}
use mathlib.Core.Path.{sym, ◌∙◌}
use Rattle.write_names.proofs.Stretches.{stretched, part_sound}
use Rattle.write_names.proofs.FormLaws.{bit_range}
use Rattle.write_names.proofs.FieldLaws.{said-letters, said_integers, bits_fit, number_fits, puts_same, puts_letters, puts_integers}
use Rattle.write_names.proofs.in_other.Goals as goal

pub overflow_mul-format : goal.overflow_mul-format
overflow_mul-format c =
    let format = c.format_of-format.ensures in
    let unit = c.unit_before-unit.ensures in
    omega (arith, bits_fit c.args.bit c.args.lead _ _ _ unit.0 unit.1 unit.2 format.2 format.3 c.requires.4)

pub overflow_add-lead : goal.overflow_add-lead
overflow_add-lead c =
    let format = c.format_of-format.ensures in
    let unit = c.unit_before-unit.ensures in
    omega (arith, bits_fit c.args.bit c.args.lead _ _ _ unit.0 unit.1 unit.2 format.2 format.3 c.requires.4)

pub overflow_mul-format-2 : goal.overflow_mul-format-2
overflow_mul-format-2 c =
    let format = c.format_of-format.ensures in
    let unit = c.unit_before-unit.ensures in
    omega (arith, number_fits c.args.bit c.args.lead _ _ _ unit.0 unit.1 unit.2 format.2 format.3)

pub put_length-behind-requires : goal.put_length-behind-requires
put_length-behind-requires c =
    let format = c.format_of-format.ensures in
    let unit = c.unit_before-unit.ensures in
    let has = c.requires.5.1 in
    omega (arith, bit_range c.requires.3, number_fits c.args.bit c.args.lead _ _ _ unit.0 unit.1 unit.2 format.2 format.3, has.some, has.few)

pub put_part-requires : goal.put_part-requires
put_part-requires c =
    let s = stretched c.args.text.now c.args.x c.requires.0 c.form-given.ensures c.place-from.ensures c.size-size.ensures in
    omega (arith, s.lies, c.put_length-behind.ensures.1)

pub returns-then-number : goal.returns-then-number
returns-then-number c =
    let s = stretched c.args.text.now c.args.x c.requires.0 c.form-given.ensures c.place-from.ensures c.size-size.ensures in
    let format = c.format_of-format.ensures in
    let unit = c.unit_before-unit.ensures in
    puts_same _ _ s _ unit.0 c.args.formed c.requires.5 _ _ format.0 format.1 c.put.ensures c.put_length-behind.ensures (sym c.number.ensures.0 ∙ c.if-number.true ∙ c.number-2.ensures.0) c.put_part.ensures

pub put_packed-requires : goal.put_packed-requires
put_packed-requires c =
    let s = stretched c.args.text.now c.args.x c.requires.0 c.form-given.ensures c.place-from.ensures c.size-size.ensures in
    let few = c.put_length-behind.ensures.1 in
    (omega arith, omega arith, omega (arith, s.lies), omega arith, part_sound s, said-letters s c.args.formed.form c.requires.5.0 (sym c.format_of-format.ensures.0 ∙ c.if-format-eq2.true))

pub returns-then-format-eq2 : goal.returns-then-format-eq2
returns-then-format-eq2 c =
    let s = stretched c.args.text.now c.args.x c.requires.0 c.form-given.ensures c.place-from.ensures c.size-size.ensures in
    let format = c.format_of-format.ensures in
    let unit = c.unit_before-unit.ensures in
    puts_letters _ _ s _ unit.0 c.args.formed c.requires.5 _ _ format.0 format.1 c.put.ensures c.put_length-behind.ensures c.if-format-eq2.true c.put_packed.ensures

pub put_integers-requires : goal.put_integers-requires
put_integers-requires c =
    let s = stretched c.args.text.now c.args.x c.requires.0 c.form-given.ensures c.place-from.ensures c.size-size.ensures in
    let few = c.put_length-behind.ensures.1 in
    (omega arith, omega arith, omega (arith, s.lies), omega arith, part_sound s, said_integers s c.args.formed.form c.requires.5.0 (λ e. c.if-format-eq2.false (c.format_of-format.ensures.0 ∙ e)))

pub returns : goal.returns
returns c =
    let s = stretched c.args.text.now c.args.x c.requires.0 c.form-given.ensures c.place-from.ensures c.size-size.ensures in
    let format = c.format_of-format.ensures in
    let unit = c.unit_before-unit.ensures in
    puts_integers _ _ s _ unit.0 c.args.formed c.requires.5 _ _ format.0 format.1 c.put.ensures c.put_length-behind.ensures c.if-format-eq2.false c.put_integers.ensures
