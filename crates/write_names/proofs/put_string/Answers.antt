-- `put_string` meets its contract: by all characters, or, where the first octet is a letter of no alphabet, as it stands.
-- Assumes nothing.
use native.Mathlib.Omega.{arith}
use mathlib.Core.Path.{◌≡◌, refl, sym, ◌∙◌}
use Rattle.format.specs.Forms.{form_number}
use Rattle.format.specs.declared.StringForm.TheVariants.{Utf8}
use Rattle.events.specs.Words.{string_size}
use Rattle.write_names.proofs.Stretches.{stretched, said-length, plain-length}
use Rattle.write_names.proofs.FormLaws.{bit_range, begins_plain}
use Rattle.write_names.proofs.FieldLaws.{puts_plain, puts_chosen}
use Rattle.write_names.proofs.put_string.Goals as goal

pub returns-then-number-ne0 : goal.returns-then-number-ne0
returns-then-number-ne0 c = c.put_formed.ensures

pub bounds-text-from : goal.bounds-text-from
bounds-text-from c =
    let s = stretched c.args.text.now c.args.x c.requires.0 c.form-form.ensures c.place-from.ensures refl in
    omega (arith, s.some, s.lies)

pub returns-then-may_begin : goal.returns-then-may_begin
returns-then-may_begin c = c.put_formed-then-may_begin.ensures

pub put_length-behind-requires : goal.put_length-behind-requires
put_length-behind-requires c =
    let s = stretched c.args.text.now c.args.x c.requires.0 c.form-form.ensures c.place-from.ensures refl in
    omega (arith, bit_range c.requires.3, said-length s c.requires.1)

pub put_part-requires : goal.put_part-requires
put_part-requires c =
    let s = stretched c.args.text.now c.args.x c.requires.0 c.form-form.ensures c.place-from.ensures refl in
    let z : form_number c.form-form.result ≡ 0 = sym c.number.ensures.0 ∙ omega arith in
    omega (arith, s.lies, plain-length s z, c.put_length-behind.ensures.1)

pub returns : goal.returns
returns c =
    let s = stretched c.args.text.now c.args.x c.requires.0 c.form-form.ensures c.place-from.ensures refl in
    let z : form_number c.form-form.result ≡ 0 = sym c.number.ensures.0 ∙ omega arith in
    let n : c.args.n ≡ string_size c.args.x = c.requires.5 ∙ plain-length s z in
    puts_chosen _ _ _ Utf8 (begins_plain _ s z (c.may_begin.ensures c.if-may_begin.false))
    (puts_plain _ _ s _ c.requires.5 (let l = said-length s c.requires.1 in omega arith) c.put_length-behind.ensures z (rw n at c.put_part.ensures))
