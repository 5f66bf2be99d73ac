-- `octets_of` meets its contract: a law for each way out.
-- Assumes nothing.
use native.Mathlib.Omega.{arith}
use mathlib.Core.Path.{refl, sym, ◌∙◌}
use Rattle.write_names.proofs.Stretches.{stretched, part_sound, octets-plain, octets-letters, octets_put}
use Rattle.write_names.proofs.octets_of.Goals as goal

pub returns-then-number-eq0 : goal.returns-then-number-eq0
returns-then-number-eq0 c =
    let s = stretched c.args.text.now c.args.x c.requires.0 c.form-form.ensures refl c.size-size.ensures in
    octets-plain s c.requires.1 (sym c.number.ensures.0 ∙ c.if-number-eq0.true) refl

pub letters_in-requires : goal.letters_in-requires
letters_in-requires c =
    let s = stretched c.args.text.now c.args.x c.requires.0 c.form-form.ensures c.place-from.ensures c.size-size.ensures in
    (s.some, s.lies, c.requires.1)

pub returns-then-format-eq2 : goal.returns-then-format-eq2
returns-then-format-eq2 c =
    let s = stretched c.args.text.now c.args.x c.requires.0 c.form-form.ensures c.place-from.ensures c.size-size.ensures in
    octets-letters s c.requires.1 (sym c.format_of-format.ensures.0 ∙ c.if-format-eq2.true) c.letters_in.ensures

pub put_said-requires : goal.put_said-requires
put_said-requires c =
    let s = stretched c.args.text.now c.args.x c.requires.0 c.form-form.ensures c.place-from.ensures c.size-size.ensures in
    (omega arith, omega arith, omega (arith, s.lies), omega arith, part_sound s)

pub returns : goal.returns
returns c =
    let s = stretched c.args.text.now c.args.x c.requires.0 c.form-form.ensures c.place-from.ensures c.size-size.ensures in
    octets_put s c.requires.1 c.put_said.ensures.0
