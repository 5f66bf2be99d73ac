-- `put_string` meets its contract: an identifying string by its length and its octets, another in its form.
-- Assumes nothing.
use native.Mathlib.Omega.{arith}
use mathlib.Core.Path.{refl, ap}
use Rattle.format.specs.Forms.{form_number}
use Rattle.write_names.specs.Promises.{at_bit_5}
use Rattle.write_names.proofs.Stretches.{stretched, plain-length}
use Rattle.write_head.proofs.OctetLaws.{puts_identifying, puts_other}
use Rattle.write_head.proofs.octets.put_string.Goals as goal

pub put_string-requires : goal.put_string-requires
put_string-requires c = (c.requires.2, c.requires.4, c.requires.0, at_bit_5, omega arith, c.octets_of-n.ensures.0)

pub returns-then-table-ge-ATTRIBUTE_VALUE : goal.returns-then-table-ge-ATTRIBUTE_VALUE
returns-then-table-ge-ATTRIBUTE_VALUE c = puts_other _ c.requires.1 c.args.text.now c.args.x (omega arith) c.put_string.ensures

pub put_part-requires : goal.put_part-requires
put_part-requires c =
    let x = stretched c.args.text.now c.args.x c.requires.2 refl c.place.ensures refl in
    let utf8 = ap form_number (c.requires.3 (omega arith)) in
    omega (arith, x.lies, plain-length x utf8, c.octets_of-n.ensures, c.put_length-behind.ensures.1)

pub returns : goal.returns
returns c =
    let x = stretched c.args.text.now c.args.x c.requires.2 refl c.place.ensures refl in
    let utf8 = ap form_number (c.requires.3 (omega arith)) in
    puts_identifying _ c.requires.1 _ _ (omega arith) x utf8 _ c.octets_of-n.ensures.0 c.octets_of-n.ensures.2 c.put_length-behind.ensures c.put_part.ensures
