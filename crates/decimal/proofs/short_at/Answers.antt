-- `short_at` meets its contract: the library reads the integer that the octets are.
-- Assumes nothing.
use Rattle.std.proofs.Common.{◌∙◌, arith}
use mir.Syntax.{w16}
use mir.ValLaws.{to_z-of_z}
use Rattle.format.specs.Integers.{half}
use Rattle.decimal.specs.Reading.{number}
use Rattle.decimal.proofs.Bytes.{integer_is}
use Rattle.decimal.proofs.short_at.Goals as goal

pub returns : goal.returns
unfolding number half
returns c =
    let r = c.from_be_bytes in
    to_z-of_z w16 r.result (record { sfits = r.type_inv }) ∙ r.ensures ∙ integer_is 2 w16 (omega arith) (omega arith) c.args.s.now c.args.at _ c.requires (omega arith)
