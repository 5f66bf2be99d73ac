-- `not_plain` meets its contract: what the library ensures of the wrapping subtraction says the same.
-- Assumes nothing.
use Rattle.std.proofs.Common.{◌≡◌, ◌+◌, ◌-◌, ◌%◌, ◌^◌, ap, arith}
use lib.Bits.{bit_or}
use Rattle.fields.specs.WeightContracts.{not_plain, spaces}
use Rattle.fields.proofs.not_plain.Goals as goal

pub returns : goal.returns
unfolding not_plain spaces
returns c =
    let x = c.args.x in
    let w : c.wrapping_sub_u64.result ≡ (x + 2 ^ 64 - spaces 8) % 2 ^ 64 = (let h = c.wrapping_sub_u64.ensures in omega arith) in
    ap (bit_or x) w
