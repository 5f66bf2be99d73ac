-- `all_plain` meets its contract: `not_plain` tells it of the octets that count.
-- Assumes nothing.
use Rattle.std.proofs.Common.{◌≡◌, ℕ, ◌+◌, ◌-◌, ◌*◌, ◌/◌, ◌^◌, arith, eqb-true}
use lib.Bits.{bit_and}
use Rattle.fields.specs.WeightContracts.{high_bits}
use Rattle.fields.proofs.Plain.{neither, eight_plain, first_plain, At, joined, part_plain}
use Rattle.fields.proofs.all_plain.Goals as goal

pub returns-then-n-lt8 : goal.returns-then-n-lt8
unfolding high_bits
returns-then-n-lt8 c =
    let a = c.args in
    let n : ℕ = a.to - a.from in
    let m : a.from + n ≡ a.to = omega arith in
    λ e.
    let z : bit_and c.not_plain.result (high_bits 7 / 2 ^ (56 - 8 * n)) ≡ 0 = eqb-true _ _ e in
    rw m at (first_plain a.s.now a.from n _ c.eight.ensures (omega arith) (rw c.not_plain.ensures at z))

pub returns-then-n-le16 : goal.returns-then-n-le16
unfolding high_bits
returns-then-n-le16 c =
    let a = c.args in
    let x = a.s.now in
    let n : a.to - 8 + 8 ≡ a.to = omega arith in
    λ e.
    let m = neither c.not_plain-then-n-le16.result c.not_plain-then-n-le16-2.result (high_bits 8) (eqb-true _ _ e) in
    let p = eight_plain x a.from _ c.eight-then-n-le16.ensures (rw c.not_plain-then-n-le16.ensures at m.0) in
    let q = rw n at (eight_plain x (a.to - 8) _ c.eight-then-n-le16-2.ensures (rw c.not_plain-then-n-le16-2.ensures at m.1)) in
    joined (At x) a.from (a.from + 8) p (a.to - 8) a.to q (omega arith)

pub returns : goal.returns
unfolding high_bits
returns c = λ e. part_plain c.args.s.now c.args.from c.args.to (omega arith) (c.not_plain_by_eights.ensures (eqb-true _ _ e))
