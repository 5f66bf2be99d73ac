-- `presence` meets its contract: a bit for each table before.
-- Assumes nothing.
use native.Mathlib.Omega.{arith}
use mathlib.Core.Path.{◌≡◌, ◌∙◌}
use Prim.Native.Nat.{◌+◌}
use Rattle.std.proofs.lemmas.List.{get_or-take, length-take-le}
use Rattle.write_head.specs.RowContracts.{presence_of}
use Rattle.write_head.proofs.RowLaws.{bits_none, bits_more, bits_all, few_bits}
use Rattle.write_head.proofs.given.presence.Goals as goal

pub loop-count-init : goal.loop-count-init
loop-count-init c = bits_none _

pub overflow_mul-bits : goal.overflow_mul-bits
overflow_mul-bits c =
    let e = length-take-le 10 c.args.given.now c.requires in
    let few = few_bits c.args.given.now c.loop-count.count-index (omega arith) in
    omega (arith, c.loop-count.invariant)

pub overflow_add-bits : goal.overflow_add-bits
overflow_add-bits c =
    let e = length-take-le 10 c.args.given.now c.requires in
    let few = few_bits c.args.given.now (c.loop-count.count-index + 1) (omega arith) in
    let k = get_or-take 10 c.args.given.now c.loop-count.count-index 0 (omega arith) in
    omega (arith, bits_more c.args.given.now c.loop-count.count-index _ _ c.loop-count.invariant (rw k at c.from.ensures))

pub loop-count-preserved : goal.loop-count-preserved
loop-count-preserved c =
    let e = length-take-le 10 c.args.given.now c.requires in
    let k = get_or-take 10 c.args.given.now c.loop-count.count-index 0 (omega arith) in
    bits_more _ _ _ _ c.loop-count.invariant (rw k at c.from.ensures)

pub returns : goal.returns
returns c =
    let l = c.loop-count in
    let t = length-take-le 10 c.args.given.now c.requires in
    let e : l.count-index ≡ 10 = omega arith in
    let is : l.bits ≡ presence_of c.args.given.now = rw e at l.invariant ∙ bits_all c.args.given.now in
    let few = few_bits c.args.given.now 10 (omega arith) in
    (is, omega (arith, bits_all c.args.given.now))
