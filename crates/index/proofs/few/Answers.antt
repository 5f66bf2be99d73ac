-- `few` meets its contract: its bucket is made of three octets, which are all that a string of up to three has.
-- Assumes nothing.
use Prim.Native.Nat.{◌+◌, ◌-◌, ◌/◌}
use native.Mathlib.Omega.{arith}
use Rattle.index.proofs.Hash.{bucket_few}
use Rattle.index.proofs.Plain.{few_plain}
use Rattle.index.proofs.few.Goals as goal

pub returns : goal.returns
returns c =
    let a = c.args in
    let middle = c.from-middle.ensures in
    let end = c.from-end.ensures in
    let first = c.from.ensures in
    let one = (c.type_inv.s a.place).fits in
    let two = (c.type_inv.s (a.place + a.len / 2)).fits in
    let three = (c.type_inv.s (a.place + (a.len - 1))).fits in (
      omega arith,
      rw (middle, end, first) (bucket_few _ _ _ (omega arith) (omega arith) (omega arith)),
      λ z l. few_plain a.s.now a.place a.len _ _ _ first middle end (omega arith) (omega arith) (omega arith) (omega arith) (omega arith)
          (rw c.not_plain.ensures at z),
    )
