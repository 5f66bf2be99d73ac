-- `fours` meets its contract: its bucket is made of the first and the last four octets, which may overlap, and are all.
-- Assumes nothing.
use native.Mathlib.Omega.{arith}
use Rattle.index.proofs.Hash.{bucket_four}
use Rattle.index.proofs.Plain.{four_plain}
use Rattle.index.proofs.fours.Goals as goal

pub returns : goal.returns
returns c =
    let end = c.four-end.ensures in
    let first = c.four.ensures in (
      omega arith,
      rw (end.0, first.0) (bucket_four _ _ _ (omega arith) (omega arith) (omega arith)),
      λ z l. four_plain _ _ _ _ _ first end (omega arith) (omega arith) (rw c.not_plain.ensures at z),
    )
