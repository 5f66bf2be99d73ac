-- `spelled` meets its contract: in utf-8 its length is read and its octets judged; the other forms stand apart.
-- Assumes nothing.
use native.Mathlib.Omega.{arith}
use Rattle.read_names.proofs.StringLaws.{length_given, spelled_utf8}
use Rattle.read_names.proofs.strings.spelled.Goals as goal

pub formed-requires : goal.formed-requires
formed-requires c =
    (c.requires.0, c.requires.1, c.requires.2, c.requires.4, length_given _ _ 5 _ c.length-len.ensures)

pub returns : goal.returns
returns c =
    λ x tidy l. spelled_utf8 _ _ _ x _ _ tidy c.requires.4 5 _ (omega arith) _ _ c.requires.5 c.bits.ensures _ c.formed.result _ _ c.if-bits-ne0.false c.length-len.ensures (c.formed.ensures x tidy l)
