-- `opened` meets its contract: a law for each octet that may stand after the identification.
-- Assumes nothing.
use native.Mathlib.Omega.{arith}
use Rattle.reader.proofs.RunLaws.{open_other, open_short, open_body, open_head, open_padding, open_optional}
use Rattle.reader.proofs.run.opened.Goals as goal

pub returns-then-not-starts_with : goal.returns-then-not-starts_with
returns-then-not-starts_with c =
    open_other _ c.sized.ensures c.if-not-sized.false (omega arith) c.starts_with.ensures.value c.if-not-starts_with.true c.at-then-not-starts_with.ensures

pub returns-then-s-eq-FIRST : goal.returns-then-s-eq-FIRST
returns-then-s-eq-FIRST c =
    open_short _ c.sized.ensures c.if-not-sized.false (omega arith) c.starts_with.ensures.value c.if-not-starts_with.false c.if-s-eq-FIRST.true c.at-then-s-eq-FIRST.ensures

pub returns-in-0 : goal.returns-in-0
returns-in-0 c = open_body _ c.sized.ensures c.if-not-sized.false (omega arith) c.starts_with.ensures.value c.if-not-starts_with.false c.if-s-eq-FIRST.false c.in-0.is

pub returns-in-32 : goal.returns-in-32
returns-in-32 c = open_head _ c.sized.ensures c.if-not-sized.false (omega arith) c.starts_with.ensures.value c.if-not-starts_with.false c.if-s-eq-FIRST.false c.in-32.is

pub returns-in-128-to-255 : goal.returns-in-128-to-255
returns-in-128-to-255 c =
    open_padding _ c.sized.ensures c.if-not-sized.false (omega arith) c.starts_with.ensures.value c.if-not-starts_with.false c.if-s-eq-FIRST.false (omega arith) c.at-in-128-to-255.ensures

pub returns-in_default : goal.returns-in_default
returns-in_default c =
    open_optional _ c.sized.ensures c.if-not-sized.false (omega arith) c.starts_with.ensures.value c.if-not-starts_with.false c.if-s-eq-FIRST.false (omega arith) (omega arith) (omega arith) c.at-in_default.ensures
