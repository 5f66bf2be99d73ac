-- `put_part` meets its contract: i octets are put, and for what is left of them behind the last one there is no room.
-- Assumes nothing.
use Rattle.std.proofs.Common.{refl, arith}
use Rattle.fields.proofs.Puts.{puts_next, puts_fitting, part_length, part_at}
use Rattle.fields.proofs.put.put_part.Goals as goal

pub loop-i-preserved : goal.loop-i-preserved
loop-i-preserved c =
    let a = c.args in
    let l = c.loop-i in
    let n = part_length a.text.now a.place a.size (omega arith) in
    puts_next _ _ l.invariant (omega arith) (part_at a.text.now a.place a.size l.i (omega arith)) refl

pub returns : goal.returns
returns c =
    let a = c.args in
    let l = c.loop-i in
    puts_fitting _ _ l.invariant (part_length a.text.now a.place a.size (omega arith)) (omega arith)
