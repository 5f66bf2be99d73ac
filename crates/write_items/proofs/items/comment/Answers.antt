-- `comment` meets its contract: a law for each way out.
-- Assumes nothing.
use native.Mathlib.Omega.{arith}
use Rattle.write_items.proofs.Strings.{comment_fills}
use Rattle.write_items.proofs.ItemLaws.{comment_lands}
use Rattle.write_items.proofs.items.comment.Goals as goal

pub value-next-requires : goal.value-next-requires
value-next-requires c =
    (c.requires.order, omega arith, omega arith, omega arith, comment_fills c.args.text.now c.args.e c.requires.made c.requires.texts)

pub moved-requires : goal.moved-requires
moved-requires c =
    let low = c.octet-at.ensures.1 in
    let few = c.value-next.ensures.few in
    omega arith

pub returns : goal.returns
returns c = rw c.moved.ensures (comment_lands _ _ _ _ _ _ c.requires c.octet-at.ensures c.put.ensures c.value-next.ensures)
