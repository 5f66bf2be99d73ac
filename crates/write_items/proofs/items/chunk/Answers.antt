-- `chunk` meets its contract: a law for each way out.
-- Assumes nothing.
use native.Mathlib.Omega.{arith}
use Rattle.write_items.proofs.Strings.{chunk_spells}
use Rattle.write_items.proofs.ItemLaws.{chunk_lands}
use Rattle.write_items.proofs.items.chunk.Goals as goal

pub chunk-next-requires : goal.chunk-next-requires
chunk-next-requires c =
    (c.requires.order, omega arith, chunk_spells c.args.text.now c.args.e c.requires.made c.requires.texts)

pub moved-requires : goal.moved-requires
moved-requires c =
    let low = c.octet.ensures.1 in
    let few = c.chunk-next.ensures.few in
    omega arith

pub returns : goal.returns
returns c = rw c.moved.ensures (chunk_lands _ _ _ _ _ _ c.requires c.octet.ensures c.chunk-next.ensures)
