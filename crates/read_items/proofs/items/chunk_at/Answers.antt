-- `chunk_at` meets its contract, by the string's answer.
-- Assumes nothing.
use mathlib.Core.Path.{refl}
use Rattle.read_names.proofs.StringLaws.{handed_on}
use Rattle.read_items.proofs.ItemLaws.{chunk_refused, chunk_more}
use Rattle.read_items.proofs.items.chunk_at.Goals as goal

pub returns-in_err-text : goal.returns-in_err-text
returns-in_err-text c = rw (handed_on _ _ c.from_residual.ensures) (chunk_refused _ refl (c.in_err-text.ensures _ c.requires.0.tidy))

pub returns : goal.returns
returns c =
    rw c.moved.ensures
    (chunk_more _ _ c.requires.0 c.keep.ensures c.chunk-e.ensures (c.in_ok-text.ensures _ c.requires.0.tidy))
