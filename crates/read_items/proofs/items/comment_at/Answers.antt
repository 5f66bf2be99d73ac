-- `comment_at` meets its contract, by the string's answer.
-- Assumes nothing.
use mathlib.Core.Path.{refl}
use Rattle.tables.specs.Rows.{table_of}
use Rattle.read_names.proofs.StringLaws.{handed_on}
use Rattle.read_items.proofs.ItemLaws.{comment_refused, comment_more}
use Rattle.read_items.proofs.items.comment_at.Goals as goal

pub returns-in_err-text : goal.returns-in_err-text
unfolding table_of
returns-in_err-text c = rw (handed_on _ _ c.from_residual.ensures) (comment_refused _ refl (c.in_err-text.ensures _ c.requires.0.tidy))

pub returns : goal.returns
unfolding table_of
returns c =
    rw c.moved.ensures
    (comment_more _ _ c.requires.0 c.keep.ensures c.comment-e.ensures (c.in_ok-text.ensures _ c.requires.0.tidy))
