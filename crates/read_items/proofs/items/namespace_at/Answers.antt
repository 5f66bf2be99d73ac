-- `namespace_at` meets its contract, by the declaration's answer.
-- Assumes nothing.
use mathlib.Core.Path.{refl}
use Rattle.read_names.proofs.StringLaws.{handed_on}
use Rattle.read_items.proofs.ItemLaws.{namespace_refused, namespace_more}
use Rattle.read_items.proofs.items.namespace_at.Goals as goal

pub returns-in_err-binding : goal.returns-in_err-binding
returns-in_err-binding c =
    let read = c.in_err-binding.ensures in
    rw (handed_on _ _ c.from_residual.ensures) (namespace_refused _ _ read.0 read.1 refl)

pub returns : goal.returns
returns c =
    let read = c.in_ok-binding.ensures in
    rw (c.moved.ensures, c.declaring.ensures)
    (namespace_more _ _ read.0 read.1 c.requires.2 c.keep.ensures
    (rw (← c.string_at.ensures, ← c.string_at-2.ensures) c.namespace-e.ensures))
