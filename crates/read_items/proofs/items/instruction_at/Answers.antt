-- `instruction_at` meets its contract, by the answers of target and content.
-- Assumes nothing.
use mathlib.Core.Path.{refl}
use Rattle.tables.specs.Rows.{table_of}
use Rattle.read_names.proofs.StringLaws.{handed_on}
use Rattle.read_items.specs.Promises.{lent}
use Rattle.read_items.proofs.ItemLaws.{target_refused, instruction_refused, instruction_more}
use Rattle.read_items.proofs.items.instruction_at.Goals as goal

pub returns-in_err-target : goal.returns-in_err-target
unfolding table_of
returns-in_err-target c =
    let read = c.in_err-target.ensures in
    rw (handed_on _ _ c.from_residual.ensures) (target_refused _ refl read.0 read.1)

pub returns-in_err-content : goal.returns-in_err-content
unfolding table_of
returns-in_err-content c =
    let read = c.in_ok-target.ensures in
    rw (handed_on _ _ c.from_residual-in_err-content.ensures)
    (instruction_refused _ (lent c.id.new.t c.id.new.counts c.id.new.index c.args.records.now) _ read.0 read.1
    (c.in_err-content.ensures _ read.1.0.tidy) refl)

pub returns : goal.returns
unfolding table_of
returns c =
    let read = c.in_ok-target.ensures in
    rw c.moved.ensures
    (instruction_more _ (lent c.id.new.t c.id.new.counts c.id.new.index c.args.records.now) _ read.0 read.1
    (c.in_ok-content.ensures _ read.1.0.tidy) c.requires.0 c.keep.ensures (rw (← c.string_at.ensures) c.instruction-e.ensures))
