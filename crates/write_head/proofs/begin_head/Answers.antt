-- `begin_head` meets its contract: a law for each way out.
-- Assumes nothing.
use native.Mathlib.Omega.{arith}
use mathlib.Core.Path.{ap, ◌∙◌}
use Rattle.tables.specs.Kept.{listed}
use Rattle.write_head.specs.RowContracts.{add_tables}
use Rattle.write_head.proofs.BeginLaws.{entries_wrong, entry_repeats, no_room, opened, order_begun, tables_begun, start_counts}
use Rattle.write_head.proofs.begin_head.Goals.{then-room-at-via-then-room-at, then-room-at-via-else-room-at+then-at-gt-OCTETS}
use Rattle.write_head.proofs.begin_head.Goals as goal

pub returns-in_err-judge : goal.returns-in_err-judge
returns-in_err-judge c = entries_wrong _ _ c.requires.5 _ _ _ c.from_residual.ensures.1 _ _ _ _ c.in_err-judge.ensures

pub add_tables-requires : goal.add_tables-requires
unfolding add_tables
add_tables-requires c =
    let j = c.in_ok-judge.ensures in
    let e = c.put_counts.ensures ∙ ap listed c.start.ensures in
    (order_begun _ c.requires.0 e c.requires.2 c.requires.4, c.requires.5, j.right, j.few, tables_begun c.args.text.now c.requires.0 e c.requires.2 c.requires.4, λ k. rw e (start_counts k), j.texts)

pub returns-in_err-add_tables : goal.returns-in_err-add_tables
returns-in_err-add_tables c = entry_repeats _ _ c.requires.5 _ _ _ c.from_residual-in_err-add_tables.ensures.1 _ _ _ _ c.in_ok-judge.ensures c.in_err-add_tables.ensures.0

pub put_head-at-requires : goal.put_head-at-requires
put_head-at-requires c = let j = c.in_ok-judge.ensures in (c.requires.5, j.right, j.few, c.requires.0, j.texts)

pub returns-then-room-at : goal.returns-then-room-at
returns-then-room-at c =
    no_room _ _ c.requires.5 c.in_ok-judge.ensures c.in_ok-add_tables.ensures.0 c.requires.6 c.put_head-at.ensures _
    (elim c.then-room-at.branch [ then-room-at-via-then-room-at w ↦ omega arith | then-room-at-via-else-room-at+then-at-gt-OCTETS w ↦ omega arith ])

pub returns : goal.returns
returns c =
    let added = c.in_ok-add_tables.ensures in
    opened _ _ c.requires.5 c.in_ok-judge.ensures added.0 c.requires.6 c.put_head-at.ensures _ c.requires.1 (omega arith) (added.1 added.0)
