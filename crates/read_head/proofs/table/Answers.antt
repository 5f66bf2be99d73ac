-- `table` meets its contract: absent, or how many entries it lists, and these.
-- Assumes nothing.
use Rattle.read_names.proofs.StringLaws.{handed_on}
use Rattle.read_head.proofs.HeadLaws.{count_within, table_absent, table_refused, table_read}
use Rattle.read_head.proofs.table.Goals as goal

pub returns-then-not-present : goal.returns-then-not-present
returns-then-not-present c =
    table_absent c.args.s.now c.args.counts.now c.args.t.now _ _ _ _ c.present.ensures c.args.index.now c.requires.0 c.requires.1 c.if-not-present.true

pub entries-requires : goal.entries-requires
entries-requires c = (c.requires.0, count_within _ _ _ c.in_ok-n.ensures, c.requires.2)

pub returns-in_err-n : goal.returns-in_err-n
returns-in_err-n c =
    rw (handed_on _ _ c.from_residual.ensures)
    (table_refused c.args.s.now c.args.counts.now c.args.t.now _ _ _ _ c.present.ensures c.if-not-present.false c.args.index.now _ c.in_err-n.ensures c.requires.1)

pub returns : goal.returns
returns c =
    (table_read c.args.s.now c.args.counts.now c.args.t.now _ _ _ _ c.present.ensures c.if-not-present.false _ c.in_ok-n.ensures _ c.entries.ensures.0, c.entries.ensures.1)
