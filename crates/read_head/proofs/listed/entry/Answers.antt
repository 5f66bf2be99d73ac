-- `entry` meets its contract: the table's number says what an entry is.
-- Assumes nothing.
use Rattle.read_head.proofs.EntryLaws.{entry_identifying, entry_another, entry_name}
use Rattle.read_head.proofs.listed.entry.Goals as goal

pub returns-then-table-lt-ATTRIBUTE_VALUE : goal.returns-then-table-lt-ATTRIBUTE_VALUE
returns-then-table-lt-ATTRIBUTE_VALUE c =
    (entry_identifying _ _ _ _ _ c.if-table-lt-ATTRIBUTE_VALUE.true c.identifying.ensures.0, c.identifying.ensures.1)

pub returns-then-table-lt-ELEMENT_NAME : goal.returns-then-table-lt-ELEMENT_NAME
returns-then-table-lt-ELEMENT_NAME c =
    let e = c.another.ensures c.args.index.now c.requires.0 in
    (entry_another _ _ _ _ _ c.if-table-lt-ATTRIBUTE_VALUE.false c.if-table-lt-ELEMENT_NAME.true e.0, e.1)

pub returns : goal.returns
returns c =
    (entry_name _ _ _ _ _ c.if-table-lt-ELEMENT_NAME.false c.surrogate.ensures.0, c.surrogate.ensures.1)
