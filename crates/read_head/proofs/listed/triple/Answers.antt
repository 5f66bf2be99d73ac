-- `triple` meets its contract: the triple is held, has no room, or is added.
-- Assumes nothing.
use Rattle.read_names.proofs.NameLaws.{search_asked, adds_held, adds_full, adds_new}
use Rattle.read_head.proofs.listed.triple.Goals as goal

pub find_name-requires : goal.find_name-requires
find_name-requires c =
    search_asked c.args.counts.now c.args.t.now c.args.index.now _ c.args.x c.requires

pub returns-then-find_name-ne0 : goal.returns-then-find_name-ne0
returns-then-find_name-ne0 c =
    rw c.at.ensures (adds_held _ _ _ _ _ _ _ c.args.x c.requires c.find_name.ensures c.if-find_name-ne0.true)

pub returns-then-n-ge-ENTRIES : goal.returns-then-n-ge-ENTRIES
returns-then-n-ge-ENTRIES c =
    rw c.at-then-n-ge-ENTRIES.ensures (adds_full _ _ _ _ _ _ _ c.args.x c.requires c.find_name.ensures c.if-find_name-ne0.false c.if-n-ge-ENTRIES.true)

pub returns : goal.returns
returns c =
    adds_new _ _ _ _ _ _ _ c.args.x c.requires c.find_name.ensures c.if-find_name-ne0.false c.if-n-ge-ENTRIES.false _ _ c.enter_name.ensures
