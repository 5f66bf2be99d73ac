-- `triple` meets its contract: the triple is held, has no room, or is added.
-- Assumes nothing.
use Rattle.read_names.proofs.NameLaws.{search_asked, words_unnamed, adds_held, adds_full, adds_new}
use Rattle.tables.specs.Kept.{triple_of}
use Rattle.read_names.proofs.names.triple.Goals as goal

pub find_name-requires : goal.find_name-requires
find_name-requires c =
    let counts = c.args.counts.now in
    let words = c.args.t.now in
    let may = c.requires.0 in
    let asked = search_asked counts words c.args.index.now _ c.args.x may in
    (asked.0, asked.1, asked.2, asked.3, asked.4, λ h. words_unnamed counts words _ may.1 (triple_of c.args.x) may.3 may.4 (c.requires.1 h))

pub returns-then-find_name-ne0 : goal.returns-then-find_name-ne0
returns-then-find_name-ne0 c =
    rw c.at.ensures (adds_held _ _ _ _ _ _ _ c.args.x c.requires.0 c.find_name.ensures c.if-find_name-ne0.true)

pub returns-then-n-ge-ENTRIES : goal.returns-then-n-ge-ENTRIES
returns-then-n-ge-ENTRIES c =
    rw c.at-then-n-ge-ENTRIES.ensures (adds_full _ _ _ _ _ _ _ c.args.x c.requires.0 c.find_name.ensures c.if-find_name-ne0.false c.if-n-ge-ENTRIES.true)

pub returns : goal.returns
returns c =
    adds_new _ _ _ _ _ _ _ c.args.x c.requires.0 c.find_name.ensures c.if-find_name-ne0.false c.if-n-ge-ENTRIES.false _ _ c.enter_name.ensures
