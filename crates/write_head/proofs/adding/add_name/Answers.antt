-- `add_name` meets its contract: the index says where it is.
-- Assumes nothing.
use Rattle.tables.specs.Rows.{triple_at}
use Rattle.write_names.proofs.Order.{counted_at}
use Rattle.write_head.proofs.AddLaws.{names_indexed, grown_name, name_told, tells_same}
use Rattle.write_head.proofs.adding.add_name.Goals as goal

pub find_name-found-requires : goal.find_name-found-requires
find_name-found-requires c = let o = c.requires.0 in (o.room, o.indexed.size, c.requires.2, counted_at _ _ _ _ c.args.table o, names_indexed _ _ _ _ _ o c.requires.1 c.requires.2)

pub returns : goal.returns
unfolding triple_at
returns c = (grown_name _ _ _ _ _ c.requires.0 c.requires.3 c.requires.1 c.requires.2 _ _ _ (c.enter_name.ensures c.args.text.now), tells_same _ _ _ (name_told _ _ _ _ _ _ _ c.requires.0 _ c.requires.1 c.requires.2 c.find_name-found.ensures) c.new_if.ensures)
