-- `find_in` meets its contract: the built-in string is tested apart.
-- Assumes nothing.
use mathlib.Core.Path.{sym, ◌∙◌}
use Rattle.index.proofs.find_in.Goals as goal

pub find_chained-requires : goal.find_chained-requires
find_chained-requires c =
    let p = c.requires in
    (p.0, p.1, p.2, p.3, p.4, p.5, p.6, p.7, p.8, p.9, sym c.is_built_in.ensures ∙ c.if-is_built_in.false)
