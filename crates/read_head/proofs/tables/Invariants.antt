-- `tables` meets its contract: one table after the other, and those from i on are read from where the loop stands.
-- Assumes nothing.
use mathlib.Core.Path.{◌≡◌}
use lib.ListN.{drop}
use Rattle.format.specs.Tables.{link}
use Rattle.format.specs.Head.{ten_tables}
use Rattle.tables.specs.Rows.{vocabulary}
use Rattle.tables.specs.Kept.{unlisted}
use Rattle.read_names.specs.Promises.{Left}
use Rattle.read_head.specs.Head.{tables_at}
use Rattle.read_head.proofs.tables.Given as goal

abbrev pub invariant-loop-i : goal.invariant-loop-i
invariant-loop-i l = record {
  left : Left l.s l.initial.counts l.initial.t l.place l.counts l.t l.index;
  reads : tables_at link (drop l.i ten_tables) l.presence l.s l.place (vocabulary (unlisted l.counts) l.t) ≡ tables_at link ten_tables l.presence l.s l.at (vocabulary (unlisted l.initial.counts) l.initial.t);
}
