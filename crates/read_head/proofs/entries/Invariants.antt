-- `entries` meets its contract: one entry after the other, and those that are left are read from where the loop stands.
-- Assumes nothing.
use mathlib.Core.Path.{◌≡◌}
use Prim.Native.Nat.{◌-◌}
use Rattle.format.specs.Tables.{link}
use Rattle.tables.specs.Rows.{vocabulary}
use Rattle.tables.specs.Kept.{unlisted}
use Rattle.read_names.specs.Promises.{Left}
use Rattle.read_head.specs.Head.{entries_at}
use Rattle.read_head.specs.Promises.{table_at}
use Rattle.read_head.proofs.entries.Given as goal

abbrev pub invariant-loop-i : goal.invariant-loop-i
invariant-loop-i l = record {
  left : Left l.s l.initial.counts l.initial.t l.place l.counts l.t l.index;
  reads : entries_at link (table_at l.table) l.s (l.n - l._i) l.place (vocabulary (unlisted l.counts) l.t) ≡ entries_at link (table_at l.table) l.s l.n l.at (vocabulary (unlisted l.initial.counts) l.initial.t);
}
