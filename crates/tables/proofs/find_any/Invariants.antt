-- `find_any` meets its contract: the lowest number among the entries left is that among all.
-- Assumes nothing.
use mathlib.Core.List.{List, map}
use mathlib.Core.Path.{◌≡◌}
use Prim.Native.Nat.{ℕ, ◌*◌}
use Rattle.format.specs.Tables.{same}
use Rattle.format.specs.declared.StringForm.TheVariants.{Utf8}
use Rattle.tables.specs.Search.{number_in}
use Rattle.tables.specs.Rows.{table_of, string_at, entries}
use Rattle.tables.specs.Located.{stretch, octets_of}
use Rattle.tables.proofs.Search.{left}
use Rattle.tables.proofs.find_any.Given as goal

abbrev pub invariant-loop-i : goal.invariant-loop-i
invariant-loop-i l =
    let x = octets_of l.s (stretch Utf8 l.place l.len) in
    left (λ (y : List ℕ). same y x) (λ (at : ℕ). octets_of l.s (string_at (table_of l.table) l.t at)) (768 * l.table) l.n l.i
    ≡ number_in (map (octets_of l.s) (entries (string_at (table_of l.table) l.t) (768 * l.table) l.n)) x
