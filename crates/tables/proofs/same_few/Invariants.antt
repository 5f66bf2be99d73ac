-- `same_few` meets its contract: what is left to compare tells what the whole does.
-- Assumes nothing.
use mathlib.Core.Path.{◌≡◌}
use Rattle.format.specs.Tables.{same}
use Rattle.format.specs.declared.StringForm.TheVariants.{Utf8}
use Rattle.tables.specs.Located.{stretch, octets_of}
use Rattle.tables.proofs.same_few.Given as goal

abbrev pub invariant-loop-i : goal.invariant-loop-i
invariant-loop-i l =
    same (octets_of l.x (stretch Utf8 l.a l.i)) (octets_of l.y (stretch Utf8 l.b l.i)) ≡ same (octets_of l.x (stretch Utf8 l.a l.n)) (octets_of l.y (stretch Utf8 l.b l.n))
