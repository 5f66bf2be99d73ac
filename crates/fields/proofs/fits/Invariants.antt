-- `fits` meets its contract: range by range, the octets from here on fit where all do.
-- Assumes nothing.
use Rattle.std.proofs.Common.{◌≡◌, ◌-◌, drop}
use Rattle.fields.specs.Utf8.{fits, ranges}
use Rattle.fields.proofs.fits.Given as goal

abbrev pub invariant-loop-k : goal.invariant-loop-k
invariant-loop-k l = fits (ranges 0 l.n l.row) l.s ≡ fits (ranges l.k (l.n - l.k) l.row) (drop l.k l.s)
