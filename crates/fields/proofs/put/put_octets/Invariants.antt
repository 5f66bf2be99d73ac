-- `put_octets` meets its contract: i octets are put, and the rest are left.
-- Assumes nothing.
use Rattle.std.proofs.Common.{◌+◌, take}
use Rattle.format.specs.Numbers.{octets}
use Rattle.fields.specs.PutContracts.{Puts}
use Rattle.fields.proofs.put.put_octets.Given as goal

abbrev pub invariant-loop-i : goal.invariant-loop-i
invariant-loop-i l = Puts l.initial.out l.at (l.at + l.i) l.out (take l.i (octets l.more l.v))
