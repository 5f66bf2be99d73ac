-- `put_part` meets its contract: i octets are put, and for what is left of them behind the last one there is no room.
-- Assumes nothing.
use Rattle.std.proofs.Common.{◌+◌, take, drop}
use Rattle.fields.specs.PutContracts.{Puts}
use Rattle.fields.proofs.put.put_part.Given as goal

abbrev pub invariant-loop-i : goal.invariant-loop-i
invariant-loop-i l = Puts l.initial.out l.at (l.at + l.i) l.out (take l.i (take l.size (drop l.place l.text)))
