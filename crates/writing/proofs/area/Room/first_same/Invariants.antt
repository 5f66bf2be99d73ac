-- `first_same` is safe: `known` keeps its length through the loop.
-- Assumes nothing.
use Rattle.std.proofs.Common.{◌≡◌, length}
use Rattle.writing.proofs.area.Room.first_same.Given as goal

abbrev pub invariant-loop-k : goal.invariant-loop-k
invariant-loop-k l = length l.self.known.now ≡ l.n
