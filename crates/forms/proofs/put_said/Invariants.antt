-- `put_said` meets its contract: each octet that the stream gives is put behind the one before.
-- Assumes nothing.
use Rattle.forms.specs.Streams.{ahead}
use Rattle.forms.proofs.Puts.{Left}
use Rattle.forms.proofs.put_said.Given as goal

abbrev pub invariant-loop-o : goal.invariant-loop-o
invariant-loop-o l = Left l.initial.out l.at (ahead l.initial.o-iterator) l.out l.i (ahead l.o-iterator)
