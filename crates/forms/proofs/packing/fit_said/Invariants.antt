-- `fit_said` meets its contract: what was seen, with what is to come, is letters where the whole is.
-- Assumes nothing.
use Rattle.format.specs.Forms.{numeric, dates}
use Rattle.forms.specs.Streams.{ahead}
use Rattle.forms.proofs.Packs.{Seen}
use Rattle.forms.proofs.packing.fit_said.Given as goal

abbrev pub invariant-loop-o : goal.invariant-loop-o
invariant-loop-o l = Seen numeric l.all.numeric (ahead l.o-iterator) (ahead l.initial.o-iterator) × Seen dates l.all.dates (ahead l.o-iterator) (ahead l.initial.o-iterator)
