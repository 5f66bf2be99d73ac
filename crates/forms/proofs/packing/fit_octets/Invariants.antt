-- `fit_octets` meets its contract: what was seen, with what is to come, is letters where the whole is.
-- Assumes nothing.
use lib.ListN.{drop}
use Rattle.format.specs.Forms.{numeric, dates}
use Rattle.forms.specs.Streams.{part}
use Rattle.forms.proofs.Packs.{Seen}
use Rattle.forms.proofs.packing.fit_octets.Given as goal

abbrev pub invariant-loop-o : goal.invariant-loop-o
invariant-loop-o l =
    Seen numeric l.all.numeric (drop l.o-index (part l.s l.from l.to)) (part l.s l.from l.to) × Seen dates l.all.dates (drop l.o-index (part l.s l.from l.to)) (part l.s l.from l.to)
