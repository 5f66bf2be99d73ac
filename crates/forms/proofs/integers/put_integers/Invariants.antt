-- `put_integers` meets its contract: where a word ends, its integer is put behind those before.
-- Assumes nothing.
use mathlib.Core.Path.{◌≡◌}
use mathlib.Core.Bool.{true}
use Rattle.format.specs.Forms.{width}
use Rattle.decimal.specs.Machine.{written, fitting}
use Rattle.decimal.specs.declared.scanning.Word.TheVariants.{Empty}
use Rattle.forms.specs.Streams.{ahead}
use Rattle.forms.proofs.Puts.{Left}
use Rattle.forms.proofs.integers.put_integers.Given as goal

abbrev pub invariant-loop-o : goal.invariant-loop-o
invariant-loop-o l =
    (fitting (width l.integers) l.word (ahead l.o-iterator) ≡ true)
    × Left l.initial.out l.at (written (width l.integers) Empty (ahead l.initial.o-iterator)) l.out l.i (written (width l.integers) l.word (ahead l.o-iterator))
