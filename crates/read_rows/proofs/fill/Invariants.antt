-- `fill`: n events are in the row, and what is left to do leads to the answer; each turn takes one of the steps.
use Prim.Native.Nat.{◌-◌}
use lib.ListN.{length}
use Rattle.tables.specs.Rows.{vocabulary}
use Rattle.tables.specs.Kept.{listed}
use Rattle.reader.specs.Reading.{origin}
use Rattle.read_rows.proofs.Laws.{Filling}
use Rattle.read_rows.proofs.fill.Given as goal

abbrev pub invariant-loop : goal.invariant-loop
invariant-loop l =
    Filling l.s (length l.initial.events) (origin l.body (vocabulary l.initial.counts l.initial.tables)) l.st (listed l.counts) l.tables l.index l.events l.n (l.end - l.counter)
