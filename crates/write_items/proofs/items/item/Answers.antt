-- `item` meets its contract, by the kind: none is well made that is blank.
-- Assumes nothing.
use native.Mathlib.Omega.{arith}
use Rattle.write_items.specs.Events.{event_of}
use Rattle.write_items.proofs.WellMade.{end_kind}
use Rattle.write_items.proofs.items.item.Goals as goal

pub close-requires : goal.close-requires
unfolding event_of
close-requires c =
    let shallow = c.requires.shallow in
    (c.requires.at, c.requires.inside (rw (end_kind _ _ _ c.in-Blank.is c.requires.made)), omega arith)

pub returns-in-Blank : goal.returns-in-Blank
unfolding event_of
returns-in-Blank c =
    let a = c.args in
    rw (end_kind _ _ _ c.in-Blank.is c.requires.made) (c.close.ensures a.text.now a.a a.counts.now a.t.now a.index.now c.requires.order)
