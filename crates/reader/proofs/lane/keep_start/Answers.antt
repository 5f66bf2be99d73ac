-- `keep_start` meets its contract: no record, a local name alone, or all the name's strings.
-- Assumes nothing.
use native.Mathlib.Omega.{arith}
use mathlib.Core.Path.{sym, ◌∙◌}
use borrow.Author.Tests.{ltb-false}
use Rattle.events.proofs.Kept.{kept_not}
use Rattle.reader.proofs.LaneLaws.{local_there, local-alone}
use Rattle.reader.proofs.lane.keep_start.Goals as goal

pub returns-then-not-has_record : goal.returns-then-not-has_record
returns-then-not-has_record c = kept_not _ _ _ _ (ltb-false _ _ (sym c.has_record.ensures ∙ c.if-not-has_record.true))

pub overflow_sub-x : goal.overflow_sub-x
overflow_sub-x c =
    let l = local_there _ _ _ c.entry-x.ensures c.requires.1 c.requires.2 in
    omega arith

pub entry-y-requires : goal.entry-y-requires
entry-y-requires c =
    let l = local_there _ _ _ c.entry-x.ensures c.requires.1 c.requires.2 in
    (c.requires.1.0, omega arith, omega arith)

pub keep-requires : goal.keep-requires
keep-requires c = c.requires.0

pub returns-then-y-ne0 : goal.returns-then-y-ne0
returns-then-y-ne0 c =
    let l = local_there _ _ _ c.entry-x.ensures c.requires.1 c.requires.2 in
    rw (← c.start-e.ensures ∙ local-alone _ _ _ c.entry-x.ensures _ c.if-x-eq0.true c.if-x-eq0-2.true l.0 c.entry-y.ensures c.if-y-ne0.true) c.keep.ensures

pub returns : goal.returns
returns c = rw (← c.strings_of-z.ensures, ← c.start-e-2.ensures) c.keep-2.ensures
