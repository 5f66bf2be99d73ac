-- `is_listed` meets its contract: the walk along a chain, as that of `find_chained`.
-- Assumes nothing.
use native.Mathlib.Omega.{arith}
use mathlib.Core.Path.{refl, sym, ◌∙◌}
use Rattle.tables.specs.Located.{stretch, octets_of}
use Rattle.tables.proofs.Search.{all_at, row_ends, row_identifying}
use Rattle.index.proofs.Walks.{StringWalk, string_within, string_start, string_hit, string_next, string_falls, string_end, string_is}
use Rattle.format.specs.declared.StringForm.TheVariants.{Utf8}
use Rattle.index.proofs.is_listed.Goals as goal

pub loop-row-init : goal.loop-row-init
loop-row-init c =
    let a = c.args in
    let p = c.requires in
    let w : StringWalk a.s.now a.t.now a.table a.n (octets_of a.s.now (stretch Utf8 a.place a.len)) c.from-row.result =
    (rw (c.from-row.ensures, p.8) (string_start _ _ _ _ _ _ p.7 p.10)) in
    (refl, w, string_within _ _ _ _ _ _ w)

pub is_spelled-requires : goal.is_spelled-requires
is_spelled-requires c =
    (omega arith, omega arith, omega arith, omega arith, c.loop-row.invariant.0, row_ends _ _ _ _ (all_at _ _ _ _ _ c.requires.6 (omega arith)))

pub returns-then-is_spelled : goal.returns-then-is_spelled
returns-then-is_spelled c =
    let pre = c.requires in
    string_is _ _ (string_hit _ _ _ _ _ _ c.loop-row.invariant.1 (omega arith)
    (sym (row_identifying _ _ _ _ _ _ pre.2 pre.4 pre.5 pre.10) ∙ sym c.is_spelled.ensures ∙ c.if-is_spelled.true))
    (omega arith)

pub loop-row-smaller : goal.loop-row-smaller
loop-row-smaller c =
    let pre = c.requires in
    let f = string_falls _ _ _ _ _ _ pre.7 pre.10 _ c.loop-row.invariant.1 (omega arith) in
    let e = c.from-row-in-loop-row.ensures in
    omega arith

pub loop-row-preserved : goal.loop-row-preserved
loop-row-preserved c =
    let pre = c.requires in
    let w = rw (← c.from-row-in-loop-row.ensures) at (string_next _ _ _ _ _ _ pre.7 pre.10 _ c.loop-row.invariant.1 (omega arith)
    (sym (row_identifying _ _ _ _ _ _ pre.2 pre.4 pre.5 pre.10) ∙ sym c.is_spelled.ensures ∙ c.if-is_spelled.false)) in
    (c.loop-row.invariant.0, w, string_within _ _ _ _ _ _ w)

pub returns : goal.returns
returns c = rw (c.find_last.ensures ∙ string_end _ _ _ _ _ _ c.loop-row.invariant.1 (omega arith) (omega arith))
