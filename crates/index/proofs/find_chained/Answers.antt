-- `find_chained` meets its contract: the walk along a chain; the number itself falls.
-- Assumes nothing.
use native.Mathlib.Omega.{arith}
use mathlib.Core.Path.{refl, sym, ◌∙◌}
use Rattle.tables.specs.Located.{stretch, octets_of}
use Rattle.tables.proofs.Search.{all_at, row_ends, row_identifying}
use Rattle.index.proofs.Walks.{StringWalk, string_within, string_start, string_hit, string_next, string_falls, string_end}
use Rattle.format.specs.declared.StringForm.TheVariants.{Utf8}
use Rattle.index.proofs.find_chained.Goals as goal

pub loop-k-init : goal.loop-k-init
loop-k-init c =
    let a = c.args in
    let p = c.requires in
    let w : StringWalk a.s.now a.t.now a.table a.n (octets_of a.s.now (stretch Utf8 a.place a.len)) c.from-k.result =
    (rw (c.from-k.ensures, p.8) (string_start _ _ _ _ _ _ p.7 p.10)) in
    (refl, w, string_within _ _ _ _ _ _ w)

pub is_spelled-requires : goal.is_spelled-requires
is_spelled-requires c =
    (omega arith, omega arith, omega arith, omega arith, c.loop-k.invariant.0, row_ends _ _ _ _ (all_at _ _ _ _ _ c.requires.6 (omega arith)))

pub returns-then-is_spelled : goal.returns-then-is_spelled
returns-then-is_spelled c =
    let pre = c.requires in
    string_hit _ _ _ _ _ _ c.loop-k.invariant.1 (omega arith)
    (sym (row_identifying _ _ _ _ _ _ pre.2 pre.4 pre.5 pre.10) ∙ sym c.is_spelled.ensures ∙ c.if-is_spelled.true)

pub loop-k-smaller : goal.loop-k-smaller
loop-k-smaller c =
    let pre = c.requires in
    let f = string_falls _ _ _ _ _ _ pre.7 pre.10 _ c.loop-k.invariant.1 (omega arith) in
    let e = c.from-k-in-loop-k.ensures in
    omega arith

pub loop-k-preserved : goal.loop-k-preserved
loop-k-preserved c =
    let pre = c.requires in
    let w = rw (← c.from-k-in-loop-k.ensures) at (string_next _ _ _ _ _ _ pre.7 pre.10 _ c.loop-k.invariant.1 (omega arith)
    (sym (row_identifying _ _ _ _ _ _ pre.2 pre.4 pre.5 pre.10) ∙ sym c.is_spelled.ensures ∙ c.if-is_spelled.false)) in
    (c.loop-k.invariant.0, w, string_within _ _ _ _ _ _ w)

pub returns : goal.returns
returns c = c.find_last.ensures ∙ string_end _ _ _ _ _ _ c.loop-k.invariant.1 (omega arith) (omega arith)
