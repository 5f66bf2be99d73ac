-- `find_name` meets its contract: the walk along a chain; the number itself falls.
-- Assumes nothing.
use native.Mathlib.Omega.{arith}
use mathlib.Core.Path.{sym, ◌∙◌}
use Rattle.index.proofs.Walks.{NameWalk, name_within, name_start, name_hit, name_next, name_falls, name_end}
use Rattle.index.proofs.find_name.Goals as goal

pub loop-j-init : goal.loop-j-init
loop-j-init c =
    let a = c.args in
    let w : NameWalk a.t.now a.table a.n (record { prefix = a.prefix; namespace = a.namespace; local = a.local }) c.from-j.result =
    (rw (c.from-j.ensures, c.name_bucket.ensures.0) (name_start _ _ _ _ _ c.requires.4)) in
    (w, name_within _ _ _ _ _ w)

pub returns-then-is_name : goal.returns-then-is_name
returns-then-is_name c = name_hit _ _ _ _ _ c.loop-j.invariant.0 (omega arith) (sym c.is_name.ensures ∙ c.if-is_name.true)

pub loop-j-smaller : goal.loop-j-smaller
loop-j-smaller c =
    let pre = c.requires in
    let f = name_falls _ _ _ _ _ pre.4 _ c.loop-j.invariant.0 (omega arith) in
    let e = c.from-j-in-loop-j.ensures in
    omega arith

pub loop-j-preserved : goal.loop-j-preserved
loop-j-preserved c =
    let pre = c.requires in
    let w = rw (← c.from-j-in-loop-j.ensures) at (name_next _ _ _ _ _ pre.4 _ c.loop-j.invariant.0 (omega arith) (sym c.is_name.ensures ∙ c.if-is_name.false)) in
    (w, name_within _ _ _ _ _ w)

pub returns : goal.returns
returns c = c.find_last_name.ensures ∙ name_end _ _ _ _ _ c.loop-j.invariant.0 (omega arith) (omega arith)
