-- `find_said` meets its contract: the walk along a chain, as that of `find_chained`.
-- Assumes nothing.
use native.Mathlib.Omega.{arith}
use mathlib.Core.Path.{refl, sym, ◌∙◌}
use Rattle.tables.specs.Located.{stretch, octets_of}
use Rattle.tables.proofs.Search.{all_at}
use Rattle.tables.proofs.SaidLaws.{not_built_in, row_sound, row_other}
use Rattle.index.proofs.Walks.{StringWalk, string_within, string_start, string_hit, string_next, string_falls, string_end}
use Rattle.index.proofs.find_said.Goals as goal

pub loop-i-init : goal.loop-i-init
loop-i-init c =
    let a = c.args in
    let p = c.requires in
    let y = octets_of a.s.now (stretch a.form a.place a.len) in
    let apart = not_built_in a.s.now a.form a.place a.len a.table p.2 p.6 p.5 in
    let w : StringWalk a.s.now a.t.now a.table a.n y c.from-i.result = rw (c.from-i.ensures, c.bucket_said-h.ensures.0) (string_start _ _ _ _ _ _ p.11 apart) in
    (w, string_within _ _ _ _ _ _ w)

pub is_alike-requires : goal.is_alike-requires
is_alike-requires c =
    let p = c.requires in
    (omega arith, omega arith, omega arith, omega arith, refl, p.8, row_sound _ _ _ _ p.2 p.3 (all_at _ _ _ _ _ p.9 (omega arith)) (all_at _ _ _ _ _ p.10 (omega arith)))

pub returns-then-is_alike : goal.returns-then-is_alike
returns-then-is_alike c =
    let p = c.requires in
    string_hit _ _ _ _ _ _ c.loop-i.invariant.0 (omega arith)
    (sym (row_other _ _ _ _ _ p.2 p.3) ∙ sym c.is_alike.ensures ∙ c.if-is_alike.true)

pub loop-i-smaller : goal.loop-i-smaller
loop-i-smaller c =
    let p = c.requires in
    let f = string_falls _ _ _ _ _ _ p.11 (not_built_in _ _ _ _ _ p.2 p.6 p.5) _ c.loop-i.invariant.0 (omega arith) in
    let e = c.from-i-in-loop-i.ensures in
    omega arith

pub loop-i-preserved : goal.loop-i-preserved
loop-i-preserved c =
    let p = c.requires in
    let w = rw (← c.from-i-in-loop-i.ensures) at (string_next _ _ _ _ _ _ p.11 (not_built_in _ _ _ _ _ p.2 p.6 p.5) _ c.loop-i.invariant.0 (omega arith)
    (sym (row_other _ _ _ _ _ p.2 p.3) ∙ sym c.is_alike.ensures ∙ c.if-is_alike.false)) in
    (w, string_within _ _ _ _ _ _ w)

pub returns : goal.returns
returns c = c.find_last_said.ensures ∙ string_end _ _ _ _ _ _ c.loop-i.invariant.0 (omega arith) (omega arith)
