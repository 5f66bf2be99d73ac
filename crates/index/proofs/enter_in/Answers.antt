-- `enter_in` meets its contract: known, the last row, built in, or put in front of its chain.
-- Assumes nothing.
use native.Mathlib.Omega.{arith}
use mathlib.Core.Path.{sym, ◌∙◌}
use Rattle.tables.proofs.FormLaws.{form_in_lem}
use Rattle.tables.proofs.SaidLaws.{built_in-said}
use Rattle.index.proofs.Entered.{string_known, string_last, string_apart, string_entered, string_added}
use Rattle.index.proofs.enter_in.Goals as goal

pub returns-then-known-ne0 : goal.returns-then-known-ne0
returns-then-known-ne0 c =
    let p = c.requires in
    let form = form_in_lem _ _ p.2 p.6 in
    string_added _ _ _ _ _ _ _ _ _ p.2 p.3 p.0 p.4 form _ _ c.add.ensures (string_known _ _ _ _ _ _ _ _ _ p.2 p.3 p.0 p.4 form (λ e. c.if-known-ne0.true (p.7 ∙ e)))

pub returns-then-n-ge-LAST : goal.returns-then-n-ge-LAST
returns-then-n-ge-LAST c =
    let p = c.requires in
    let form = form_in_lem _ _ p.2 p.6 in
    string_added _ _ _ _ _ _ _ _ _ p.2 p.3 p.0 p.4 form _ _ c.add.ensures (string_last _ _ _ _ _ _ _ _ _ p.2 p.3 p.0 p.4 form (omega arith))

pub returns-then-is_built_in : goal.returns-then-is_built_in
returns-then-is_built_in c =
    let p = c.requires in
    let form = form_in_lem _ _ p.2 p.6 in
    let built_in = rw (c.wide.ensures, c.wide-2.ensures) at (sym c.is_built_in.ensures ∙ c.if-is_built_in.true) in
    string_added _ _ _ _ _ _ _ _ _ p.2 p.3 p.0 p.4 form _ _ c.add.ensures (string_apart _ _ _ _ _ _ _ _ _ p.2 p.3 p.0 p.4 form (sym (built_in-said _ _ _ _ _ p.6 p.5 p.4) ∙ built_in))

pub returns : goal.returns
returns c =
    let p = c.requires in
    let form = form_in_lem _ _ p.2 p.6 in
    let built_in = rw (c.wide.ensures, c.wide-2.ensures) at (sym c.is_built_in.ensures ∙ c.if-is_built_in.false) in
    string_added _ _ _ _ _ _ _ _ _ p.2 p.3 p.0 p.4 form _ _ c.add.ensures
    (rw (c.push.ensures, p.8)
    (string_entered _ _ _ _ _ _ _ _ _ p.2 p.3 p.0 p.4 form (omega arith) (sym p.7 ∙ c.if-known-ne0.false) (sym (built_in-said _ _ _ _ _ p.6 p.5 p.4) ∙ built_in)))
