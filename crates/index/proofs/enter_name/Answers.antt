-- `enter_name` meets its contract: known, the last row, or put in front of its chain.
-- Assumes nothing.
use native.Mathlib.Omega.{arith}
use mathlib.Core.Path.{sym, ◌∙◌}
use Rattle.index.proofs.Entered.{name_known, name_last, name_entered, name_added}
use Rattle.index.proofs.enter_name.Goals as goal

pub returns-then-found-ne0 : goal.returns-then-found-ne0
returns-then-found-ne0 c =
    let p = c.requires in
    λ s. name_added s _ _ _ _ _ _ _ p.2 p.3 p.4 p.0 _ _ c.add.ensures (name_known s _ _ _ _ _ _ _ p.2 p.3 p.4 p.0 (λ e. c.if-found-ne0.true (p.5 ∙ e)))

pub returns-then-n-ge-LAST : goal.returns-then-n-ge-LAST
returns-then-n-ge-LAST c =
    let p = c.requires in
    λ s. name_added s _ _ _ _ _ _ _ p.2 p.3 p.4 p.0 _ _ c.add.ensures (name_last s _ _ _ _ _ _ _ p.2 p.3 p.4 p.0 (omega arith))

pub returns : goal.returns
returns c =
    let add = c.add in
    let p = c.requires in
    λ s. name_added s _ _ _ _ _ _ _ p.2 p.3 p.4 p.0 _ _ add.ensures
    (rw (c.push.ensures, c.name_bucket.ensures.0) (name_entered s _ _ _ _ _ _ _ p.2 p.3 p.4 p.0 (omega arith) (sym p.5 ∙ c.if-found-ne0.false)))
