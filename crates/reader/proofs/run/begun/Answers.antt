-- `begun` meets its contract: what the header says, with tables that are clear, and what a head leaves.
-- Assumes nothing.
use mathlib.Core.Path.{refl, ap, ◌∙◌}
use Rattle.std.specs.Prelude.{Ok}
use Rattle.tables.specs.Kept.{listed}
use Rattle.read_names.proofs.StringLaws.{handed_on}
use Rattle.reader.proofs.RunLaws.{tidy_start, starts_fault, starts_body, starts_head}
use Rattle.reader.proofs.run.begun.Goals as goal

pub returns-in_err-at : goal.returns-in_err-at
returns-in_err-at c =
    rw (handed_on _ _ c.from_residual.ensures) (starts_fault _ _ _ _ c.requires.0 (c.put_counts.ensures ∙ ap listed c.start.ensures) c.requires.2 c.in_err-at.ensures refl)

pub returns-in-Body : goal.returns-in-Body
returns-in-Body c =
    let o = rw (c.in_ok-at.was ∙ ap Ok c.in-Body.is) at c.opened.ensures in
    starts_body _ _ _ _ c.requires.0 (c.put_counts.ensures ∙ ap listed c.start.ensures) c.requires.2 o

pub head-requires : goal.head-requires
head-requires c =
    let o = rw (c.in_ok-at.was ∙ ap Ok c.in-Head.is) at c.opened.ensures in
    (tidy_start _ _ _ _ c.requires.0 (c.put_counts.ensures ∙ ap listed c.start.ensures) c.requires.2 o.within.1, o.within.0)

pub returns-in-Head : goal.returns-in-Head
returns-in-Head c =
    let o = rw (c.in_ok-at.was ∙ ap Ok c.in-Head.is) at c.opened.ensures in
    starts_head _ _ _ _ c.requires.0 (c.put_counts.ensures ∙ ap listed c.start.ensures) c.requires.2 o c.head.ensures
