-- `is_text_value` meets its contract: a stretch by its form, and what is no stretch is text.
-- Assumes nothing.
use mathlib.Core.Path.{sym, ◌∙◌}
use Rattle.format.specs.declared.StringForm.TheVariants.{Utf8}
use Rattle.tables.proofs.FormLaws.{form_zero}
use Rattle.write_items.proofs.RecordLaws.{other_text, stretch_text}
use Rattle.write_items.proofs.records.is_text_value.Goals as goal

pub returns-then-number-eq0 : goal.returns-then-number-eq0
returns-then-number-eq0 c =
    let z = form_zero c.in-Stretch.form (sym c.number.ensures.0 ∙ c.if-number-eq0.true) in
    c.is_text.ensures ∙ rw (c.in-Stretch.is, z) (stretch_text _ Utf8 _ _)

pub returns-else-number-eq0 : goal.returns-else-number-eq0
returns-else-number-eq0 c = c.is_text-in-Stretch.ensures.0 ∙ rw c.in-Stretch.is (stretch_text _ _ _ _)

pub returns-in_default : goal.returns-in_default
returns-in_default c = other_text _ c.args.x c.in_default.not-Stretch
