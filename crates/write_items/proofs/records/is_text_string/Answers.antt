-- `is_text_string` meets its contract: a stretch is in utf-8, and what is no stretch is text.
-- Assumes nothing.
use mathlib.Core.Path.{◌∙◌}
use Rattle.format.specs.declared.StringForm.TheVariants.{Utf8}
use Rattle.write_items.proofs.RecordLaws.{other_text, stretch_text}
use Rattle.write_items.proofs.records.is_text_string.Goals as goal

pub returns-in-Stretch : goal.returns-in-Stretch
returns-in-Stretch c =
    let plain = rw c.in-Stretch.is at c.requires.1 in
    c.is_text.ensures ∙ rw (c.in-Stretch.is, plain) (stretch_text _ Utf8 _ _)

pub returns-in_default : goal.returns-in_default
returns-in_default c = other_text _ c.args.x c.in_default.not-Stretch
