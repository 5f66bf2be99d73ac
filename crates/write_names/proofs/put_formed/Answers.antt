-- `put_formed` meets its contract: a law for each way out.
-- Assumes nothing.
use mathlib.Core.Path.{sym, ◌∙◌}
use Rattle.format.specs.declared.StringForm.TheVariants.{Utf8}
use Rattle.tables.proofs.FormLaws.{form_zero}
use Rattle.write_names.proofs.FormLaws.{chosen_fits}
use Rattle.write_names.proofs.FieldLaws.{puts_chosen}
use Rattle.write_names.proofs.put_formed.Goals as goal

pub returns-then-number-eq0 : goal.returns-then-number-eq0
returns-then-number-eq0 c =
    puts_chosen _ _ _ Utf8 (sym (form_zero c.form_for-formed.result.form (sym c.number.ensures.0 ∙ c.if-number-eq0.true)) ∙ c.form_for-formed.ensures.0) c.in_utf8.ensures

pub in_other-requires : goal.in_other-requires
in_other-requires c =
    let chosen = c.form_for-formed.ensures in
    (c.requires.0, c.requires.1, c.requires.2, c.requires.3, c.requires.4, (chosen_fits _ _ _ chosen.0 (λ e. c.if-number-eq0.false (c.number.ensures.0 ∙ e)), chosen.1))

pub returns : goal.returns
returns c =
    puts_chosen _ _ _ _ c.form_for-formed.ensures.0 c.in_other.ensures
