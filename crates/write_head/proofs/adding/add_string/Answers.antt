-- `add_string` meets its contract: the index says where it is.
-- Assumes nothing.
use native.Mathlib.Omega.{arith}
use mathlib.Core.Path.{◌∙◌}
use Rattle.write_head.proofs.RowLaws.{row_utf8, row_sound, row_spells}
use Rattle.write_head.proofs.AddLaws.{row_ready, grown_string, string_new, string_known, tells_same}
use Rattle.write_head.proofs.adding.add_string.Goals.{then-known-eq0, else-known-eq0}
use Rattle.write_head.proofs.adding.add_string.Goals as goal

pub bucket_said-h-requires : goal.bucket_said-h-requires
bucket_said-h-requires c =
    let row = c.requires.4 in
    let form = c.form_given-form.ensures in
    (omega arith, omega arith, c.requires.0.size, row_sound c.args.text.now c.args.given.now c.args.table c.args.at row _ form)

pub number_of-known-requires : goal.number_of-known-requires
number_of-known-requires c =
    let row = c.requires.4 in
    let form = c.form_given-form.ensures in
    (c.requires.0, c.requires.1, row_spells c.args.text.now c.args.given.now c.args.table c.args.at row _ form, row_utf8 c.args.text.now c.args.given.now c.args.table c.args.at row _ form)

pub enter_in-requires : goal.enter_in-requires
enter_in-requires c =
    let row = c.requires.4 in
    let form = c.form_given-form.ensures in
    row_ready c.args.text.now c.args.given.now _ _ _ c.args.table c.args.at c.requires.0 c.requires.1 row _ form _ c.number_of-known.ensures.0 c.requires.2 _ _ c.number.ensures.0 c.bucket_said-h.ensures

pub returns : goal.returns
returns c =
    let row = c.requires.4 in
    let form = c.form_given-form.ensures in
    let held = c.number_of-known.ensures.0 in (
      grown_string c.args.text.now c.args.given.now _ _ _ c.args.table c.args.at c.requires.0 c.requires.1 row _ form c.requires.2 _ c.number.ensures.0 _ _ c.enter_in.ensures,
      tells_same c.if-known-eq0.new_if _ _
          (elim c.if-known-eq0.branch [
            | then-known-eq0 w ↦ w.new_if-is ∙ string_new c.args.text.now c.args.given.now _ _ _ c.args.table c.args.at c.requires.0 c.requires.1 row _ form _ held (omega arith)
            | else-known-eq0 w ↦ w.new_if-is ∙ string_known c.args.text.now c.args.given.now _ _ _ c.args.table c.args.at c.requires.0 c.requires.1 row _ form _ held (omega arith)
          ])
          c.new_if.ensures,
    )
