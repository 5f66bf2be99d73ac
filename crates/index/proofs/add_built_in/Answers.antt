-- `add_built_in` meets its contract: known, no room, or in no chain.
-- Assumes nothing.
use native.Mathlib.Omega.{arith}
use mathlib.Core.Path.{refl, sym, ◌∙◌}
use Rattle.format.specs.declared.StringForm.TheVariants.{Utf8}
use Rattle.tables.proofs.FormLaws.{form_identifying}
use Rattle.index.proofs.Walks.{string_is, string_none}
use Rattle.index.proofs.Entered.{string_apart, string_added}
use Rattle.index.proofs.add_built_in.Goals as goal

pub returns-then-find_any-ne0 : goal.returns-then-find_any-ne0
returns-then-find_any-ne0 c = λ index. (sym (string_is _ _ c.find_any.ensures (omega arith)), refl, refl)

pub returns-then-n-ge-ENTRIES : goal.returns-then-n-ge-ENTRIES
returns-then-n-ge-ENTRIES c = λ index. (string_none _ (sym c.find_any.ensures ∙ c.if-find_any-ne0.false), omega arith, refl, refl)

pub returns : goal.returns
returns c =
    let p = c.requires in
    let n1 = c.narrow.ensures in
    let n2 = c.narrow-2.ensures in
    let utf8 = form_identifying c.args.table 0 p.1 in
    λ index. (
      string_none _ (sym c.find_any.ensures ∙ c.if-find_any-ne0.false),
      omega arith,
      string_added _ _ _ _ _ _ _ Utf8 index (omega arith) (omega arith) p.0 p.3 utf8 _ _ (rw (n1, n2) at c.add.ensures)
          (string_apart _ _ _ _ _ _ _ Utf8 index (omega arith) (omega arith) p.0 p.3 utf8 p.7),
    )
