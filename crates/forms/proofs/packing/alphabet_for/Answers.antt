-- `alphabet_for` meets its contract: the first alphabet that has all characters.
-- Assumes nothing.
use mathlib.Core.Path.{sym, ◌∙◌}
use Rattle.forms.proofs.Packs.{first_chosen, second_chosen, none_chosen}
use Rattle.forms.proofs.packing.alphabet_for.Goals as goal

pub returns-then-f : goal.returns-then-f
returns-then-f c = first_chosen _ (sym c.if-f.true ∙ c.fits-f.ensures.0)

pub returns-then-f-2 : goal.returns-then-f-2
returns-then-f-2 c = let e = c.fits-f.ensures in second_chosen _ (sym c.if-f.false ∙ e.0) (sym c.if-f-2.true ∙ e.1)

pub returns : goal.returns
returns c = let e = c.fits-f.ensures in none_chosen _ (sym c.if-f.false ∙ e.0) (sym c.if-f-2.false ∙ e.1)
