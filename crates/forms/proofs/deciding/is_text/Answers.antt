-- `is_text` meets its contract: each form has its test.
-- Assumes nothing.
use mathlib.Core.Logic.{inl, inr}
use Rattle.format.specs.declared.StringForm.TheVariants.{Utf8, Utf16, Numeric, Dates, Short, Int, Long}
use Rattle.forms.proofs.Forms.{tested}
use Rattle.forms.proofs.Sizes.{integers_told}
use Rattle.forms.proofs.deciding.is_text.Goals as goal

pub returns-in-Utf8 : goal.returns-in-Utf8
returns-in-Utf8 c = tested _ Utf8 _ _ c.in-Utf8.is c.is_text.ensures

pub returns-in-Utf16 : goal.returns-in-Utf16
returns-in-Utf16 c = tested _ Utf16 _ _ c.in-Utf16.is c.is_text16.ensures

pub returns-in-Numeric : goal.returns-in-Numeric
returns-in-Numeric c =
    elim c.in-Numeric.is [
      | inl e ↦ tested _ Numeric _ _ e c.are_places.ensures
      | inr e ↦ tested _ Dates _ _ e c.are_places.ensures
    ]

pub returns-in-Short : goal.returns-in-Short
returns-in-Short c = tested _ Short _ _ c.in-Short.is (integers_told c.args.s.now c.args.at c.args.to 2 _ c.requires.1 (λ i. (c.type_inv.s i).fits) c.is_whole.ensures)

pub returns-in-Int : goal.returns-in-Int
returns-in-Int c = tested _ Int _ _ c.in-Int.is (integers_told c.args.s.now c.args.at c.args.to 4 _ c.requires.1 (λ i. (c.type_inv.s i).fits) c.is_whole-in-Int.ensures)

pub returns-in-Long : goal.returns-in-Long
returns-in-Long c = tested _ Long _ _ c.in-Long.is (integers_told c.args.s.now c.args.at c.args.to 8 _ c.requires.1 (λ i. (c.type_inv.s i).fits) c.is_whole-in-Long.ensures)
