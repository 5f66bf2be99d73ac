-- `value` meets its contract: the first octet's bits pick the case of the definition.
-- Assumes nothing.
use mathlib.Core.Path.{refl, sym}
use native.Mathlib.Omega.{arith}
use Rattle.fields.proofs.Bounds.{field_got}
use Rattle.read_names.proofs.StringLaws.{handed_on, value_empty, value_held, value_spelled}
use Rattle.read_names.proofs.strings.value.Goals as goal

pub returns-then-o : goal.returns-then-o
returns-then-o c = λ x tidy. value_empty _ _ _ x _ _ tidy c.requires.5 _ c.octet-o.ensures c.if-o.true

pub returns-in_err-number : goal.returns-in_err-number
returns-in_err-number c =
    λ x tidy.
    rw (handed_on _ _ c.from_residual.ensures) (value_held _ _ _ x _ _ tidy c.requires.5 _ c.octet-o.ensures _ c.bits.ensures c.if-o.false c.if-bits-eq1.true _ c.in_err-number.ensures _ refl)

pub said-requires : goal.said-requires
said-requires c =
    (c.requires.0, c.requires.1, c.requires.5, c.requires.6, (field_got _ _ _ _ _ (sym c.in_ok-number.ensures)).0)

pub returns-then-bits-eq1 : goal.returns-then-bits-eq1
returns-then-bits-eq1 c =
    λ x tidy. value_held _ _ _ x _ _ tidy c.requires.5 _ c.octet-o.ensures _ c.bits.ensures c.if-o.false c.if-bits-eq1.true _ c.in_ok-number.ensures _ c.said.ensures

pub returns : goal.returns
returns c =
    λ x tidy. value_spelled _ _ _ x _ _ tidy c.requires.5 _ c.octet-o.ensures _ c.bits.ensures (omega arith) c.if-bits-eq1.false _ c.bits-2.ensures c.spelled.result _ _ (c.spelled.ensures x tidy c.requires.4)
