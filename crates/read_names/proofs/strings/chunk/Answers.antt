-- `chunk` meets its contract: the first octet's bits pick the case of the definition.
-- Assumes nothing.
use mathlib.Core.Path.{refl, sym}
use native.Mathlib.Omega.{arith}
use Rattle.tables.specs.Rows.{table_of}
use Rattle.fields.proofs.Bounds.{field_got}
use Rattle.read_names.proofs.StringLaws.{handed_on, length_given, spelled_utf8, chunk_held, chunk_spelled}
use Rattle.read_names.proofs.strings.chunk.Goals as goal

pub returns-in_err-number : goal.returns-in_err-number
unfolding table_of
returns-in_err-number c =
    λ x tidy.
    rw (handed_on _ _ c.from_residual.ensures)
    (chunk_held _ _ _ x 6 _ tidy (omega arith) _ c.octet-o.ensures (rw c.octet-o.ensures c.requires.5) (rw c.octet-o.ensures c.requires.6) _ c.bits.ensures c.if-bits-eq1.true _ c.in_err-number.ensures _ refl)

pub said-requires : goal.said-requires
said-requires c =
    (c.requires.0, c.requires.1, omega arith, c.requires.4, (field_got _ _ _ _ _ (sym c.in_ok-number.ensures)).0)

pub returns-then-bits-eq1 : goal.returns-then-bits-eq1
unfolding table_of
returns-then-bits-eq1 c =
    λ x tidy. chunk_held _ _ _ x 6 _ tidy (omega arith) _ c.octet-o.ensures (rw c.octet-o.ensures c.requires.5) (rw c.octet-o.ensures c.requires.6) _ c.bits.ensures c.if-bits-eq1.true _ c.in_ok-number.ensures _ c.said.ensures

pub returns-then-bits-ne0 : goal.returns-then-bits-ne0
unfolding table_of
returns-then-bits-ne0 c =
    λ x tidy. chunk_spelled _ _ _ x 6 _ tidy (omega arith) _ c.octet-o.ensures (rw c.octet-o.ensures c.requires.5) (rw c.octet-o.ensures c.requires.6) _ c.bits.ensures c.if-bits-eq1.false _ c.bits-add.ensures c.in_form.result _ _ (c.in_form.ensures x tidy (omega arith))

pub formed-requires : goal.formed-requires
formed-requires c =
    (c.requires.0, c.requires.1, c.requires.2, omega arith, length_given _ _ 7 _ c.length-len.ensures)

pub returns : goal.returns
unfolding table_of
returns c =
    λ x tidy. chunk_spelled _ _ _ x 6 _ tidy (omega arith) _ c.octet-o.ensures (rw c.octet-o.ensures c.requires.5) (rw c.octet-o.ensures c.requires.6) _ c.bits.ensures c.if-bits-eq1.false _ c.bits-add.ensures c.formed.result _ _
    (spelled_utf8 _ _ _ x 6 _ tidy (omega arith) 7 _ (omega arith) _ _ c.octet-o.ensures c.bits-2.ensures _ c.formed.result _ _ c.if-bits-ne0.false c.length-len.ensures (c.formed.ensures x tidy (omega arith)))
