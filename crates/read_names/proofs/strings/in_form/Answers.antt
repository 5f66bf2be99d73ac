-- `in_form` meets its contract: the format picks the case of the definition.
-- Assumes nothing.
use mathlib.Core.Path.{sym, ◌∙◌}
use native.Mathlib.Omega.{arith}
use Rattle.read_names.specs.Strings.{form_by}
use Rattle.read_names.proofs.StringLaws.{length_given, spelled_utf16, spelled_method}
use Rattle.read_names.proofs.MethodLaws.{method_read}
use Rattle.read_names.proofs.strings.in_form.Goals as goal

pub formed-requires : goal.formed-requires
formed-requires c =
    (c.requires.0, c.requires.1, c.requires.2, c.requires.4, length_given _ _ _ _ c.length-len.ensures)

pub returns-then-format-eq1 : goal.returns-then-format-eq1
returns-then-format-eq1 c =
    λ x tidy l. spelled_utf16 _ _ _ x _ _ tidy c.requires.4 _ _ (omega arith) _ _ c.octet.ensures c.bits-format.ensures _ c.formed.result _ _ c.if-format-eq1.true c.length-len.ensures (c.formed.ensures x tidy l)

pub formed-requires-2 : goal.formed-requires-2
formed-requires-2 c =
    (c.requires.0, c.requires.1, c.requires.2, c.requires.4, method_read _ _ _ _ _ _ c.method_length-len.ensures)

pub returns : goal.returns
unfolding form_by
returns c =
    λ x tidy l.
    spelled_method _ _ _ x _ _ tidy c.requires.4 _ _ (omega arith) _ _ c.octet.ensures c.bits-format.ensures _ c.formed-2.result _ _ _
    (λ z. c.requires.7 (rw c.octet.ensures at (sym c.bits-format.ensures ∙ z))) c.if-format-eq1.false
    (rw c.method.ensures.0 at c.of-form.ensures) c.method_length-len.ensures (c.formed-2.ensures x tidy l)
