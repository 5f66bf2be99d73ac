-- `is_alike` meets its contract: in one form equal strings have equal octets, and a row without length is none; else by what both say.
-- Assumes nothing.
use native.Mathlib.Omega.{arith}
use native.Mathlib.Decide.{dec_lt}
use mathlib.Core.Path.{sym, ◌∙◌}
use Prim.Native.Nat.{◌+◌}
use lib.ListN.{get_or}
use Rattle.format.specs.declared.StringForm.TheVariants.{Utf8}
use Rattle.tables.proofs.FormLaws.{form_of_lem}
use Rattle.tables.proofs.SaidLaws.{same_form, says_some, none_spelled, none_row, some_row}
use Rattle.index.proofs.is_alike.Goals as goal

pub is_spelled-requires : goal.is_spelled-requires
is_spelled-requires c = let p = c.requires in (p.0, p.1, p.2, p.3, p.4, λ z. (p.6 z).0)

pub returns-then-t-j : goal.returns-then-t-j
returns-then-t-j c =
    let a = c.args in
    let p = c.requires in
    let t = a.t.now in
    let f = form_of_lem (get_or t (a.j + 2) 0) a.form (c.if-t-j.true ∙ c.number.ensures.0) in
    let some = says_some a.s.now a.form a.place a.len p.3 p.2 in
    elim (dec_lt 0 (get_or t (a.j + 1) 0)) [
      | yes l ↦ rw (some_row t a.j (λ z. omega arith)) (c.is_spelled.ensures ∙ same_form _ _ _ _ _ _ _ f (p.6 (λ z. omega arith)).1 p.5)
      | no l ↦ (c.is_spelled.ensures ∙ sym (none_spelled a.s.now _ _ _ (omega arith) (says_some a.s.now Utf8 a.place a.len p.3 p.2)) ∙ none_row _ _ _ _ (omega arith) some)
    ]

pub is_said-requires : goal.is_said-requires
is_said-requires c = let p = c.requires in (p.0, p.1, p.2, p.3, p.5, p.6)
