-- `is_said` meets its contract: a row without length is none; in one form the octets are compared as they stand, else what they say.
-- Assumes nothing.
use mathlib.Core.Path.{sym, ◌∙◌}
use Prim.Native.Nat.{◌+◌}
use native.Mathlib.Omega.{arith}
use borrow.Author.Rules.{rules}
use lib.ListN.{get_or}
use Rattle.format.specs.Forms.{form_of}
use Rattle.tables.proofs.FormLaws.{form_of_lem}
use Rattle.tables.proofs.SaidLaws.{same_form, same-said, sound_part, says_some, none_row, some_row}
use Rattle.tables.proofs.is_said.Goals as goal

pub returns-then-n-eq0 : goal.returns-then-n-eq0
returns-then-n-eq0 c =
    let p = c.requires in
    none_row _ _ _ _ (sym c.wide-n.ensures ∙ c.if-n-eq0.true) (says_some _ _ _ _ p.3 p.2)

pub same_octets-requires : goal.same_octets-requires
same_octets-requires c =
    let n = c.wide-n.ensures in
    let a = c.wide-a.ensures in
    let row = (c.requires.5 (λ z. c.if-n-eq0.false (n ∙ z))).0 in
    (omega arith, omega arith)

pub returns-then-number : goal.returns-then-number
returns-then-number c =
    let p = c.requires in
    let n = c.wide-n.ensures in
    let row = (p.5 (λ z. c.if-n-eq0.false (n ∙ z))).1 in
    let e = rw (c.wide-a.ensures, n) at c.same_octets.ensures in
    rw (some_row _ _ (λ z. c.if-n-eq0.false (n ∙ z))) (e ∙ same_form _ _ _ _ _ _ _ (form_of_lem _ _ (c.if-number.true ∙ c.number.ensures.0)) row p.4)

pub overflow_add-a : goal.overflow_add-a
overflow_add-a c =
    let n = c.wide-n.ensures in
    let row = (c.requires.5 (λ z. c.if-n-eq0.false (n ∙ z))).0 in
    search rules

pub same-requires : goal.same-requires
same-requires c =
    let x = c.args in
    let p = c.requires in
    let n = c.wide-n.ensures in
    let a = c.wide-a.ensures in
    let row = p.5 (λ z. c.if-n-eq0.false (n ∙ z)) in
    let ends = row.0 in
    let t = x.t.now in
    let sound = sound_part x.s.now (form_of (get_or t (x.j + 2) 0)) (get_or t x.j 0) (get_or t (x.j + 1) 0) row.1 in
    (omega arith, omega arith, rw (c.of.ensures, a, n) sound, omega arith, omega arith, sound_part x.s.now x.form x.place x.len p.4)

pub returns : goal.returns
returns c =
    let n = c.wide-n.ensures in
    rw (some_row _ _ (λ z. c.if-n-eq0.false (n ∙ z))) (rw (c.of.ensures, c.wide-a.ensures, c.wide-n.ensures) at c.same.ensures ∙ same-said _ _ _ _ _ _ _)
