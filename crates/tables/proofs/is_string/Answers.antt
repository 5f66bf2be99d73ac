-- `is_string` meets its contract: the row is the built-in string where its length is 0, else a stretch in utf-8.
-- Assumes nothing.
use native.Mathlib.Omega.{arith}
use borrow.Author.Rules.{rules}
use Rattle.tables.proofs.FormLaws.{form_identifying}
use Rattle.tables.proofs.Search.{is_built_in, is_spelled, spelled_ends}
use Rattle.tables.proofs.is_string.Goals as goal

pub returns-then-e-eq0 : goal.returns-then-e-eq0
returns-then-e-eq0 c = is_built_in _ _ _ c.entry-e.ensures _ _ _ _ c.if-e-eq0.true c.is_built_in.ensures

pub same_octets-requires : goal.same_octets-requires
same_octets-requires c =
    let a = c.args in
    let h = spelled_ends _ _ _ c.entry-e.ensures a.s.now _ c.if-e-eq0.false c.requires.4 in
    search rules

pub returns : goal.returns
returns c =
    let e = rw (c.wide.ensures, c.wide-2.ensures) at c.same_octets.ensures in
    is_spelled _ _ _ c.entry-e.ensures _ _ _ _ c.if-e-eq0.false (form_identifying _ _ (omega arith)) e
