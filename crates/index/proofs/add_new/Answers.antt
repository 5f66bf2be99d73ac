-- `add_new` meets its contract: built in, known, no room, or put in front of its chain.
-- Assumes nothing.
use native.Mathlib.Omega.{arith}
use mathlib.Core.Path.{refl, sym, ◌∙◌}
use Rattle.format.specs.declared.StringForm.TheVariants.{Utf8}
use Rattle.tables.proofs.FormLaws.{form_identifying}
use Rattle.index.proofs.Walks.{string_new}
use Rattle.index.proofs.Entered.{string_last, string_entered, string_added}
use Rattle.index.proofs.add_new.Goals as goal

pub add_built_in-requires : goal.add_built_in-requires
add_built_in-requires c =
    let p = c.requires in
    (p.0, p.2, p.3, p.4, p.5, p.10, p.6, sym c.is_built_in.ensures ∙ c.if-is_built_in.true)

pub returns-then-is_built_in : goal.returns-then-is_built_in
returns-then-is_built_in c = c.add_built_in.ensures _

pub is_listed-requires : goal.is_listed-requires
is_listed-requires c =
    let p = c.requires in
    (p.0, p.1, p.2, p.3, p.4, p.5, p.6, p.7, p.8, p.9, sym c.is_built_in.ensures ∙ c.if-is_built_in.false)

pub returns-then-is_listed : goal.returns-then-is_listed
returns-then-is_listed c = (sym c.is_listed.ensures ∙ c.if-is_listed.true, refl, refl)

pub returns-then-n-ge-ENTRIES : goal.returns-then-n-ge-ENTRIES
returns-then-n-ge-ENTRIES c = (sym c.is_listed.ensures ∙ c.if-is_listed.false, omega arith, refl, refl)

pub returns-then-n-lt-LAST : goal.returns-then-n-lt-LAST
returns-then-n-lt-LAST c =
    let p = c.requires in
    let utf8 = form_identifying c.args.table 0 p.2 in
    let room = c.if-n-lt-LAST.true in
    let n1 = c.narrow.ensures in
    let n2 = c.narrow-2.ensures in
    let new = sym c.is_listed.ensures ∙ c.if-is_listed.false in (
      new,
      omega (arith, room),
      string_added _ _ _ _ _ _ _ Utf8 _ (omega arith) (omega (arith, room)) p.0 p.4 utf8 _ _ (rw (n1, n2) at c.add.ensures)
          (rw (c.push.ensures, p.8) (string_entered _ _ _ _ _ _ _ Utf8 _ (omega arith) (omega (arith, room)) p.0 p.4 utf8 (omega (arith, room)) (string_new _ new) (sym c.is_built_in.ensures ∙ c.if-is_built_in.false))),
    )

pub returns-else-n-lt-LAST : goal.returns-else-n-lt-LAST
returns-else-n-lt-LAST c =
    let p = c.requires in
    let utf8 = form_identifying c.args.table 0 p.2 in
    let n1 = c.narrow.ensures in
    let n2 = c.narrow-2.ensures in (
      sym c.is_listed.ensures ∙ c.if-is_listed.false,
      omega arith,
      string_added _ _ _ _ _ _ _ Utf8 _ (omega arith) (omega arith) p.0 p.4 utf8 _ _ (rw (n1, n2) at c.add.ensures) (string_last _ _ _ _ _ _ _ Utf8 _ (omega arith) (omega arith) p.0 p.4 utf8 (omega arith)),
    )
