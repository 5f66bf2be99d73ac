-- `attribute` meets its contract: a law for each way out.
-- Assumes nothing.
use native.Mathlib.Omega.{arith}
use Rattle.std.proofs.lemmas.Result.{err_from_is_err_and}
use Rattle.events.specs.declared.Kind.TheVariants.{Attribute}
use Rattle.write_items.proofs.WellMade.{by_kind}
use Rattle.write_items.proofs.Strings.{attribute_fills}
use Rattle.write_items.proofs.ItemLaws.{name_ready, attribute_full, attribute_lands}
use Rattle.write_items.proofs.items.attribute.Goals as goal

pub name-requires : goal.name-requires
name-requires c =
    (c.requires.order, omega arith, name_ready c.args.text.now 9 0 c.args.e _ c.name_of-name.ensures (omega arith) (omega arith) (omega arith) (by_kind c.args.text.now c.args.e Attribute c.requires.made).0)

pub returns-in_err-after : goal.returns-in_err-after
returns-in_err-after c =
    let full = c.in_err-after.ensures in
    let p = err_from_is_err_and c.from_residual.result c.from_residual.ensures.1 in
    rw (p.1, p.2) (full.0, attribute_full _ _ c.args.st c.args.counts.now _ c.args.e c.requires _ c.name_of-name.ensures full.1)

pub value-next-requires : goal.value-next-requires
value-next-requires c =
    let stands = c.in_ok-after.ensures in
    let low = c.octet.ensures.1 in
    let few = stands.few in
    (stands.order, omega arith, omega arith, omega arith, attribute_fills c.args.text.now c.args.e c.requires.made c.requires.texts)

pub moved-requires : goal.moved-requires
moved-requires c =
    let low = c.octet.ensures.1 in
    let few = c.in_ok-after.ensures.few in
    let last = c.value-next.ensures.few in
    omega arith

pub returns : goal.returns
returns c = rw c.moved.ensures (attribute_lands _ _ _ _ _ _ c.requires _ c.name_of-name.ensures c.octet.ensures c.in_ok-after.ensures c.value-next.ensures)
