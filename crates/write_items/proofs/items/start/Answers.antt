-- `start` meets its contract: a law for each way out.
-- Assumes nothing.
use native.Mathlib.Omega.{arith}
use Rattle.std.proofs.lemmas.Result.{err_from_is_err_and}
use Rattle.events.specs.declared.Kind.TheVariants.{Start}
use Rattle.write_items.proofs.WellMade.{by_kind}
use Rattle.write_items.proofs.ItemLaws.{name_ready, start_room, start_full, start_lands}
use Rattle.write_items.proofs.items.start.Goals as goal

pub name-requires : goal.name-requires
name-requires c =
    (c.requires.order, omega (arith, c.octet.ensures.1, c.before_name-at.ensures.1), name_ready c.args.text.now 8 _ c.args.e _ c.name_of-name.ensures (omega arith) (omega arith) (omega (arith, c.name_lead.ensures.1)) (by_kind c.args.text.now c.args.e Start c.requires.made).0)

pub returns-in_err-next : goal.returns-in_err-next
returns-in_err-next c =
    let full = c.in_err-next.ensures in
    let p = err_from_is_err_and c.from_residual.result c.from_residual.ensures.1 in
    rw (p.1, p.2) (full.0, start_full _ _ _ _ _ _ c.requires c.octet.ensures c.before_name-at.ensures c.name_lead.ensures.0 _ c.name_of-name.ensures full.1)

pub opened-requires : goal.opened-requires
opened-requires c =
    let low = c.octet.ensures.1 in
    let first = c.before_name-at.ensures.1 in
    let few = c.in_ok-next.ensures.few in
    (omega arith, start_room c.requires)

pub returns : goal.returns
returns c = rw c.opened.ensures (start_lands _ _ _ _ _ _ c.requires c.octet.ensures c.before_name-at.ensures c.name_lead.ensures.0 _ c.name_of-name.ensures c.in_ok-next.ensures)
