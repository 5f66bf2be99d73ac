-- `declare` meets its contract: a law for each way out.
-- Assumes nothing.
use native.Mathlib.Omega.{arith}
use Rattle.std.proofs.lemmas.Result.{err_from_is_err_and}
use Rattle.events.specs.declared.Kind.TheVariants.{Namespace}
use Rattle.write_items.proofs.WellMade.{by_kind}
use Rattle.write_items.proofs.Strings.{prefix_suits, namespace_suits}
use Rattle.write_items.proofs.ItemLaws.{declare_full, declare_lands}
use Rattle.write_items.proofs.items.declare.Goals as goal

pub declared-requires : goal.declared-requires
declared-requires c =
    let made = by_kind c.args.text.now c.args.e Namespace c.requires.made in
    (c.requires.order, omega arith, prefix_suits c.args.text.now c.args.e.prefix made.0, namespace_suits c.args.text.now c.args.e.namespace made.1)

pub returns-in_err-next : goal.returns-in_err-next
returns-in_err-next c =
    let full = c.in_err-next.ensures in
    let p = err_from_is_err_and c.from_residual.result c.from_residual.ensures.1 in
    rw (p.1, p.2) (full.0, declare_full _ _ c.args.st c.args.counts.now _ c.args.e full.1)

pub moved-requires : goal.moved-requires
moved-requires c =
    let low = c.octet.ensures.1 in
    let first = c.before_declaration-at.ensures.1 in
    let few = c.in_ok-next.ensures.few in
    omega arith

pub returns : goal.returns
returns c = rw (c.moved.ensures, c.declaring.ensures) (declare_lands _ _ _ _ _ _ c.requires c.octet.ensures c.before_declaration-at.ensures c.in_ok-next.ensures)
