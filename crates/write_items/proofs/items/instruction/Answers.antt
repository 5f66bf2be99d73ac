-- `instruction` meets its contract: a law for each way out.
-- Assumes nothing.
use native.Mathlib.Omega.{arith}
use Rattle.std.proofs.lemmas.Result.{err_from_is_err_and}
use Rattle.events.specs.declared.Kind.TheVariants.{Instruction}
use Rattle.write_items.proofs.WellMade.{by_kind}
use Rattle.write_items.proofs.Strings.{stretch_suits, instruction_fills}
use Rattle.write_items.proofs.ItemLaws.{instruction_full, instruction_lands}
use Rattle.write_items.proofs.items.instruction.Goals as goal

pub identified-requires : goal.identified-requires
identified-requires c =
    let s = stretch_suits c.args.text.now 3 c.args.e.name (by_kind c.args.text.now c.args.e Instruction c.requires.made).1 in
    (c.requires.order, omega arith, s.1, omega arith, s.0)

pub returns-in_err-after : goal.returns-in_err-after
returns-in_err-after c =
    let full = c.in_err-after.ensures in
    let p = err_from_is_err_and c.from_residual.result c.from_residual.ensures.1 in
    rw (p.1, p.2) (full.0, instruction_full _ _ c.args.st c.args.counts.now _ c.args.e full.1)

pub value-next-requires : goal.value-next-requires
value-next-requires c =
    let stands = c.in_ok-after.ensures in
    let low = c.octet-at.ensures.1 in
    let few = stands.few in
    (stands.order, omega arith, omega arith, omega arith, instruction_fills c.args.text.now c.args.e c.requires.made c.requires.texts)

pub moved-requires : goal.moved-requires
moved-requires c =
    let low = c.octet-at.ensures.1 in
    let few = c.in_ok-after.ensures.few in
    let last = c.value-next.ensures.few in
    omega arith

pub returns : goal.returns
returns c = rw c.moved.ensures (instruction_lands _ _ _ _ _ _ c.requires c.octet-at.ensures c.put.ensures c.in_ok-after.ensures c.value-next.ensures)
