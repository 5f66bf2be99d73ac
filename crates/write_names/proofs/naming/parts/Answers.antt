-- `parts` meets its contract: the local name's number is the same once the prefix and the namespace are written, and what is full then stays so.
-- Assumes nothing.
use native.Mathlib.Omega.{arith}
use mathlib.Core.Path.{refl}
use Rattle.tables.specs.Rows.{table_of}
use Rattle.std.proofs.lemmas.Result.{err_from_is_err_and}
use Rattle.write_names.proofs.NameLaws.{triple_new, local_held, parts_full, local_full, parts-behind}
use Rattle.write_names.proofs.naming.parts.Goals as goal

pub pair-requires : goal.pair-requires
unfolding table_of
pair-requires c =
    let held = c.requires.2.held in
    (c.requires.0, c.requires.1, refl, refl, (omega arith, c.requires.3.3, held.prefix, held.few.0), (omega arith, c.requires.3.4, held.namespace, held.few.1))

pub returns-in_err-behind : goal.returns-in_err-behind
returns-in_err-behind c =
    let full = c.in_err-behind.ensures in
    let p = err_from_is_err_and c.from_residual.result c.from_residual.ensures.1 in
    rw (p.1, p.2) (full.0, parts_full _ _ _ c.args.name c.args.k c.requires.2 full.1)

pub id-requires : goal.id-requires
id-requires c =
    let stands = c.in_ok-behind.ensures in
    let few = stands.few in
    let held = c.requires.2.held in
    (stands.order, omega arith, c.requires.3.6, (omega arith, c.requires.3.5, local_held _ _ _ _ stands.order _ _ _ _ _ _ stands.tables held.local, held.few.2))

pub returns-in_err-next : goal.returns-in_err-next
returns-in_err-next c =
    let full = c.in_err-next.ensures in
    let p = err_from_is_err_and c.from_residual-in_err-next.result c.from_residual-in_err-next.ensures.1 in
    rw (p.1, p.2) (full.0, local_full _ _ _ c.args.name c.args.k c.requires.2 c.in_ok-behind.ensures full.1)

pub triple-requires : goal.triple-requires
triple-requires c =
    let stands = c.in_ok-behind.ensures in
    let then = c.in_ok-next.ensures in
    let proper = c.requires.3 in
    (then.order.room, then.order.ten, then.order.indexed.size, proper.0, proper.1, triple_new _ _ _ c.args.name c.args.k c.requires.2 stands proper then)

pub returns : goal.returns
returns c =
    let stands = c.in_ok-behind.ensures in
    let then = c.in_ok-next.ensures in
    let proper = c.requires.3 in
    let i = c.parts_bits.ensures in
    let a = c.has.ensures in
    let b = c.has-2.ensures in
    let last = c.triple.new in
    parts-behind _ _ _ c.args.name c.args.k c.requires.2 stands proper then (omega arith) c.triple.result last.counts last.t last.index c.triple.ensures
