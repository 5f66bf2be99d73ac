-- `pair` meets its contract: the namespace's number is the same once the prefix is written, and what is full then stays so.
-- Assumes nothing.
use native.Mathlib.Omega.{arith}
use Rattle.std.proofs.lemmas.Result.{err_from_is_err_and}
use Rattle.write_names.proofs.NameLaws.{pair_full, pair_looked, pair-behind}
use Rattle.write_names.proofs.naming.pair.Goals as goal

pub optional-requires : goal.optional-requires
optional-requires c =
    (c.requires.0, omega arith, c.requires.4)

pub returns-in_err-behind : goal.returns-in_err-behind
returns-in_err-behind c =
    let full = rw c.requires.2 at c.in_err-behind.ensures in
    let p = err_from_is_err_and c.from_residual.result c.from_residual.ensures.1 in
    rw (p.1, p.2) (full.0, pair_full _ _ _ _ _ full.1)

pub optional-requires-2 : goal.optional-requires-2
optional-requires-2 c =
    let stands = rw c.requires.2 at c.in_ok-behind.ensures in
    let few = stands.few in
    let looked = pair_looked _ _ _ _ c.requires.0 _ _ _ stands.order _ c.args.x.namespace c.requires.3 stands.tables c.requires.5 in
    (stands.order, omega arith, looked)

pub returns : goal.returns
returns c =
    let stands = rw c.requires.2 at c.in_ok-behind.ensures in
    let then = rw c.requires.3 at c.optional-2.ensures in
    let last = c.optional-2.new in
    pair-behind _ _ c.args.x.first _ _ c.args.out.now c.args.at _ c.put.ensures stands c.optional-2.result last.out last.counts last.t last.index then
