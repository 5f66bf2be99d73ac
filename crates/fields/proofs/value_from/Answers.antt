-- `value_from` meets its contract: what is left to read behind v is what was to be read behind x.
-- Assumes nothing.
use Rattle.std.proofs.Common.{◌+◌, sym, ◌∙◌, arith}
use Rattle.std.proofs.lemmas.List.Edits.{get_or-between}
use Rattle.fields.proofs.Cases.{value_next, value_end, value_grows, value_small}
use Rattle.fields.proofs.value_from.Goals as goal

pub overflow_mul-v : goal.overflow_mul-v
overflow_mul-v c = let l = c.loop-o in omega (arith, value_small l.v l.o-index (omega arith) l.invariant.1)

pub overflow_add-v : goal.overflow_add-v
overflow_add-v c = let l = c.loop-o in omega (arith, value_small l.v l.o-index (omega arith) l.invariant.1)

pub loop-o-preserved : goal.loop-o-preserved
loop-o-preserved c =
    let a = c.args in
    let l = c.loop-o in
    (value_next a.s.now a.at a.more _ l.v _ l.o-index (omega arith) (let b = get_or-between a.s.now a.at (a.at + a.more) l.o-index 0 in grind arith) l.invariant.0, value_grows l.v _ l.o-index l.invariant.1 (omega arith))

pub returns : goal.returns
returns c =
    let a = c.args in
    let l = c.loop-o in
    (sym (value_end a.s.now a.at a.more l.v l.o-index (omega arith)) ∙ l.invariant.0, value_small l.v l.o-index (omega arith) l.invariant.1)
