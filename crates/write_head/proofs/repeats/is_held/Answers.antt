-- `is_held` meets its contract: none of the rows before is the same.
-- Assumes nothing.
use native.Mathlib.Omega.{arith}
use mathlib.Core.Path.{sym, ◌∙◌}
use Rattle.write_head.proofs.RowLaws.{some_none, some_more, held_start, held_before, held_not, right_tag, right_lies}
use Rattle.write_head.proofs.repeats.is_held.Goals as goal

pub is_built_in-requires : goal.is_built_in-requires
is_built_in-requires c = let e = c.rows_of-rows.ensures.0 in (omega arith, λ k. rw e (right_tag _ _ c.requires.3 _ _ c.requires.1 c.requires.2 (c.requires.4 k), (right_lies _ _ c.requires.3 _ _ c.requires.1 c.requires.2 k).1))

pub returns-then-is_built_in : goal.returns-then-is_built_in
returns-then-is_built_in c = let e = c.rows_of-rows.ensures.0 in held_start _ _ _ _ (rw (← e) (sym c.if-is_built_in.true ∙ c.is_built_in.ensures))

pub loop-j-init : goal.loop-j-init
loop-j-init c = some_none _

pub is_same-requires : goal.is_same-requires
is_same-requires c =
    let l = c.loop-j in
    let e = c.rows_of-rows.ensures.0 in (omega arith, omega arith, λ k. rw e (right_tag _ _ c.requires.3 _ l.j c.requires.1 (omega arith) (c.requires.4 k), (right_lies _ _ c.requires.3 _ l.j c.requires.1 (omega arith) k).1, right_tag _ _ c.requires.3 _ _ c.requires.1 c.requires.2 (c.requires.4 k), (right_lies _ _ c.requires.3 _ _ c.requires.1 c.requires.2 k).1))

pub returns-then-is_same : goal.returns-then-is_same
returns-then-is_same c = let e = c.rows_of-rows.ensures.0 in held_before _ _ _ _ c.loop-j.j (omega arith) (rw (← e) (sym c.if-is_same.true ∙ c.is_same.ensures))

pub loop-j-preserved : goal.loop-j-preserved
loop-j-preserved c = let e = c.rows_of-rows.ensures.0 in some_more _ _ c.loop-j.invariant (rw (← e) (sym c.is_same.ensures ∙ c.if-is_same.false))

pub returns : goal.returns
returns c = let e = c.rows_of-rows.ensures.0 in held_not _ _ _ _ (rw (← e) (sym c.if-is_built_in.false ∙ c.is_built_in.ensures)) _ (omega arith) (omega arith) c.loop-j.invariant
