-- `fresh` meets its contract: each way out is a case of the definition, and leaves the tables and their index in order.
-- Assumes nothing.
use native.Mathlib.Omega.{arith}
use borrow.Author.Tests.{not-true, not-false}
use Rattle.read_names.proofs.StringLaws.{handed_on, length-read, table_small, table_inside, table_indexed, fresh_refused, fresh_past, fresh_bad, new_not, new_done}
use Rattle.read_names.proofs.strings.fresh.Goals as goal

pub returns-in_err-len : goal.returns-in_err-len
returns-in_err-len c =
    rw (handed_on _ _ c.from_residual.ensures) (fresh_refused _ _ _ _ _ _ c.requires.0 (let z = c.requires.1 in omega arith) c.requires.2 _ c.in_err-len.ensures)

pub overflow_sub-s : goal.overflow_sub-s
overflow_sub-s c = (length-read _ _ 2 _ c.in_ok-len.ensures).1

pub returns-then-s-first : goal.returns-then-s-first
returns-then-s-first c =
    rw c.at.ensures (fresh_past _ _ _ _ _ _ c.requires.0 (let z = c.requires.1 in omega arith) c.requires.2 _ c.in_ok-len.ensures (omega arith))

pub mark-m-requires : goal.mark-m-requires
mark-m-requires c = let l = length-read _ _ 2 _ c.in_ok-len.ensures in (l.0, omega arith)

pub returns-then-not-m : goal.returns-then-not-m
returns-then-not-m c =
    let l = length-read _ _ 2 _ c.in_ok-len.ensures in
    rw c.at-then-not-m.ensures
    (fresh_bad _ _ _ _ _ _ c.requires.0 (let z = c.requires.1 in omega arith) c.requires.2 _ c.in_ok-len.ensures (omega arith) (rw (← c.mark-m.ensures.2) (not-true _ c.if-not-m.true)))

pub add_new-requires : goal.add_new-requires
add_new-requires c =
    let z = c.requires.0.size in
    let l = length-read _ _ 2 _ c.in_ok-len.ensures in (
      c.requires.0.room,
      c.requires.0.indexed.size,
      omega arith,
      table_small _ _ _ _ _ c.requires.0,
      l.0,
      omega arith,
      table_inside _ _ _ _ _ c.requires.0 (omega arith),
      table_indexed _ _ _ _ _ c.requires.0 c.requires.1,
      c.mark-m.ensures.0,
      c.mark-m.ensures.1,
      omega arith,
    )

pub returns-in-Err : goal.returns-in-Err
returns-in-Err c =
    let l = length-read _ _ 2 _ c.in_ok-len.ensures in
    rw c.at-in-Err.ensures
    (new_not _ _ _ _ _ _ c.requires.0 (let z = c.requires.1 in omega arith) c.requires.2 _ c.in_ok-len.ensures (omega arith) (rw (← c.mark-m.ensures.2) (not-false _ c.if-not-m.false)) _ _ _ c.in-Err.ensures)

pub returns : goal.returns
returns c =
    let l = length-read _ _ 2 _ c.in_ok-len.ensures in
    new_done _ _ _ _ _ _ c.requires.0 (let z = c.requires.1 in omega arith) c.requires.2 _ c.in_ok-len.ensures (omega arith) (rw (← c.mark-m.ensures.2) (not-false _ c.if-not-m.false)) _ _ c.in_default.ensures
