-- `is_spelled` meets its contract: another length, or another last octet, is another string.
-- Assumes nothing.
use mathlib.Core.Path.{◌≡◌, refl, sym, ◌∙◌}
use Prim.Native.Nat.{◌+◌}
use native.Mathlib.Omega.{arith}
use lib.ListN.{get_or}
use Rattle.tables.proofs.Search.{other_row, same-octet, same_differ}
use Rattle.tables.proofs.is_spelled.Goals as goal

pub returns-then-wide-len : goal.returns-then-wide-len
returns-then-wide-len c = let e = c.wide.ensures in let f = c.if-wide-len.true in other_row _ _ _ c.requires.5 _ _ (omega arith) (omega arith)

pub overflow_add-at : goal.overflow_add-at
overflow_add-at c = let l = c.requires.5 (omega arith) in omega arith

pub bounds-s-at : goal.bounds-s-at
bounds-s-at c = let l = c.requires.5 (omega arith) in omega arith

pub returns-then-s-at : goal.returns-then-s-at
returns-then-s-at c =
    let b : get_or c.args.t.now (c.args.j + 1) 0 ≡ c.args.len = omega arith in
    let l = c.requires.5 (omega arith) in
    rw (b, ← c.wide-at.ensures)
    (same_differ _ _ _ _ _ _ 1 _ _ (omega arith) (omega arith) (omega arith) (same-octet _ _ _ _ (omega arith) (omega arith)) refl (λ q. c.if-s-at.true (q ∙ sym c.requires.4)))

pub same_octets-requires : goal.same_octets-requires
same_octets-requires c = let l = c.requires.5 (omega arith) in omega arith

pub returns : goal.returns
returns c =
    let b : get_or c.args.t.now (c.args.j + 1) 0 ≡ c.args.len = omega arith in
    rw (b, ← c.wide-at.ensures) c.same_octets.ensures
