-- `words::is_kind` meets its contract: a record of words is of a kind where it has the kind's number and all four strings.
-- Assumes nothing.
use mathlib.Core.Path.{sym, ◌∙◌}
use native.Mathlib.Omega.{arith}
use borrow.Author.Tests.{ltb-true}
use Rattle.events.specs.Words.{kind_number}
use Rattle.events.proofs.KindLaws.{same_begins, other_begins, number_le}
use Rattle.events.proofs.words.is_kind.Goals as goal

pub returns-then-w-at : goal.returns-then-w-at
returns-then-w-at c =
    let inside = ltb-true _ _ (sym c.has_record.ensures ∙ c.if-not-has_record.false) in
    other_begins c.args.w.now c.args.n (kind_number c.args.kind) c.requires inside (omega arith)

pub returns-then-is_told_at-3 : goal.returns-then-is_told_at-3
returns-then-is_told_at-3 c =
    let inside = ltb-true _ _ (sym c.has_record.ensures ∙ c.if-not-has_record.false) in
    let told = same_begins c.args.w.now c.args.n (kind_number c.args.kind) c.requires inside (number_le c.args.kind) (omega arith) in
    rw (
      ← told,
      ← c.is_told_at.ensures,
      c.if-is_told_at.true,
      ← c.is_told_at-then-is_told_at.ensures,
      c.if-is_told_at-2.true,
      ← c.is_told_at-then-is_told_at-2.ensures,
      c.if-is_told_at-3.true,
      ← c.is_told_at-then-is_told_at-3.ensures,
    )
