-- `is_string` meets its contract: only the tags of stretches stand for one.
-- Assumes nothing.
use native.Mathlib.Omega.{arith}
use borrow.Author.Tests.{leb-true, leb-false, lt-leb, eq-eqb}
use mathlib.Core.Path.{sym, ◌∙◌}
use mathlib.Core.Bool.{true≢false}
use mathlib.Core.Logic.{⊎_elim, inl, inr}
use Rattle.write_head.proofs.RowLaws.{no_string, string_tag}
use Rattle.write_head.proofs.judge.is_string.Goals.{then-tag-eq-STRETCH, else-tag-eq-STRETCH+then-tag-ge-UTF16, else-tag-eq-STRETCH+else-tag-ge-UTF16}
use Rattle.write_head.proofs.judge.is_string.Goals as goal

pub returns-then-is_stretch : goal.returns-then-is_stretch
returns-then-is_stretch c =
    let t = c.if-is_stretch.true in
    c.lies_in.ensures
    ∙ string_tag _ _ _
    (elim c.if-tag-eq-STRETCH.branch [
      | then-tag-eq-STRETCH w ↦ inl (omega arith)
      | else-tag-eq-STRETCH+then-tag-ge-UTF16 w ↦ inr (omega arith, leb-true _ 10 (sym w.is_stretch-is ∙ t))
      | else-tag-eq-STRETCH+else-tag-ge-UTF16 w ↦ absurd (true≢false (sym t ∙ w.is_stretch-is ∙ lt-leb 5 _ w.if-tag-ge-UTF16.false))
    ])

pub returns-else-is_stretch : goal.returns-else-is_stretch
returns-else-is_stretch c =
    let f = c.if-is_stretch.false in
    rw f
    (no_string _ _ _
    (elim c.if-tag-eq-STRETCH.branch [
      | then-tag-eq-STRETCH w ↦ absurd (true≢false (sym (eq-eqb _ 2 w.if-tag-eq-STRETCH.true) ∙ sym w.is_stretch-is ∙ f))
      | else-tag-eq-STRETCH+then-tag-ge-UTF16 w ↦ ⊎_elim (λ e. omega arith) (λ r. let l = leb-false _ 10 (sym w.is_stretch-is ∙ f) in let h = r.1 in omega arith)
      | else-tag-eq-STRETCH+else-tag-ge-UTF16 w ↦ ⊎_elim (λ e. omega arith) (λ r. let l = r.0 in omega arith)
    ]))
