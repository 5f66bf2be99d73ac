-- `begin` meets its contract: a law for each way out.
-- Assumes nothing.
use native.Mathlib.Omega.{arith}
use borrow.Author.Tests.{eqb-true, eqb-false}
use mathlib.Core.Path.{sym, ◌∙◌}
use Rattle.write_head.proofs.BeginLaws.{no_tables, given-words, no_words, no_bits, opened_none}
use Rattle.write_head.proofs.begin.Goals.{then-is_empty-via-then-is_empty, then-is_empty-via-else-is_empty+then-presence-eq0}
use Rattle.write_head.proofs.begin.Goals as goal

pub returns-then-not-is_given : goal.returns-then-not-is_given
returns-then-not-is_given c = no_tables _ _ _ (sym c.if-not-is_given.true ∙ c.is_given.ensures)

pub presence-requires : goal.presence-requires
presence-requires c = (given-words c.args.text.now c.args.given.now (sym c.is_given.ensures ∙ c.if-not-is_given.false) (eqb-false _ _ (sym c.is_empty.ensures ∙ c.if-is_empty.false))).0

pub returns-then-is_empty : goal.returns-then-is_empty
returns-then-is_empty c =
    let h = c.put_header.ensures in
    opened_none _ c.requires.0 h.1 c.requires.2 c.requires.4 _ _ (sym c.is_given.ensures ∙ c.if-not-is_given.false)
    (elim c.then-is_empty.branch [
      | then-is_empty-via-then-is_empty w ↦ no_words c.args.given.now (eqb-true _ _ (sym c.is_empty.ensures ∙ w.if-is_empty.true))
      | then-is_empty-via-else-is_empty+then-presence-eq0 w ↦ no_bits c.args.given.now (sym w.presence.ensures.0 ∙ w.if-presence-eq0.true)
    ])
    c.requires.1 h.0

pub begin_head-requires : goal.begin_head-requires
begin_head-requires c =
    (c.requires.0, c.requires.1, c.requires.2, c.requires.3, c.requires.4, given-words c.args.text.now c.args.given.now (sym c.is_given.ensures ∙ c.if-not-is_given.false) (eqb-false _ _ (sym c.is_empty.ensures ∙ c.if-is_empty.false)), λ e. omega arith)
