-- `optional` meets its contract: a law for each way out.
-- Assumes nothing.
use native.Mathlib.Omega.{arith}
use borrow.Author.Tests.{eqb-true, eqb-false}
use mathlib.Core.Path.{sym, ◌∙◌}
use Rattle.events.specs.Words.{string_tag}
use Rattle.write_names.proofs.StringLaws.{optional_absent, optional_there}
use Rattle.write_names.proofs.optional.Goals as goal

pub returns-then-is_absent : goal.returns-then-is_absent
returns-then-is_absent c =
    optional_absent _ _ _ _ _ c.requires.0 c.args.x.string (eqb-true _ _ (sym c.is_absent.ensures ∙ c.if-is_absent.true)) _ _

pub id-requires : goal.id-requires
id-requires c =
    let there = eqb-false (string_tag c.args.x.string) 0 (sym c.is_absent.ensures ∙ c.if-is_absent.false) in
    (c.requires.0, c.requires.1, omega (arith, there), c.requires.2)

pub returns : goal.returns
returns c =
    optional_there _ _ _ _ _ c.requires.0 c.args.x.string (eqb-false _ _ (sym c.is_absent.ensures ∙ c.if-is_absent.false)) c.id.result _ _ _ _ _ _ c.id.ensures
