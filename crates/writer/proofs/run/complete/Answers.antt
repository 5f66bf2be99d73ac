-- `complete` meets its contract: a law for each way out.
-- Assumes nothing.
use borrow.Author.Tests.{eq-eqb, ne_eqb}
use Rattle.write_items.proofs.ModeLaws.{is_content_lem}
use Rattle.states.specs.States.{root_of}
use Rattle.writer.proofs.run.complete.Goals as goal

pub returns-then-st-eq0 : goal.returns-then-st-eq0
unfolding root_of
returns-then-st-eq0 c = rw (is_content_lem c.args.st.mode, eq-eqb _ _ c.if-st-eq-CONTENT.true, eq-eqb _ _ c.if-st-eq0.true)

pub returns-else-st-eq0 : goal.returns-else-st-eq0
unfolding root_of
returns-else-st-eq0 c = rw (is_content_lem c.args.st.mode, eq-eqb _ _ c.if-st-eq-CONTENT.true, ne_eqb _ _ c.if-st-eq0.false)

pub returns-else-st-eq-CONTENT : goal.returns-else-st-eq-CONTENT
returns-else-st-eq-CONTENT c = rw (is_content_lem c.args.st.mode, ne_eqb _ _ c.if-st-eq-CONTENT.false)
