-- `end_at` meets its contract: what ends is what the mode says.
-- Assumes nothing.
use native.Mathlib.Omega.{arith}
use Rattle.read_items.proofs.EndLaws.{end_listing, end_listed, end_document, end_element}
use Rattle.read_items.proofs.ends.end_at.Goals as goal

pub returns-then-st-eq-LISTING : goal.returns-then-st-eq-LISTING
returns-then-st-eq-LISTING c = λ t d x g. rw c.at.ensures (end_listing g (omega arith))

pub returns-then-st-eq-LISTED : goal.returns-then-st-eq-LISTED
returns-then-st-eq-LISTED c = λ t d x g. rw c.behind_end.ensures (end_listed g (omega arith) (omega arith))

pub returns-then-st-eq0 : goal.returns-then-st-eq0
returns-then-st-eq0 c = λ t d x g. end_document g (omega arith) (omega arith) (c.document_end.ensures _ _ g)

pub returns : goal.returns
returns c =
    λ t d x g. rw c.behind_end-2.ensures
    (end_element g (omega (arith, c.if-st-eq-LISTING.false, c.if-st-eq-LISTED.false, c.requires.2)) (omega (arith, c.if-st-eq0.false))
    (omega (arith, c.requires.0)) c.keep.ensures c.end.ensures)
