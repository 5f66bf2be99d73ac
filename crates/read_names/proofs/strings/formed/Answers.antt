-- `formed` meets its contract: a refused length is handed on, its octets are judged, and added where the bit says so.
-- Assumes nothing.
use native.Mathlib.Omega.{arith}
use Rattle.read_names.proofs.StringLaws.{handed_on, length_refused, judged_within, formed_not, formed_added}
use Rattle.read_names.proofs.strings.formed.Goals as goal

pub added-requires : goal.added-requires
added-requires c =
    let l = judged_within _ _ _ _ c.in_ok-judge.ensures in
    (c.requires.0, c.requires.1, c.requires.3, omega arith)

pub returns-in_err-len : goal.returns-in_err-len
returns-in_err-len c =
    λ x tidy l. rw (handed_on _ _ c.from_residual.ensures, c.in_err-len.was) (length_refused _ _ _ x _ _ tidy c.requires.3 _ _ _)

pub returns-in_err-judge : goal.returns-in_err-judge
returns-in_err-judge c =
    λ x tidy l. rw (handed_on _ _ c.from_residual-in_err-judge.ensures, c.in_ok-len.was)
    (formed_not _ _ _ x _ _ tidy c.requires.3 _ _ c.in_ok-len.len (rw c.in_ok-len.was at c.requires.4) _ c.in_err-judge.ensures)

pub returns : goal.returns
returns c =
    λ x tidy l. rw c.in_ok-len.was
    (formed_added _ _ _ x _ _ tidy c.requires.3 _ _ c.in_ok-len.len (rw c.in_ok-len.was at c.requires.4) l c.in_ok-judge.ensures c.added.result _ _ c.added.ensures)
