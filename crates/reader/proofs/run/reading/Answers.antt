-- `reading` meets its contract: what stands before the first item is refused, or a run comes to its end.
-- Assumes nothing.
use mathlib.Core.Path.{refl}
use Rattle.read_names.proofs.StringLaws.{handed_on}
use Rattle.reader.proofs.RunLaws.{ran_fault, ran_onward}
use Rattle.reader.proofs.run.reading.Goals as goal

pub returns-in_err-body : goal.returns-in_err-body
returns-in_err-body c = rw (handed_on _ _ c.from_residual.ensures) (ran_fault c.in_err-body.ensures refl)

pub steps-requires : goal.steps-requires
steps-requires c = c.in_ok-body.ensures.within

pub returns : goal.returns
returns c = ran_onward c.in_ok-body.ensures c.steps.ensures
