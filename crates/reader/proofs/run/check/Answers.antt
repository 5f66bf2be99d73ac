-- `check` meets its contract: the number of a run with 32,768 records.
-- Assumes nothing.
use mathlib.Core.Path.{◌∙◌}
use Rattle.reader.proofs.RunLaws.{check_passed, check_fault}
use Rattle.reader.proofs.run.check.Goals as goal

pub returns-in-Ok : goal.returns-in-Ok
returns-in-Ok c = check_passed _ c.in-Ok.ensures

pub returns-in-Err : goal.returns-in-Err
returns-in-Err c = c.number.ensures ∙ check_fault _ c.in-Err.ensures
