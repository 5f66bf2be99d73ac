-- `over` meets its contract: nothing waits, all is ahead.
-- Assumes nothing.
use mathlib.Core.Path.{refl}
use Rattle.forms.proofs.Streams.{over}
use Rattle.forms.proofs.Said.over.Goals as goal

pub returns : goal.returns
returns c = over _ (refl, refl) c.requires.0 c.requires.1 c.requires.2
