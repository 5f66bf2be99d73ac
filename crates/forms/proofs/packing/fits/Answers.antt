-- `fits` meets its contract: UTF-8 is looked at as it stands, another form as it is given.
-- Assumes nothing.
use Rattle.forms.proofs.Forms.{said-utf8}
use Rattle.forms.proofs.packing.fits.Goals as goal

pub returns-in-Utf8 : goal.returns-in-Utf8
returns-in-Utf8 c = rw (said-utf8 _ _ c.in-Utf8.is) c.fit_octets.ensures

pub returns-in_default : goal.returns-in_default
returns-in_default c = rw c.over.ensures.1 c.fit_said.ensures
