-- `put_packed` meets its contract: UTF-8 is packed as it stands, another form as it is given.
-- Assumes nothing.
use native.Mathlib.Omega.{arith}
use Rattle.fields.proofs.Puts.{puts_kept}
use Rattle.forms.proofs.Forms.{said-utf8}
use Rattle.forms.proofs.Streams.{bounded}
use Rattle.forms.proofs.packing.put_packed.Goals as goal

pub pack_octets-requires : goal.pack_octets-requires
pack_octets-requires c =
    let p = c.requires in
    (p.0, p.1, p.2, p.3, rw (said-utf8 _ _ c.in-Utf8.is) at p.5)

pub pack_said-requires : goal.pack_said-requires
pack_said-requires c =
    let a = c.args in
    let p = c.requires in
    let e = c.over.ensures in
    let m = rw e.1 at (bounded a.s.now a.form a.from a.to p.2 p.4) in
    (p.0, omega (arith, m, p.1, p.2, p.3), e.0, rw e.1 at p.5)

pub shape_of-out-in-Utf8 : goal.shape_of-out-in-Utf8
shape_of-out-in-Utf8 c = puts_kept c.pack_octets.ensures

pub returns-in-Utf8 : goal.returns-in-Utf8
returns-in-Utf8 c = rw (said-utf8 _ _ c.in-Utf8.is) c.pack_octets.ensures

pub shape_of-out-in_default : goal.shape_of-out-in_default
shape_of-out-in_default c = puts_kept c.pack_said.ensures

pub returns-in_default : goal.returns-in_default
returns-in_default c = rw c.over.ensures.1 c.pack_said.ensures
