-- `identifying` meets its contract: bit 1, and then the string as one that is spelled in the body.
-- Assumes nothing.
use native.Mathlib.Omega.{arith}
use Rattle.std.specs.Prelude.{Ok, Err}
use Rattle.read_names.proofs.StringLaws.{handed_on}
use Rattle.read_head.proofs.EntryLaws.{identifying_padded, identifying_read}
use Rattle.read_head.proofs.listed.identifying.Goals as goal

pub returns-then-octet-ge128 : goal.returns-then-octet-ge128
returns-then-octet-ge128 c =
    rw c.at.ensures (identifying_padded c.args.s.now c.args.counts.now c.args.t.now _ _ c.requires.1 _ c.octet.ensures c.args.index.now (omega arith))

pub returns-in_err-read : goal.returns-in_err-read
returns-in_err-read c =
    rw (handed_on _ _ c.from_residual.ensures)
    (identifying_read c.args.s.now c.args.counts.now c.args.t.now _ _ c.requires.1 _ c.octet.ensures c.if-octet-ge128.false (Err c.in_err-read.field-0.0) _ _ c.id.new.index c.in_err-read.ensures)

pub returns : goal.returns
returns c = identifying_read c.args.s.now c.args.counts.now c.args.t.now _ _ c.requires.1 _ c.octet.ensures c.if-octet-ge128.false (Ok c.in_ok-read.read) _ _ c.id.new.index c.in_ok-read.ensures
