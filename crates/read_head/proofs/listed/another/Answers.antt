-- `another` meets its contract: bits 1 and 2, and then the string as one that is spelled and added in the body.
-- Assumes nothing.
use native.Mathlib.Omega.{arith}
use mathlib.Core.Bool.{true}
use Rattle.std.specs.Prelude.{Ok, Err}
use Rattle.read_names.proofs.StringLaws.{handed_on, length_given, spelled_utf8}
use Rattle.read_head.proofs.EntryLaws.{another_padded, another-read}
use Rattle.read_head.proofs.listed.another.Goals as goal

pub returns-then-o-ge64 : goal.returns-then-o-ge64
returns-then-o-ge64 c =
    λ x tidy. rw c.at.ensures (another_padded c.args.s.now c.args.counts.now c.args.t.now _ _ c.requires.3 _ c.octet-o.ensures x (omega arith))

pub returns-in_err-read : goal.returns-in_err-read
returns-in_err-read c =
    λ x tidy. rw (handed_on _ _ c.from_residual.ensures)
    (another-read c.args.s.now c.args.counts.now c.args.t.now _ _ c.requires.3 _ c.octet-o.ensures c.if-o-ge64.false (Err c.in_err-read.field-0.0) _ _ x
    (c.in_err-read.ensures x tidy c.requires.4))

pub returns-then-bits-ne0 : goal.returns-then-bits-ne0
returns-then-bits-ne0 c =
    λ x tidy. another-read c.args.s.now c.args.counts.now c.args.t.now _ _ c.requires.3 _ c.octet-o.ensures c.if-o-ge64.false (Ok c.in_ok-read.read) _ _ x
    (c.in_ok-read.ensures x tidy c.requires.4)

pub formed-requires : goal.formed-requires
formed-requires c = (c.requires.0, c.requires.1, c.requires.2, c.requires.5, length_given _ _ 5 _ c.length-length.ensures)

pub returns-in_err-read-2 : goal.returns-in_err-read-2
returns-in_err-read-2 c =
    λ x tidy. rw (handed_on _ _ c.from_residual-in_err-read-2.ensures)
    (another-read c.args.s.now c.args.counts.now c.args.t.now _ _ c.requires.3 _ c.octet-o.ensures c.if-o-ge64.false (Err c.in_err-read-2.field-0.0) _ _ x
    (spelled_utf8 _ _ _ x _ _ tidy c.requires.5 5 true (omega arith) _ _ c.octet-o.ensures c.bits.ensures _ (Err c.in_err-read-2.field-0.0) _ _
    c.if-bits-ne0.false c.length-length.ensures (c.in_err-read-2.ensures x tidy c.requires.4)))

pub returns : goal.returns
returns c =
    λ x tidy. another-read c.args.s.now c.args.counts.now c.args.t.now _ _ c.requires.3 _ c.octet-o.ensures c.if-o-ge64.false (Ok c.in_ok-read-2.read) _ _ x
    (spelled_utf8 _ _ _ x _ _ tidy c.requires.5 5 true (omega arith) _ _ c.octet-o.ensures c.bits.ensures _ (Ok c.in_ok-read-2.read) _ _
    c.if-bits-ne0.false c.length-length.ensures (c.in_ok-read-2.ensures x tidy c.requires.4))
