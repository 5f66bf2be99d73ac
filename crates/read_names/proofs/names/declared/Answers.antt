-- `declared` meets its contract: each first octet is a case of the definition, and a refusal is handed on where it is found.
-- Assumes nothing.
use native.Mathlib.Omega.{arith}
use Rattle.read_names.proofs.StringLaws.{handed_on}
use Rattle.read_names.proofs.NameLaws.{declared_missing, declared_end, declared_padded, declared_other, declared_prefix, declared_namespace, declared_read, declared_left}
use Rattle.read_names.proofs.Grown.{string_stays}
use Rattle.read_names.proofs.names.declared.Goals as goal

pub returns-then-s-at : goal.returns-then-s-at
returns-then-s-at c =
    rw c.at.ensures (declared_missing _ _ _ (omega arith), (c.requires.0.ten, c.requires.0.room))

pub returns-then-b : goal.returns-then-b
returns-then-b c =
    rw c.at-then-b.ensures (declared_end _ _ _ (omega arith) (omega arith), (c.requires.0.ten, c.requires.0.room))

pub returns-then-b-gt240 : goal.returns-then-b-gt240
returns-then-b-gt240 c =
    rw c.at-then-b-gt240.ensures (declared_padded _ _ _ (omega arith) (omega arith), (c.requires.0.ten, c.requires.0.room))

pub returns-then-bits-ne51 : goal.returns-then-bits-ne51
returns-then-bits-ne51 c =
    rw c.at-then-bits-ne51.ensures (declared_other _ _ _ (omega arith) (omega arith) _ c.bits.ensures (omega arith), (c.requires.0.ten, c.requires.0.room))

pub returns-in_err-prefix : goal.returns-in_err-prefix
returns-in_err-prefix c =
    let f = c.in_err-prefix.ensures in
    rw (handed_on _ _ c.from_residual.ensures)
    (declared_prefix _ _ _ (omega arith) (omega arith) _ c.bits.ensures c.if-bits-ne51.false _ c.bits-2.ensures _ _ f.0, f.1)

pub returns-in_err-namespace : goal.returns-in_err-namespace
returns-in_err-namespace c =
    let first = c.in_ok-prefix.ensures in
    let f = c.in_err-namespace.ensures in
    rw (handed_on _ _ c.from_residual-in_err-namespace.ensures)
    (declared_namespace _ _ _ (omega arith) (omega arith) _ c.bits.ensures c.if-bits-ne51.false _ c.bits-2.ensures _ c.bits-there.ensures _ _ _ first.0 _ _ f.0, f.1)

pub returns : goal.returns
returns c =
    let first = c.in_ok-prefix.ensures in
    let second = c.in_ok-namespace.ensures in (
      rw (string_stays _ _ _ _ second.1.0.grown 0 _ (omega arith) first.1.1)
          (declared_read _ _ _ (omega arith) (omega arith) _ c.bits.ensures c.if-bits-ne51.false _ c.bits-2.ensures _ c.bits-there.ensures _ _ _ first.0 _ _ _ second.0),
      declared_left _ _ _ _ _ _ _ _ _ _ _ _ _ first.1 second.1,
    )
