-- `character16` meets its contract: what its tests on the first unit tell.
-- Assumes nothing.
use native.Mathlib.Omega.{arith}
use Rattle.forms.proofs.Streams.{there16, one16, two16}
use Rattle.forms.proofs.character16.Goals as goal

pub unit-u-requires : goal.unit-u-requires
unit-u-requires c =
    let a = c.args in
    let p = c.requires in
    let h = there16 a.s.now a.at a.to p.0 p.1 p.2 in
    omega arith

pub returns-then-u-lt55296 : goal.returns-then-u-lt55296
returns-then-u-lt55296 c =
    let a = c.args in
    let p = c.requires in
    (one16 a.s.now a.at a.to p.0 p.1 p.2 _ c.unit-u.ensures.0).0 (omega arith)

pub returns-then-u-ge57344 : goal.returns-then-u-ge57344
returns-then-u-ge57344 c =
    let a = c.args in
    let p = c.requires in
    (one16 a.s.now a.at a.to p.0 p.1 p.2 _ c.unit-u.ensures.0).1 (omega arith)

pub unit-requires : goal.unit-requires
unit-requires c =
    let a = c.args in
    let p = c.requires in
    let w = two16 a.s.now a.at a.to p.0 p.1 p.2 _ c.unit-u.ensures.0 (omega arith) (omega arith) in
    omega arith

pub overflow_sub-result-2 : goal.overflow_sub-result-2
overflow_sub-result-2 c =
    let a = c.args in
    let p = c.requires in
    let w = two16 a.s.now a.at a.to p.0 p.1 p.2 _ c.unit-u.ensures.0 (omega arith) (omega arith) in
    omega arith

pub returns : goal.returns
returns c =
    let a = c.args in
    let p = c.requires in
    let w = two16 a.s.now a.at a.to p.0 p.1 p.2 _ c.unit-u.ensures.0 (omega arith) (omega arith) in
    omega arith
