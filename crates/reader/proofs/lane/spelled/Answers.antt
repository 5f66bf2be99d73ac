-- `spelled` meets its contract: a chunk whose octets are there and are text, with room where it is added, is a step.
-- Assumes nothing.
use native.Mathlib.Omega.{arith}
use mathlib.Core.Path.{sym, ◌∙◌}
use Rattle.reader.proofs.LaneLaws.{length_there, takes_spelled}
use Rattle.reader.proofs.lane.spelled.Goals as goal

pub overflow_sub-s : goal.overflow_sub-s
overflow_sub-s c = (length_there _ _ c.length.ensures c.in_ok-length.ensures.value).2

pub is_text-requires : goal.is_text-requires
is_text-requires c =
    let r = length_there _ _ c.length.ensures c.in_ok-length.ensures.value in
    (omega arith, omega arith)

pub overflow_cast-place : goal.overflow_cast-place
overflow_cast-place c =
    let r = length_there _ _ c.length.ensures c.in_ok-length.ensures.value in
    let z = c.requires.0.tidied.tidy.size in
    omega arith

pub overflow_cast-place-2 : goal.overflow_cast-place-2
overflow_cast-place-2 c =
    let r = length_there _ _ c.length.ensures c.in_ok-length.ensures.value in
    let z = c.requires.0.tidied.tidy.size in
    omega arith

pub returns : goal.returns
returns c =
    let r = length_there _ _ c.length.ensures c.in_ok-length.ensures.value in
    takes_spelled c.requires.0 (omega (arith, c.keep.auto)) _ c.requires.1 c.requires.2 c.requires.3 c.bits.ensures c.if-bits-ne0.false c.in_ok-length.length r.0 (omega arith) (sym c.is_text.ensures ∙ c.if-not-is_text.false) c.bits-2.ensures c.in_ok-added.ensures c.keep.ensures c.chunk-e.ensures
