-- `chunk` meets its contract: a chunk whose number is that of a row is a step.
-- Assumes nothing.
use native.Mathlib.Omega.{arith}
use Rattle.reader.proofs.LaneLaws.{takes_chunk, chunk_in_row}
use Rattle.reader.proofs.lane.chunk.Goals as goal

pub keep_chunk-requires : goal.keep_chunk-requires
keep_chunk-requires c = chunk_in_row c.requires.0 _ (omega arith)

pub returns : goal.returns
returns c =
    takes_chunk c.requires.0 (omega arith) _ c.requires.1 _ c.requires.2 c.requires.3 c.row_at-string.ensures (omega arith) c.in_ok-keep_chunk.ensures
