-- `begun` meets its contract: a law for each way out.
-- Assumes nothing.
use native.Mathlib.Omega.{arith}
use Rattle.writer.proofs.StartLaws.{going_size, going_room, going_refused, going_start}
use Rattle.writer.proofs.run.begun.Goals as goal

pub returns-then-text-gt-OCTETS : goal.returns-then-text-gt-OCTETS
returns-then-text-gt-OCTETS c = rw c.at.ensures ((λ es. going_size _ es _ _ _ _ (omega arith)), omega arith)

pub returns-then-t-ne-WORDS : goal.returns-then-t-ne-WORDS
returns-then-t-ne-WORDS c = rw c.at-then-t-ne-WORDS.ensures ((λ es. going_room _ es _ _ _ _ (omega arith) (omega arith)), omega arith)

pub begin-requires : goal.begin-requires
begin-requires c = let table = c.if-t-ne-WORDS.false in (omega arith, c.requires.0, rw table at c.requires.1, c.requires.2, c.requires.3)

pub begin-requires-in-Ok : goal.begin-requires-in-Ok
begin-requires-in-Ok c = omega (arith, c.in-Ok.ensures.near)

pub returns-in-Ok : goal.returns-in-Ok
returns-in-Ok c = ((λ es. going_start _ es _ _ _ (omega arith) (omega arith) c.in-Ok.ensures c.begin-in-Ok.ensures), tt)

pub returns-in-Err : goal.returns-in-Err
returns-in-Err c = rw c.at-in-Err.ensures ((λ es. going_refused _ es _ _ _ _ (omega arith) (omega arith) c.in-Err.refusal c.in-Err.ensures), omega arith)
