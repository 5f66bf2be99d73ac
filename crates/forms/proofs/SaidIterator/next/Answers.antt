-- `next` meets its contract: what waits, a digit, the end, or what is read.
-- Assumes nothing.
use native.Mathlib.Omega.{arith}
use Rattle.forms.proofs.Streams.{gives_waiting, gives_done, progress}
use Rattle.forms.proofs.SaidIterator.next.Goals as goal

pub returns-then-self-gt0-clause-steps : goal.returns-then-self-gt0-clause-steps
returns-then-self-gt0-clause-steps c = rw c.wait.ensures (gives_waiting c.args.self.now c.requires c.if-self-gt0.true).0

pub returns-then-self-gt0-clause-goes : goal.returns-then-self-gt0-clause-goes
returns-then-self-gt0-clause-goes c = rw c.wait.ensures (progress _ _ _ (gives_waiting c.args.self.now c.requires c.if-self-gt0.true))

pub returns-then-self-clause-steps : goal.returns-then-self-clause-steps
returns-then-self-clause-steps c =
    let e = gives_done c.args.self.now c.requires (omega arith) (omega arith) c.if-self.true in
    (e, e)
