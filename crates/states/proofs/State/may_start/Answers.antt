-- `State::may_start` meets its contract.
-- Assumes nothing.
use borrow.Author.Tests.{lt-ltb, le-ltb}
use Rattle.states.proofs.Modes.{root_none}
use Rattle.states.proofs.State.may_start.Goals as goal

pub returns-then-self-gt0 : goal.returns-then-self-gt0
returns-then-self-gt0 c = rw (lt-ltb _ _ c.if-self-gt0.true)

pub returns : goal.returns
returns c = rw (le-ltb _ _ c.if-self-gt0.false, root_none c.args.self.root)
