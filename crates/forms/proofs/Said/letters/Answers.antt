-- `letters` meets its contract: two characters, or one where the lower half fills up.
-- Assumes nothing.
use mathlib.Core.Path.{◌∙◌}
use native.Mathlib.Omega.{arith}
use Rattle.forms.proofs.Streams.{letters_1, letters_2}
use Rattle.forms.proofs.Said.letters.Goals as goal
use Rattle.forms.proofs.Said.letters.Goals.{then-k-lt15, else-k-lt15}

pub returns : goal.returns
returns c =
    elim c.if-k-lt15.branch [
      | then-k-lt15 w ↦
          let e = w.self-is ∙ w.wait.ensures in
          let k = w.if-k-lt15.true in
          let h = rw (e, c.from.ensures) at c.letter-2.ensures in
          rw e (letters_2 _ _ _ h c.args.self.now c.requires.1 _ (omega arith) (rw c.from-k.ensures at w.letter.ensures))
      | else-k-lt15 w ↦
          let k = w.if-k-lt15.false in
          let h = rw (w.self-is, c.from.ensures) at c.letter-2.ensures in
          rw w.self-is (letters_1 _ _ _ h c.args.self.now c.requires.1 (omega arith))
    ]
