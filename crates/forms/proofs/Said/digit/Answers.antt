-- `digit` meets its contract: after the last digit a space waits, where there is more.
-- Assumes nothing.
use mathlib.Core.Path.{◌∙◌}
use native.Mathlib.Omega.{arith}
use Rattle.forms.proofs.Streams.{digit_last, digit_end, digit_more}
use Rattle.forms.proofs.Said.digit.Goals as goal
use Rattle.forms.proofs.Said.digit.Goals.{then-self-eq0+then-self, else-self-eq0, else-self-eq0-via-then-self-eq0+else-self, else-self-eq0-via-else-self-eq0}

pub returns : goal.returns
returns c =
    let u = c.args.self.now in
    let f = c.requires.0 in
    let z = c.requires.1 in
    elim c.if-self-eq0.branch [
      | then-self-eq0+then-self w ↦
          let e = w.self-is ∙ w.wait.ensures in
          let d = rw e at c.digit_at.ensures in
          rw (e, d) (digit_last u f z _ (omega arith) w.if-self-eq0.true w.if-self.true)
      | else-self-eq0 w ↦
          let d = rw w.self-is at c.digit_at.ensures in
          elim w.else-self-eq0.branch [
            | else-self-eq0-via-then-self-eq0+else-self v ↦ rw (w.self-is, d) (digit_end u f z _ (omega arith) v.if-self-eq0.true v.if-self.false)
            | else-self-eq0-via-else-self-eq0 v ↦ rw (w.self-is, d) (digit_more u f z _ (omega arith) (let n = v.if-self-eq0.false in omega arith))
          ]
    ]
