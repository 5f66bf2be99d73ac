-- `character` meets its contract: a law for each number of octets.
-- Assumes nothing.
use mathlib.Core.Path.{refl}
use native.Mathlib.Omega.{arith}
use Rattle.fields.proofs.Characters.{one, two, three, four}
use Rattle.forms.proofs.Said.character.Goals as goal

pub returns-then-n-lt128 : goal.returns-then-n-lt128
returns-then-n-lt128 c = (rw (one c.args.n (omega arith), c.requires.1), omega arith, refl)

pub returns-then-n-lt2048 : goal.returns-then-n-lt2048
returns-then-n-lt2048 c =
    rw c.wait.ensures
    (rw (two c.args.n (omega arith) (omega arith), c.tail.ensures), omega arith, refl)

pub returns-then-n-lt65536 : goal.returns-then-n-lt65536
returns-then-n-lt65536 c =
    rw c.wait-then-n-lt65536.ensures
    (rw (three c.args.n (omega arith) (omega arith), c.tail-then-n-lt65536.ensures, c.tail-then-n-lt65536-2.ensures), omega arith, refl)

pub returns : goal.returns
returns c =
    rw c.wait-2.ensures
    (rw (four c.args.n (omega arith), c.tail-2.ensures, c.tail-3.ensures, c.tail-4.ensures), omega arith, refl)
