-- `or_integers` meets its contract: a law for each way out.
-- Assumes nothing.
use native.Mathlib.Omega.{arith}
use Rattle.write_names.proofs.FormLaws.{few_octets, less_integers, more_integers, none_found}
use Rattle.write_names.proofs.or_integers.Goals as goal

pub overflow_mul-size : goal.overflow_mul-size
overflow_mul-size c =
    omega (arith, few_octets c.args.n c.in-Some.is c.requires.0 c.requires.1)

pub returns-then-size-packed : goal.returns-then-size-packed
returns-then-size-packed c = less_integers _ c.in-Some.is c.if-size-packed.true c.with_width.ensures

pub returns-else-size-packed : goal.returns-else-size-packed
returns-else-size-packed c = more_integers _ c.in-Some.is c.if-size-packed.false

pub returns-in_default : goal.returns-in_default
returns-in_default c = none_found _ c.in_default.is
