-- `put_count` meets its contract: each number takes the lowest form that has it.
-- Assumes nothing.
use Rattle.std.proofs.Common.{refl, arith}
use Rattle.format.specs.Numbers.{c21}
use Rattle.fields.proofs.Laws.{sizes_in, rooms_in}
use Rattle.fields.proofs.Numbers.{c21_are, c21_ordered}
use Rattle.fields.proofs.Spelled.{puts_form}
use Rattle.fields.proofs.put.put_count.Goals as goal

pub returns-then-v-lt128 : goal.returns-then-v-lt128
unfolding sizes_in rooms_in
returns-then-v-lt128 c = puts_form 2 c21 _ c21_ordered c21_are (omega arith) 0 refl _ _ _ _ (omega arith) (omega arith) (omega arith) c.put_form.ensures

pub returns : goal.returns
unfolding sizes_in rooms_in
returns c = puts_form 2 c21 _ c21_ordered c21_are (omega arith) 1 refl _ _ _ _ (omega arith) (omega arith) (omega arith) c.put_form-2.ensures
