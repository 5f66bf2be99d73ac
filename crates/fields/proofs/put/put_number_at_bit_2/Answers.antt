-- `put_number_at_bit_2` meets its contract: each number takes the lowest form that has it.
-- Assumes nothing.
use Rattle.std.proofs.Common.{refl, arith}
use Rattle.format.specs.Numbers.{c25}
use Rattle.fields.proofs.Laws.{sizes_in, rooms_in}
use Rattle.fields.proofs.Numbers.{c25_are, c25_ordered}
use Rattle.fields.proofs.Spelled.{puts_form}
use Rattle.fields.proofs.put.put_number_at_bit_2.Goals as goal

pub returns-then-v-lt64 : goal.returns-then-v-lt64
unfolding sizes_in rooms_in
returns-then-v-lt64 c = puts_form 2 c25 _ c25_ordered c25_are (omega arith) 0 refl _ _ _ _ (omega arith) (omega arith) (omega arith) c.put_form.ensures

pub returns-then-v-lt8192 : goal.returns-then-v-lt8192
unfolding sizes_in rooms_in
returns-then-v-lt8192 c = puts_form 2 c25 _ c25_ordered c25_are (omega arith) 1 refl _ _ _ _ (omega arith) (omega arith) (omega arith) c.put_form-then-v-lt8192.ensures

pub returns : goal.returns
unfolding sizes_in rooms_in
returns c = puts_form 2 c25 _ c25_ordered c25_are (omega arith) 2 refl _ _ _ _ (omega arith) (omega arith) (omega arith) c.put_form-2.ensures
