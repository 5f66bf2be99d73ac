-- `put_number` meets its contract: each number takes the lowest form that has it.
-- Assumes nothing.
use Rattle.std.proofs.Common.{ℕ, ◌+◌, ◌/◌, ◌<◌, refl, arith}
use Rattle.format.specs.Numbers.{numbers}
use Rattle.fields.proofs.Laws.{sizes_in, rooms_in}
use Rattle.fields.proofs.Numbers.{numbers_are, numbers_ordered, number_values}
use Rattle.fields.proofs.Spelled.{puts_form}
use Rattle.fields.proofs.put.put_number.Goals as goal

-- three octets behind the first hold a whole number
all_behind : (b v : ℕ) → b < 256 → v < 16777216 → b + v / 16777216 < 256
all_behind b v h k = omega arith

pub put_form-requires : goal.put_form-requires
put_form-requires c = let q = number_values c.args.bit (omega arith) in omega arith

pub returns-then-v-short : goal.returns-then-v-short
unfolding sizes_in rooms_in
returns-then-v-short c =
    let bit = c.args.bit in
    let q = number_values bit (omega arith) in
    puts_form 3 (numbers bit) _ (numbers_ordered bit (omega arith) (omega arith)) (numbers_are bit (omega arith) (omega arith)) (omega arith) 0 refl _ _ _ _ (omega arith) (omega arith) (omega arith) c.put_form.ensures

pub put_form-requires-then-v-middle : goal.put_form-requires-then-v-middle
put_form-requires-then-v-middle c = let q = number_values c.args.bit (omega arith) in omega arith

pub returns-then-v-middle : goal.returns-then-v-middle
unfolding sizes_in rooms_in
returns-then-v-middle c =
    let bit = c.args.bit in
    let q = number_values bit (omega arith) in
    puts_form 3 (numbers bit) _ (numbers_ordered bit (omega arith) (omega arith)) (numbers_are bit (omega arith) (omega arith)) (omega arith) 1 refl _ _ _ _ (omega arith) (omega arith) (omega arith) c.put_form-then-v-middle.ensures

pub put_form-requires-then-v-long : goal.put_form-requires-then-v-long
put_form-requires-then-v-long c =
    let args = c.args in
    let q = number_values args.bit (omega arith) in omega arith

pub returns-then-v-long : goal.returns-then-v-long
unfolding sizes_in rooms_in
returns-then-v-long c =
    let bit = c.args.bit in
    let q = number_values bit (omega arith) in
    puts_form 3 (numbers bit) _ (numbers_ordered bit (omega arith) (omega arith)) (numbers_are bit (omega arith) (omega arith)) (omega arith) 2 refl _ _ _ _ (omega arith) (omega arith) (omega arith) c.put_form-then-v-long.ensures

pub put_form-requires-2 : goal.put_form-requires-2
put_form-requires-2 c =
    let args = c.args in
    (omega arith, omega arith, all_behind _ _ (let q = number_values args.bit (omega arith) in omega arith) (omega arith))

pub returns : goal.returns
unfolding sizes_in rooms_in
returns c =
    let bit = c.args.bit in
    let q = number_values bit (omega arith) in
    puts_form 3 (numbers bit) _ (numbers_ordered bit (omega arith) (omega arith)) (numbers_are bit (omega arith) (omega arith)) (omega arith) 3 refl _ _ _ _ (omega arith) (omega arith) (omega arith) c.put_form-2.ensures
