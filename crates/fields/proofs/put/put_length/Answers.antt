-- `put_length` meets its contract: each length takes the lowest form that has it.
-- Assumes nothing.
use Rattle.std.proofs.Common.{refl, arith}
use Rattle.format.specs.Numbers.{lengths}
use Rattle.fields.proofs.Laws.{sizes_in, rooms_in}
use Rattle.fields.proofs.Lengths.{lengths_are, lengths_ordered}
use Rattle.fields.proofs.Spelled.{puts_form, length_values}
use Rattle.fields.proofs.put.put_length.Goals as goal

pub put_form-requires : goal.put_form-requires
put_form-requires c = let q = length_values c.args.bit (omega arith) in omega arith

pub returns-then-v-short : goal.returns-then-v-short
unfolding sizes_in rooms_in
returns-then-v-short c =
    let bit = c.args.bit in
    let q = length_values bit (omega arith) in
    puts_form 4 (lengths bit) _ (lengths_ordered bit (omega arith) (omega arith)) (lengths_are bit (omega arith) (omega arith)) (omega arith) 0 refl _ _ _ _ (omega arith) (omega arith) (omega arith) c.put_form.ensures

pub put_form-requires-then-v-lt256 : goal.put_form-requires-then-v-lt256
put_form-requires-then-v-lt256 c = let q = length_values c.args.bit (omega arith) in omega arith

pub returns-then-v-lt256 : goal.returns-then-v-lt256
unfolding sizes_in rooms_in
returns-then-v-lt256 c =
    let bit = c.args.bit in
    let q = length_values bit (omega arith) in
    puts_form 4 (lengths bit) _ (lengths_ordered bit (omega arith) (omega arith)) (lengths_are bit (omega arith) (omega arith)) (omega arith) 1 refl _ _ _ _ (omega arith) (omega arith) (omega arith) c.put_form-then-v-lt256.ensures

pub put_form-requires-2 : goal.put_form-requires-2
put_form-requires-2 c = let q = length_values c.args.bit (omega arith) in omega arith

pub returns : goal.returns
unfolding sizes_in rooms_in
returns c =
    let bit = c.args.bit in
    let q = length_values bit (omega arith) in
    puts_form 4 (lengths bit) _ (lengths_ordered bit (omega arith) (omega arith)) (lengths_are bit (omega arith) (omega arith)) (omega arith) 2 refl _ _ _ _ (omega arith) (omega arith) (omega arith) c.put_form-2.ensures
