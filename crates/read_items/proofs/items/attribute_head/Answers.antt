-- `attribute_head` meets its contract, by the first octet.
-- Assumes nothing.
use native.Mathlib.Omega.{arith}
use Rattle.states.specs.States.{state_of}
use Rattle.read_items.proofs.ItemLaws.{attribute_missing, attribute_bit, attribute_padding, attribute_named}
use Rattle.read_items.proofs.HeadLaws.{tells_stop, tells_attribute}
use Rattle.read_items.proofs.items.attribute_head.Goals as goal

pub returns-then-s-k : goal.returns-then-s-k
returns-then-s-k c = λ st. rw c.at.ensures (tells_stop (λ w. attribute_missing _ _ (state_of st w) (omega arith)))

pub returns-then-bits-ne0 : goal.returns-then-bits-ne0
returns-then-bits-ne0 c =
    λ st. rw c.at-then-bits-ne0.ensures (tells_stop (λ w. attribute_bit _ _ (state_of st w) (omega arith) (omega (arith, c.type_inv.s c.args.k)) (omega arith)))

pub returns-then-bits-eq31 : goal.returns-then-bits-eq31
returns-then-bits-eq31 c =
    λ st. rw c.at-then-bits-eq31.ensures (tells_stop (λ w. attribute_padding _ _ (state_of st w) (omega arith) (omega (arith, c.type_inv.s c.args.k)) (omega arith) (omega arith)))

pub returns : goal.returns
returns c =
    λ st. tells_attribute (omega arith) (λ w. attribute_named _ _ (state_of st w) (omega arith) (omega (arith, c.type_inv.s c.args.k)) (omega arith) (omega arith))
