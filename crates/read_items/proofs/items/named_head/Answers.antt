-- `named_head` meets its contract: each way out is a case of the definition.
-- Assumes nothing.
use native.Mathlib.Omega.{arith}
use mathlib.Core.Path.{sym, ◌∙◌}
use Rattle.states.specs.States.{state_of}
use Rattle.read_items.proofs.ItemLaws.{named_missing, named_code, named_bits, named_padding, named_start}
use Rattle.read_items.proofs.HeadLaws.{tells_stop, tells_element}
use Rattle.read_items.proofs.items.named_head.Goals as goal

pub returns-then-s-k : goal.returns-then-s-k
returns-then-s-k c = λ st l. rw c.at.ensures (tells_stop (λ w. named_missing _ _ _ (state_of st w) (omega arith)))

pub returns-then-bits-eq14 : goal.returns-then-bits-eq14
returns-then-bits-eq14 c =
    λ st l. rw c.at-then-bits-eq14.ensures (tells_stop (λ w. named_code _ _ _ (state_of st w) (omega arith) (omega arith)))

pub returns-then-bits-ne0 : goal.returns-then-bits-ne0
returns-then-bits-ne0 c =
    let known = c.type_inv.s c.args.k in
    λ st l. rw c.at-then-bits-ne0.ensures (tells_stop (λ w. named_bits _ _ _ (state_of st w) (omega arith) (omega arith) (omega arith)))

pub returns-then-name_padding : goal.returns-then-name_padding
returns-then-name_padding c =
    let known = c.type_inv.s c.args.k in
    λ st l. rw c.at-then-name_padding.ensures
    (tells_stop (λ w. named_padding _ _ _ (state_of st w) (omega arith) (omega arith) (omega arith) (sym c.if-name_padding.true ∙ c.name_padding.ensures)))

pub returns : goal.returns
returns c =
    let known = c.type_inv.s c.args.k in
    λ st l. tells_element (omega arith) (λ w. named_start _ _ _ (state_of st w) (omega arith) (omega arith) (omega arith) (sym c.if-name_padding.false ∙ c.name_padding.ensures) l)
