-- `size16` meets its contract: what its tests on the first octets tell of sixteen bits.
-- Assumes nothing.
use native.Mathlib.Omega.{arith}
use mathlib.Core.Path.{refl}
use Rattle.forms.proofs.Units.{too_short, two, no_character, lone, four, unpaired}
use Rattle.forms.proofs.deciding.size16.Goals as goal
use Rattle.forms.proofs.deciding.size16.Goals.{else-s-ge4-via-then-s-ge4+then-s-ge220+else-s-lt224, else-s-ge4-via-then-s-ge4+else-s-ge220, else-s-ge4-via-else-s-ge4}
use Rattle.forms.proofs.deciding.size16.Goals.{then-high-lt255-via-then-high-lt255, then-high-lt255-via-else-high-lt255+then-low-lt254}

pub returns-then-s-lt2 : goal.returns-then-s-lt2
returns-then-s-lt2 c = too_short c.args.s.now (λ i. (c.type_inv.s i).fits) c.if-s-lt2.true

pub returns-in-9 : goal.returns-in-9
returns-in-9 c =
    two c.args.s.now (λ i. (c.type_inv.s i).fits) c.if-s-lt2.false _ refl (λ z. omega arith) (λ z. omega arith) (λ z. omega arith) (λ y z. omega arith) (λ y z. omega arith) (omega arith)

pub returns-in-9-2 : goal.returns-in-9-2
returns-in-9-2 c =
    two c.args.s.now (λ i. (c.type_inv.s i).fits) c.if-s-lt2.false _ refl (λ z. omega arith) (λ z. omega arith) (λ z. omega arith) (λ y z. omega arith) (λ y z. omega arith) (omega arith)

pub returns-in-32-to-255 : goal.returns-in-32-to-255
returns-in-32-to-255 c =
    two c.args.s.now (λ i. (c.type_inv.s i).fits) c.if-s-lt2.false _ refl (λ z. omega arith) (λ z. omega arith) (λ z. omega arith) (λ y z. omega arith) (λ y z. omega arith) (omega arith)

pub returns-in_default : goal.returns-in_default
returns-in_default c =
    no_character c.args.s.now (λ i. (c.type_inv.s i).fits) c.if-s-lt2.false _ refl (λ z. omega arith) (λ z. omega arith) (λ z. omega arith) (λ y z. omega arith) (λ y z. omega arith)

pub returns-in_default-2 : goal.returns-in_default-2
returns-in_default-2 c =
    no_character c.args.s.now (λ i. (c.type_inv.s i).fits) c.if-s-lt2.false _ refl (λ z. omega arith) (λ z. omega arith) (λ z. omega arith) (λ y z. omega arith) (λ y z. omega arith)

pub returns-then-high-lt216 : goal.returns-then-high-lt216
returns-then-high-lt216 c =
    let low = (c.type_inv.s 1).fits in two c.args.s.now (λ i. (c.type_inv.s i).fits) c.if-s-lt2.false _ refl (λ z. omega arith) (λ z. omega arith) (λ z. omega arith) (λ y z. omega arith) (λ y z. omega arith) (omega arith)

pub returns-then-s-lt224 : goal.returns-then-s-lt224
returns-then-s-lt224 c =
    let low = (c.type_inv.s 1).fits in
    let last = (c.type_inv.s 3).fits in
    four _ _ (omega arith) (omega arith) c.args.s.now (λ i. (c.type_inv.s i).fits) c.if-s-ge4.true refl refl (omega arith) (omega arith)

pub returns-else-s-ge4 : goal.returns-else-s-ge4
returns-else-s-ge4 c =
    let low = (c.type_inv.s 1).fits in
    let last = (c.type_inv.s 3).fits in
    elim c.else-s-ge4.branch [
      | else-s-ge4-via-then-s-ge4+then-s-ge220+else-s-lt224 w ↦ unpaired _ _ (omega arith) (omega arith) c.args.s.now (λ i. (c.type_inv.s i).fits) w.if-s-ge4.true refl refl (λ p q. omega (arith, w.if-s-lt224.false))
      | else-s-ge4-via-then-s-ge4+else-s-ge220 w ↦ unpaired _ _ (omega arith) (omega arith) c.args.s.now (λ i. (c.type_inv.s i).fits) w.if-s-ge4.true refl refl (λ p q. omega (arith, w.if-s-ge220.false))
      | else-s-ge4-via-else-s-ge4 w ↦ lone c.args.s.now (λ i. (c.type_inv.s i).fits) c.if-s-lt2.false w.if-s-ge4.false _ refl (omega arith) (omega arith)
    ]

pub returns-then-high-lt224 : goal.returns-then-high-lt224
returns-then-high-lt224 c =
    let low = (c.type_inv.s 1).fits in no_character c.args.s.now (λ i. (c.type_inv.s i).fits) c.if-s-lt2.false _ refl (λ z. omega arith) (λ z. omega arith) (λ z. omega arith) (λ y z. omega arith) (λ y z. omega arith)

pub returns-then-high-lt255 : goal.returns-then-high-lt255
returns-then-high-lt255 c =
    let high = (c.type_inv.s 0).fits in
    let low = (c.type_inv.s 1).fits in
    two c.args.s.now (λ i. (c.type_inv.s i).fits) c.if-s-lt2.false _ refl (λ z. omega arith) (λ z. omega arith) (λ z. omega arith) (λ y z. omega arith) (λ y z. omega arith)
    (elim c.then-high-lt255.branch [
      | then-high-lt255-via-then-high-lt255 w ↦ omega (arith, w.if-high-lt255.true)
      | then-high-lt255-via-else-high-lt255+then-low-lt254 w ↦ omega (arith, w.if-low-lt254.true)
    ])

pub returns : goal.returns
returns c = no_character c.args.s.now (λ i. (c.type_inv.s i).fits) c.if-s-lt2.false _ refl (λ z. omega arith) (λ z. omega arith) (λ z. omega arith) (λ y z. omega arith) (λ y z. omega arith)
