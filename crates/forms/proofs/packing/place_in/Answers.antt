-- `place_in` meets its contract: letters that are no digits one by one, by their places in both alphabets.
-- Assumes nothing.
use borrow.Author.Rules.{rules}
use mathlib.Core.Path.{◌≡◌, refl}
use Rattle.format.specs.Forms.{numeric, dates}
use Rattle.format.specs.Characters.{All}
use Rattle.forms.specs.Packing.{is_letter, place_in}
use Rattle.forms.proofs.Packs.{others, known-place, rest_place}
use Rattle.forms.proofs.packing.place_in.Goals as goal

pub overflow_sub-result : goal.overflow_sub-result
overflow_sub-result c =
    let n : All (λ k. c.args.o ≡ k → ⊥) others = search rules in
    (rest_place _ n c.args.form c.requires).0

pub returns-in-45 : goal.returns-in-45
returns-in-45 c = known-place 0x2D 10 (unfold numeric dates is_letter place_in in refl) c.args.form _ c.in-45.is c.requires

pub returns-in-43 : goal.returns-in-43
returns-in-43 c = known-place 0x2B 11 (unfold numeric dates is_letter place_in in refl) c.args.form _ c.in-43.is c.requires

pub returns-in-58 : goal.returns-in-58
returns-in-58 c = known-place 0x3A 11 (unfold numeric dates is_letter place_in in refl) c.args.form _ c.in-58.is c.requires

pub returns-in-46 : goal.returns-in-46
returns-in-46 c = known-place 0x2E 12 (unfold numeric dates is_letter place_in in refl) c.args.form _ c.in-46.is c.requires

pub returns-in-84 : goal.returns-in-84
returns-in-84 c = known-place 0x54 12 (unfold numeric dates is_letter place_in in refl) c.args.form _ c.in-84.is c.requires

pub returns-in-101 : goal.returns-in-101
returns-in-101 c = known-place 0x65 13 (unfold numeric dates is_letter place_in in refl) c.args.form _ c.in-101.is c.requires

pub returns-in-90 : goal.returns-in-90
returns-in-90 c = known-place 0x5A 13 (unfold numeric dates is_letter place_in in refl) c.args.form _ c.in-90.is c.requires

pub returns-in-32 : goal.returns-in-32
returns-in-32 c = known-place 0x20 14 (unfold numeric dates is_letter place_in in refl) c.args.form _ c.in-32.is c.requires

pub returns-in_default : goal.returns-in_default
returns-in_default c =
    let n : All (λ k. c.args.o ≡ k → ⊥) others = search rules in
    let p = rest_place _ n c.args.form c.requires in
    (p.1, p.2)
