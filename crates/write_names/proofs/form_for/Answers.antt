-- `form_for` meets its contract: a law for each way out.
-- Assumes nothing.
use native.Mathlib.Omega.{arith}
use mathlib.Core.Path.{refl, sym, ap, ◌∙◌}
use Rattle.forms.specs.Packing.{alphabet_for}
use Rattle.write_names.proofs.Stretches.{stretched, says, part_sound, said-length}
use Rattle.write_names.proofs.FormLaws.{few_integers, choose_short, choose_utf8, choose_integers, choose_dates}
use Rattle.write_names.proofs.form_for.Goals as goal

pub returns-then-n-plain_most : goal.returns-then-n-plain_most
returns-then-n-plain_most c =
    let s = stretched c.args.text.now c.args.x c.requires.0 refl refl refl in
    let l = said-length s c.requires.1 in
    choose_short c.requires.2 _ l.0 l.1 _ c.requires.3 (rw c.plain_most.ensures at c.if-n-plain_most.true)

pub alphabet_for-letters-requires : goal.alphabet_for-letters-requires
alphabet_for-letters-requires c =
    let s = stretched c.args.text.now c.args.x c.requires.0 c.form-given.ensures c.place-from.ensures c.size.ensures in
    (omega arith, omega (arith, s.lies), part_sound s)

pub integers_for-requires : goal.integers_for-requires
integers_for-requires c =
    let s = stretched c.args.text.now c.args.x c.requires.0 c.form-given.ensures c.place-from.ensures c.size.ensures in
    (omega arith, omega (arith, s.lies), omega arith, part_sound s)

pub or_integers-requires : goal.or_integers-requires
or_integers-requires c =
    let s = stretched c.args.text.now c.args.x c.requires.0 c.form-given.ensures c.place-from.ensures c.size.ensures in
    let l = said-length s c.requires.1 in
    (omega arith, rw (c.requires.3, c.integers_for.ensures, ← says s) (few_integers _))

pub overflow_add-result : goal.overflow_add-result
overflow_add-result c =
    let s = stretched c.args.text.now c.args.x c.requires.0 c.form-given.ensures c.place-from.ensures c.size.ensures in
    let l = said-length s c.requires.1 in
    omega arith

pub returns-in-0 : goal.returns-in-0
returns-in-0 c =
    let s = stretched c.args.text.now c.args.x c.requires.0 c.form-given.ensures c.place-from.ensures c.size.ensures in
    let l = said-length s c.requires.1 in
    let letters = c.alphabet_for-letters.ensures ∙ ap alphabet_for (sym (says s)) in
    choose_utf8 c.requires.2 _ l.0 l.1 _ c.requires.3 (rw c.plain_most.ensures at c.if-n-plain_most.false) _ letters (sym c.number.ensures.0 ∙ c.in-0.is)

pub returns-in-2 : goal.returns-in-2
returns-in-2 c =
    let s = stretched c.args.text.now c.args.x c.requires.0 c.form-given.ensures c.place-from.ensures c.size.ensures in
    let l = said-length s c.requires.1 in
    let letters = c.alphabet_for-letters.ensures ∙ ap alphabet_for (sym (says s)) in
    choose_integers c.requires.2 _ l.0 l.1 _ c.requires.3 (rw c.plain_most.ensures at c.if-n-plain_most.false) _ letters (sym c.number.ensures.0 ∙ c.in-2.is) (c.or_integers.ensures ∙ rw (c.integers_for.ensures, says s))

pub returns-in_default : goal.returns-in_default
returns-in_default c =
    let s = stretched c.args.text.now c.args.x c.requires.0 c.form-given.ensures c.place-from.ensures c.size.ensures in
    let l = said-length s c.requires.1 in
    let letters = c.alphabet_for-letters.ensures ∙ ap alphabet_for (sym (says s)) in
    choose_dates c.requires.2 _ l.0 l.1 _ c.requires.3 (rw c.plain_most.ensures at c.if-n-plain_most.false) _ letters (λ e. omega arith) (λ e. omega arith)
