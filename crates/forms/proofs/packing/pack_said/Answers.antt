-- `pack_said` meets its contract: two octets that the stream gives are put in one, after those before.
-- Assumes nothing.
use borrow.Author.Rules.{rules}
use mathlib.Core.Path.{refl}
use Rattle.forms.specs.Packing.{alphabet}
use Rattle.forms.specs.Streams.{ahead}
use Rattle.forms.proofs.Forms.{packed-length}
use Rattle.forms.proofs.Puts.{left_done, left_next, left-place}
use Rattle.forms.proofs.Packs.{pack_none, letter_first, pack_one, pack_two}
use Rattle.forms.proofs.packing.pack_said.Goals as goal

pub loop-o-init : goal.loop-o-init
loop-o-init c = (c.requires.2, c.requires.3, λ r out' p. p)

pub place_in-high-requires : goal.place_in-high-requires
place_in-high-requires c = (letter_first (alphabet c.args.letters) _ _ _ c.in-Some.ensures.steps c.loop-o.invariant.1).0

pub overflow_add-result : goal.overflow_add-result
overflow_add-result c =
    let p = c.requires in
    let i = left-place _ _ _ _ c.loop-o.i _ c.loop-o.invariant.2 in
    let n = packed-length (alphabet c.args.letters) (ahead c.args.x) in
    search rules

pub returns-in_default-next : goal.returns-in_default-next
returns-in_default-next c =
    let g = pack_one (alphabet c.args.letters) _ _ _ c.in-Some.ensures.steps _ c.place_in-high.ensures.0 c.in_default-next.ensures.steps.0 in
    left_done _ _ _ _ _ _ refl (left_next _ _ _ _ _ _ _ _ _ g c.put.ensures c.loop-o.invariant.2)

pub place_in-requires : goal.place_in-requires
place_in-requires c =
    let ls = alphabet c.args.letters in
    (letter_first ls _ _ _ c.in-Some-next.ensures.steps (letter_first ls _ _ _ c.in-Some.ensures.steps c.loop-o.invariant.1).1).0

pub overflow_add-i : goal.overflow_add-i
overflow_add-i c =
    let p = c.requires in
    let i = left-place _ _ _ _ c.loop-o.i _ c.loop-o.invariant.2 in
    let n = packed-length (alphabet c.args.letters) (ahead c.args.x) in
    search rules

pub loop-o-preserved : goal.loop-o-preserved
loop-o-preserved c =
    let ls = alphabet c.args.letters in
    let l = c.loop-o.invariant in
    let g = c.in-Some.ensures.steps in
    let k = c.in-Some-next.ensures.steps in
    (c.in-Some-next.ensures.goes.keeps, (letter_first ls _ _ _ k (letter_first ls _ _ _ g l.1).1).1, left_next _ _ _ _ _ _ _ _ _ (pack_two ls _ _ _ g _ c.place_in-high.ensures.0 _ _ _ k c.place_in.ensures.0) c.put-in-Some.ensures l.2)

pub returns : goal.returns
returns c = left_done _ _ _ _ _ _ (pack_none _ _ c.in_default.ensures.steps.0) c.loop-o.invariant.2
