-- `pack_octets` meets its contract: two octets are put in one, after those before, and the last alone where it is left over.
-- Assumes nothing.
use borrow.Author.Rules.{rules}
use native.Mathlib.Omega.{arith}
use mathlib.Core.Path.{refl, ◌∙◌}
use Rattle.fields.proofs.Puts.{puts_nothing, puts_fitting}
use Rattle.std.proofs.lemmas.List.{nil_from_length}
use Rattle.forms.specs.Packing.{alphabet}
use Rattle.forms.specs.Streams.{part}
use Rattle.forms.proofs.Forms.{packed-length}
use Rattle.forms.proofs.Streams.{part_length}
use Rattle.forms.proofs.Puts.{left_done, left_next, left-place}
use Rattle.forms.proofs.Packs.{in_pairs, pack_none}
use Rattle.forms.proofs.packing.pack_octets.Goals as goal
use Rattle.forms.proofs.packing.pack_octets.Goals.{then-pair-eq2, else-pair-eq2}

pub returns-then-out-at : goal.returns-then-out-at
returns-then-out-at c =
    let a = c.args in
    let n = packed-length (alphabet a.letters) (part a.s.now a.from a.to) in
    let m = part_length a.s.now a.from a.to c.requires.2 in
    puts_fitting _ 0 (puts_nothing (omega arith)) (omega arith) (omega arith)

pub loop-pair-init : goal.loop-pair-init
loop-pair-init c =
    rw (c.into_iter-pair-iterator.ensures.into_iter_gives, c.chunks-pair-items.ensures.rest, c.chunks-pair-items.ensures.size)
    (refl, c.requires.4, λ r out' p. p)

pub place_in-high-requires : goal.place_in-high-requires
place_in-high-requires c =
    let s = c.in-Some.ensures.steps in
    let l = c.loop-pair.invariant in
    (in_pairs (alphabet c.args.letters) _ _ _ s.1.0 (rw l.0 at s.1.1) s.1.2 l.1).first

pub place_in-low-requires : goal.place_in-low-requires
place_in-low-requires c =
    let s = c.in-Some.ensures.steps in
    let l = c.loop-pair.invariant in
    (in_pairs (alphabet c.args.letters) _ _ _ s.1.0 (rw l.0 at s.1.1) s.1.2 l.1).second c.if-pair-eq2.true

pub overflow_add-i : goal.overflow_add-i
overflow_add-i c =
    let a = c.args in
    let p = c.requires in
    let e = left-place _ _ _ _ _ _ c.loop-pair.invariant.2 in
    let n = packed-length (alphabet a.letters) (part a.s.now a.from a.to) in
    let m = part_length a.s.now a.from a.to p.2 in
    search rules

pub loop-pair-preserved : goal.loop-pair-preserved
loop-pair-preserved c =
    let s = c.in-Some.ensures.steps in
    let l = c.loop-pair.invariant in
    let p = in_pairs (alphabet c.args.letters) _ _ _ s.1.0 (rw l.0 at s.1.1) s.1.2 l.1 in (
      s.0 ∙ l.0,
      p.after,
      elim c.if-pair-eq2.branch [
        | then-pair-eq2 w ↦ left_next _ _ _ _ _ _ _ _ _ (p.two w.if-pair-eq2.true _ _ c.place_in-high.ensures.0 (w.low-is ∙ w.place_in-low.ensures.0)) c.put.ensures l.2
        | else-pair-eq2 w ↦ left_next _ _ _ _ _ _ _ _ _ (p.one w.if-pair-eq2.false _ c.place_in-high.ensures.0) (rw w.low-is at c.put.ensures) l.2
      ],
    )

pub returns : goal.returns
returns c = left_done _ _ _ _ _ _ (pack_none _ _ (nil_from_length _ c.in-None.ensures.steps.1.0)) c.loop-pair.invariant.2
