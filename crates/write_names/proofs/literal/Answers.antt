-- `literal` meets its contract: a string that is spelled is a stretch; whether it is added is told by two tests, and its lead by what they come to.
-- Assumes nothing.
use borrow.Author.Tests.{ltb-true, ltb-false, lt-leb}
use native.Mathlib.Omega.{arith}
use mathlib.Core.Path.{◌≡◌, sym, ◌∙◌}
use mathlib.Core.Bool.{true≢false}
use Prim.Native.Nat.{◌+◌, ◌-◌, ◌<◌, ◌≤◌}
use lib.ListN.{get_or}
use lib.Pow.{pow_pos}
use Rattle.tables.proofs.FormLaws.{holds_any}
use Rattle.write_names.proofs.Stretches.{as_given, no_stretch}
use Rattle.write_names.proofs.StringLaws.{enter_ready, literal_new, literal_kept, literal_added}
use Rattle.write_names.proofs.literal.Goals.{then-n-le-SHORT, else-n-le-SHORT, then-adds, else-adds}
use Rattle.write_names.proofs.literal.Goals as goal

pub returns-in_default : goal.returns-in_default
returns-in_default c =
    absurd (no_stretch _ c.args.x c.requires.2 c.in_default.not-Stretch)

pub octets_of-n-requires : goal.octets_of-n-requires
octets_of-n-requires c =
    let s = as_given c.args.text.now c.args.x c.requires.2 c.in-Stretch.is in
    ((s.some, s.lies, s.sound), c.requires.0.size)

pub overflow_add-lead : goal.overflow_add-lead
overflow_add-lead c = let k : c.args.q.lead + c.args.q.add < 256 = omega (arith, pow_pos (9 - c.args.q.bit)) in omega arith

pub put_string-behind-requires : goal.put_string-behind-requires
put_string-behind-requires c =
    let s = as_given c.args.text.now c.args.x c.requires.2 c.in-Stretch.is in
    let few : c.if-adds.lead ≤ c.args.q.lead + c.args.q.add = elim c.if-adds.branch [ then-adds w ↦ omega arith | else-adds w ↦ omega arith ] in
    ((s.some, s.lies, s.sound), c.requires.0.size, omega arith, c.requires.4.2, omega (arith, few, c.requires.4.3), c.octets_of-n.ensures.0)

pub returns-then-not-adds : goal.returns-then-not-adds
returns-then-not-adds c =
    let s = as_given c.args.text.now c.args.x c.requires.2 c.in-Stretch.is in
    let e = c.if-not-adds.true in
    let keeps : c.octets_of-n.result ≤ 5 → 256 ≤ get_or c.args.counts.now c.args.q.table 0 =
    λ l. elim c.if-n-le-SHORT.branch [ then-n-le-SHORT w ↦ ltb-false _ 256 (sym w.adds-is ∙ e) | else-n-le-SHORT w ↦ absurd (omega arith) ] in
    let lead : c.if-adds.lead ≡ c.args.q.lead = elim c.if-adds.branch [ then-adds w ↦ absurd (true≢false (sym w.if-adds.true ∙ e)) | else-adds w ↦ w.lead-is ] in
    literal_kept _ _ _ _ c.requires.0 _ _ _ _ s c.args.q c.requires.4.0 c.requires.4.1 _ c.octets_of-n.ensures.0 keeps _ lead c.put_string-behind.ensures

pub bucket_said-h-requires : goal.bucket_said-h-requires
bucket_said-h-requires c =
    let s = as_given c.args.text.now c.args.x c.requires.2 c.in-Stretch.is in
    (s.some, s.lies, c.requires.0.size, s.sound)

pub added-requires : goal.added-requires
added-requires c =
    let s = as_given c.args.text.now c.args.x c.requires.2 c.in-Stretch.is in
    let e = c.if-not-adds.false in
    let room : get_or c.args.counts.now c.args.q.table 0 < 256 =
    elim c.if-n-le-SHORT.branch [ then-n-le-SHORT w ↦ ltb-true _ 256 (sym w.adds-is ∙ e) | else-n-le-SHORT w ↦ absurd (true≢false (sym e ∙ w.adds-is ∙ lt-leb _ 5 w.if-n-le-SHORT.false)) ] in (
      c.requires.0.ten,
      enter_ready _ _ _ _ c.args.q.table _ _ _ c.requires.0 c.requires.4.1 (holds_any _ _ c.requires.4.0) room s.some s.lies _ _ _ (literal_new _ _ _ _ c.requires.0 _ _ _ _ s _ c.requires.3) c.number.ensures.0 c.bucket_said-h.ensures,
    )

pub returns : goal.returns
returns c =
    let s = as_given c.args.text.now c.args.x c.requires.2 c.in-Stretch.is in
    let e = c.if-not-adds.false in
    let short : (c.octets_of-n.result ≤ 5) × (get_or c.args.counts.now c.args.q.table 0 < 256) =
    elim c.if-n-le-SHORT.branch [ then-n-le-SHORT w ↦ (w.if-n-le-SHORT.true, ltb-true _ 256 (sym w.adds-is ∙ e)) | else-n-le-SHORT w ↦ absurd (true≢false (sym e ∙ w.adds-is ∙ lt-leb _ 5 w.if-n-le-SHORT.false)) ] in
    let lead : c.if-adds.lead ≡ c.args.q.lead + c.args.q.add = elim c.if-adds.branch [ then-adds w ↦ w.lead-is | else-adds w ↦ absurd (true≢false (sym e ∙ w.if-adds.false)) ] in
    literal_added _ _ _ _ c.requires.0 _ _ _ _ s c.args.q c.requires.4.0 c.requires.4.1 _ c.octets_of-n.ensures.0 short.0 short.1 _ lead _ c.number.ensures.0 _ _ _ c.added.ensures c.put_string-behind.ensures
