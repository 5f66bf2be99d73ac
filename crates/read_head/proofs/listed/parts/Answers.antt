-- `parts` meets its contract: the parts one after the other, then the triple; a refusal is handed on where it is found.
-- Assumes nothing.
use mathlib.Core.Path.{refl}
use Rattle.std.specs.Prelude.{Ok, Err}
use Rattle.read_names.proofs.NameLaws.{addable}
use Rattle.read_names.proofs.StringLaws.{handed_on}
use Rattle.read_head.proofs.EntryLaws.{name_prefix, name_namespace, name_local, name_added, parts_ranged}
use Rattle.read_head.proofs.listed.parts.Goals as goal

pub returns-in_err-prefix : goal.returns-in_err-prefix
returns-in_err-prefix c =
    rw (handed_on _ _ c.from_residual.ensures)
    (name_prefix c.args.s.now c.args.counts.now c.args.t.now _ _ c.requires.1 _ c.requires.4 c.requires.5 c.requires.6 c.args.index.now _ (c.in_err-prefix.ensures.0 c.args.t.now))

pub returns-in_err-namespace : goal.returns-in_err-namespace
returns-in_err-namespace c =
    let prefix = c.in_ok-prefix.ensures in
    rw (handed_on _ _ c.from_residual-in_err-namespace.ensures)
    (name_namespace c.args.s.now c.args.counts.now c.args.t.now _ _ c.requires.1 _ c.requires.4 c.requires.5 c.requires.6 _ c.bits.ensures _ _ (prefix.0 c.args.t.now) prefix.1.1
    c.args.index.now _ (c.in_err-namespace.ensures.0 c.args.t.now))

pub returns-in_err-local : goal.returns-in_err-local
returns-in_err-local c =
    let prefix = c.in_ok-prefix.ensures in
    let namespace = c.in_ok-namespace.ensures in
    rw (handed_on _ _ c.from_residual-in_err-local.ensures)
    (name_local c.args.s.now c.args.counts.now c.args.t.now _ _ c.requires.1 _ c.requires.4 c.requires.5 c.requires.6 _ c.bits.ensures _ _ (prefix.0 c.args.t.now) prefix.1.1
    _ _ (namespace.0 c.args.t.now) namespace.1.1 c.args.index.now _ (c.in_err-local.ensures.0 c.args.t.now))

pub triple-requires : goal.triple-requires
triple-requires c =
    let local = c.in_ok-local.ensures.1 in
    addable _ _ _ _ c.requires.0 _ c.requires.2 c.requires.3 _
    (parts_ranged c.args.counts.now _ _ _ c.in_ok-prefix.ensures.1.0 c.in_ok-namespace.ensures.1.0 (local.2 refl) local.0)

pub returns-in_err-added : goal.returns-in_err-added
returns-in_err-added c =
    let prefix = c.in_ok-prefix.ensures in
    let namespace = c.in_ok-namespace.ensures in
    let local = c.in_ok-local.ensures in
    let t = c.in_err-added.ensures in
    rw (handed_on _ _ c.from_residual-in_err-added.ensures)
    (name_added c.args.s.now c.args.counts.now c.args.t.now _ _ c.requires.1 _ c.requires.4 c.requires.5 c.requires.6 _ c.bits.ensures _ _ (prefix.0 c.args.t.now) prefix.1.1
    _ _ (namespace.0 c.args.t.now) namespace.1.1 _ _ (local.0 c.args.t.now) local.1.1 (Err c.in_err-added.field-0.0) _ _ c.triple.new.index t.0 (t.1 _ c.requires.0 local.1.1))

pub returns : goal.returns
returns c =
    let prefix = c.in_ok-prefix.ensures in
    let namespace = c.in_ok-namespace.ensures in
    let local = c.in_ok-local.ensures in
    let t = c.in_ok-added.ensures in
    name_added c.args.s.now c.args.counts.now c.args.t.now _ _ c.requires.1 _ c.requires.4 c.requires.5 c.requires.6 _ c.bits.ensures _ _ (prefix.0 c.args.t.now) prefix.1.1
    _ _ (namespace.0 c.args.t.now) namespace.1.1 _ _ (local.0 c.args.t.now) local.1.1 (Ok c.in_ok-added.added) _ _ c.triple.new.index t.0 (t.1 _ c.requires.0 local.1.1)
