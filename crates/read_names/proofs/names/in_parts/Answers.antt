-- `in_parts` meets its contract: the strings one after the other, then the triple; a refusal is handed on where it is found.
-- Assumes nothing.
use Rattle.read_names.proofs.NameLaws.{addable, layout_table, parts_lone, parts_prefix, parts_namespace, parts-local, parts-read, positive, strings_ranged, local_new, new_says}
use Rattle.read_names.proofs.Grown.{grown_on, left_on}
use Rattle.tables.specs.Kept.{name_table_of}
use Rattle.read_names.proofs.names.in_parts.Goals as goal

pub returns-then-pn-eq2 : goal.returns-then-pn-eq2
returns-then-pn-eq2 c =
    rw c.at.ensures (parts_lone _ _ _ _ _ _ c.bits-pn.ensures c.if-pn-eq2.true, (c.requires.0.ten, c.requires.0.room), tt)

pub returns-in_default : goal.returns-in_default
returns-in_default c =
    let f = c.in_default.ensures in
    rw c.in_default.is (parts_prefix _ _ _ _ _ _ c.bits-pn.ensures c.if-pn-eq2.false _ _ f.0, f.1, tt)

pub returns-in_default-second : goal.returns-in_default-second
returns-in_default-second c =
    let first = c.in-Ok.ensures in
    let f = c.in_default-second.ensures in
    rw c.in_default-second.is (parts_namespace _ _ _ _ _ _ c.bits-pn.ensures c.if-pn-eq2.false _ c.bits-there.ensures _ _ _ first.0 _ _ f.0, f.1, tt)

pub returns-in_default-third : goal.returns-in_default-third
returns-in_default-third c =
    let first = c.in-Ok.ensures in
    let second = c.in-Ok-second.ensures in
    let f = c.in_default-third.ensures in
    rw c.in_default-third.is (parts-local _ _ _ _ _ _ c.bits-pn.ensures c.if-pn-eq2.false _ c.bits-there.ensures _ _ _ first.0 _ _ _ second.0 _ _ f.0, f.1, tt)

pub triple-requires : goal.triple-requires
triple-requires c =
    let first = c.in-Ok.ensures in
    let second = c.in-Ok-second.ensures in
    let third = c.in-Ok-third.ensures in (
      addable _ _ _ _ third.1.0.tidy _ c.requires.2 c.requires.3 _ (strings_ranged _ _ _ _ _ _ _ _ _ first.1.1 second.1.1 third.1.1 second.1.0.grown third.1.0.grown third.2),
      λ h. local_new _ _ _ _ c.id-third.new.counts c.id-third.new.t _ _ _ second.1.0.tidy third.0 (name_table_of c.args.table) c.in-Ok.prefix.value c.in-Ok-second.namespace.value h,
    )

pub returns : goal.returns
returns c =
    let first = c.in-Ok.ensures in
    let second = c.in-Ok-second.ensures in
    let third = c.in-Ok-third.ensures in
    let t = c.triple.ensures in
    let left = t.1 _ third.1.0.tidy third.1.0.within in (
      parts-read _ _ _ _ _ _ c.bits-pn.ensures c.if-pn-eq2.false _ c.bits-there.ensures _ _ _ first.0 _ _ _ second.0 _ _ _ third.0 _ (layout_table _ c.requires.2 c.requires.3) c.triple.result _ _ t.0 (new_says _ _ _ _ _ _ _ _ _ first.1.1 second.1.1 third.1.1 second.1.0.grown third.1.0.grown _ _ _ _ _ c.triple.result left t.2),
      left_on _ _ _ _ _ _ _ _ _ c.triple.result (grown_on _ _ _ _ _ _ first.1.0.grown (grown_on _ _ _ _ _ _ second.1.0.grown third.1.0.grown)) left,
      positive _ _ _ c.triple.result t.2,
    )
