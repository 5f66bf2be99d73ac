-- `named` meets its contract: an element by its name's answer, an attribute by those of name and value.
-- Assumes nothing.
use native.Mathlib.Omega.{arith}
use mathlib.Core.Path.{refl}
use Rattle.std.specs.Prelude.{Ok}
use Rattle.tables.specs.Rows.{table_of}
use Rattle.read_names.proofs.StringLaws.{handed_on}
use Rattle.read_items.specs.Promises.{lent}
use Rattle.read_items.proofs.Fields.{name_there}
use Rattle.read_items.proofs.ItemLaws.{start_met, value_refused, attribute_more}
use Rattle.read_items.proofs.HeadLaws.{attribute_table, name_element, name_attribute, name_refused, named_element, named_attribute}
use Rattle.read_items.proofs.items.named.Goals as goal

pub returns-in_err-name : goal.returns-in_err-name
returns-in_err-name c = rw (handed_on _ _ c.from_residual.ensures) (name_refused c.requires.1 c.in_err-name.ensures refl)

pub start_of-requires : goal.start_of-requires
start_of-requires c =
    let e = c.if-x-eq-ELEMENT_NAME.true in
    let read = name_element c.args.s.now c.args.counts.now c.args.t.now c.args.x (Ok c.in_ok-name.name) c.name.new.counts c.name.new.t c.name.new.index e c.in_ok-name.ensures in
    let left = read.1.0 in
    let size = left.tidy.size in
    let within = left.within in
    let inside = c.requires.1.inside in
    (name_there left.tidy 8 _ (omega arith) (omega arith) read.2 read.1.1, omega arith, omega arith)

pub returns-then-x-eq-ELEMENT_NAME : goal.returns-then-x-eq-ELEMENT_NAME
returns-then-x-eq-ELEMENT_NAME c =
    let e = c.if-x-eq-ELEMENT_NAME.true in
    let read = name_element c.args.s.now c.args.counts.now c.args.t.now c.args.x (Ok c.in_ok-name.name) c.name.new.counts c.name.new.t c.name.new.index e c.in_ok-name.ensures in
    start_met _ _ _ _ read.0 read.1 c.start_of.ensures (named_element _ c.args.x _ e)

pub keep_named-requires : goal.keep_named-requires
keep_named-requires c =
    let e = attribute_table _ _ c.requires.1 c.if-x-eq-ELEMENT_NAME.false in
    let read = name_attribute c.args.s.now c.args.counts.now c.args.t.now c.args.x (Ok c.in_ok-name.name) c.name.new.counts c.name.new.t c.name.new.index c.requires.1 e c.in_ok-name.ensures in
    let said = c.in_ok-v.ensures _ read.1.0.tidy in
    let size = c.requires.0.tidy.size in
    let inside = c.requires.1.inside in
    let more = said.1.grown.counts 9 in
    (name_there said.1.tidy 9 _ (omega arith) (omega arith) read.2 (omega (arith, read.1.1)), omega arith)

pub returns-in_err-v : goal.returns-in_err-v
unfolding table_of
returns-in_err-v c =
    let e = attribute_table _ _ c.requires.1 c.if-x-eq-ELEMENT_NAME.false in
    let read = name_attribute c.args.s.now c.args.counts.now c.args.t.now c.args.x (Ok c.in_ok-name.name) c.name.new.counts c.name.new.t c.name.new.index c.requires.1 e c.in_ok-name.ensures in
    rw (handed_on _ _ c.from_residual-in_err-v.ensures)
    (value_refused _ (named_attribute _ c.args.x _ e) (lent c.name.new.t c.name.new.counts c.name.new.index c.args.records.now) _ read.0 read.1
    (c.in_err-v.ensures _ read.1.0.tidy) refl)

pub returns : goal.returns
unfolding table_of
returns c =
    let e = attribute_table _ _ c.requires.1 c.if-x-eq-ELEMENT_NAME.false in
    let read = name_attribute c.args.s.now c.args.counts.now c.args.t.now c.args.x (Ok c.in_ok-name.name) c.name.new.counts c.name.new.t c.name.new.index c.requires.1 e c.in_ok-name.ensures in
    rw c.moved.ensures
    (attribute_more _ (named_attribute _ c.args.x _ e) (lent c.name.new.t c.name.new.counts c.name.new.index c.args.records.now) _ read.0 read.1
    (c.in_ok-v.ensures _ read.1.0.tidy) read.2 c.requires.0 c.keep_named.ensures)
