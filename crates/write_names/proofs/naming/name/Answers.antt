-- `name` meets its contract: the numbers that are looked up are those that the definition looks up.
-- Assumes nothing.
use native.Mathlib.Omega.{arith}
use Rattle.write_names.proofs.Order.{counted_at}
use Rattle.write_names.proofs.NameLaws.{names_ready, name_found, name_few, name_new, name_numbered}
use Rattle.write_names.proofs.naming.name.Goals as goal

pub number_then-requires : goal.number_then-requires
number_then-requires c =
    let few = counted_at _ _ _ _ 0 c.requires.0 in
    omega arith

pub number_then-requires-2 : goal.number_then-requires-2
number_then-requires-2 c =
    let few = counted_at _ _ _ _ 1 c.requires.0 in
    omega arith

pub number_then-requires-3 : goal.number_then-requires-3
number_then-requires-3 c =
    let few = counted_at _ _ _ _ 2 c.requires.0 in
    omega arith

pub offset_bounds-counts-table : goal.offset_bounds-counts-table
offset_bounds-counts-table c =
    omega (arith, c.requires.2.1)

pub bounds-counts-table : goal.bounds-counts-table
bounds-counts-table c =
    omega (arith, c.requires.2.1, c.requires.0.ten)

pub find_name-n-requires : goal.find_name-n-requires
find_name-n-requires c =
    names_ready _ _ _ _ _ c.requires.0 c.requires.2.0 c.requires.2.1

pub put_name_number-requires : goal.put_name_number-requires
put_name_number-requires c =
    let proper = c.requires.2 in
    let few = name_few _ _ _ _ c.requires.0 c.args.name proper c.number_of.ensures c.number_of-2.ensures c.number_of-3.ensures c.number_then.ensures c.number_then-2.ensures c.number_then-3.ensures c.find_name-n.ensures in
    omega arith

pub returns-then-n-ne0 : goal.returns-then-n-ne0
returns-then-n-ne0 c =
    let proper = c.requires.2 in
    name_numbered _ _ _ _ c.requires.0 c.args.name _ (name_found _ _ _ _ c.requires.0 c.args.name proper c.number_of.ensures c.number_of-2.ensures c.number_of-3.ensures c.number_then.ensures c.number_then-2.ensures c.number_then-3.ensures c.find_name-n.ensures) c.if-n-ne0.true c.put_name_number.ensures

pub parts-requires : goal.parts-requires
parts-requires c =
    let proper = c.requires.2 in
    let none = c.if-n-ne0.false in
    (c.requires.0, c.requires.1, name_new _ _ _ _ c.requires.0 c.args.name proper c.number_of.ensures c.number_of-2.ensures c.number_of-3.ensures c.number_then.ensures c.number_then-2.ensures c.number_then-3.ensures c.find_name-n.ensures (omega (arith, none)), proper)
