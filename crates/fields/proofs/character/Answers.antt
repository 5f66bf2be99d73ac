-- `character` meets its contract: the rows with which its first octet starts are those of one of UTF8-1 to UTF8-4, and by them it goes.
-- Assumes nothing.
use Rattle.std.proofs.Common.{refl, ◌∙◌, ap, arith}
use Rattle.fields.specs.Utf8.{rows, counted}
use Rattle.fields.proofs.Utf8.{apart, by_group}
use Rattle.fields.proofs.character.Goals as goal

pub returns-in-0-to-127 : goal.returns-in-0-to-127
returns-in-0-to-127 c =
    c.by_rows.ensures
    ∙ ap counted (by_group c.args.s.now (omega arith) c.table-rows.result 0 0 3 0x00 0x7F c.table-rows.ensures.0 (unfold apart rows in refl) (unfold apart rows in refl) (omega arith) (omega arith))

pub returns-in-128-to-223 : goal.returns-in-128-to-223
returns-in-128-to-223 c =
    c.by_rows-in-128-to-223.ensures
    ∙ ap counted (by_group c.args.s.now (omega arith) c.table-rows.result 1 3 4 0x80 0xDF c.table-rows.ensures.1 (unfold apart rows in refl) (unfold apart rows in refl) (omega arith) (omega arith))

pub returns-in-224-to-239 : goal.returns-in-224-to-239
returns-in-224-to-239 c =
    c.by_rows-in-224-to-239.ensures
    ∙ ap counted (by_group c.args.s.now (omega arith) c.table-rows.result 2 4 10 0xE0 0xEF c.table-rows.ensures.2 (unfold apart rows in refl) (unfold apart rows in refl) (omega arith) (omega arith))

pub returns-in_default : goal.returns-in_default
returns-in_default c =
    c.by_rows-in_default.ensures
    ∙ ap counted (by_group c.args.s.now (omega arith) c.table-rows.result 3 10 13 0xF0 0xFF c.table-rows.ensures.3 (unfold apart rows in refl) (unfold apart rows in refl) (omega arith) (let k = c.type_inv.s 0 in omega arith))
