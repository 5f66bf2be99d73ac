-- `id` meets its contract: a law for each way out.
-- Assumes nothing.
use native.Mathlib.Omega.{arith}
use mathlib.Core.Path.{refl}
use Rattle.format.specs.declared.StringForm.TheVariants.{Utf8}
use Rattle.write_names.proofs.StringLaws.{enter_ready, id_numbered, id_full, id_stretch, id_new, id_added}
use Rattle.write_names.proofs.id.Goals as goal

pub returns-then-x-ne0 : goal.returns-then-x-ne0
returns-then-x-ne0 c =
    let looked = c.requires.3 in
    id_numbered _ _ _ _ c.requires.0 c.args.x c.requires.2 looked (omega arith) c.put_number_at_bit_2.ensures

pub returns-then-counts-table-ge-ENTRIES : goal.returns-then-counts-table-ge-ENTRIES
returns-then-counts-table-ge-ENTRIES c =
    let looked = c.requires.3 in
    (refl, id_full _ _ _ _ c.requires.0 c.args.x c.requires.2 looked (omega arith) (omega arith))

pub spelled-behind-requires : goal.spelled-behind-requires
spelled-behind-requires c =
    let looked = c.requires.3 in
    let none = c.if-x-ne0.false in
    let s = id_stretch _ _ _ _ c.requires.0 c.args.x c.requires.2 looked (omega (arith, none)) _ _ c.place-place.ensures c.size-size.ensures in
    omega (arith, s.some, s.lies, c.requires.0.size)

pub bucket_of-h-requires : goal.bucket_of-h-requires
bucket_of-h-requires c =
    let looked = c.requires.3 in
    let none = c.if-x-ne0.false in
    let s = id_stretch _ _ _ _ c.requires.0 c.args.x c.requires.2 looked (omega (arith, none)) _ _ c.place-place.ensures c.size-size.ensures in
    (s.some, s.lies)

pub added-requires : goal.added-requires
added-requires c =
    let looked = c.requires.3 in
    let none = c.if-x-ne0.false in
    let s = id_stretch _ _ _ _ c.requires.0 c.args.x c.requires.2 looked (omega (arith, none)) _ _ c.place-place.ensures c.size-size.ensures in (
      c.requires.0.ten,
      enter_ready _ _ _ _ c.args.x.table Utf8 _ _ c.requires.0 (omega (arith, looked.0)) (λ l. refl) (omega (arith, c.if-counts-table-ge-ENTRIES.false)) s.some s.lies _ _ _ (id_new _ _ _ _ c.requires.0 c.args.x c.requires.2 looked (omega (arith, none)) _ _ c.place-place.ensures c.size-size.ensures) refl c.bucket_of-h.ensures,
    )

pub returns : goal.returns
returns c =
    let looked = c.requires.3 in
    let none = c.if-x-ne0.false in
    let room = c.if-counts-table-ge-ENTRIES.false in
    id_added _ _ _ _ c.requires.0 c.args.x c.requires.2 looked (omega (arith, none)) _ _ c.place-place.ensures c.size-size.ensures (omega (arith, room)) _ _ _ c.added.ensures c.spelled-behind.ensures
