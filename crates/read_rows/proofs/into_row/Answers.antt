-- `into_row` meets its contract: a law for each way out.
-- Assumes nothing.
use mathlib.Core.Path.{◌≡◌, refl, sym, ◌∙◌}
use native.Mathlib.Omega.{arith}
use lib.ListN.{length}
use Rattle.std.specs.Prelude.{Ok, Err}
use Rattle.tables.proofs.Zeros.{zeroed}
use Rattle.read_names.proofs.StringLaws.{handed_on}
use Rattle.read_rows.proofs.Laws.{reads_size, reads_room, reads_fault, reads_filled}
use Rattle.read_rows.proofs.into_row.Goals as goal

pub returns-then-not-sized : goal.returns-then-not-sized
returns-then-not-sized c = reads_size _ _ _ c.at.ensures (sym c.if-not-sized.true ∙ c.sized.ensures)

pub returns-then-tables-ne-WORDS : goal.returns-then-tables-ne-WORDS
returns-then-tables-ne-WORDS c = reads_room _ _ _ (sym c.if-not-sized.false ∙ c.sized.ensures) c.at-then-tables-ne-WORDS.ensures c.if-tables-ne-WORDS.true

pub begun-requires : goal.begun-requires
begun-requires c = (zeroed _ (length c.args.tables.now) 7680 c.wipe.ensures.1 (omega arith), refl, refl)

pub returns-in_err-body : goal.returns-in_err-body
returns-in_err-body c = rw (handed_on _ _ c.from_residual.ensures) (reads_fault _ _ _ (sym c.if-not-sized.false ∙ c.sized.ensures) (omega arith) c.in_err-body.ensures refl)

pub returns-in_err-events : goal.returns-in_err-events
returns-in_err-events c =
    let a = c.wipe.auto in
    let n : length c.wipe.new.events ≡ length c.args.events.now = omega arith in
    rw (handed_on _ _ c.from_residual-in_err-events.ensures) (reads_filled _ _ _ (sym c.if-not-sized.false ∙ c.sized.ensures) (omega arith) c.in_ok-body.ensures (Err _) refl (rw (c.counts_in-counts.ensures, n) at c.in_err-events.ensures))

pub returns : goal.returns
returns c =
    let a = c.wipe.auto in
    let n : length c.wipe.new.events ≡ length c.args.events.now = omega arith in
    reads_filled _ _ _ (sym c.if-not-sized.false ∙ c.sized.ensures) (omega arith) c.in_ok-body.ensures (Ok _) refl (rw (c.counts_in-counts.ensures, n) at c.in_ok-events.ensures)
