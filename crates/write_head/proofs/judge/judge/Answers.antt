-- `judge` meets its contract: a law for each way out. What a call of `all_keep` tells of the rows is told of all of them by `all_keep` of RowLaws, or of one by `row_breaks`.
-- Assumes nothing.
use Rattle.std.proofs.Common.{rules}
use mathlib.Core.Path.{◌≡◌, sym, ◌∙◌}
use mathlib.Core.Bool.{true, false}
use Rattle.write_head.specs.RowContracts.{keeps_row, keeps, Right, Texts}
use Rattle.write_head.proofs.RowLaws.{all_keep, row_breaks}
use Rattle.write_head.proofs.BeginLaws.{not_right, not_text, not_new, not_few, all_few}
use Rattle.write_head.proofs.judge.judge.Goals as goal

pub returns-then-not-all_keep : goal.returns-then-not-all_keep
returns-then-not-all_keep c =
    let w = c.all_keep.ensures.one c.if-not-all_keep.true in
    let broken : keeps_row 16 c.args.text.now c.args.given.now w.0 w.1 ≡ false = search rules in
    not_right _ _ (row_breaks _ _ _ (w.0, w.1, w.2, w.3, broken))

pub all_keep-requires-2-clause-rows : goal.all_keep-requires-2-clause-rows
all_keep-requires-2-clause-rows c =
    let right : Right c.args.text.now c.args.given.now = all_keep _ _ _ (λ t i h l. let p = c.all_keep.ensures.all c.if-not-all_keep.false t i h l in search rules) in
    search rules

pub returns-then-not-all_keep-2 : goal.returns-then-not-all_keep-2
returns-then-not-all_keep-2 c =
    let right : Right c.args.text.now c.args.given.now = all_keep _ _ _ (λ t i h l. let p = c.all_keep.ensures.all c.if-not-all_keep.false t i h l in search rules) in
    let w = c.all_keep-2.ensures.one c.if-not-all_keep-2.true in
    let broken : keeps_row 9 c.args.text.now c.args.given.now w.0 w.1 ≡ false = search rules in
    not_text _ _ right (row_breaks _ _ _ (w.0, w.1, w.2, w.3, broken))

pub returns-then-are_few : goal.returns-then-are_few
returns-then-are_few c =
    let right : Right c.args.text.now c.args.given.now = all_keep _ _ _ (λ t i h l. let p = c.all_keep.ensures.all c.if-not-all_keep.false t i h l in search rules) in
    let texts : Texts c.args.text.now c.args.given.now = all_keep _ _ _ (λ t i h l. let p = c.all_keep-2.ensures.all c.if-not-all_keep-2.false t i h l in search rules) in
    all_few _ _ right texts (sym c.are_few.ensures ∙ c.if-are_few.true)

pub all_keep-requires-3-clause-rows : goal.all_keep-requires-3-clause-rows
all_keep-requires-3-clause-rows c =
    let right : Right c.args.text.now c.args.given.now = all_keep _ _ _ (λ t i h l. let p = c.all_keep.ensures.all c.if-not-all_keep.false t i h l in search rules) in
    search rules

pub returns-then-not-all_keep-3 : goal.returns-then-not-all_keep-3
returns-then-not-all_keep-3 c =
    let right : Right c.args.text.now c.args.given.now = all_keep _ _ _ (λ t i h l. let p = c.all_keep.ensures.all c.if-not-all_keep.false t i h l in search rules) in
    let texts : Texts c.args.text.now c.args.given.now = all_keep _ _ _ (λ t i h l. let p = c.all_keep-2.ensures.all c.if-not-all_keep-2.false t i h l in search rules) in
    let w = c.all_keep-3.ensures.one c.if-not-all_keep-3.true in
    let broken : keeps_row 11 c.args.text.now c.args.given.now w.0 w.1 ≡ false = search rules in
    not_new _ _ right texts (row_breaks _ _ _ (w.0, w.1, w.2, w.3, broken))

pub returns : goal.returns
returns c =
    let right : Right c.args.text.now c.args.given.now = all_keep _ _ _ (λ t i h l. let p = c.all_keep.ensures.all c.if-not-all_keep.false t i h l in search rules) in
    let texts : Texts c.args.text.now c.args.given.now = all_keep _ _ _ (λ t i h l. let p = c.all_keep-2.ensures.all c.if-not-all_keep-2.false t i h l in search rules) in
    let new : keeps 11 c.args.text.now c.args.given.now ≡ true = all_keep _ _ _ (λ t i h l. let p = c.all_keep-3.ensures.all c.if-not-all_keep-3.false t i h l in search rules) in
    not_few _ _ right texts new (sym c.if-are_few.false ∙ c.are_few.ensures)
