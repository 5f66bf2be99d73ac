-- `bucket_other` meets its contract: by the octets as they were put in UTF-8.
-- Assumes nothing.
use borrow.Author.Rules.{rules}
use native.Mathlib.Omega.{arith}
use mathlib.Core.Path.{◌∙◌}
use Rattle.tables.proofs.SaidLaws.{sound_part, says_some}
use Rattle.index.proofs.Hash.{put_length, bucket_put_counted}
use Rattle.index.proofs.bucket_other.Goals as goal

pub put_said-n-requires : goal.put_said-n-requires
put_said-n-requires c =
    let a = c.args in
    (omega arith, omega arith, omega arith, omega arith, sound_part a.s.now a.form a.place a.len c.requires.3)

pub bucket_of-requires : goal.bucket_of-requires
bucket_of-requires c =
    let p = c.requires in
    let a = c.args in
    let some = says_some a.s.now a.form a.place a.len p.1 p.0 in
    let put = put_length a.s.now a.form a.place a.len _ _ _ c.put_said-n.ensures.0 in
    search rules

pub returns : goal.returns
returns c =
    let a = c.args in
    (c.bucket_of.ensures.0 ∙ bucket_put_counted a.s.now a.form a.place a.len _ _ _ c.put_said-n.ensures.0 (omega arith) _ c.min.ensures, c.bucket_of.ensures.1)
