-- `put_name` meets its contract: the parts one behind the other.
-- Assumes nothing.
use native.Mathlib.Omega.{arith}
use mathlib.Core.Path.{◌≡◌, ◌∙◌}
use Rattle.format.specs.Head.{some?}
use Rattle.write_head.proofs.RowLaws.{some_is}
use Rattle.write_head.proofs.OctetLaws.{puts_name}
use Rattle.write_head.proofs.octets.put_name.Goals as goal

pub returns : goal.returns
returns c =
    let prefix : c.from.result ≡ some? c.args.prefix = c.from.ensures ∙ some_is c.args.prefix in
    let namespace : c.from-2.result ≡ some? c.args.namespace = c.from-2.ensures ∙ some_is c.args.namespace in
    puts_name _ _ _ _ (omega arith) c.put.ensures c.put_number-behind.ensures c.put_number-then.ensures c.put_number.ensures
