-- `not_plain_by_eights` meets its contract: the eights that were looked at, from the first octet on, and the last eight, which are looked at first.
-- Assumes nothing.
use Rattle.std.proofs.Common.{◌≡◌, ◌*◌, length}
use lib.Bits.{bit_and}
use Rattle.fields.specs.WeightContracts.{high_bits, Plain}
use Rattle.fields.proofs.not_plain_by_eights.Given as goal

abbrev pub invariant-loop-k : goal.invariant-loop-k
invariant-loop-k l = bit_and l.seen (high_bits 8) ≡ 0 → Plain l.s 0 (8 * l.k) × Plain l.s l.last (length l.s)
