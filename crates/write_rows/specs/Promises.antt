-- Contracts of the code, not definitions to be believed. What a writing from a row leaves until a refusal is made nothing of.
use Rattle.std.specs.Prelude as Std
use Rattle.std.specs.Prelude.{ℕ, Ok, Err}
use Rattle.format.specs.Octets.{Octets, Words}
use Rattle.format.specs.Refusals.{refusal_number}
use Rattle.format.specs.declared.refusals.Fault.{Fault}
use Rattle.writer.specs.declared.Accepted.{Accepted}
use Rattle.writer.specs.Writing.{told, Outcome, refusing}

-- What is left in `size` octets and `table` words, which are `out` and `tables` then: on a refusal, all is still to be made 0.
abbrev pub left_by : Std.Result Accepted Fault → (size table : ℕ) → (out : Octets) (tables : Words) → Outcome
left_by (Ok a) size table out tables = record { told = told (Ok a); out = out; tables = tables }
left_by (Err f) size table out tables = refusing (refusal_number f.refusal) f.at size table
