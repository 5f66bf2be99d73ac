-- Contracts of the code, not definitions to be believed. How reading into lent room stands for the reading definition.
use Rattle.std.specs.Prelude as Std
use Rattle.std.specs.Prelude.{ℕ, ◌≡◌, List, Ok, Err}
use Rattle.format.specs.Octets.{Words}
use Rattle.format.specs.Refusals.{refusal_number}
use Rattle.format.specs.declared.refusals.Fault.{Fault}
use Rattle.tables.specs.Counts.{table_words}
use Rattle.tables.specs.declared.Counts.{Counts}
use Rattle.events.specs.declared.Event.{Event}
use Rattle.reader.specs.declared.Accepted.{Accepted}
use Rattle.reader.specs.Reading.{told, Result, Outcome, refusing, outcome}

-- What is left in a row of n records and in m words of table room, which hold `row` and `tables`: on a refusal,
-- everything is still to be made blank.
abbrev pub left_by : Std.Result Accepted Fault → (n m : ℕ) → (row : List Event) (tables : Words) → Outcome
left_by (Ok a) n m row tables = record { told = told (Ok a); row = row; tables = tables }
left_by (Err f) n m row tables = refusing (refusal_number f.refusal) f.at n m

-- The answer with the counts that a run left.
abbrev pub counted : Std.Result ℕ Fault → Counts → Std.Result Accepted Fault
counted (Ok n) c = Ok (record { events = n; counts = c })
counted (Err f) c = Err f

-- A run came out as x, with this answer and these counts, into a row of n records.
pub record Filled (r : Std.Result ℕ Fault) (c : Counts) (row : List Event) (tables : Words) (x : Result) (n : ℕ) : Type 0 where
  pub is : left_by (counted r c) n table_words row tables ≡ outcome x n
