-- Contracts of the code, not definitions to be believed. Words with an event kept in one of their records.
use Rattle.std.specs.Prelude.{ℕ, ◌*◌, ◌/◌, length, ltb}
use Rattle.std.proofs.lemmas.List.Edits.{sets}
use Rattle.format.specs.Octets.{Words}
use Rattle.format.specs.Numbers.{pick}
use Rattle.events.specs.declared.Event.{Event}
use Rattle.events.specs.Records.{placed}
use Rattle.events.specs.Words.{record_words}

-- Words with an event, read at a place, in record n, if they have one.
unfoldable pub kept : Words → ℕ → (place : ℕ) → Event → Words
kept w n place e = pick (ltb n (length w / 14)) (sets w (14 * n) (record_words (placed place e))) w
