-- Contracts of the code, not definitions to be believed. What a call leaves that judges by another room than the length of its output: measuring has no output, and judges by that of the longest document.
use Rattle.std.specs.Prelude.{ℕ, List, length, replicate, take, eqb, leb}
use Rattle.std.proofs.lemmas.List.Edits.{sets}
use Rattle.format.specs.Octets.{Octets, Words}
use Rattle.format.specs.Numbers.{pick}
use Rattle.format.specs.Tables.{link}
use Rattle.format.specs.Refusals.{SIZE, ROOM}
use Rattle.events.specs.declared.Event.{Event}
use Rattle.events.specs.FromWords.{records_of}
use Rattle.writer.specs.Writing.{Outcome, write_of}
use Rattle.writer.specs.Words.{WordsLeft, nothing, in_words}

-- The same in an output of `size` octets: as much of the document as it reaches, and 0 behind it. A refusal counts no octets.
abbrev pub reached : (size : ℕ) → Outcome → Outcome
reached size o = record { told = o.told; out = sets (replicate size 0) 0 (take o.told.count o.out); tables = o.tables }

-- What a call leaves in an output of `size` octets that judges by `room`, from events and from words.
unfoldable pub ran_of : (given : Words) → List Event → Octets → (room size table : ℕ) → Outcome
ran_of given es text room size table = reached size (write_of link given es text room table)

unfoldable pub ran_words : (given records : Words) → Octets → (room size t c : ℕ) → WordsLeft
ran_words given records text room size t c =
    pick (leb (length text) link.octets) (pick (eqb c 10) (in_words (ran_of given (records_of records) text room size t)) (nothing ROOM size t c)) (nothing SIZE size t c)
