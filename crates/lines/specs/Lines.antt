-- Lines of events: the letter of a kind and which strings its line has, and what the answer of a call says.
use Rattle.std.specs.Prelude.{ℕ, ◌≡◌, ◌≢◌, ◌^◌, ◌/◌, ◌%◌, Result, Ok, Err}
use Rattle.events.specs.declared.Kind.{Kind}
use Rattle.events.specs.declared.Kind.TheVariants.{Blank, Namespace, Start, Attribute, Chunk, Comment, Instruction, End}
use Rattle.lines.specs.declared.Refused.{Refused}

-- The letters, as ASCII has them: N, S, A, T, C, P, E. A blank record is no event, and its line is never read back.
abbrev pub letter_of : Kind → ℕ
letter_of Namespace = 0x4E
letter_of Start = 0x53
letter_of Attribute = 0x41
letter_of Chunk = 0x54
letter_of Comment = 0x43
letter_of Instruction = 0x50
letter_of End = 0x45
letter_of Blank = 0x45

-- Of prefix, namespace, name and value, by number: the first that a kind's line has.
abbrev pub first_of : Kind → ℕ
first_of Namespace = 0
first_of Start = 0
first_of Attribute = 0
first_of Instruction = 2
first_of Chunk = 3
first_of Comment = 3
first_of End = 4
first_of Blank = 4

-- And the one after its last.
abbrev pub end_of : Kind → ℕ
end_of Namespace = 2
end_of Start = 3
end_of Attribute = 4
end_of Instruction = 4
end_of Chunk = 4
end_of Comment = 4
end_of End = 4
end_of Blank = 4

-- An answer has the refusal in its low 32 bits, its number in the lowest five of them; or 0 there, and a count above them.
abbrev pub Says : ℕ → Result ℕ Refused → Type 0
Says answer (Ok n) = (answer % 2 ^ 32 ≡ 0) × (n ≡ answer / 2 ^ 32)
Says answer (Err r) = (answer % 2 ^ 32 ≢ 0) × (r.number ≡ answer % 32) × (r.place ≡ answer % 2 ^ 32 / 32)
