-- An answer in the numbers and values that the requirements' table gives each case.
use Rattle.std.specs.Prelude.{ℕ, ◌+◌, ◌*◌, ◌^◌, [], ◌∷◌, length, replicate}
use Rattle.format.specs.Octets.{Words}
use Rattle.format.specs.Tables.{Vocabulary}

-- The number, 0 for accepted; the place; the count of events (writer: of octets); and the ten tables' counts, in the required order.
pub record Told : Type 0 where
  pub number : ℕ
  pub place : ℕ
  pub count : ℕ
  pub counts : Words

-- Accepted is 0 at place 0; a refusal has no counts.
abbrev pub told_accepted : (count : ℕ) (counts : Words) → Told
told_accepted count counts = record { number = 0; place = 0; count = count; counts = counts }

abbrev pub told_refused : (number place : ℕ) → Told
told_refused number place = record { number = number; place = place; count = 0; counts = replicate 10 0 }

-- How many entries the ten tables have.
unfoldable pub entries_of : {S : Type 0} → Vocabulary S → Words
entries_of v =
    length v.prefixes
    ∷ length v.namespaces
    ∷ length v.locals
    ∷ length v.ncnames
    ∷ length v.uris
    ∷ length v.values
    ∷ length v.chunks
    ∷ length v.others
    ∷ length v.elements
    ∷ length v.attributes
    ∷ []

-- The number that comes back to C: the place times 32 plus the number; and with the count above its 32 bits.
abbrev pub low_word : Told → ℕ
low_word t = t.place * 32 + t.number

abbrev pub whole_word : Told → ℕ
whole_word t = t.count * 2 ^ 32 + low_word t
