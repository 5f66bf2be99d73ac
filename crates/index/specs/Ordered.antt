-- Contracts of the code, not definitions to be believed. What reader and writer keep of the tables in lent words.
use Rattle.std.specs.Prelude.{ℕ, ◌≤◌, ◌≡◌, Bool, length}
use Rattle.format.specs.Octets.{Octets, Words}
use Rattle.tables.specs.Counts.{table_words}
use Rattle.tables.specs.Rows.{vocabulary}
use Rattle.tables.specs.Kept.{Counted, Clean, AllInside, count_of, unlisted}
use Rattle.index.specs.Indexed.{Indexed}

-- The tables of octets s in lent words are in order: c are the words of the counts, w those of the tables, x the octets of the index, which has the tables that `only` names. `More` is what the
-- reader, or the writer, keeps beside.
pub record Ordered (only : ℕ → Bool) (s : Octets) (c w : Words) (x : Octets) (More : Type 0) : Type 0 where
  pub size : length s ≤ 16384
  pub ten : length c ≡ 10
  pub room : length w ≡ table_words
  pub counted : Counted (unlisted c)
  pub clean : Clean (unlisted c) w
  pub inside : AllInside s (vocabulary (unlisted c) w)
  pub indexed : Indexed only s (count_of (unlisted c)) w x
  pub more : More
