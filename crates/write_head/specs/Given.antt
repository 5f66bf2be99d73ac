-- The tables that a caller gives the writer for the document's head: which words stand for which entries. The built-in entries are not among them; the numbers of names count these too.
use Rattle.std.specs.Prelude.{ℕ, zero, suc, ◌+◌, ◌*◌, Bool, ◌&&◌, ◌||◌, length, get_or, eqb, leb}
use Rattle.format.specs.Octets.{Words}
use Rattle.format.specs.Tables.{Vocabulary}
use Rattle.tables.specs.Rows.{triple_at, entries}
use Rattle.events.specs.declared.EventString.{EventString}
use Rattle.events.specs.FromWords.{string_from}

-- Given tables: strings as in events, names by the numbers of their parts.
abbrev pub Given : Type 0
Given = Vocabulary EventString

-- How many entries are given before those of table t. The first ten words are the ten counts.
unfoldable pub entries_before : Words → (t : ℕ) → ℕ
entries_before g zero = 0
entries_before g (suc t) = entries_before g t + get_or g t 0

-- No words at all, which is no head; or ten counts, and then three words for each entry: tag, place and length of a string, as in events; the three numbers of a name.
unfoldable pub is_given : Words → Bool
is_given g = eqb (length g) 0 || (leb 10 (length g) && eqb (length g) (10 + 3 * entries_before g 10))

-- The word where the entries of table t start.
unfoldable pub rows_of : Words → (t : ℕ) → ℕ
rows_of g t = 10 + 3 * entries_before g t

-- The tables that the words give, in the required order.
unfoldable pub given_of : Words → Given
given_of g =
    record {
      prefixes = entries (string_from g) (rows_of g 0) (get_or g 0 0);
      namespaces = entries (string_from g) (rows_of g 1) (get_or g 1 0);
      locals = entries (string_from g) (rows_of g 2) (get_or g 2 0);
      ncnames = entries (string_from g) (rows_of g 3) (get_or g 3 0);
      uris = entries (string_from g) (rows_of g 4) (get_or g 4 0);
      values = entries (string_from g) (rows_of g 5) (get_or g 5 0);
      chunks = entries (string_from g) (rows_of g 6) (get_or g 6 0);
      others = entries (string_from g) (rows_of g 7) (get_or g 7 0);
      elements = entries (triple_at g) (rows_of g 8) (get_or g 8 0);
      attributes = entries (triple_at g) (rows_of g 9) (get_or g 9 0);
    }
