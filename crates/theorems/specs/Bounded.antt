-- What a version must keep to for the theorems to hold of it. That the link does is proofs/Document. (The words that callers lend for tables are for 256 entries in each, as on the link:
-- for a version with more, the definitions of the calls leave more words than were lent, so no code can meet them.)
use Rattle.std.specs.Prelude.{◌*◌, ◌≤◌}
use Rattle.format.specs.Numbers.{top, longest}
use Rattle.format.specs.Tables.{Version}

pub record Bounded (ver : Version) : Type 0 where
  -- a table can hold its built-in entry, and no entry is beyond the highest number
  pub some_entries : 1 ≤ ver.entries
  pub few_entries : ver.entries ≤ top
  -- no string of a document or of a text area is too long to be spelled; in UTF-8 it has at most four times the octets that it has in another form
  pub few_octets : 4 * ver.octets ≤ longest
