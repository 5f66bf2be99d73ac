-- The words that a caller gives for a head, from the tables that they are to say.
use Rattle.std.specs.Prelude.{◌++◌}
use Rattle.format.specs.Octets.{Words}
use Rattle.tables.specs.Counts.{triple_words, rows_of}
use Rattle.tables.specs.Told.{entries_of}
use Rattle.events.specs.Words.{string_words}
use Rattle.write_head.specs.Given.{Given}

-- The ten counts; then, table by table, tag, place and length of each string, and the three numbers of each name.
unfoldable pub given_words : Given → Words
given_words g =
    entries_of g
    ++ (rows_of string_words g.prefixes ++ (rows_of string_words g.namespaces ++ (rows_of string_words g.locals ++ (rows_of string_words g.ncnames ++ (rows_of string_words g.uris
    ++ (rows_of string_words g.values ++ (rows_of string_words g.chunks ++ (rows_of string_words g.others ++ (rows_of triple_words g.elements ++ rows_of triple_words g.attributes)))))))))
