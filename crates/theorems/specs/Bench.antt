-- The bench (the requirements, "Documents on the bench"): the cases of its first two tables, and others with what these leave out, in one list. That each is found as it is wanted is proofs/Bench.
use Rattle.std.specs.Prelude.{ℕ, zero, suc, List, [], ◌∷◌, ◌++◌, map, replicate}
use Rattle.std.proofs.Math.Option.{none, some}
use Rattle.format.specs.Octets.{Octets}
use Rattle.format.specs.Events.{Name, Event, Namespace, Start, Attribute, Text, Comment, Instruction, End, event_map}
use Rattle.format.specs.Tables.{Triple, Vocabulary, no_entries, xml_prefix, xml_namespace, link}
use Rattle.format.specs.declared.StringForm.TheVariants.{Utf8, Numeric, Short}
use Rattle.tables.specs.Located.{Located, octets_of, plain_tables}
use Rattle.events.specs.declared.EventString.{EventString}
use Rattle.events.specs.declared.EventString.TheVariants.{Stretch}
use Rattle.events.specs.declared.Event.{Event as Record}
use Rattle.reader.specs.Reading as RReading
use Rattle.write_head.specs.Given.{Given}
use Rattle.write_head.specs.Head.{head_octets}
use Rattle.write_items.specs.Steps.{joined}
use Rattle.writer.specs.Writing as WWriting

-- A document, the tables that its head lists, as they are given to the writer with the document as text area, and the events and the tables that it stands for; one that the writer writes as
-- other octets; octets, the refusal's number and its place; or a document and the place of each event.
pub data Case : Type 0 where
  document : Octets → Given → List (Event Octets) → Vocabulary Octets → Case
  rewritten : Octets → Given → List (Event Octets) → Vocabulary Octets → (written : Octets) → Case
  refused : Octets → (number place : ℕ) → Case
  placed : Octets → (places : List ℕ) → Case

-- What reading finds: events and tables, and what writing these events behind the given tables, with the document as text area, gives; a refusal; or the places in the records.
pub data Found : Type 0 where
  found : List (Event Octets) → Vocabulary Octets → Octets → Vocabulary Octets → Found
  number : ℕ → ℕ → Found
  places : List ℕ → Found

abbrev events_in : Octets → List RReading.EventRead → List (Event Octets)
events_in s es = map (λ (e : RReading.EventRead). event_map (octets_of s) e.item.event) es

abbrev pub both : Octets → Given → List RReading.EventRead → Vocabulary Located → WWriting.Result → Found
both s g es v (WWriting.written js hs z) = found (events_in s es) (plain_tables s v) (head_octets link s g ++ joined hs) (plain_tables s z.tables)
both s g es v (WWriting.refusal n p) = number n p

abbrev pub read : Octets → Given → RReading.Result → Found
read s g (RReading.accepted es m) = both s g es m.state.tables (WWriting.writing link g s 16384 (map RReading.record_read es))
read s g (RReading.refusal n p) = number n p

abbrev pub places_read : RReading.Result → Found
places_read (RReading.accepted es m) = places (map (λ (e : Record). e.place) (map RReading.record_read es))
places_read (RReading.refusal n p) = number n p

abbrev pub finds : Case → Found
finds (document s g es v) = read s g (RReading.reading link s 32768)
finds (rewritten s g es v w) = read s g (RReading.reading link s 32768)
finds (refused s n p) = read s no_entries (RReading.reading link s 32768)
finds (placed s ps) = places_read (RReading.reading link s 32768)

abbrev pub wants : Case → Found
wants (document s g es v) = found es v s v
wants (rewritten s g es v w) = found es v w v
wants (refused s n p) = number n p
wants (placed s ps) = places ps

-- Strings of the cases.
abbrev a : Octets
a = 0x61 ∷ []

abbrev b : Octets
b = 0x62 ∷ []

abbrev c : Octets
c = 0x63 ∷ []

abbrev u : Octets
u = 0x75 ∷ []

abbrev hi : Octets
hi = 0x68 ∷ 0x69 ∷ []

abbrev p : Octets
p = 0x70 ∷ []

abbrev t : Octets
t = 0x74 ∷ []

-- Strings of five and of six octets: the writer adds the first to its table, and not the second.
abbrev fives : Octets
fives = 0x66 ∷ 0x69 ∷ 0x76 ∷ 0x65 ∷ 0x73 ∷ []

abbrev sixsix : Octets
sixsix = 0x73 ∷ 0x69 ∷ 0x78 ∷ 0x73 ∷ 0x69 ∷ 0x78 ∷ []

-- Strings of nine octets, which differ in the last: their length takes one octet from bit 2 (C.22), and two from bit 5 (C.23).
abbrev nine : ℕ → Octets
nine k = 0x6E ∷ 0x69 ∷ 0x6E ∷ 0x65 ∷ 0x2D ∷ 0x6E ∷ 0x69 ∷ 0x6E ∷ k ∷ []

abbrev local : Octets → Name Octets
local x = record { prefix = none; namespace = none; local = x }

abbrev triple : ℕ → ℕ → ℕ → Triple
triple p n l = record { prefix = p; namespace = n; local = l }

-- The tables: namespaces behind the built-in one, local names, values, chunks, names of elements and of attributes.
abbrev tables : (namespaces locals values chunks : List Octets) (elements attributes : List Triple) → Vocabulary Octets
tables ns ls vs cs es ts =
    record { prefixes = xml_prefix ∷ []; namespaces = xml_namespace ∷ ns; locals = ls; ncnames = []; uris = []; values = vs; chunks = cs; others = []; elements = es; attributes = ts }

abbrev behind_header : Octets → Octets
behind_header x = 0xE0 ∷ 0x00 ∷ 0x00 ∷ 0x01 ∷ 0x00 ∷ x

-- A document that has no head.
abbrev plain : Octets → List (Event Octets) → Vocabulary Octets → Case
plain s es v = document s no_entries es v

-- Behind the identification and the octet that announces a head.
abbrev in_head : Octets → Octets
in_head x = 0xE0 ∷ 0x00 ∷ 0x00 ∷ 0x01 ∷ 0x20 ∷ x

-- Behind a head's table of local names, which lists a, where its table of names of elements begins.
abbrev in_names : Octets → Octets
in_names x = in_head (0x00 ∷ 0x82 ∷ 0x00 ∷ 0x00 ∷ 0x61 ∷ x)

-- What the heads of the cases list: one octet at each of these places, as local names, values and chunks; and names of elements.
abbrev at : ℕ → EventString
at place = Stretch Utf8 place 1

abbrev listing : (locals values chunks : List EventString) (elements : List Triple) → Given
listing ls vs cs es = record { prefixes = []; namespaces = []; locals = ls; ncnames = []; uris = []; values = vs; chunks = cs; others = []; elements = es; attributes = [] }

-- The same octets so many times.
abbrev times : ℕ → Octets → Octets
times zero x = []
times (suc n) x = x ++ times n x

-- A string of nine octets in each table of strings, another in each; a name of an element and one of an attribute; then an element by its number.
abbrev identified : ℕ → Octets
identified k = 0x00 ∷ 0x08 ∷ nine k

abbrev another : ℕ → Octets
another k = 0x00 ∷ 0x08 ∷ 0x00 ∷ nine k

abbrev ten_listed : Octets
ten_listed =
    let names : Octets = 0x00 ∷ 0x03 ∷ 0x01 ∷ 0x00 ∷ 0x00 ∷ 0x00 ∷ 0x00 ∷ 0x00 ∷ [] in
    in_head
    (0x03
    ∷ 0xFF
    ∷ (identified 0x61 ++ identified 0x62 ++ identified 0x63 ++ identified 0x64 ++ identified 0x65 ++ another 0x66 ++ another 0x67 ++ another 0x68 ++ names ++ (0x00 ∷ 0xFF ∷ [])))

-- The characters of the alphabets, in order, and their octets there: places 0 to 14, and 15 that fills up. A in UTF-16 and in UTF-8, with a character above FFFF.
abbrev all_numeric : Octets
all_numeric = 0x30 ∷ 0x31 ∷ 0x32 ∷ 0x33 ∷ 0x34 ∷ 0x35 ∷ 0x36 ∷ 0x37 ∷ 0x38 ∷ 0x39 ∷ 0x2D ∷ 0x2B ∷ 0x2E ∷ 0x65 ∷ 0x20 ∷ []

abbrev all_dates : Octets
all_dates = 0x30 ∷ 0x31 ∷ 0x32 ∷ 0x33 ∷ 0x34 ∷ 0x35 ∷ 0x36 ∷ 0x37 ∷ 0x38 ∷ 0x39 ∷ 0x2D ∷ 0x3A ∷ 0x54 ∷ 0x5A ∷ 0x20 ∷ []

abbrev all_places : Octets
all_places = 0x01 ∷ 0x23 ∷ 0x45 ∷ 0x67 ∷ 0x89 ∷ 0xAB ∷ 0xCD ∷ 0xEF ∷ []

abbrev pair16 : Octets
pair16 = 0x00 ∷ 0x41 ∷ 0xD8 ∷ 0x3D ∷ 0xDE ∷ 0x00 ∷ []

abbrev pair : Octets
pair = 0x41 ∷ 0xF0 ∷ 0x9F ∷ 0x98 ∷ 0x80 ∷ []

abbrev digits : Octets
digits = 0x31 ∷ 0x32 ∷ 0x33 ∷ 0x34 ∷ []

-- 12345.
abbrev five : Octets
five = 0x31 ∷ 0x32 ∷ 0x33 ∷ 0x34 ∷ 0x35 ∷ []

-- <a> and a chunk.
abbrev in_a : Octets → Octets
in_a x = behind_header (0x3C ∷ 0x00 ∷ 0x61 ∷ x)

-- <a b="..
abbrev in_b : Octets → Octets
in_b x = behind_header (0x7C ∷ 0x00 ∷ 0x61 ∷ 0x78 ∷ 0x00 ∷ 0x62 ∷ x)

abbrev pub cases : List Case
cases =
    -- <a/>
    plain (behind_header (0x3C ∷ 0x00 ∷ 0x61 ∷ 0xFF ∷ [])) (Start (local a) ∷ End ∷ []) (tables [] (a ∷ []) [] [] (triple 0 0 1 ∷ []) [])
    -- <a><a/></a>
    ∷ plain (behind_header (0x3C ∷ 0x00 ∷ 0x61 ∷ 0x00 ∷ 0xFF ∷ 0xF0 ∷ [])) (Start (local a) ∷ Start (local a) ∷ End ∷ End ∷ []) (tables [] (a ∷ []) [] [] (triple 0 0 1 ∷ []) [])
    -- <a b="c">hi</a>
    ∷ plain (behind_header (0x7C ∷ 0x00 ∷ 0x61 ∷ 0x78 ∷ 0x00 ∷ 0x62 ∷ 0x40 ∷ 0x63 ∷ 0xF0 ∷ 0x91 ∷ 0x68 ∷ 0x69 ∷ 0xFF ∷ []))
    (Start (local a) ∷ Attribute (local b) c ∷ Text hi ∷ End ∷ []) (tables [] (a ∷ b ∷ []) (c ∷ []) (hi ∷ []) (triple 0 0 1 ∷ []) (triple 0 0 2 ∷ []))
    -- <a b=""/>
    ∷ plain (behind_header (0x7C ∷ 0x00 ∷ 0x61 ∷ 0x78 ∷ 0x00 ∷ 0x62 ∷ 0xFF ∷ 0xFF ∷ 0xF0 ∷ []))
    (Start (local a) ∷ Attribute (local b) [] ∷ End ∷ []) (tables [] (a ∷ b ∷ []) [] [] (triple 0 0 1 ∷ []) (triple 0 0 2 ∷ []))
    -- <a xmlns="u"/>
    ∷ plain (behind_header (0x38 ∷ 0xCD ∷ 0x00 ∷ 0x75 ∷ 0xF0 ∷ 0x3D ∷ 0x81 ∷ 0x00 ∷ 0x61 ∷ 0xFF ∷ []))
    (Namespace none (some u) ∷ Start (record { prefix = none; namespace = some u; local = a }) ∷ End ∷ []) (tables (u ∷ []) (a ∷ []) [] [] (triple 0 2 1 ∷ []) [])
    -- <a>hihi</a>, written as two chunks: they are two events
    ∷ plain (behind_header (0x3C ∷ 0x00 ∷ 0x61 ∷ 0x91 ∷ 0x68 ∷ 0x69 ∷ 0xA0 ∷ 0xFF ∷ [])) (Start (local a) ∷ Text hi ∷ Text hi ∷ End ∷ [])
    (tables [] (a ∷ []) [] (hi ∷ []) (triple 0 0 1 ∷ []) [])
    -- <!--c--><a><?t u?></a>
    ∷ plain (behind_header (0xE2 ∷ 0x40 ∷ 0x63 ∷ 0x3C ∷ 0x00 ∷ 0x61 ∷ 0xE1 ∷ 0x00 ∷ 0x74 ∷ 0x40 ∷ 0x75 ∷ 0xFF ∷ [])) (Comment c ∷ Start (local a) ∷ Instruction t u ∷ End ∷ [])
    (record { prefixes = xml_prefix ∷ []; namespaces = xml_namespace ∷ []; locals = a ∷ []; ncnames = t ∷ []; uris = []; values = []; chunks = []; others = c ∷ u ∷ []; elements = triple 0 0 1 ∷ []; attributes = [] })
    -- <p:a xmlns:p="u"/>
    ∷ plain (behind_header (0x38 ∷ 0xCF ∷ 0x00 ∷ 0x70 ∷ 0x00 ∷ 0x75 ∷ 0xF0 ∷ 0x3F ∷ 0x81 ∷ 0x81 ∷ 0x00 ∷ 0x61 ∷ 0xFF ∷ []))
    (Namespace (some p) (some u) ∷ Start (record { prefix = some p; namespace = some u; local = a }) ∷ End ∷ [])
    (record { prefixes = xml_prefix ∷ p ∷ []; namespaces = xml_namespace ∷ u ∷ []; locals = a ∷ []; ncnames = []; uris = []; values = []; chunks = []; others = []; elements = triple 2 2 1 ∷ []; attributes = [] })
    -- a chunk of five octets, which is added, and one of six, which is not
    ∷ plain (behind_header (0x3C ∷ 0x00 ∷ 0x61 ∷ 0x92 ∷ 0x02 ∷ (fives ++ (0x82 ∷ 0x03 ∷ (sixsix ++ (0xFF ∷ [])))))) (Start (local a) ∷ Text fives ∷ Text sixsix ∷ End ∷ [])
    (tables [] (a ∷ []) [] (fives ∷ []) (triple 0 0 1 ∷ []) [])
    -- 32 open elements, and one more
    ∷ plain (behind_header (0x3C ∷ 0x00 ∷ 0x61 ∷ (replicate 31 0x00 ++ (replicate 16 0xFF ++ (0xF0 ∷ []))))) (replicate 32 (Start (local a)) ++ replicate 32 End) (tables [] (a ∷ []) [] [] (triple 0 0 1 ∷ []) [])
    ∷ refused (behind_header (0x3C ∷ 0x00 ∷ 0x61 ∷ replicate 32 0x00)) 13 39
    ∷ refused (behind_header (0xF0 ∷ [])) 15 5
    ∷ refused (behind_header (0x00 ∷ [])) 10 5
    ∷ refused (0xE0 ∷ 0x00 ∷ 0x00 ∷ []) 2 0
    ∷ refused (0xE0 ∷ 0x00 ∷ 0x00 ∷ 0x01 ∷ []) 2 4
    ∷ refused (behind_header (0x3C ∷ 0x00 ∷ 0x61 ∷ 0xF0 ∷ 0xF0 ∷ [])) 6 9
    ∷ refused (behind_header (0x3C ∷ 0x00 ∷ 0x61 ∷ 0xFF ∷ 0x00 ∷ [])) 15 9
    -- <a/>, whose local name and name the head lists
    ∷ document (in_names (0x00 ∷ 0x00 ∷ 0x00 ∷ 0x00 ∷ 0xFF ∷ [])) (listing (at 9 ∷ []) [] [] (triple 0 0 1 ∷ [])) (Start (local a) ∷ End ∷ []) (tables [] (a ∷ []) [] [] (triple 0 0 1 ∷ []) [])
    -- <xml:a/>, whose listed name has both built-in entries
    ∷ document (in_names (0x00 ∷ 0x03 ∷ 0x00 ∷ 0x00 ∷ 0x00 ∷ 0x00 ∷ 0xFF ∷ [])) (listing (at 9 ∷ []) [] [] (triple 1 1 1 ∷ []))
    (Start (record { prefix = some xml_prefix; namespace = some xml_namespace; local = a }) ∷ End ∷ []) (tables [] (a ∷ []) [] [] (triple 1 1 1 ∷ []) [])
    -- <a>p</a>, whose chunk the head lists
    ∷ document (in_head (0x00 ∷ 0x08 ∷ 0x00 ∷ 0x00 ∷ 0x70 ∷ 0x3C ∷ 0x00 ∷ 0x61 ∷ 0xA0 ∷ 0xFF ∷ [])) (listing [] [] (at 9 ∷ []) []) (Start (local a) ∷ Text p ∷ End ∷ []) (tables [] (a ∷ []) [] (p ∷ []) (triple 0 0 1 ∷ []) [])
    -- a value that is listed twice is two entries
    ∷ document (in_head (0x00 ∷ 0x10 ∷ 0x01 ∷ 0x00 ∷ 0x61 ∷ 0x00 ∷ 0x61 ∷ 0x3C ∷ 0x00 ∷ 0x61 ∷ 0xFF ∷ [])) (listing [] (at 9 ∷ at 11 ∷ []) [] []) (Start (local a) ∷ End ∷ []) (tables [] (a ∷ []) (a ∷ a ∷ []) [] (triple 0 0 1 ∷ []) [])
    -- <a xmlns:p=""/>, whose prefix the head lists as entry 2
    ∷ document (in_head (0x02 ∷ 0x00 ∷ 0x00 ∷ 0x00 ∷ 0x70 ∷ 0x38 ∷ 0xCE ∷ 0x81 ∷ 0xF0 ∷ 0x3C ∷ 0x00 ∷ 0x61 ∷ 0xFF ∷ []))
    (record { prefixes = at 9 ∷ []; namespaces = []; locals = []; ncnames = []; uris = []; values = []; chunks = []; others = []; elements = []; attributes = [] })
    (Namespace (some p) none ∷ Start (local a) ∷ End ∷ [])
    (record { prefixes = xml_prefix ∷ p ∷ []; namespaces = xml_namespace ∷ []; locals = a ∷ []; ncnames = []; uris = []; values = []; chunks = []; others = []; elements = triple 0 0 1 ∷ []; attributes = [] })
    -- a head that lists an entry for each of the ten tables
    ∷ document ten_listed
    (record {
      prefixes = Stretch Utf8 9 9 ∷ [];
      namespaces = Stretch Utf8 20 9 ∷ [];
      locals = Stretch Utf8 31 9 ∷ [];
      ncnames = Stretch Utf8 42 9 ∷ [];
      uris = Stretch Utf8 53 9 ∷ [];
      values = Stretch Utf8 65 9 ∷ [];
      chunks = Stretch Utf8 77 9 ∷ [];
      others = Stretch Utf8 89 9 ∷ [];
      elements = triple 2 1 1 ∷ [];
      attributes = triple 0 0 1 ∷ [];
    })
    (Start (record { prefix = some (nine 0x61); namespace = some xml_namespace; local = nine 0x63 }) ∷ End ∷ [])
    (record {
      prefixes = xml_prefix ∷ nine 0x61 ∷ [];
      namespaces = xml_namespace ∷ nine 0x62 ∷ [];
      locals = nine 0x63 ∷ [];
      ncnames = nine 0x64 ∷ [];
      uris = nine 0x65 ∷ [];
      values = nine 0x66 ∷ [];
      chunks = nine 0x67 ∷ [];
      others = nine 0x68 ∷ [];
      elements = triple 2 1 1 ∷ [];
      attributes = triple 0 0 1 ∷ [];
    })
    -- the fifth octet: padding before another optional part
    ∷ refused (0xE0 ∷ 0x00 ∷ 0x00 ∷ 0x01 ∷ 0xA0 ∷ []) 6 4
    ∷ refused (0xE0 ∷ 0x00 ∷ 0x00 ∷ 0x01 ∷ 0x60 ∷ 0x00 ∷ 0x82 ∷ []) 4 4
    -- the head's two octets: missing, nothing listed, an external vocabulary, padding
    ∷ refused (in_head []) 2 5
    ∷ refused (in_head (0x00 ∷ [])) 2 5
    ∷ refused (in_head (0x00 ∷ 0x00 ∷ [])) 15 5
    ∷ refused (in_head (0x10 ∷ [])) 4 5
    ∷ refused (in_head (0x30 ∷ 0x00 ∷ [])) 6 5
    -- the length of a table: padding, too high, the highest
    ∷ refused (in_head (0x00 ∷ 0x80 ∷ 0x90 ∷ 0x00 ∷ 0x00 ∷ [])) 6 7
    ∷ refused (in_head (0x00 ∷ 0x80 ∷ 0x8F ∷ 0xFF ∷ 0xFF ∷ [])) 7 7
    ∷ refused (in_head (0x00 ∷ 0x80 ∷ 0x8F ∷ 0xFF ∷ 0x7F ∷ [])) 2 10
    -- an entry: padding before an identifying string, twice, and before a chunk; listed twice; the built-in prefix and namespace
    ∷ refused (in_head (0x00 ∷ 0x80 ∷ 0x00 ∷ 0x80 ∷ 0x61 ∷ [])) 6 8
    ∷ refused (in_head (0x00 ∷ 0x80 ∷ 0x00 ∷ 0xFF ∷ [])) 6 8
    ∷ refused (in_head (0x00 ∷ 0x08 ∷ 0x00 ∷ 0x40 ∷ 0x68 ∷ [])) 6 8
    ∷ refused (in_head (0x00 ∷ 0x80 ∷ 0x01 ∷ 0x00 ∷ 0x61 ∷ 0x00 ∷ 0x61 ∷ [])) 11 10
    ∷ refused (in_head (0x02 ∷ 0x00 ∷ 0x00 ∷ 0x02 ∷ xml_prefix)) 11 8
    ∷ refused (in_head (0x01 ∷ 0x00 ∷ 0x00 ∷ 0x23 ∷ xml_namespace)) 11 8
    -- an entry too many: the 257th value
    ∷ refused (in_head (0x00 ∷ 0x10 ∷ 0x80 ∷ 0x00 ∷ 0x80 ∷ times 257 (0x00 ∷ 0x61 ∷ []))) 12 522
    -- a name: a prefix without a namespace; padding; its local name not there, the code 111, padding; listed twice
    ∷ refused (in_names (0x00 ∷ 0x02 ∷ 0x00 ∷ [])) 15 11
    ∷ refused (in_names (0x00 ∷ 0x04 ∷ 0x00 ∷ [])) 6 11
    ∷ refused (in_names (0x00 ∷ 0x00 ∷ 0x01 ∷ [])) 10 12
    ∷ refused (in_names (0x00 ∷ 0x00 ∷ 0xF0 ∷ [])) 5 12
    ∷ refused (in_names (0x00 ∷ 0x00 ∷ 0xE0 ∷ [])) 6 12
    ∷ refused (in_names (0x01 ∷ 0x00 ∷ 0x00 ∷ 0x00 ∷ 0x00 ∷ [])) 11 13
    -- characters: a tab in a chunk; and some that XML does not have: 1 in a chunk, a null in a name, FFFE in a name
    ∷ document (behind_header (0x3C ∷ 0x00 ∷ 0x61 ∷ 0x90 ∷ 0x09 ∷ 0xFF ∷ [])) no_entries (Start (local a) ∷ Text (0x09 ∷ []) ∷ End ∷ []) (tables [] (a ∷ []) [] ((0x09 ∷ []) ∷ []) (triple 0 0 1 ∷ []) [])
    ∷ refused (behind_header (0x3C ∷ 0x00 ∷ 0x61 ∷ 0x90 ∷ 0x01 ∷ [])) 9 8
    ∷ refused (behind_header (0x3C ∷ 0x00 ∷ 0x00 ∷ [])) 9 6
    ∷ refused (behind_header (0x3C ∷ 0x02 ∷ 0xEF ∷ 0xBF ∷ 0xBE ∷ [])) 9 6
    -- every character of an alphabet, in a chunk and in a value
    ∷ plain (in_a (0x88 ∷ 0x02 ∷ 0x05 ∷ (all_places ++ (0xFF ∷ [])))) (Start (local a) ∷ Text all_numeric ∷ End ∷ []) (tables [] (a ∷ []) [] [] (triple 0 0 1 ∷ []) [])
    ∷ plain (in_b (0x20 ∷ 0x17 ∷ (all_places ++ (0xFF ∷ 0xF0 ∷ [])))) (Start (local a) ∷ Attribute (local b) all_dates ∷ End ∷ []) (tables [] (a ∷ b ∷ []) [] [] (triple 0 0 1 ∷ []) (triple 0 0 2 ∷ []))
    -- 1234, added, in alphabet 1 as a chunk and as a value; listed, and used by number
    ∷ plain (in_a (0x98 ∷ 0x01 ∷ 0x12 ∷ 0x34 ∷ 0xFF ∷ [])) (Start (local a) ∷ Text digits ∷ End ∷ []) (tables [] (a ∷ []) [] (digits ∷ []) (triple 0 0 1 ∷ []) [])
    ∷ plain (in_b (0x60 ∷ 0x01 ∷ 0x12 ∷ 0x34 ∷ 0xFF ∷ 0xF0 ∷ [])) (Start (local a) ∷ Attribute (local b) digits ∷ End ∷ [])
    (tables [] (a ∷ b ∷ []) (digits ∷ []) [] (triple 0 0 1 ∷ []) (triple 0 0 2 ∷ []))
    ∷ document (in_head (0x00 ∷ 0x08 ∷ 0x00 ∷ 0x20 ∷ 0x01 ∷ 0x12 ∷ 0x34 ∷ 0x3C ∷ 0x00 ∷ 0x61 ∷ 0xA0 ∷ 0xFF ∷ [])) (listing [] [] (Stretch Numeric 10 2 ∷ []) []) (Start (local a) ∷ Text digits ∷ End ∷ [])
    (tables [] (a ∷ []) [] (digits ∷ []) (triple 0 0 1 ∷ []) [])
    -- 100: alphabet 1 saves an octet in a chunk, and none in a value or in the head
    ∷ plain (in_a (0x98 ∷ 0x01 ∷ 0x10 ∷ 0x0F ∷ 0xFF ∷ [])) (Start (local a) ∷ Text (0x31 ∷ 0x30 ∷ 0x30 ∷ []) ∷ End ∷ []) (tables [] (a ∷ []) [] ((0x31 ∷ 0x30 ∷ 0x30 ∷ []) ∷ []) (triple 0 0 1 ∷ []) [])
    ∷ plain (in_b (0x42 ∷ 0x31 ∷ 0x30 ∷ 0x30 ∷ 0xFF ∷ 0xF0 ∷ [])) (Start (local a) ∷ Attribute (local b) (0x31 ∷ 0x30 ∷ 0x30 ∷ []) ∷ End ∷ [])
    (tables [] (a ∷ b ∷ []) ((0x31 ∷ 0x30 ∷ 0x30 ∷ []) ∷ []) [] (triple 0 0 1 ∷ []) (triple 0 0 2 ∷ []))
    ∷ rewritten (in_a (0x98 ∷ 0x00 ∷ 0x1F ∷ 0xFF ∷ [])) no_entries (Start (local a) ∷ Text (0x31 ∷ []) ∷ End ∷ []) (tables [] (a ∷ []) [] ((0x31 ∷ []) ∷ []) (triple 0 0 1 ∷ []) []) (in_a (0x90 ∷ 0x31 ∷ 0xFF ∷ []))
    -- utf-16, which the writer never uses, with a pair of surrogates; and digits that are given in utf-16
    ∷ rewritten (in_a (0x96 ∷ 0x03 ∷ (pair16 ++ (0xFF ∷ [])))) no_entries (Start (local a) ∷ Text pair ∷ End ∷ []) (tables [] (a ∷ []) [] (pair ∷ []) (triple 0 0 1 ∷ []) [])
    (in_a (0x92 ∷ 0x02 ∷ (pair ++ (0xFF ∷ []))))
    ∷ rewritten (in_a (0x96 ∷ 0x05 ∷ 0x00 ∷ 0x31 ∷ 0x00 ∷ 0x32 ∷ 0x00 ∷ 0x33 ∷ 0x00 ∷ 0x34 ∷ 0xFF ∷ [])) no_entries (Start (local a) ∷ Text digits ∷ End ∷ [])
    (tables [] (a ∷ []) [] (digits ∷ []) (triple 0 0 1 ∷ []) []) (in_a (0x98 ∷ 0x01 ∷ 0x12 ∷ 0x34 ∷ 0xFF ∷ []))
    -- the same characters in two forms are the same string: the second chunk has the first one's number
    ∷ rewritten (in_a (0x92 ∷ 0x01 ∷ (digits ++ (0x88 ∷ 0x01 ∷ 0x12 ∷ 0x34 ∷ 0xFF ∷ [])))) no_entries (Start (local a) ∷ Text digits ∷ Text digits ∷ End ∷ [])
    (tables [] (a ∷ []) [] (digits ∷ []) (triple 0 0 1 ∷ []) []) (in_a (0x98 ∷ 0x01 ∷ 0x12 ∷ 0x34 ∷ 0xA0 ∷ 0xFF ∷ []))
    -- an alphabet: 15 before the end, twice; another alphabet, cut and whole; its number cut; wrong padding, cut, with another alphabet, alone, and of four octets that are cut
    ∷ refused (in_a (0x88 ∷ 0x00 ∷ 0xFF ∷ 0xFF ∷ [])) 9 8
    ∷ refused (in_a (0x88 ∷ 0x01 ∷ 0x1F ∷ 0x1F ∷ 0xFF ∷ [])) 9 8
    ∷ refused (in_a (0x88 ∷ 0x09 ∷ 0x11 ∷ [])) 2 8
    ∷ refused (in_a (0x88 ∷ 0x09 ∷ 0x11 ∷ 0x22 ∷ 0xFF ∷ [])) 8 8
    ∷ refused (in_a (0x8B ∷ [])) 2 8
    ∷ refused (in_b (0x20 ∷ 0x09 ∷ 0x00 ∷ 0x12 ∷ [])) 2 11
    ∷ refused (in_b (0x20 ∷ 0x29 ∷ 0x00 ∷ replicate 9 0x11)) 8 11
    ∷ refused (in_b (0x20 ∷ 0x09 ∷ 0x00 ∷ replicate 9 0x11)) 6 11
    ∷ refused (in_b (0x20 ∷ 0x0D ∷ 0x00 ∷ replicate 9 0x11)) 2 11
    -- utf-16: an odd count, a lone surrogate, FFFE
    ∷ refused (in_a (0x84 ∷ 0x41 ∷ [])) 9 8
    ∷ refused (in_a (0x85 ∷ 0xD8 ∷ 0x00 ∷ 0xFF ∷ [])) 9 8
    ∷ refused (in_a (0x85 ∷ 0xFF ∷ 0xFE ∷ 0xFF ∷ [])) 9 8
    -- integers: 12345 is a short, as a chunk that is added, and listed; so is the lowest; two ints, and the lowest long
    ∷ plain (in_a (0x9C ∷ 0x09 ∷ 0x30 ∷ 0x39 ∷ 0xFF ∷ [])) (Start (local a) ∷ Text five ∷ End ∷ []) (tables [] (a ∷ []) [] (five ∷ []) (triple 0 0 1 ∷ []) [])
    ∷ document (in_head (0x00 ∷ 0x08 ∷ 0x00 ∷ 0x30 ∷ 0x21 ∷ 0x30 ∷ 0x39 ∷ 0x3C ∷ 0x00 ∷ 0x61 ∷ 0xA0 ∷ 0xFF ∷ [])) (listing [] [] (Stretch Short 10 2 ∷ []) []) (Start (local a) ∷ Text five ∷ End ∷ []) (tables [] (a ∷ []) [] (five ∷ []) (triple 0 0 1 ∷ []) [])
    ∷ plain (in_b (0x30 ∷ 0x21 ∷ 0x80 ∷ 0x00 ∷ 0xFF ∷ 0xF0 ∷ [])) (Start (local a) ∷ Attribute (local b) (0x2D ∷ 0x33 ∷ 0x32 ∷ 0x37 ∷ 0x36 ∷ 0x38 ∷ []) ∷ End ∷ []) (tables [] (a ∷ b ∷ []) [] [] (triple 0 0 1 ∷ []) (triple 0 0 2 ∷ []))
    ∷ plain (in_a (0x8C ∷ 0x0E ∷ 0x05 ∷ 0x80 ∷ 0x00 ∷ 0x00 ∷ 0x00 ∷ 0x7F ∷ 0xFF ∷ 0xFF ∷ 0xFF ∷ 0xFF ∷ [])) (Start (local a) ∷ Text (0x2D ∷ 0x32 ∷ 0x31 ∷ 0x34 ∷ 0x37 ∷ 0x34 ∷ 0x38 ∷ 0x33 ∷ 0x36 ∷ 0x34 ∷ 0x38 ∷ 0x20 ∷ 0x32 ∷ 0x31 ∷ 0x34 ∷ 0x37 ∷ 0x34 ∷ 0x38 ∷ 0x33 ∷ 0x36 ∷ 0x34 ∷ 0x37 ∷ []) ∷ End ∷ []) (tables [] (a ∷ []) [] [] (triple 0 0 1 ∷ []) [])
    ∷ plain (in_b (0x30 ∷ 0x47 ∷ 0x80 ∷ 0x00 ∷ 0x00 ∷ 0x00 ∷ 0x00 ∷ 0x00 ∷ 0x00 ∷ 0x00 ∷ 0xFF ∷ 0xF0 ∷ [])) (Start (local a) ∷ Attribute (local b) (0x2D ∷ 0x39 ∷ 0x32 ∷ 0x32 ∷ 0x33 ∷ 0x33 ∷ 0x37 ∷ 0x32 ∷ 0x30 ∷ 0x33 ∷ 0x36 ∷ 0x38 ∷ 0x35 ∷ 0x34 ∷ 0x37 ∷ 0x37 ∷ 0x35 ∷ 0x38 ∷ 0x30 ∷ 0x38 ∷ []) ∷ End ∷ []) (tables [] (a ∷ b ∷ []) [] [] (triple 0 0 1 ∷ []) (triple 0 0 2 ∷ []))
    -- 0 and -2 are shorter in utf-8; a text with leading zeros is no integer; and the second chunk, a short, has the first one's number
    ∷ rewritten (in_a (0x9C ∷ 0x09 ∷ 0x00 ∷ 0x00 ∷ 0xFF ∷ [])) no_entries (Start (local a) ∷ Text (0x30 ∷ []) ∷ End ∷ []) (tables [] (a ∷ []) [] ((0x30 ∷ []) ∷ []) (triple 0 0 1 ∷ []) []) (in_a (0x90 ∷ 0x30 ∷ 0xFF ∷ []))
    ∷ rewritten (in_a (0x9C ∷ 0x09 ∷ 0xFF ∷ 0xFE ∷ 0xFF ∷ [])) no_entries (Start (local a) ∷ Text (0x2D ∷ 0x32 ∷ []) ∷ End ∷ []) (tables [] (a ∷ []) [] ((0x2D ∷ 0x32 ∷ []) ∷ []) (triple 0 0 1 ∷ []) []) (in_a (0x91 ∷ 0x2D ∷ 0x32 ∷ 0xFF ∷ []))
    ∷ plain (in_a (0x88 ∷ 0x02 ∷ 0x01 ∷ 0x00 ∷ 0x01 ∷ 0x23 ∷ 0x45 ∷ 0xFF ∷ [])) (Start (local a) ∷ Text (0x30 ∷ 0x30 ∷ 0x30 ∷ 0x31 ∷ 0x32 ∷ 0x33 ∷ 0x34 ∷ 0x35 ∷ []) ∷ End ∷ []) (tables [] (a ∷ []) [] [] (triple 0 0 1 ∷ []) [])
    ∷ rewritten (in_a (0x92 ∷ 0x02 ∷ (five ++ (0x8C ∷ 0x09 ∷ 0x30 ∷ 0x39 ∷ 0xFF ∷ [])))) no_entries (Start (local a) ∷ Text five ∷ Text five ∷ End ∷ []) (tables [] (a ∷ []) [] (five ∷ []) (triple 0 0 1 ∷ []) [])
    (in_a (0x9C ∷ 0x09 ∷ 0x30 ∷ 0x39 ∷ 0xA0 ∷ 0xFF ∷ []))
    -- an octet under short, six under int; algorithms 1 and 6, and the first of them cut; the number cut; wrong padding, with another algorithm, alone, and of four octets that are cut
    ∷ refused (in_a (0x8C ∷ 0x08 ∷ 0x80 ∷ 0xFF ∷ [])) 9 8
    ∷ refused (in_a (0x8C ∷ 0x0E ∷ 0x03 ∷ 0x00 ∷ 0x00 ∷ 0x00 ∷ 0x00 ∷ 0x00 ∷ 0x00 ∷ 0xFF ∷ [])) 9 8
    ∷ refused (in_a (0x8C ∷ 0x01 ∷ 0x80 ∷ 0x00 ∷ 0xFF ∷ [])) 8 8
    ∷ refused (in_a (0x8C ∷ 0x15 ∷ 0x80 ∷ 0x00 ∷ 0xFF ∷ [])) 8 8
    ∷ refused (in_a (0x8C ∷ 0x01 ∷ 0x80 ∷ [])) 2 8
    ∷ refused (in_a (0x8F ∷ [])) 2 8
    ∷ refused (in_b (0x30 ∷ 0x09 ∷ 0x00 ∷ replicate 9 0x11)) 8 11
    ∷ refused (in_b (0x30 ∷ 0x29 ∷ 0x00 ∷ replicate 9 0x11)) 6 11
    ∷ refused (in_b (0x30 ∷ 0x2D ∷ 0x00 ∷ replicate 9 0x11)) 2 11
    -- places: <a b="c">hi</a>
    ∷ placed (in_b (0x40 ∷ 0x63 ∷ 0xF0 ∷ 0x91 ∷ 0x68 ∷ 0x69 ∷ 0xFF ∷ [])) (5 ∷ 8 ∷ 14 ∷ 17 ∷ [])
    -- <a b=""/>: the list of attributes ends in the octet of the End
    ∷ placed (in_b (0xFF ∷ 0xFF ∷ 0xF0 ∷ [])) (5 ∷ 8 ∷ 12 ∷ [])
    -- <a><b/></a>: both Ends stand in one octet
    ∷ placed (in_a (0x3C ∷ 0x00 ∷ 0x62 ∷ 0xFF ∷ 0xF0 ∷ [])) (5 ∷ 8 ∷ 11 ∷ 11 ∷ [])
    -- two declarations behind the octet that announces them, and the Start behind F0
    ∷ placed (behind_header (0x38 ∷ 0xCD ∷ 0x00 ∷ 0x75 ∷ 0xCE ∷ 0x00 ∷ 0x70 ∷ 0xF0 ∷ 0x3C ∷ 0x00 ∷ 0x61 ∷ 0xFF ∷ [])) (6 ∷ 9 ∷ 13 ∷ 16 ∷ [])
    -- a declaration inside another element, whose name has a number; then an empty element
    ∷ placed (in_a (0x38 ∷ 0xCC ∷ 0xF0 ∷ 0x00 ∷ 0xF0 ∷ 0x00 ∷ 0xFF ∷ 0xF0 ∷ [])) (5 ∷ 9 ∷ 11 ∷ 12 ∷ 13 ∷ 14 ∷ 14 ∷ [])
    -- <!--c--><a><?t u?></a>
    ∷ placed (behind_header (0xE2 ∷ 0x40 ∷ 0x63 ∷ 0x3C ∷ 0x00 ∷ 0x61 ∷ 0xE1 ∷ 0x00 ∷ 0x74 ∷ 0x40 ∷ 0x75 ∷ 0xFF ∷ [])) (5 ∷ 8 ∷ 11 ∷ 16 ∷ [])
    -- behind a head that lists a chunk
    ∷ placed (in_head (0x00 ∷ 0x08 ∷ 0x00 ∷ 0x00 ∷ 0x68 ∷ 0x3C ∷ 0x00 ∷ 0x61 ∷ 0xA0 ∷ 0xFF ∷ [])) (10 ∷ 13 ∷ 14 ∷ [])
    ∷ []
