-- The writer's head: what is wrong with the tables that are given, judged as one thing, and the octets before the body.
use Rattle.std.specs.Prelude.{ℕ, zero, suc, ◌+◌, ◌*◌, ◌/◌, ◌%◌, min, Bool, true, not, ◌&&◌, ◌||◌, List, [], ◌∷◌, ◌++◌, map, length, eqb, leb}
use Rattle.format.specs.Octets.{Octets, Words}
use Rattle.format.specs.Numbers.{pick, spell, lengths, c21, c25}
use Rattle.format.specs.Tables.{StringTable, PREFIX, NAMESPACE_NAME, LOCAL_NAME, OTHER_NCNAME, OTHER_URI, ATTRIBUTE_VALUE, CONTENT_CHARACTER_CHUNK, OTHER_STRING}
use Rattle.format.specs.Tables.{NameTable, ELEMENT_NAME, ATTRIBUTE_NAME, Triple, Vocabulary, strings, names, vocabulary_map, followed_by, holds, holds_name, Version}
use Rattle.format.specs.Strings.{with_length}
use Rattle.format.specs.Head.{Table, of_strings, of_names, Listed, Head, ten_tables, is_identifying, c19, some?, presence}
use Rattle.format.specs.declared.StringForm.TheVariants.{Utf8}
use Rattle.format.specs.Refusals.{TEXT, REPEAT, FULL, ROOM, EVENT}
use Rattle.fields.specs.Utf8.{is_text}
use Rattle.tables.specs.Located.{Located, octets_of, plain_tables, start}
use Rattle.events.specs.declared.EventString.{EventString}
use Rattle.events.specs.Records.{located_of}
use Rattle.events.specs.WellMade.{is_stretch, is_string}
use Rattle.write_names.specs.Choices.{field_in, form_for}
use Rattle.write_head.specs.Given.{Given, is_given, given_of}

-- ---- the octets before the body, as the rules write them (format/specs/Head)
unfoldable pub entry_octets : StringTable → Listed → Octets
entry_octets t x = pick (is_identifying t) (with_length (lengths 2) 0 x.says) (field_in c19.length_bit x.form 0 x.says)

abbrev pub part_octets : ℕ → Octets
part_octets zero = []
part_octets (suc k) = spell c25 0 (suc k)

unfoldable pub name_octets : Triple → Octets
name_octets x = (2 * some? x.prefix + some? x.namespace) ∷ (part_octets x.prefix ++ (part_octets x.namespace ++ part_octets x.local))

-- What f gives for each, one behind the other.
unfoldable pub joined_by : {A : Type 0} → (A → Octets) → List A → Octets
joined_by f [] = []
joined_by f (x ∷ xs) = f x ++ joined_by f xs

-- A table: how many entries it lists, if any, and these.
abbrev pub count_octets : ℕ → Octets
count_octets zero = []
count_octets (suc n) = spell c21 0 (suc n)

unfoldable pub table_octets : Head → Table → Octets
table_octets h (of_strings t) = count_octets (length (strings h t)) ++ joined_by (entry_octets t) (strings h t)
table_octets h (of_names t) = count_octets (length (names h t)) ++ joined_by name_octets (names h t)

-- No table lists anything.
unfoldable pub is_none : {S : Type 0} → Vocabulary S → Bool
is_none h = eqb (presence h ten_tables) 0

unfoldable pub octets_before : Version → Head → Octets
octets_before ver h =
    ver.identification
    ++ pick (is_none h) (0x00 ∷ []) (0x20 ∷ presence h ten_tables / 256 ∷ presence h ten_tables % 256 ∷ joined_by (table_octets h) ten_tables)

-- The form in which a string is listed: an identifying one in utf-8, another in the form for the layout of a head's entries. And the head of these strings, in these forms.
unfoldable pub listing : StringTable → Octets → Listed
listing t x = record { says = x; form = pick (is_identifying t) Utf8 (form_for c19.length_bit x) }

unfoldable pub head_for : Vocabulary Octets → Head
head_for v =
    record {
      prefixes = map (listing PREFIX) v.prefixes;
      namespaces = map (listing NAMESPACE_NAME) v.namespaces;
      locals = map (listing LOCAL_NAME) v.locals;
      ncnames = map (listing OTHER_NCNAME) v.ncnames;
      uris = map (listing OTHER_URI) v.uris;
      values = map (listing ATTRIBUTE_VALUE) v.values;
      chunks = map (listing CONTENT_CHARACTER_CHUNK) v.chunks;
      others = map (listing OTHER_STRING) v.others;
      elements = v.elements;
      attributes = v.attributes;
    }

-- ---- given tables
-- Each table of strings, each table of names passes a test; each entry does.
unfoldable pub in_strings : (StringTable → Bool) → Bool
in_strings f = f PREFIX && (f NAMESPACE_NAME && (f LOCAL_NAME && (f OTHER_NCNAME && (f OTHER_URI && (f ATTRIBUTE_VALUE && (f CONTENT_CHARACTER_CHUNK && f OTHER_STRING))))))

unfoldable pub in_names : (NameTable → Bool) → Bool
in_names f = f ELEMENT_NAME && f ATTRIBUTE_NAME

unfoldable pub every : {A : Type 0} → (A → Bool) → List A → Bool
every f [] = true
every f (x ∷ xs) = f x && every f xs

-- None is the same as a later one.
unfoldable pub distinct : List Octets → Bool
distinct [] = true
distinct (x ∷ xs) = not (holds xs x) && distinct xs

unfoldable pub distinct_names : List Triple → Bool
distinct_names [] = true
distinct_names (x ∷ xs) = not (holds_name xs x) && distinct_names xs

-- The numbers of a name name entries of these tables; it has a local name, and a prefix only with a namespace.
unfoldable pub is_triple : {S : Type 0} → Vocabulary S → Triple → Bool
is_triple v x =
    leb x.prefix (length v.prefixes) && (leb x.namespace (length v.namespaces) && (leb 1 x.local && (leb x.local (length v.locals) && leb (some? x.prefix) (some? x.namespace))))

-- A string that may be given for a table.
unfoldable pub is_entry : StringTable → Octets → EventString → Bool
is_entry t text x = pick (is_identifying t) (is_stretch text x) (is_string text x)

-- The given entries, by where they stand in the text area; and the tables then.
abbrev pub listed_of : Given → Vocabulary Located
listed_of g = vocabulary_map located_of g

abbrev pub tables_of : Version → Given → Vocabulary Located
tables_of ver g = followed_by (start ver) (listed_of g)

module _ (ver : Version) (text : Octets) (g : Given) where
  -- EVENT: an entry that is no stretch of the text area, an identifying string in another form than utf-8, a name whose parts are not there; and any entry, if the version has no heads.
  unfoldable pub well_given : Bool
  well_given = (ver.heads || is_none g) && (in_strings (λ t. every (is_entry t text) (strings g t)) && in_names (λ t. every (is_triple (tables_of ver g)) (names g t)))

  -- TEXT
  unfoldable pub text_given : Bool
  text_given = in_strings (λ t. every (λ x. is_text (octets_of text x)) (strings (listed_of g) t))

  -- REPEAT: an identifying string or a name that is listed twice, or is built in.
  unfoldable pub new_given : Bool
  new_given =
      in_strings (λ t. not (is_identifying t) || distinct (map (octets_of text) (strings (tables_of ver g) t))) && in_names (λ t. distinct_names (names (tables_of ver g) t))

  -- FULL
  unfoldable pub few_given : Bool
  few_given = in_strings (λ t. leb (length (strings (tables_of ver g) t)) ver.entries) && in_names (λ t. leb (length (names (tables_of ver g) t)) ver.entries)

  -- The octets before the body.
  unfoldable pub head_octets : Octets
  head_octets = octets_before ver (head_for (plain_tables text (listed_of g)))

  -- One judgement over all that is given: 16, 9, 11, 12, then no room (14); 0 if all is right. Without entries, the header's room is judged with the first event.
  unfoldable pub fault_of_head : (room : ℕ) → ℕ
  fault_of_head room =
      pick well_given (pick text_given (pick new_given (pick few_given (pick (is_none g || leb (length head_octets) (min room ver.octets)) 0 ROOM) FULL) REPEAT) TEXT) EVENT

-- More or fewer words than the counts say are EVENT, too.
unfoldable pub fault_of_given : Version → Octets → Words → (room : ℕ) → ℕ
fault_of_given ver text g room = pick (is_given g) (fault_of_head ver text (given_of g) room) EVENT
