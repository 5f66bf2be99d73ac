-- Contracts of the code, not definitions to be believed. How the code's answers stand for the choices' definition: tables and counts in lent words are the vocabulary that they hold.
use Rattle.std.specs.Prelude.{ℕ, suc, ◌+◌, ◌-◌, ◌*◌, ◌/◌, ◌^◌, ◌<◌, ◌≤◌, ◌≡◌, Bool, true, false, List, [], ◌∷◌, ◌++◌, map, length, get_or, set, eqb, ltb, Result, Ok, Err, Option as RustOption, Some, None}
use Rattle.std.proofs.Math.Option.{Option}
use Rattle.format.specs.Octets.{Octets, Words}
use Rattle.format.specs.Numbers.{pick}
use Rattle.format.specs.Events.{Name, How, spelled, Choice, for_namespace}
use Rattle.format.specs.Tables.{StringTable, PREFIX, NAMESPACE_NAME, LOCAL_NAME, Triple, Vocabulary, strings, names, link}
use Rattle.format.specs.Strings.{bit, keeping}
use Rattle.format.specs.Names.{has, NameLayout}
use Rattle.format.specs.declared.StringForm.{StringForm}
use Rattle.format.specs.declared.StringForm.TheVariants.{Utf8, Utf16, Numeric, Dates, Short, Int, Long}
use Rattle.format.specs.declared.refusals.Refusal.{Refusal}
use Rattle.format.specs.declared.refusals.Refusal.TheVariants.{Full}
use Rattle.format.specs.Forms.{form_of, numeric, dates, width}
use Rattle.fields.specs.PutContracts.{Puts}
use Rattle.decimal.specs.declared.scanning.Integers.{Integers}
use Rattle.decimal.specs.Words.{shape}
use Rattle.forms.specs.Packing.{all_letters, in_form}
use Rattle.tables.specs.declared.Row.{Row}
use Rattle.tables.specs.Located.{Located, stretch, built_in_prefix, built_in_namespace, octets_of}
use Rattle.tables.specs.Search.{number_in, number_of_triple}
use Rattle.tables.specs.Rows.{table_of, string_at, entries, vocabulary}
use Rattle.tables.specs.Kept.{unlisted, triple_of, layout_of, IsSound, AllSound}
use Rattle.index.specs.Hash.{bucket}
use Rattle.index.specs.Indexed.{slots, StringEntered, NameEntered}
use Rattle.index.specs.Ordered.{Ordered}
use Rattle.events.specs.declared.EventString.{EventString}
use Rattle.events.specs.declared.EventString.TheVariants.{Absent, Empty, Stretch, XmlPrefix, XmlNamespace}
use Rattle.events.specs.Records.{located_of, optional_of}
use Rattle.events.specs.Words.{string_tag}
use Rattle.write_names.specs.declared.Sought.{Sought}
use Rattle.write_names.specs.declared.Spelling.{Spelling}
use Rattle.write_names.specs.declared.Formed.{Formed}
use Rattle.write_names.specs.declared.QualifiedName.{QualifiedName}
use Rattle.write_names.specs.declared.naming.Numbers.{Numbers}
use Rattle.write_names.specs.Choices.{Wrote, write_id, write_optional, field_in, form_for, worth_adding, within}

-- ---- how many octets
-- A spelled string has at most 5 octets of length and the 16,384 of a text area; a prefix and a namespace follow an octet, and a name's third string follows these.
abbrev pub string_most : ℕ
string_most = 16389

-- Another string than an identifying one may be given in a form that takes fewer octets than its UTF-8, but no fewer than a quarter. A spelled one has an octet more where its format has a number.
abbrev pub said_most : ℕ
said_most = 4 * 16384

abbrev pub value_most : ℕ
value_most = 6 + said_most

abbrev pub pair_most : ℕ
pair_most = 1 + 2 * string_most

abbrev pub name_most : ℕ
name_most = pair_most + string_most

-- The last place where a string begins, so that no sum wraps. A writer begins an event at most two octets behind the 16,384 of a document, and its last string behind a name.
abbrev pub last_place : ℕ
last_place = 100000

-- ---- tables in lent words
-- The vocabulary of the words of the counts and those of the tables.
abbrev pub tables_in : (c w : Words) → Vocabulary Located
tables_in c w = vocabulary (unlisted c) w

-- A list begins with x.
abbrev pub Begins : Located → List Located → Type 0
Begins x [] = ⊥
Begins x (y ∷ ys) = y ≡ x

-- All tables.
abbrev pub every : ℕ → Bool
every table = true

-- The tables of a text area in lent words are in order, all of them indexed, two begin with their built-in entry, and each string is one in its form: c are the words of the counts, w those of the tables.
abbrev pub InOrder : Octets → (c w : Words) → Octets → Type 0
InOrder text c w index = Ordered every text c w index (Begins built_in_prefix (tables_in c w).prefixes × Begins built_in_namespace (tables_in c w).namespaces × AllSound text (tables_in c w))

-- ---- strings
-- The string of an event is one that a table of identifying strings may hold: a stretch in utf-8 that is not empty and lies in the text area, or the table's built-in one.
abbrev pub Suits : Octets → ℕ → EventString → Type 0
Suits text table Absent = Unit {0}
Suits text table Empty = ⊥
Suits text table (Stretch form p n) = (0 < n) × (p + n ≤ length text) × (form ≡ Utf8)
Suits text table XmlPrefix = table ≡ 0
Suits text table XmlNamespace = table ≡ 1

-- The string may be a value, a comment or a content: empty, or a stretch that is a string in its form.
abbrev pub Fills : Octets → EventString → Type 0
Fills text Absent = ⊥
Fills text Empty = Unit {0}
Fills text (Stretch form p n) = (0 < n) × (p + n ≤ length text) × IsSound text (stretch form p n)
Fills text XmlPrefix = ⊥
Fills text XmlNamespace = ⊥

-- The same for a string that may not be empty.
abbrev pub Spells : Octets → EventString → Type 0
Spells text Absent = ⊥
Spells text Empty = ⊥
Spells text (Stretch form p n) = (0 < n) × (p + n ≤ length text) × IsSound text (stretch form p n)
Spells text XmlPrefix = ⊥
Spells text XmlNamespace = ⊥

-- A string's number in its table; 0 where it has none, or there is no string.
unfoldable pub held_as : Octets → StringTable → Vocabulary Located → EventString → ℕ
held_as text t v Absent = 0
held_as text t v Empty = number_in (map (octets_of text) (strings v t)) []
held_as text t v (Stretch form p n) = number_in (map (octets_of text) (strings v t)) (octets_of text (stretch form p n))
held_as text t v XmlPrefix = number_in (map (octets_of text) (strings v t)) (octets_of text built_in_prefix)
held_as text t v XmlNamespace = number_in (map (octets_of text) (strings v t)) (octets_of text built_in_namespace)

-- The bit where a length may start behind a format: that of C.23, or of C.24.
pub data LayoutBit : ℕ → Type 0 where
  at_bit_5 : LayoutBit 5
  at_bit_7 : LayoutBit 7

-- A string was looked up in one of the tables of identifying strings, that of its number.
abbrev pub Looked : Octets → (c w : Words) → Sought → Type 0
Looked text c w x = (x.table < 4) × Suits text x.table x.string × (x.number ≡ held_as text (table_of x.table) (tables_in c w) x.string) × (x.number ≤ 256)

-- The string of a row's words may become an entry of its table, which has room and does not hold it, and h is its bucket; and it became one.
abbrev pub Enters : Octets → (c w : Words) (index : Octets) (table : ℕ) → Row → (h : ℕ) → Type 0
Enters text c w index table x h =
    (length w ≡ 7680) × (length index ≡ slots) × (table < 8) × (get_or c table 0 < 256) × (1 ≤ x.b) × (x.a + x.b ≤ length text) × (table < 5 → x.c ≡ 0)
    × (0 ≡ number_in (map (octets_of text) (entries (string_at (table_of table) w) (768 * table) (get_or c table 0))) (octets_of text (stretch (form_of x.c) x.a x.b)))
    × (h ≡ bucket (octets_of text (stretch (form_of x.c) x.a x.b)))
    × (h < 128)

abbrev pub Added : Octets → (table : ℕ) → Row → (c w : Words) (index : Octets) (c' w' : Words) (index' : Octets) → Type 0
Added text table x c w index c' w' index' = (c' ≡ set c table (get_or c table 0 + 1)) × StringEntered text table (get_or c table 0) x w index w' index'

-- A spelling leaves the format and the length their bits, the add bit counted; its table is one of other strings.
abbrev pub Fitting : Spelling → Type 0
Fitting q = (5 ≤ q.table) × (q.table < 8) × LayoutBit q.bit × (q.lead + q.add + 4 * 2 ^ (9 - q.bit) ≤ 256)

-- How many octets of a string no other form saves: one octet names an alphabet or an algorithm, an octet of an alphabet has two characters at most, and integers have two octets at least. (Where a length starts at bit 7, one of 3 takes two octets.)
abbrev pub plain_most : (length_bit : ℕ) → ℕ
plain_most bit = pick (eqb bit 7) 2 3

-- A format's two bits, and the number less 1 of an alphabet or an algorithm, as `in_format` has them.
abbrev pub format_bits : StringForm → ℕ
format_bits Utf8 = 0
format_bits Utf16 = 1
format_bits Numeric = 2
format_bits Dates = 2
format_bits Short = 3
format_bits Int = 3
format_bits Long = 3

abbrev pub less_one : StringForm → ℕ
less_one Utf8 = 0
less_one Utf16 = 0
less_one Numeric = 0
less_one Dates = 1
less_one Short = 2
less_one Int = 3
less_one Long = 4

-- The form of integers of w octets. For n characters of an alphabet: the integers that were found, where they have fewer octets.
unfoldable pub with_width : (w : ℕ) → StringForm
with_width w = pick (eqb w 2) Short (pick (eqb w 4) Int Long)

unfoldable pub or_integers : (n : ℕ) → RustOption Integers → Formed
or_integers n (Some x) = pick (ltb (x.count * x.width) ((n + 1) / 2)) (record { form = with_width x.width; size = x.count * x.width }) (record { form = Numeric; size = (n + 1) / 2 })
or_integers n None = record { form = Numeric; size = (n + 1) / 2 }

-- So few that their octets can be counted.
abbrev pub FewIntegers : (n : ℕ) → RustOption Integers → Type 0
FewIntegers n (Some x) = (x.count ≤ n) × (x.width ≤ 8)
FewIntegers n None = Unit {0}

-- A string has an alphabet for all its characters, or integers whose text it is.
abbrev pub Fits : StringForm → Octets → Type 0
Fits Utf8 x = ⊥
Fits Utf16 x = ⊥
Fits Numeric x = all_letters numeric x ≡ true
Fits Dates x = all_letters dates x ≡ true
Fits Short x = shape (width Short) x ≡ true
Fits Int x = shape (width Int) x ≡ true
Fits Long x = shape (width Long) x ≡ true

-- The octets that a string x has in a form were counted; the form is the one that the writer chooses, or one that x fits.
pub record Counted (x : Octets) (f : Formed) : Type 0 where
  pub size : f.size ≡ length (in_form f.form x)
  pub some : 1 ≤ f.size
  pub few : f.size ≤ said_most

abbrev pub Chosen : (length_bit : ℕ) → Octets → Formed → Type 0
Chosen bit x f = (f.form ≡ form_for bit x) × Counted x f

abbrev pub HasForm : Octets → Formed → Type 0
HasForm x f = Fits f.form x × Counted x f

-- What a string's field is in the form that the writer chooses.
unfoldable pub chosen_field : (length_bit : ℕ) → (lead : ℕ) → Octets → Octets
chosen_field bit lead x = field_in bit (form_for bit x) lead x

-- A string of C.14 or C.15, spelled so.
unfoldable pub spelled_as : Spelling → Octets → Vocabulary Located → Located → Wrote How
spelled_as q text v x =
    let added : Bool = worth_adding link (strings v (table_of q.table)) (octets_of text x) in
    record { octets = chosen_field q.bit (q.lead + q.add * bit added) (octets_of text x); how = spelled (form_for q.bit (octets_of text x)) added; number = 0; tables = keeping added v (table_of q.table) x }

-- ---- names
-- The name of three strings.
abbrev pub named_of : QualifiedName → Name Located
named_of x = record { prefix = optional_of x.prefix; namespace = optional_of x.namespace; local = located_of x.local }

-- k are the numbers that a name's strings have.
pub record Held (text : Octets) (v : Vocabulary Located) (x : QualifiedName) (k : Row) : Type 0 where
  pub prefix : k.a ≡ held_as text PREFIX v x.prefix
  pub namespace : k.b ≡ held_as text NAMESPACE_NAME v x.namespace
  pub local : k.c ≡ held_as text LOCAL_NAME v x.local
  pub few : (k.a ≤ 256) × (k.b ≤ 256) × (k.c ≤ 256)

-- A string's number once it is written, from the number that it has and its table's n entries.
unfoldable pub number_then : (n : ℕ) → EventString → (k : ℕ) → ℕ
number_then n x k = pick (eqb k 0) (pick (eqb (string_tag x) 0) 0 (suc n)) k

-- The numbers that a name's strings have once they are written; and the name's own number, 0 if it has none.
unfoldable pub triple_for : Octets → Vocabulary Located → Name Located → Triple
triple_for text v x =
    let p = write_optional text PREFIX v x.prefix in
    let n = write_optional text NAMESPACE_NAME p.tables x.namespace in
    record { prefix = p.number; namespace = n.number; local = (write_id text LOCAL_NAME n.tables x.local).number }

unfoldable pub name_held_as : NameLayout → Octets → Vocabulary Located → Name Located → ℕ
name_held_as q text v x = number_of_triple (names v q.table) (triple_for text v x)

-- What a name is written from: its table and its lead, and its strings, of which the local name is there.
abbrev pub Proper : Octets → QualifiedName → Type 0
Proper text x =
    (8 ≤ x.table) × (x.table < 10) × (x.lead ≤ 0x80) × Suits text 0 x.prefix × Suits text 1 x.namespace × Suits text 2 x.local × (1 ≤ string_tag x.local)

-- Its table does not hold it, and k are its strings' numbers.
pub record New (text : Octets) (v : Vocabulary Located) (x : QualifiedName) (k : Numbers) : Type 0 where
  pub held : Held text v x k.found
  pub is : triple_of k.then ≡ triple_for text v (named_of x)
  pub new : 0 ≡ name_held_as (layout_of x.table) text v (named_of x)

-- A row became an entry of its table; or the table is full.
abbrev pub Tripled : (at : ℕ) (c w : Words) (index : Octets) (table : ℕ) → Row → Result ℕ Refusal → (c' w' : Words) (index' : Octets) → Type 0
Tripled at c w index table x (Ok r) c' w' index' =
    (r ≡ at) × (get_or c table 0 < 256) × (c' ≡ set c table (get_or c table 0 + 1)) × ((text : Octets) → NameEntered text table (get_or c table 0) (triple_of x) w index w' index')
Tripled at c w index table x (Err r) c' w' index' = (r ≡ Full) × (256 ≤ get_or c table 0)

-- A prefix and a namespace behind the octet `first`; a namespace declaration (C.12) begins with 110011pn.
unfoldable pub pair_behind : (first : ℕ) → Octets → Vocabulary Located → (prefix namespace : Option Located) → Wrote Choice
pair_behind first text v p n =
    let x : Wrote (Option How) = write_optional text PREFIX v p in
    let y : Wrote (Option How) = write_optional text NAMESPACE_NAME x.tables n in
    record { octets = first ∷ (x.octets ++ y.octets); how = for_namespace x.how y.how; number = 0; tables = y.tables }

unfoldable pub declared_by : Octets → Vocabulary Located → (prefix namespace : Option Located) → Wrote Choice
declared_by text v p n = pair_behind (0xCC + 2 * has p + has n) text v p n

-- ---- what was put
-- What was put from `at` to r stands for the definition's octets, and the tables are the definition's; at most `most` octets were put.
pub record Stands {H : Type 0} (text out : Octets) (at most r : ℕ) (out' : Octets) (c w : Words) (index : Octets) (d : Wrote H) : Type 0 where
  pub puts : Puts out at r out' d.octets
  pub few : r ≤ at + most
  pub tables : tables_in c w ≡ d.tables
  pub order : InOrder text c w index

-- Or a table is full, and the definition's has an entry too many.
abbrev pub Meets : {H : Type 0} → Octets → Octets → (at most : ℕ) → Result ℕ Refusal → Octets → (c w : Words) (index : Octets) → Wrote H → Type 0
Meets text out at most (Ok r) out' c w index d = Stands text out at most r out' c w index d
Meets text out at most (Err r) out' c w index d = (r ≡ Full) × (within link d.tables ≡ false)
