-- Where strings are spelled: which strings of an item its choice spells, and at which octets the rules write them; and at which they list those of a head. And at which octet the rules write each event.
use Rattle.std.specs.Prelude.{ℕ, suc, ◌+◌, ◌-◌, ◌/◌, true, List, [], ◌∷◌, ◌++◌, length}
use Rattle.std.proofs.Math.Option.{Option, none, some}
use Rattle.format.specs.Octets.{Octets, Halves}
use Rattle.format.specs.Events.{Name, How, spelled, numbered, NameHow, in_parts, by_number, Item}
use Rattle.format.specs.Numbers.{spell, c21}
use Rattle.format.specs.Tables.{StringTable, Vocabulary, Version}
use Rattle.format.specs.Names.{NameLayout, Named, in_parts_lem, by_number_lem, Declared, declared}
use Rattle.format.specs.Strings.{Layout, Literal, literal_spelled, literal_numbered, Value, value_empty, value}
use Rattle.format.specs.Head.{Listed, Head, Table, of_strings, of_names, size_of, StringListed, an_identifying, another, Each, no_entry, an_entry, TablesListed, no_table, absent, present, Opens, without_head, with_head}
use Rattle.format.specs.Items.{State, ItemWrittenAs, o_start, o_first_namespace, o_namespace, o_named_start, o_attribute, o_text, o_comment, o_instruction}
use Rattle.format.specs.Document.{aligned, Written, document_end_lem, attributes_end, element_end, item}
use Rattle.format.specs.Uses.{Part, string, name, parts, PartHow, string_how, name_how, hows, in_turn}
use Rattle.format.specs.declared.StringForm.TheVariants.{Utf8}
use Rattle.tables.specs.Located.{Located, stretch}

-- ---- which strings are spelled, in order
abbrev pub if_spelled : Located → How → List Located
if_spelled x (spelled form added) = x ∷ []
if_spelled x (numbered n) = []

abbrev pub option_spelled : Option Located → Option How → List Located
option_spelled none h = []
option_spelled (some x) none = []
option_spelled (some x) (some h) = if_spelled x h

abbrev pub name_spelled : Name Located → NameHow → List Located
name_spelled x (in_parts p n l) = option_spelled x.prefix p ++ (option_spelled x.namespace n ++ if_spelled x.local l)
name_spelled x (by_number k) = []

abbrev pub part_spelled : Part Located → PartHow → List Located
part_spelled (string t x) (string_how h) = option_spelled x h
part_spelled (string t x) (name_how h) = []
part_spelled (name t x) (string_how h) = []
part_spelled (name t x) (name_how h) = name_spelled x h

abbrev pub item_spelled : Item Located → List Located
item_spelled i = in_turn part_spelled (parts i.event) (hows i.choice)

unfoldable pub all_spelled : List (Item Located) → List Located
all_spelled [] = []
all_spelled (i ∷ items) = item_spelled i ++ all_spelled items

-- ---- where the rules spell them: an identifying string x is the end of its field o, which stands at octet k
abbrev pub in_field : (k : ℕ) → How → (x o : Octets) → List Located
in_field k (spelled form added) x o = stretch form (k + length o - length x) (length x) ∷ []
in_field k (numbered n) x o = []

abbrev pub in_option : (k : ℕ) → Option How → Option Octets → (o : Octets) → List Located
in_option k none x o = []
in_option k (some h) none o = []
in_option k (some h) (some x) o = in_field k h x o

module _ {ver : Version} where
  -- another string's octets, in its form, are the end of its field
  abbrev pub in_literal : (k : ℕ) {q : Layout} {t : StringTable} {v w : Vocabulary Octets} {x : Octets} {h : How} {o : Octets} → Literal ver q t v x h o w → List Located
  in_literal k {o = o} (literal_spelled {y = y} {form = form} sp room) = stretch form (k + length o - length y) (length y) ∷ []
  in_literal k (literal_numbered small fits en) = []

  abbrev pub in_value : (k : ℕ) {t : StringTable} {v w : Vocabulary Octets} {x : Octets} {h : How} {o : Octets} → Value ver t v x h o w → List Located
  in_value k value_empty = []
  in_value k (value u) = in_literal k u

  -- the fields of a name, a declaration and an item that stand at octet k
  abbrev pub in_name : (k : ℕ) {q : NameLayout} {lead : ℕ} {v w : Vocabulary Octets} {x : Name Octets} {h : NameHow} {o : Octets} → Named ver q lead v x h o w → List Located
  in_name k (in_parts_lem {p = p} {n = n} {l = l} {hp = hp} {hn = hn} {hl = hl} {op = op} {on = on} {ol = ol} paired up un ul new room) =
      in_option (suc k) hp p op ++ (in_option (suc k + length op) hn n on ++ in_field (suc k + length op + length on) hl l ol)
  in_name k (by_number_lem small fits en m) = []

  abbrev pub in_declared : (k : ℕ) {v w : Vocabulary Octets} {p n : Option Octets} {hp hn : Option How} {o : Octets} → Declared ver v p n hp hn o w → List Located
  in_declared k (declared {p = p} {n = n} {hp = hp} {hn = hn} {op = op} {on = on} up un) = in_option (suc k) hp p op ++ in_option (suc k + length op) hn n on

  abbrev pub in_item : (k : ℕ) {v w : State Octets} {i : Item Octets} {o : Octets} → ItemWrittenAs ver v i o w → List Located
  in_item k (o_start a md may deep u) = in_name k u
  in_item k (o_first_namespace md may deep u) = in_declared (suc k) u
  in_item k (o_namespace md u) = in_declared k u
  in_item k (o_named_start md u) = in_name (suc k) u
  in_item k (o_attribute {o₁ = o₁} md u₁ u₂) = in_name k u₁ ++ in_value (k + length o₁) u₂
  in_item k (o_text md lv u) = in_literal k u
  in_item k (o_comment md u) = in_value (suc k) u
  in_item k (o_instruction {x = x} {h = h} {o₁ = o₁} md u₁ u₂) = in_field (suc k) h x o₁ ++ in_value (suc k + length o₁) u₂

  -- and of a document; an item starts with the next whole octet
  unfoldable pub spelled_in : {at : ℕ} {v z : State Octets} {items : List (Item Octets)} {hs : Halves} → Written ver at v items hs z → List Located
  spelled_in (document_end_lem md lv rt) = []
  spelled_in (attributes_end md rest) = spelled_in rest
  spelled_in (element_end md lv rest) = spelled_in rest
  spelled_in (item {at = at} u rest) = in_item (aligned at / 2) u ++ spelled_in rest

  -- ---- where the rules list strings: entries, and tables, from octet k on
  abbrev pub in_entry : (k : ℕ) {t : StringTable} {v w : Vocabulary Octets} {x : Listed} {o : Octets} → StringListed ver t v x o w → List Located
  in_entry k {o = o} (an_identifying {x = x} i u) = in_field k (spelled Utf8 true) x o
  in_entry k (another i u) = in_literal k u

  abbrev pub in_entries : {t : StringTable} (k : ℕ) {v w : Vocabulary Octets} {xs : List Listed} {o : Octets} → Each ver (StringListed ver t) v xs o w → List Located
  in_entries k no_entry = []
  in_entries k (an_entry {o = o} u rest) = in_entry k u ++ in_entries (k + length o) rest

  unfoldable pub in_tables : {h : Head} (k : ℕ) {v w : Vocabulary Octets} {ts : List Table} {o : Octets} → TablesListed ver h ts v o w → List Located
  in_tables k no_table = []
  in_tables k (absent empty rest) = in_tables k rest
  in_tables {h} k (present {t = of_strings t} o any few u rest) =
      let n : ℕ = length (spell c21 0 (size_of h (of_strings t))) in
      in_entries (k + n) u ++ in_tables (k + n + length o) rest
  in_tables {h} k (present {t = of_names t} o any few u rest) = in_tables (k + length (spell c21 0 (size_of h (of_names t))) + length o) rest

  -- and of a head, whose tables stand behind the identification, the octet 20 and the presence bits
  abbrev pub listed_in : {h : Head} {w : Vocabulary Octets} {o : Octets} → Opens ver h o w → List Located
  listed_in without_head = []
  listed_in (with_head heads any u) = in_tables (length ver.identification + 3) u

  -- ---- where the rules write the event of an item that stands at octet k (the requirements, "Room for an event"). To the rules, the octet that announces declarations, 0A111000, is a part of the first
  -- of them, and the octet F0 behind them a part of the Start; but the event begins behind it.
  abbrev pub event_at : (k : ℕ) {v w : State Octets} {i : Item Octets} {o : Octets} → ItemWrittenAs ver v i o w → ℕ
  event_at k (o_start a md may deep u) = k
  event_at k (o_first_namespace md may deep u) = suc k
  event_at k (o_namespace md u) = k
  event_at k (o_named_start md u) = suc k
  event_at k (o_attribute md u₁ u₂) = k
  event_at k (o_text md lv u) = k
  event_at k (o_comment md u) = k
  event_at k (o_instruction md u₁ u₂) = k

  -- and each of a document: an End at the octet that holds its half
  unfoldable pub places_in : {at : ℕ} {v z : State Octets} {items : List (Item Octets)} {hs : Halves} → Written ver at v items hs z → List ℕ
  places_in (document_end_lem md lv rt) = []
  places_in (attributes_end md rest) = places_in rest
  places_in (element_end {at = at} md lv rest) = at / 2 ∷ places_in rest
  places_in (item {at = at} u rest) = event_at (aligned at / 2) u ∷ places_in rest
