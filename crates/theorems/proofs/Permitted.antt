-- What the rules write is permitted: `Permits` is the rules without octets, limits and places. That the rules write all that is permitted is Every.
use Prim.Native.Nat.{ℕ}
use mathlib.Core.Option.{Option}
use mathlib.Core.List.{List}
use Rattle.format.specs.Octets.{Octets, Halves}
use Rattle.format.specs.Events.{Name, How, NameHow, Item}
use Rattle.format.specs.Tables.{StringTable, Vocabulary, Version}
use Rattle.format.specs.Strings.{Identifying, id_spelled, id_numbered, Optional, absent, present, Layout, Literal, literal_spelled, literal_numbered, Value, value_empty, value}
use Rattle.format.specs.Names.{NameLayout, of_element, of_attribute, Named, in_parts_lem, by_number_lem, declared}
use Rattle.format.specs.Items.{State, ItemWrittenAs, o_start, o_first_namespace, o_namespace, o_named_start, o_attribute, o_text, o_comment, o_instruction}
use Rattle.format.specs.Document.{Written, document_end_lem, attributes_end, element_end, item}
use Rattle.theorems.specs.Permitted.{PermitsId, id_new, id_entry, PermitsIfAny, not_there, there, PermitsString, string_spelled, string_entry, PermitsValue, value_none, value_spelled, value_entry}
use Rattle.theorems.specs.Permitted.{PermitsName, name_parts, name_entry, Permits, a_declaration, a_start, an_attribute, a_chunk, a_comment, an_instruction, an_end, PermitsAll, no_item, an_item}
use Rattle.theorems.proofs.Forms.{spelling-said, has_form}

module _ {ver : Version} where
  id_may : {t : StringTable} {v : Vocabulary Octets} {x : Octets} {h : How} {n : ℕ} {o : Octets} {w : Vocabulary Octets} → Identifying ver t v x h n o w → PermitsId t v x h n w
  id_may (id_spelled sp new room) = id_new new
  id_may (id_numbered small en) = id_entry en

  optional_may : {t : StringTable} {v w : Vocabulary Octets} {x : Option Octets} {h : Option How} {n : ℕ} {o : Octets} → Optional ver t v x h n o w → PermitsIfAny t v x h n w
  optional_may absent = not_there
  optional_may (present u) = there (id_may u)

  literal_may : {q : Layout} {t : StringTable} {v w : Vocabulary Octets} {x : Octets} {h : How} {o : Octets} → Literal ver q t v x h o w → PermitsString t v x h w
  literal_may (literal_spelled {added = b} sp room) = string_spelled b (has_form sp)
  literal_may (literal_numbered small fits en) = string_entry en

  value_may : {t : StringTable} {v w : Vocabulary Octets} {x : Octets} {h : How} {o : Octets} → Value ver t v x h o w → PermitsValue t v x h w
  value_may value_empty = value_none
  value_may (value (literal_spelled {added = b} sp room)) = value_spelled b (spelling-said sp).0 (has_form sp)
  value_may (value (literal_numbered small fits en)) = value_entry en

  name_may : {q : NameLayout} {lead : ℕ} {v w : Vocabulary Octets} {x : Name Octets} {h : NameHow} {o : Octets} → Named ver q lead v x h o w → PermitsName q.table v x h w
  name_may (in_parts_lem lone up un ul new room) = name_parts (optional_may up) (optional_may un) (id_may ul) new
  name_may (by_number_lem small fits en m) = name_entry en m

  pub octets_may : {v w : State Octets} {i : Item Octets} {o : Octets} → ItemWrittenAs ver v i o w → Permits v.tables i.event i.choice w.tables
  unfolding of_element of_attribute
  octets_may (o_start a md may deep u) = a_start (name_may u)
  octets_may (o_first_namespace md may deep (declared up un)) = a_declaration (optional_may up) (optional_may un)
  octets_may (o_namespace md (declared up un)) = a_declaration (optional_may up) (optional_may un)
  octets_may (o_named_start md u) = a_start (name_may u)
  octets_may (o_attribute md u y) = an_attribute (name_may u) (value_may y)
  octets_may (o_text md lv y) = a_chunk (literal_may y)
  octets_may (o_comment md y) = a_comment (value_may y)
  octets_may (o_instruction md x y) = an_instruction (id_may x) (value_may y)

  pub permitted : {at : ℕ} {v z : State Octets} {items : List (Item Octets)} {hs : Halves} → Written ver at v items hs z → PermitsAll v.tables items z.tables
  permitted (document_end_lem md lv rt) = no_item
  permitted (attributes_end md w) = permitted w
  permitted (element_end md lv w) = an_item an_end (permitted w)
  permitted (item u w) = an_item (octets_may u) (permitted w)
