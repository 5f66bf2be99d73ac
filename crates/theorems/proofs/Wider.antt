-- What is written within some limits is written within any wider ones.
use Prim.Native.Nat.{ℕ, ◌≤◌}
use mathlib.Core.Option.{Option}
use mathlib.Core.List.{List}
use native.Mathlib.Omega.{arith}
use Rattle.format.specs.Octets.{Octets, Halves}
use Rattle.format.specs.Events.{Name, How, NameHow, Item}
use Rattle.format.specs.Tables.{StringTable, Vocabulary, Version}
use Rattle.format.specs.Strings.{Identifying, id_spelled, id_numbered, Optional, absent, present, Layout, Literal, literal_spelled, literal_numbered, Value, value_empty, value}
use Rattle.format.specs.Names.{NameLayout, Named, in_parts_lem, by_number_lem, Declared, declared}
use Rattle.format.specs.Items.{State, ItemWrittenAs, o_start, o_first_namespace, o_namespace, o_named_start, o_attribute, o_text, o_comment, o_instruction}
use Rattle.format.specs.Document.{Written, document_end_lem, attributes_end, element_end, item}

module _ {ver M : Version} (long : ver.octets ≤ M.octets) (many : ver.entries ≤ M.entries) (deep : ver.depth ≤ M.depth) where
  identifying : {t : StringTable} {v : Vocabulary Octets} {x : Octets} {h : How} {n : ℕ} {o : Octets} {w : Vocabulary Octets}
      → Identifying ver t v x h n o w → Identifying M t v x h n o w
  identifying (id_spelled sp new room) = id_spelled sp new (omega arith)
  identifying (id_numbered small en) = id_numbered small en

  optional : {t : StringTable} {v w : Vocabulary Octets} {x : Option Octets} {h : Option How} {n : ℕ} {o : Octets}
      → Optional ver t v x h n o w → Optional M t v x h n o w
  optional absent = absent
  optional (present u) = present (identifying u)

  literal : {q : Layout} {t : StringTable} {v w : Vocabulary Octets} {x : Octets} {h : How} {o : Octets} → Literal ver q t v x h o w → Literal M q t v x h o w
  literal (literal_spelled sp room) = literal_spelled sp (λ e. let r = room e in omega arith)
  literal (literal_numbered small fits en) = literal_numbered small fits en

  value_in : {t : StringTable} {v w : Vocabulary Octets} {x : Octets} {h : How} {o : Octets} → Value ver t v x h o w → Value M t v x h o w
  value_in value_empty = value_empty
  value_in (value u) = value (literal u)

  named : {q : NameLayout} {lead : ℕ} {v w : Vocabulary Octets} {x : Name Octets} {h : NameHow} {o : Octets}
      → Named ver q lead v x h o w → Named M q lead v x h o w
  named (in_parts_lem lone up un ul new room) = in_parts_lem lone (optional up) (optional un) (identifying ul) new (omega arith)
  named (by_number_lem small fits en m) = by_number_lem small fits en m

  declares : {v w : Vocabulary Octets} {p n : Option Octets} {hp hn : Option How} {o : Octets} → Declared ver v p n hp hn o w → Declared M v p n hp hn o w
  declares (declared up un) = declared (optional up) (optional un)

  octets : {v w : State Octets} {i : Item Octets} {o : Octets} → ItemWrittenAs ver v i o w → ItemWrittenAs M v i o w
  octets (o_start a md may lv u) = o_start a md may (omega arith) (named u)
  octets (o_first_namespace md may lv u) = o_first_namespace md may (omega arith) (declares u)
  octets (o_namespace md u) = o_namespace md (declares u)
  octets (o_named_start md u) = o_named_start md (named u)
  octets (o_attribute md u1 u2) = o_attribute md (named u1) (value_in u2)
  octets (o_text md lv u) = o_text md lv (literal u)
  octets (o_comment md u) = o_comment md (value_in u)
  octets (o_instruction md u1 u2) = o_instruction md (identifying u1) (value_in u2)

  pub written : {at : ℕ} {v z : State Octets} {items : List (Item Octets)} {hs : Halves} → Written ver at v items hs z → Written M at v items hs z
  written (document_end_lem md lv rt) = document_end_lem md lv rt
  written (attributes_end md w) = attributes_end md (written w)
  written (element_end md lv w) = element_end md lv (written w)
  written (item u w) = item (octets u) (written w)
