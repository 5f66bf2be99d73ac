-- What each item does with the tables, whatever a string is: its octets, in the rules; where it stands, in the reading definition. Both lead to this, and what
-- follows from it is proved once for both: what a number names was made earlier (Earlier), and what strings an event can have (Plain).
use Prim.Native.Nat.{ℕ, suc, ◌≤◌}
use mathlib.Core.Path.{subst}
use mathlib.Core.Bool.{Bool, true}
use mathlib.Core.Option.{Option, none, some}
use mathlib.Core.List.{List, [], ◌∷◌}
use lib.ListN.{length}
use Rattle.format.specs.Octets.{Octets, Halves}
use Rattle.format.specs.Events.{Name, Namespace, Start, Attribute, Text, Comment, Instruction, End, How, spelled, numbered, NameHow, in_parts, by_number}
use Rattle.format.specs.Events.{for_namespace, for_start, for_attribute, for_text, for_comment, for_instruction, for_end, Item, ◌by◌}
use Rattle.format.specs.Tables.{StringTable, PREFIX, NAMESPACE_NAME, LOCAL_NAME, OTHER_NCNAME, ATTRIBUTE_VALUE, CONTENT_CHARACTER_CHUNK, OTHER_STRING}
use Rattle.format.specs.Tables.{NameTable, ELEMENT_NAME, ATTRIBUTE_NAME, Triple, Vocabulary, strings, names, adding, adding_name, Entry, Version}
use Rattle.format.specs.declared.StringForm.{StringForm}
use Rattle.format.specs.declared.StringForm.TheVariants.{Utf8}
use Rattle.format.specs.Head.{Head}
use Rattle.format.specs.Strings.{keeping, Identifying, id_spelled, id_numbered, Optional, absent, present, Layout, Literal, literal_spelled, literal_numbered, Value, value_empty, value}
use Rattle.format.specs.Names.{has, NameLayout, of_element, of_attribute, Named, in_parts_lem, by_number_lem, Declared, declared}
use Rattle.format.specs.Items.{State, ItemWrittenAs, o_start, o_first_namespace, o_namespace, o_named_start, o_attribute, o_text, o_comment, o_instruction}
use Rattle.format.specs.Document.{beginning, Written, document_end_lem, attributes_end, element_end, item, Document}
use Rattle.format.specs.Allowed.{Said}
use Rattle.read_names.specs.Names.{name_of}
use Rattle.theorems.proofs.Triples.{means_is}
use Rattle.theorems.proofs.Forms.{spelling-said}

-- d is the empty string; Spelt says what strings of a table can be spelled. `IdDone t v x h n w`: where v is known, x is written as h says, n is its number in table t,
-- and w is known then; so for the others.
module _ {S : Type 0} (d : S) (Spelt : StringTable → S → Type 0) where
  pub data IdDone (t : StringTable) (v : Vocabulary S) : S → How → ℕ → Vocabulary S → Type 0 where
    id_made : {x : S} → Spelt t x → IdDone t v x (spelled Utf8 true) (suc (length (strings v t))) (adding v t x)
    id_used : {x : S} {k : ℕ} → Entry (strings v t) k x → IdDone t v x (numbered (suc k)) (suc k) v

  pub data PartDone (t : StringTable) (v : Vocabulary S) : Option S → Option How → ℕ → Vocabulary S → Type 0 where
    no_part : PartDone t v none none 0 v
    a_part : {x : S} {h : How} {n : ℕ} {w : Vocabulary S} → IdDone t v x h n w → PartDone t v (some x) (some h) n w

  pub data StringDone (t : StringTable) (v : Vocabulary S) : S → How → Vocabulary S → Type 0 where
    string_made : {x : S} {form : StringForm} (added : Bool) → Spelt t x → StringDone t v x (spelled form added) (keeping added v t x)
    string_used : {x : S} {k : ℕ} → Entry (strings v t) k x → StringDone t v x (numbered (suc k)) v

  pub data ValueDone (t : StringTable) (v : Vocabulary S) : S → How → Vocabulary S → Type 0 where
    empty_value : ValueDone t v d (numbered 0) v
    a_value : {x : S} {h : How} {w : Vocabulary S} → StringDone t v x h w → ValueDone t v x h w

  pub data NameDone (t : NameTable) (v : Vocabulary S) : Name S → NameHow → Vocabulary S → Type 0 where
    name_made : {p n : Option S} {l : S} {hp hn : Option How} {hl : How} {kp kn kl : ℕ} {v₁ v₂ v₃ : Vocabulary S} → has p ≤ has n
        → PartDone PREFIX v p hp kp v₁ → PartDone NAMESPACE_NAME v₁ n hn kn v₂ → IdDone LOCAL_NAME v₂ l hl kl v₃
        → NameDone t v (record { prefix = p; namespace = n; local = l }) (in_parts hp hn hl) (adding_name v₃ t (record { prefix = kp; namespace = kn; local = kl }))
    name_used : {k : ℕ} {x : Triple} → Entry (names v t) k x → NameDone t v (name_of v d x) (by_number (suc k)) v

  pub data ItemDone (v : Vocabulary S) : Item S → Vocabulary S → Type 0 where
    done_namespace : {p n : Option S} {hp hn : Option How} {kp kn : ℕ} {v₁ w : Vocabulary S} → PartDone PREFIX v p hp kp v₁ → PartDone NAMESPACE_NAME v₁ n hn kn w
        → ItemDone v (Namespace p n by for_namespace hp hn) w
    done_start : {x : Name S} {h : NameHow} {w : Vocabulary S} → NameDone ELEMENT_NAME v x h w → ItemDone v (Start x by for_start h) w
    done_attribute : {x : Name S} {y : S} {h : NameHow} {g : How} {v₁ w : Vocabulary S} → NameDone ATTRIBUTE_NAME v x h v₁ → ValueDone ATTRIBUTE_VALUE v₁ y g w
        → ItemDone v (Attribute x y by for_attribute h g) w
    done_text : {y : S} {h : How} {w : Vocabulary S} → StringDone CONTENT_CHARACTER_CHUNK v y h w → ItemDone v (Text y by for_text h) w
    done_comment : {y : S} {h : How} {w : Vocabulary S} → ValueDone OTHER_STRING v y h w → ItemDone v (Comment y by for_comment h) w
    done_instruction : {x y : S} {h g : How} {k : ℕ} {v₁ w : Vocabulary S} → IdDone OTHER_NCNAME v x h k v₁ → ValueDone OTHER_STRING v₁ y g w
        → ItemDone v (Instruction x y by for_instruction h g) w
    done_end : ItemDone v (End by for_end) v

  pub data Done : Vocabulary S → List (Item S) → Vocabulary S → Type 0 where
    no_item : {v : Vocabulary S} → Done v [] v
    an_item : {v : Vocabulary S} {i : Item S} {w z : Vocabulary S} {items : List (Item S)} → ItemDone v i w → Done w items z → Done v (i ∷ items) z

-- ---- the rules do so; what they spell is text, and not empty
abbrev pub OfTable : StringTable → Octets → Type 0
OfTable t x = Said x

module _ {ver : Version} where
  id_done : {t : StringTable} {v : Vocabulary Octets} {x : Octets} {h : How} {n : ℕ} {w : Vocabulary Octets} {o : Octets} → Identifying ver t v x h n o w → IdDone [] OfTable t v x h n w
  id_done (id_spelled sp new room) = id_made (sp.some, sp.formed.0)
  id_done (id_numbered small en) = id_used en

  part_done : {t : StringTable} {v w : Vocabulary Octets} {x : Option Octets} {h : Option How} {n : ℕ} {o : Octets}
      → Optional ver t v x h n o w → PartDone [] OfTable t v x h n w
  part_done absent = no_part
  part_done (present u) = a_part (id_done u)

  string_done : {q : Layout} {t : StringTable} {v w : Vocabulary Octets} {x : Octets} {h : How} {o : Octets} → Literal ver q t v x h o w → StringDone [] OfTable t v x h w
  string_done (literal_spelled {added = added} sp room) = string_made added (spelling-said sp)
  string_done (literal_numbered small fits en) = string_used en

  value_done : {t : StringTable} {v w : Vocabulary Octets} {x : Octets} {h : How} {o : Octets} → Value ver t v x h o w → ValueDone [] OfTable t v x h w
  value_done value_empty = empty_value
  value_done (value u) = a_value (string_done u)

  name_done : {q : NameLayout} {lead : ℕ} {v w : Vocabulary Octets} {x : Name Octets} {h : NameHow} {o : Octets}
      → Named ver q lead v x h o w → NameDone [] OfTable q.table v x h w
  name_done (in_parts_lem lone up un ul new room) = name_made lone (part_done up) (part_done un) (id_done ul)
  name_done {q} {v = v} (by_number_lem {k = k} small fits en m) = subst (λ (y : Name Octets). NameDone [] OfTable q.table v y (by_number (suc k)) v) (means_is [] m) (name_used en)

  namespace_done : {v w : Vocabulary Octets} {p n : Option Octets} {hp hn : Option How} {o : Octets}
      → Declared ver v p n hp hn o w → ItemDone [] OfTable v (Namespace p n by for_namespace hp hn) w
  namespace_done (declared up un) = done_namespace (part_done up) (part_done un)

  pub octets_done : {v w : State Octets} {i : Item Octets} {o : Octets} → ItemWrittenAs ver v i o w → ItemDone [] OfTable v.tables i w.tables
  unfolding of_element of_attribute
  octets_done (o_start a md may deep u) = done_start (name_done u)
  octets_done (o_first_namespace md may deep u) = namespace_done u
  octets_done (o_namespace md u) = namespace_done u
  octets_done (o_named_start md u) = done_start (name_done u)
  octets_done (o_attribute md u1 u2) = done_attribute (name_done u1) (value_done u2)
  octets_done (o_text md lv u) = done_text (string_done u)
  octets_done (o_comment md u) = done_comment (value_done u)
  octets_done (o_instruction md u1 u2) = done_instruction (id_done u1) (value_done u2)

  written_done : {at : ℕ} {v z : State Octets} {items : List (Item Octets)} {hs : Halves} → Written ver at v items hs z → Done [] OfTable v.tables items z.tables
  written_done (document_end_lem md lv rt) = no_item
  written_done (attributes_end md w) = written_done w
  written_done (element_end md lv w) = an_item done_end (written_done w)
  written_done (item u w) = an_item (octets_done u) (written_done w)

  pub document_done : {h : Head} {items : List (Item Octets)} {z : State Octets} {s : Octets}
      (d : Document ver h items z s) → Done [] OfTable d.listed items z.tables
  unfolding beginning
  document_done d = written_done d.rule
