-- Which choices a producer may make for an event, by the tables as they grow. Nothing here says how a choice is written, and no limit is asked for: that the rules write every
-- permitted choice, and no other, is proofs/Every and proofs/Permitted. Where X.891 leaves more open, the requirements are kept: an identifying string that its table holds is not spelled again (REPEAT; 7.13.7
-- lets it be), nor a name whose triple is held.
use Rattle.std.specs.Prelude.{ℕ, suc, ◌≤◌, ◌<◌, Bool, true, List, [], ◌∷◌, length}
use Rattle.std.proofs.Math.Option.{Option, none, some}
use Rattle.format.specs.Octets.{Octets}
use Rattle.format.specs.Events.{Name, Event, Namespace, Start, Attribute, Text, Comment, Instruction, End, How, spelled, numbered, NameHow, in_parts, by_number}
use Rattle.format.specs.Events.{Choice, for_namespace, for_start, for_attribute, for_text, for_comment, for_instruction, for_end, Item}
use Rattle.format.specs.Tables.{StringTable, PREFIX, NAMESPACE_NAME, LOCAL_NAME, OTHER_NCNAME, ATTRIBUTE_VALUE, CONTENT_CHARACTER_CHUNK, OTHER_STRING}
use Rattle.format.specs.Tables.{NameTable, ELEMENT_NAME, ATTRIBUTE_NAME, Triple, Vocabulary, strings, names, adding, adding_name, Entry, New, Means}
use Rattle.format.specs.Strings.{keeping}
use Rattle.format.specs.Numbers.{longest}
use Rattle.format.specs.Forms.{Spelled}
use Rattle.format.specs.declared.StringForm.{StringForm}
use Rattle.format.specs.declared.StringForm.TheVariants.{Utf8}

-- `PermitsId t v x h n w`: with the tables v, the identifying string x of table t may be written as h says; its number is n, and the tables are w then. Spelled where the table does
-- not hold it, and then it is added (7.13.7 b); or the number, from 1, of any entry that is this very string (7.13.7 a).
pub data PermitsId (t : StringTable) (v : Vocabulary Octets) (x : Octets) : How → ℕ → Vocabulary Octets → Type 0 where
  id_new : New (strings v t) x → PermitsId t v x (spelled Utf8 true) (suc (length (strings v t))) (adding v t x)
  id_entry : {k : ℕ} → Entry (strings v t) k x → PermitsId t v x (numbered (suc k)) (suc k) v

-- One that may be absent; then its number is 0.
pub data PermitsIfAny (t : StringTable) (v : Vocabulary Octets) : Option Octets → Option How → ℕ → Vocabulary Octets → Type 0 where
  not_there : PermitsIfAny t v none none 0 v
  there : {x : Octets} {h : How} {n : ℕ} {w : Vocabulary Octets} → PermitsId t v x h n w → PermitsIfAny t v (some x) (some h) n w

-- The string x has octets in this form, no more than a length can say.
pub record HasForm (form : StringForm) (x : Octets) : Type 0 where
  pub octets : Octets
  pub spells : Spelled form x octets
  pub fits : length octets ≤ longest

-- A chunk, `PermitsString t v x h w`: spelled, also where the table holds it, in any form that it has, and added or not, as one likes (7.14.7 b); or the number of any entry that is this very string (7.14.7 a).
pub data PermitsString (t : StringTable) (v : Vocabulary Octets) (x : Octets) : How → Vocabulary Octets → Type 0 where
  string_spelled : {form : StringForm} (added : Bool) → HasForm form x → PermitsString t v x (spelled form added) (keeping added v t x)
  string_entry : {k : ℕ} → Entry (strings v t) k x → PermitsString t v x (numbered (suc k)) v

-- A value, comment or content may be empty: number 0 (7.14.6). It is not spelled then, so no table ever holds an empty string, and 0 is the only way to write one. Else it is as a chunk.
pub data PermitsValue (t : StringTable) (v : Vocabulary Octets) : Octets → How → Vocabulary Octets → Type 0 where
  value_none : PermitsValue t v [] (numbered 0) v
  value_spelled : {x : Octets} {form : StringForm} (added : Bool) → 0 < length x → HasForm form x → PermitsValue t v x (spelled form added) (keeping added v t x)
  value_entry : {x : Octets} {k : ℕ} → Entry (strings v t) k x → PermitsValue t v x (numbered (suc k)) v

-- A name: by its parts, each as above, where the table does not hold the triple of their numbers, and then it is added (7.16.7.3, 7.16.7.5); or the number of any entry whose triple
-- names this very name (7.16.7.2).
pub data PermitsName (t : NameTable) (v : Vocabulary Octets) : Name Octets → NameHow → Vocabulary Octets → Type 0 where
  name_parts : {p n : Option Octets} {l : Octets} {hp hn : Option How} {hl : How} {kp kn kl : ℕ} {v₁ v₂ v₃ : Vocabulary Octets}
      → PermitsIfAny PREFIX v p hp kp v₁ → PermitsIfAny NAMESPACE_NAME v₁ n hn kn v₂ → PermitsId LOCAL_NAME v₂ l hl kl v₃
      → New (names v₃ t) (record { prefix = kp; namespace = kn; local = kl })
      → PermitsName t v (record { prefix = p; namespace = n; local = l }) (in_parts hp hn hl) (adding_name v₃ t (record { prefix = kp; namespace = kn; local = kl }))
  name_entry : {k : ℕ} {x : Triple} {y : Name Octets} → Entry (names v t) k x → Means v x y → PermitsName t v y (by_number (suc k)) v

-- `Permits v e c w`: with the tables v, the choice c may be made for the event e, and the tables are w then.
pub data Permits (v : Vocabulary Octets) : Event Octets → Choice → Vocabulary Octets → Type 0 where
  a_declaration : {p n : Option Octets} {hp hn : Option How} {kp kn : ℕ} {v₁ w : Vocabulary Octets} → PermitsIfAny PREFIX v p hp kp v₁ → PermitsIfAny NAMESPACE_NAME v₁ n hn kn w
      → Permits v (Namespace p n) (for_namespace hp hn) w
  a_start : {x : Name Octets} {h : NameHow} {w : Vocabulary Octets} → PermitsName ELEMENT_NAME v x h w → Permits v (Start x) (for_start h) w
  an_attribute : {x : Name Octets} {y : Octets} {h : NameHow} {g : How} {v₁ w : Vocabulary Octets} → PermitsName ATTRIBUTE_NAME v x h v₁ → PermitsValue ATTRIBUTE_VALUE v₁ y g w
      → Permits v (Attribute x y) (for_attribute h g) w
  a_chunk : {y : Octets} {h : How} {w : Vocabulary Octets} → PermitsString CONTENT_CHARACTER_CHUNK v y h w → Permits v (Text y) (for_text h) w
  a_comment : {y : Octets} {h : How} {w : Vocabulary Octets} → PermitsValue OTHER_STRING v y h w → Permits v (Comment y) (for_comment h) w
  an_instruction : {x y : Octets} {h g : How} {k : ℕ} {v₁ w : Vocabulary Octets} → PermitsId OTHER_NCNAME v x h k v₁ → PermitsValue OTHER_STRING v₁ y g w
      → Permits v (Instruction x y) (for_instruction h g) w
  an_end : Permits v End for_end v

-- Item by item.
pub data PermitsAll : Vocabulary Octets → List (Item Octets) → Vocabulary Octets → Type 0 where
  no_item : {v : Vocabulary Octets} → PermitsAll v [] v
  an_item : {v u w : Vocabulary Octets} {i : Item Octets} {items : List (Item Octets)} → Permits v i.event i.choice u → PermitsAll u items w → PermitsAll v (i ∷ items) w
