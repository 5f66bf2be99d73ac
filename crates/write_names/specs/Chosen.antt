-- The choices that the requirements fix ("The writer's choices"), for plain events and the tables as they grow. There are no octets here: those come from the rules of writing.
use Rattle.std.specs.Prelude.{ℕ, suc, Bool, true, List, [], ◌∷◌, length, eqb}
use Rattle.std.proofs.Math.Option.{Option, none, some}
use Rattle.format.specs.Octets.{Octets}
use Rattle.format.specs.Numbers.{pick}
use Rattle.format.specs.Events.{Name, Event, Namespace, Start, Attribute, Text, Comment, Instruction, End, How, spelled, numbered, NameHow, in_parts, by_number}
use Rattle.format.specs.Events.{Choice, for_namespace, for_start, for_attribute, for_text, for_comment, for_instruction, for_end, Item, ◌by◌}
use Rattle.format.specs.Tables.{StringTable, PREFIX, NAMESPACE_NAME, LOCAL_NAME, OTHER_NCNAME, ATTRIBUTE_VALUE, CONTENT_CHARACTER_CHUNK, OTHER_STRING}
use Rattle.format.specs.Tables.{NameTable, ELEMENT_NAME, ATTRIBUTE_NAME, Triple, Vocabulary, strings, names, adding, adding_name, Version}
use Rattle.format.specs.Strings.{Layout, c14, c15, keeping}
use Rattle.format.specs.declared.StringForm.TheVariants.{Utf8}
use Rattle.tables.specs.Search.{number_in, number_of_triple}
use Rattle.write_names.specs.Choices.{worth_adding, form_for}

-- How a string, a name or an event is written, and the tables then; and the number of an identifying string or a name then, 0 for the others.
pub record Chose (H : Type 0) : Type 0 where
  pub how : H
  pub number : ℕ
  pub tables : Vocabulary Octets

-- An identifying string: the lowest number where its table holds it; else spelled, and added.
unfoldable pub choose_id : StringTable → Vocabulary Octets → Octets → Chose How
choose_id t v x =
    let k : ℕ = number_in (strings v t) x in
    pick (eqb k 0)
    (record { how = spelled Utf8 true; number = suc (length (strings v t)); tables = adding v t x })
    (record { how = numbered k; number = k; tables = v })

unfoldable pub choose_optional : StringTable → Vocabulary Octets → Option Octets → Chose (Option How)
choose_optional t v none = record { how = none; number = 0; tables = v }
choose_optional t v (some x) =
    let c : Chose How = choose_id t v x in
    record { how = some c.how; number = c.number; tables = c.tables }

-- A name: its own lowest number where its table holds its triple; else by its parts, and added.
unfoldable pub choose_name : NameTable → Vocabulary Octets → Name Octets → Chose NameHow
choose_name t v x =
    let p : Chose (Option How) = choose_optional PREFIX v x.prefix in
    let n : Chose (Option How) = choose_optional NAMESPACE_NAME p.tables x.namespace in
    let l : Chose How = choose_id LOCAL_NAME n.tables x.local in
    let triple : Triple = record { prefix = p.number; namespace = n.number; local = l.number } in
    let k : ℕ = number_of_triple (names l.tables t) triple in
    pick (eqb k 0)
    (record { how = in_parts p.how n.how l.how; number = suc (length (names l.tables t)); tables = adding_name l.tables t triple })
    (record { how = by_number k; number = k; tables = v })

module _ (ver : Version) where
  -- A chunk, value, comment or content: the lowest number where its table holds it; else spelled, in the form for its layout, and added if it is short and its table has room.
  unfoldable pub choose_literal : Layout → StringTable → Vocabulary Octets → Octets → Chose How
  choose_literal q t v x =
      let k : ℕ = number_in (strings v t) x in
      let added : Bool = worth_adding ver (strings v t) x in
      pick (eqb k 0)
      (record { how = spelled (form_for q.length_bit x) added; number = 0; tables = keeping added v t x })
      (record { how = numbered k; number = k; tables = v })

  -- A value, comment or content may be empty: number 0.
  unfoldable pub choose_value : StringTable → Vocabulary Octets → Octets → Chose How
  choose_value t v x = pick (eqb (length x) 0) (record { how = numbered 0; number = 0; tables = v }) (choose_literal c14 t v x)

  unfoldable pub choose_for : Vocabulary Octets → Event Octets → Chose Choice
  choose_for v (Namespace p n) =
      let a : Chose (Option How) = choose_optional PREFIX v p in
      let b : Chose (Option How) = choose_optional NAMESPACE_NAME a.tables n in
      record { how = for_namespace a.how b.how; number = 0; tables = b.tables }
  choose_for v (Start x) =
      let a : Chose NameHow = choose_name ELEMENT_NAME v x in
      record { how = for_start a.how; number = 0; tables = a.tables }
  choose_for v (Attribute x y) =
      let a : Chose NameHow = choose_name ATTRIBUTE_NAME v x in
      let b : Chose How = choose_value ATTRIBUTE_VALUE a.tables y in
      record { how = for_attribute a.how b.how; number = 0; tables = b.tables }
  choose_for v (Text y) =
      let a : Chose How = choose_literal c15 CONTENT_CHARACTER_CHUNK v y in
      record { how = for_text a.how; number = 0; tables = a.tables }
  choose_for v (Comment y) =
      let a : Chose How = choose_value OTHER_STRING v y in
      record { how = for_comment a.how; number = 0; tables = a.tables }
  choose_for v (Instruction x y) =
      let a : Chose How = choose_id OTHER_NCNAME v x in
      let b : Chose How = choose_value OTHER_STRING a.tables y in
      record { how = for_instruction a.how b.how; number = 0; tables = b.tables }
  choose_for v End = record { how = for_end; number = 0; tables = v }

  -- The events with the required choices, and the tables behind them.
  unfoldable pub chosen : Vocabulary Octets → List (Event Octets) → List (Item Octets)
  chosen v [] = []
  chosen v (e ∷ es) = (e by (choose_for v e).how) ∷ chosen (choose_for v e).tables es

  unfoldable pub tables_after : Vocabulary Octets → List (Event Octets) → Vocabulary Octets
  tables_after v [] = v
  tables_after v (e ∷ es) = tables_after (choose_for v e).tables es
