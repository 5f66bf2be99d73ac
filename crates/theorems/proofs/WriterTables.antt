-- The writer's tables by where the strings stand: each table of strings holds what it held at the start and, behind it, the very strings that its choices add, in
-- order. What is written by a number adds nothing, so it does not matter that the entry may stand elsewhere than the event's own string, as the same octets.
use Prim.Native.Nat.{ℕ, zero, suc}
use mathlib.Core.Path.{◌≡◌}
use mathlib.Core.Bool.{Bool, true, false, not, ◌&&◌}
use mathlib.Core.Option.{Option, none, some}
use mathlib.Core.List.{List, ◌∷◌, map}
use lib.Dec.{eqb}
use lib.ListN.{length}
use Rattle.format.specs.Octets.{Octets, Halves}
use Rattle.format.specs.Events as E
use Rattle.format.specs.Events.{Name, How, spelled, numbered, NameHow, Item, ◌by◌}
use Rattle.format.specs.Tables.{StringTable, PREFIX, NAMESPACE_NAME, LOCAL_NAME, OTHER_NCNAME, ATTRIBUTE_VALUE, CONTENT_CHARACTER_CHUNK, OTHER_STRING, Tables, Vocabulary, strings, names, Version}
use Rattle.format.specs.declared.StringForm.{StringForm}
use Rattle.format.specs.Strings.{keeping, Layout, c14, c15}
use Rattle.format.specs.Names.{NameLayout, of_element, of_attribute}
use Rattle.format.specs.Items.{State}
use Rattle.format.specs.Document.{beginning}
use Rattle.format.specs.Uses.{of_string, of_option, of_name, of_item, acts, after, Holds}
use Rattle.events.specs.declared.Event.{Event}
use Rattle.tables.specs.Located.{Located, octets_of}
use Rattle.tables.specs.Search.{number_in, number_of_triple}
use Rattle.write_names.specs.Choices.{Wrote, write_id, write_optional, write_name, form_for, worth_adding, write_literal, write_value}
use Rattle.write_head.specs.Given.{Given}
use Rattle.write_head.specs.Head.{tables_of}
use Rattle.write_items.specs.Events.{is_listing, event_of}
use Rattle.write_items.specs.Items.{write_item, name_lead}
use Rattle.write_items.specs.Steps.{announced, is_attribute, settled}
use Rattle.writer.specs.Writing.{written, writing}
use Rattle.theorems.proofs.Lists.{either}
use Rattle.theorems.proofs.Turns.{as_written}
use Rattle.theorems.proofs.Earlier.{Adds, adds_none, adds_both, adds_string, adds_name, adds_number, adds_name_number}

-- ---- strings and names
number_adds : (t : StringTable) (v : Vocabulary Located) (x : Located) (k : ℕ) → Adds v (of_string t x (numbered k)) v
number_adds t v x zero = adds_none
number_adds t v x (suc k) = adds_number t (suc k) x

spelled_adds : (t : StringTable) (v : Vocabulary Located) (x : Located) (form : StringForm) (added : Bool) → Adds v (of_string t x (spelled form added)) (keeping added v t x)
spelled_adds t v x form true = adds_string v t x
spelled_adds t v x form false = adds_none

abbrev WroteString : StringTable → Vocabulary Located → Located → Wrote How → Type 0
WroteString t v x w = Adds v (of_string t x w.how) w.tables

abbrev WrotePart : StringTable → Vocabulary Located → Option Located → Wrote (Option How) → Type 0
WrotePart t v x w = Adds v (of_option t x w.how) w.tables

module _ (text : Octets) where
  id_adds : (t : StringTable) (v : Vocabulary Located) (x : Located) → WroteString t v x (write_id text t v x)
  unfolding write_id
  id_adds t v x =
      let k = number_in (map (octets_of text) (strings v t)) (octets_of text x) in
      either (WroteString t v x) (eqb k 0) _ _ (λ e. adds_string v t x) (λ e. number_adds t v x k)

  part_adds : (t : StringTable) (v : Vocabulary Located) (x : Option Located) → WrotePart t v x (write_optional text t v x)
  unfolding write_optional
  part_adds t v none = adds_none
  part_adds t v (some x) = id_adds t v x

  name_adds : (q : NameLayout) (lead : ℕ) (v : Vocabulary Located) (x : Name Located)
      → Adds v (of_name q.table x (write_name q lead text v x).how) (write_name q lead text v x).tables
  unfolding write_name
  name_adds q lead v x =
      let p = write_optional text PREFIX v x.prefix in
      let n = write_optional text NAMESPACE_NAME p.tables x.namespace in
      let l = write_id text LOCAL_NAME n.tables x.local in
      either (λ (w : Wrote NameHow). Adds v (of_name q.table x w.how) w.tables)
      (eqb (number_of_triple (names l.tables q.table) (record { prefix = p.number; namespace = n.number; local = l.number })) 0) _ _
      (λ e.
      adds_both (part_adds PREFIX v x.prefix)
      (adds_both (part_adds NAMESPACE_NAME p.tables x.namespace) (adds_both (id_adds LOCAL_NAME n.tables x.local) (adds_name l.tables q.table _ x))))
      (λ e. adds_name_number q.table _ x)

  module _ (ver : Version) where
    literal_adds : (q : Layout) (t : StringTable) (v : Vocabulary Located) (x : Located) → WroteString t v x (write_literal ver q text t v x)
    unfolding write_literal
    literal_adds q t v x =
        let k = number_in (map (octets_of text) (strings v t)) (octets_of text x) in
        either (WroteString t v x) (eqb k 0) _ _ (λ e. spelled_adds t v x (form_for q.length_bit (octets_of text x)) (worth_adding ver (strings v t) (octets_of text x))) (λ e. number_adds t v x k)

    value_adds : (t : StringTable) (v : Vocabulary Located) (x : Located) → WroteString t v x (write_value ver text t v x)
    unfolding write_value
    value_adds t v x = either (WroteString t v x) (eqb (length (octets_of text x)) 0) _ _ (λ e. adds_none) (λ e. literal_adds c14 t v x)

    -- ---- one event
    item_adds : (a : Bool) (v : State Located) (e : E.Event Located) → Adds v.tables (of_item (e by (write_item ver text a v e).choice)) (write_item ver text a v e).state.tables
    unfolding write_item of_element of_attribute
    item_adds a v (E.Namespace p n) = adds_both (part_adds PREFIX v.tables p) (adds_both (part_adds NAMESPACE_NAME (write_optional text PREFIX v.tables p).tables n) adds_none)
    item_adds a v (E.Start x) = adds_both (name_adds of_element (name_lead v.mode a) v.tables x) adds_none
    item_adds a v (E.Attribute x y) = adds_both (name_adds of_attribute 0 v.tables x) (adds_both (value_adds ATTRIBUTE_VALUE (write_name of_attribute 0 text v.tables x).tables y) adds_none)
    item_adds a v (E.Text y) = adds_both (literal_adds c15 CONTENT_CHARACTER_CHUNK v.tables y) adds_none
    item_adds a v (E.Comment y) = adds_both (value_adds OTHER_STRING v.tables y) adds_none
    item_adds a v (E.Instruction x y) = adds_both (id_adds OTHER_NCNAME v.tables x) (adds_both (value_adds OTHER_STRING (write_id text OTHER_NCNAME v.tables x).tables y) adds_none)
    item_adds a v E.End = adds_none

    -- the end of an attribute list adds nothing
    settled_adds : (a : Bool) (v : State Located) (e : E.Event Located)
        → Adds v.tables (of_item (e by (write_item ver text a (settled v e) e).choice)) (write_item ver text a (settled v e) e).state.tables
    unfolding settled
    settled_adds a v e =
        either (λ (u : State Located). Adds v.tables (of_item (e by (write_item ver text a u e).choice)) (write_item ver text a u e).state.tables)
        (is_listing v.mode && not (is_attribute e)) _ _ (λ q. item_adds a _ e) (λ q. item_adds a v e)

-- ---- a document: from tables that are y with the names themselves
pub strings-written : (ver : Version) (text : Octets) (room : ℕ) (g : Given) (es : List Event) (items : List (Item Located)) (hs : Halves) (z : State Located) → writing ver g text room es ≡ written items hs z
    → (y : Tables Located (Name Located)) → Holds (tables_of ver g) y → (t : StringTable) → strings z.tables t ≡ strings (after y (acts items)) t
unfolding beginning
strings-written ver text room g es items hs z e y held =
    (as_written ver text room (λ es at v items hs z. Adds v.tables (acts items) z.tables) (λ at v f. adds_none)
    (λ e es at v items rest z q h. adds_both (settled_adds text ver (announced (e ∷ es)) v (event_of e.kind e)) h) g es items hs z e).then y held.strings_are_lem
