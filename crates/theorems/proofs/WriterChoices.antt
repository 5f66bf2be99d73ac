-- What the writer's definition makes of an event is, in octets, what the required choices make of the plain event.
use mathlib.Core.Path.{◌≡◌, refl, sym, ap, ◌∙◌, subst}
use mathlib.Core.Bool.{Bool, true, false}
use mathlib.Core.Option
use mathlib.Core.Option.{Option, none, some}
use mathlib.Core.List.{◌∷◌, ◌++◌, map}
use Prim.Native.Nat.{ℕ, suc, ◌+◌, ◌*◌}
use lib.Dec.{eqb}
use lib.ListN.{length, length-map}
use Rattle.format.specs.Octets.{Octets}
use Rattle.format.specs.Numbers.{pick, spell}
use Rattle.format.specs.Events as E
use Rattle.format.specs.Events.{Name, name_map, event_map, How, in_parts, by_number}
use Rattle.format.specs.Tables.{StringTable, PREFIX, NAMESPACE_NAME, LOCAL_NAME, OTHER_NCNAME, ATTRIBUTE_VALUE, CONTENT_CHARACTER_CHUNK, OTHER_STRING, Triple, Vocabulary, strings, names, adding_name, Version}
use Rattle.format.specs.Strings.{Layout, c14, c15}
use Rattle.format.specs.Names.{has, NameLayout, of_element, of_attribute}
use Rattle.format.specs.Items.{State, declaring, listing, knowing, moved, opened}
use Rattle.tables.specs.Located.{Located, octets_of, plain_tables, plain_state}
use Rattle.tables.specs.Search.{number_in, number_of_triple}
use Rattle.write_names.specs.Choices.{Wrote, write_id, write_optional, write_name, worth_adding, write_literal, write_value}
use Rattle.write_names.specs.Chosen.{Chose, choose_id, choose_optional, choose_name, choose_literal, choose_value, choose_for}
use Rattle.write_items.specs.Items.{before_declaration, before_name, name_lead, write_item}
use Rattle.theorems.proofs.Words.{strings-map, names-map, adding-map, keeping-map, adding-name-map}
use Rattle.theorems.proofs.Chosen.{id_octets, optional_octets, literal_octets, value_by, name_octets, literal_value, literal_case}
use Rattle.theorems.proofs.Produced.{octets_by, known_by}

module _ (text : Octets) where
  -- what the writer makes of a string or a name, and what is chosen for its plain form
  pub record Same {H : Type 0} (octets : H → Octets) (w : Wrote H) (c : Chose H) : Type 0 where
    pub octets_are : w.octets ≡ octets c.how
    pub how : w.how ≡ c.how
    pub number : w.number ≡ c.number
    pub tables : plain_tables text w.tables ≡ c.tables

  same-pick : {H : Type 0} {octets : H → Octets} (b : Bool) {w w' : Wrote H} {c c' : Chose H} → Same octets w c → Same octets w' c' → Same octets (pick b w w') (pick b c c')
  same-pick true s s' = s
  same-pick false s s' = s'

  same_id : (t : StringTable) (v : Vocabulary Located) (x : Located) → Same (id_octets (octets_of text x)) (write_id text t v x) (choose_id t (plain_tables text v) (octets_of text x))
  unfolding write_id choose_id
  same_id t v x =
      rw (strings-map (octets_of text) v t)
      (same-pick (eqb (number_in (map (octets_of text) (strings v t)) (octets_of text x)) 0)
      (record { octets_are = refl; how = refl; number = ap suc (sym (length-map (strings v t) (octets_of text))); tables = adding-map (octets_of text) v t x })
      (record { octets_are = refl; how = refl; number = refl; tables = refl }))

  same_optional : (t : StringTable) (v : Vocabulary Located) (x : Option Located)
      → Same (optional_octets (Option.map (octets_of text) x)) (write_optional text t v x) (choose_optional t (plain_tables text v) (Option.map (octets_of text) x))
  unfolding write_optional choose_optional
  same_optional t v none = record { octets_are = refl; how = refl; number = refl; tables = refl }
  same_optional t v (some x) = let s = same_id t v x in record { octets_are = s.octets_are; how = ap (λ (h : How). some h) s.how; number = s.number; tables = s.tables }

  has-map : (y : Option Located) → has y ≡ has (Option.map (octets_of text) y)
  has-map none = refl
  has-map (some y) = refl

  -- a name, from what is made of its parts
  module _ (q : NameLayout) (lead : ℕ) (v : Vocabulary Located) (x : Name Located) (p n : Wrote (Option How)) (l : Wrote How) (p' n' : Chose (Option How)) (l' : Chose How)
      (sp : Same (optional_octets (Option.map (octets_of text) x.prefix)) p p') (sn : Same (optional_octets (Option.map (octets_of text) x.namespace)) n n') (sl : Same (id_octets (octets_of text x.local)) l l') where
    abbrev Tripled : Triple → Triple → Type 0
    Tripled y y' = Same (name_octets q lead (name_map (octets_of text) x))
        (pick (eqb (number_of_triple (names l.tables q.table) y) 0)
        (record {
          octets = (lead + q.in_parts_bits + 2 * has x.prefix + has x.namespace) ∷ (p.octets ++ (n.octets ++ l.octets));
          how = in_parts p.how n.how l.how;
          number = suc (length (names l.tables q.table));
          tables = adding_name l.tables q.table y;
        })
        (record { octets = spell q.number_forms lead (number_of_triple (names l.tables q.table) y); how = by_number (number_of_triple (names l.tables q.table) y); number = number_of_triple (names l.tables q.table) y; tables = v }))
        (pick (eqb (number_of_triple (names l'.tables q.table) y') 0)
        (record { how = in_parts p'.how n'.how l'.how; number = suc (length (names l'.tables q.table)); tables = adding_name l'.tables q.table y' })
        (record { how = by_number (number_of_triple (names l'.tables q.table) y'); number = number_of_triple (names l'.tables q.table) y'; tables = plain_tables text v }))

    same-triple : (y : Triple) → Tripled y y
    same-triple y =
        let e : names l'.tables q.table ≡ names l.tables q.table = ap (λ (w : Vocabulary Octets). names w q.table) (sym sl.tables) ∙ names-map (octets_of text) l.tables q.table in
        rw e
        (same-pick (eqb (number_of_triple (names l.tables q.table) y) 0)
        (record {
          octets_are = λ i. (lead + q.in_parts_bits + 2 * has-map x.prefix i + has-map x.namespace i) ∷ (sp.octets_are i ++ (sn.octets_are i ++ sl.octets_are i));
          how = λ i. in_parts (sp.how i) (sn.how i) (sl.how i);
          number = refl;
          tables = adding-name-map (octets_of text) l.tables q.table y ∙ ap (λ (w : Vocabulary Octets). adding_name w q.table y) sl.tables;
        })
        (record { octets_are = refl; how = refl; number = refl; tables = refl }))

    same_name_from : Tripled (record { prefix = p.number; namespace = n.number; local = l.number }) (record { prefix = p'.number; namespace = n'.number; local = l'.number })
    same_name_from =
        subst (Tripled (record { prefix = p.number; namespace = n.number; local = l.number })) (λ i. record { prefix = sp.number i; namespace = sn.number i; local = sl.number i })
        (same-triple (record { prefix = p.number; namespace = n.number; local = l.number }))

  same_name : (q : NameLayout) (lead : ℕ) (v : Vocabulary Located) (x : Name Located)
      → Same (name_octets q lead (name_map (octets_of text) x)) (write_name q lead text v x) (choose_name q.table (plain_tables text v) (name_map (octets_of text) x))
  unfolding write_name choose_name
  same_name q lead v x =
      let p = write_optional text PREFIX v x.prefix in
      let sp = same_optional PREFIX v x.prefix in
      let n = write_optional text NAMESPACE_NAME p.tables x.namespace in
      let sn = subst (λ (w : Vocabulary Octets). Same (optional_octets (Option.map (octets_of text) x.namespace)) n (choose_optional NAMESPACE_NAME w (Option.map (octets_of text) x.namespace))) sp.tables
      (same_optional NAMESPACE_NAME p.tables x.namespace) in
      let sl = subst (λ (w : Vocabulary Octets). Same (id_octets (octets_of text x.local)) (write_id text LOCAL_NAME n.tables x.local) (choose_id LOCAL_NAME w (octets_of text x.local))) sn.tables
      (same_id LOCAL_NAME n.tables x.local) in
      same_name_from q lead v x _ _ _ _ _ _ sp sn sl

  module _ (ver : Version) where
    same_literal : (q : Layout) (t : StringTable) (v : Vocabulary Located) (x : Located)
        → Same (literal_octets q (octets_of text x)) (write_literal ver q text t v x) (choose_literal ver q t (plain_tables text v) (octets_of text x))
    unfolding write_literal choose_literal worth_adding
    same_literal q t v x =
        let b = worth_adding ver (strings v t) (octets_of text x) in
        rw (strings-map (octets_of text) v t, length-map (strings v t) (octets_of text))
        (same-pick (eqb (number_in (map (octets_of text) (strings v t)) (octets_of text x)) 0)
        (record { octets_are = refl; how = refl; number = refl; tables = keeping-map (octets_of text) b v t x })
        (record { octets_are = refl; how = refl; number = refl; tables = refl }))

    same_value : (t : StringTable) (v : Vocabulary Located) (x : Located)
        → Same (value_by (octets_of text x)) (write_value ver text t v x) (choose_value ver t (plain_tables text v) (octets_of text x))
    unfolding write_value choose_value
    same_value t v x =
        let s = same_literal c14 t v x in
        same-pick (eqb (length (octets_of text x)) 0) (record { octets_are = refl; how = refl; number = refl; tables = refl })
        (record { octets_are = s.octets_are ∙ sym (literal_value (literal_case ver c14 t (plain_tables text v) (octets_of text x))); how = s.how; number = s.number; tables = s.tables })

    pub record SameItem (a : Bool) (v : State Located) (e : E.Event Located) : Type 0 where
      pub octets : (write_item ver text a v e).octets ≡ octets_by ver a (plain_state text v) (event_map (octets_of text) e)
      pub choice : (write_item ver text a v e).choice ≡ (choose_for ver (plain_tables text v.tables) (event_map (octets_of text) e)).how
      pub state : plain_state text (write_item ver text a v e).state ≡ known_by ver a (plain_state text v) (event_map (octets_of text) e)

    -- the second string of an event, with the tables behind the first
    value_then : (t : StringTable) (v : Vocabulary Located) (w : Vocabulary Octets) (x : Located) → plain_tables text v ≡ w
        → Same (value_by (octets_of text x)) (write_value ver text t v x) (choose_value ver t w (octets_of text x))
    value_then t v w x e = subst (λ (u : Vocabulary Octets). Same (value_by (octets_of text x)) (write_value ver text t v x) (choose_value ver t u (octets_of text x))) e (same_value t v x)

    optional_then : (t : StringTable) (v : Vocabulary Located) (w : Vocabulary Octets) (x : Option Located) → plain_tables text v ≡ w
        → Same (optional_octets (Option.map (octets_of text) x)) (write_optional text t v x) (choose_optional t w (Option.map (octets_of text) x))
    optional_then t v w x e =
        subst (λ (u : Vocabulary Octets). Same (optional_octets (Option.map (octets_of text) x)) (write_optional text t v x) (choose_optional t u (Option.map (octets_of text) x))) e (same_optional t v x)

    pub same_item : (a : Bool) (v : State Located) (e : E.Event Located) → SameItem a v e
    unfolding write_item octets_by choose_for event_map of_element of_attribute
    same_item a v (E.Namespace p n) =
        let x = same_optional PREFIX v.tables p in
        let y = optional_then NAMESPACE_NAME (write_optional text PREFIX v.tables p).tables _ n x.tables in
        record {
          octets = λ i. before_declaration v.mode a ++ ((0xCC + 2 * has-map p i + has-map n i) ∷ (x.octets_are i ++ y.octets_are i));
          choice = λ i. E.for_namespace (x.how i) (y.how i);
          state = λ i. moved (plain_state text v) (y.tables i) (declaring a);
        }
    same_item a v (E.Start x) =
        let s = same_name of_element (name_lead v.mode a) v.tables x in
        record {
          octets = ap (λ (o : Octets). before_name v.mode ++ o) s.octets_are;
          choice = ap E.for_start s.how;
          state = ap (λ (w : Vocabulary Octets). opened (plain_state text v) w a) s.tables;
        }
    same_item a v (E.Attribute x y) =
        let s = same_name of_attribute 0 v.tables x in
        let z = value_then ATTRIBUTE_VALUE (write_name of_attribute 0 text v.tables x).tables _ y s.tables in
        record {
          octets = λ i. s.octets_are i ++ z.octets_are i;
          choice = λ i. E.for_attribute (s.how i) (z.how i);
          state = ap (λ (w : Vocabulary Octets). moved (plain_state text v) w (listing true)) z.tables;
        }
    same_item a v (E.Text y) =
        let s = same_literal c15 CONTENT_CHARACTER_CHUNK v.tables y in
        record { octets = s.octets_are; choice = ap E.for_text s.how; state = ap (knowing (plain_state text v)) s.tables }
    same_item a v (E.Comment y) =
        let s = same_value OTHER_STRING v.tables y in
        record { octets = ap (λ (o : Octets). 0xE2 ∷ o) s.octets_are; choice = ap E.for_comment s.how; state = ap (knowing (plain_state text v)) s.tables }
    same_item a v (E.Instruction x y) =
        let s = same_id OTHER_NCNAME v.tables x in
        let z = value_then OTHER_STRING (write_id text OTHER_NCNAME v.tables x).tables _ y s.tables in
        record {
          octets = λ i. 0xE1 ∷ (s.octets_are i ++ z.octets_are i);
          choice = λ i. E.for_instruction (s.how i) (z.how i);
          state = ap (knowing (plain_state text v)) z.tables;
        }
    same_item a v E.End = record { octets = refl; choice = refl; state = refl }
