-- Where the rules write the required choices, their tables are the ones that the required choices leave: a choice says what is added. No limit is asked for, so the version of the choices and that of the rules may be any two.
use Prim.Native.Nat.{ℕ, suc}
use mathlib.Core.Path.{◌≡◌, refl, ap, ◌∙◌}
use mathlib.Core.Option.{Option}
use mathlib.Core.List.{List, [], ◌∷◌}
use native.Mathlib.Omega.{arith}
use Rattle.format.specs.Octets.{Octets, Halves}
use Rattle.format.specs.Events.{Name, Event, End, How, NameHow, Item, ◌by◌, for_end}
use Rattle.format.specs.Tables.{StringTable, PREFIX, NAMESPACE_NAME, LOCAL_NAME, OTHER_NCNAME, ATTRIBUTE_VALUE, CONTENT_CHARACTER_CHUNK, OTHER_STRING, ELEMENT_NAME, ATTRIBUTE_NAME, Vocabulary, adding_name, Version}
use Rattle.format.specs.Strings.{keeping, Identifying, id_spelled, id_numbered, Optional, absent, present, Layout, c15, Literal, literal_spelled, literal_numbered, Value, value_empty, value}
use Rattle.format.specs.Names.{NameLayout, of_element, of_attribute, Named, in_parts_lem, by_number_lem, Declared, declared}
use Rattle.format.specs.Items.{State, content, moved, ItemWrittenAs, o_start, o_first_namespace, o_namespace, o_named_start, o_attribute, o_text, o_comment, o_instruction}
use Rattle.format.specs.Document.{Begun, begun, after_attributes, after_end_lem, after_item}
use Rattle.write_names.specs.Chosen.{Chose, choose_id, choose_optional, choose_name, choose_for, chosen, tables_after}
use Rattle.theorems.specs.Permitted.{PermitsId, id_new, id_entry, PermitsIfAny, not_there, there}
use Rattle.theorems.proofs.Chosen.{id_case, optional_case, LiteralCase, lit_held, lit_new, literal_case, ValueCase, is_empty_lem, is_literal, value_case, Ranged, NameCase, name_held, name_new, name_case}
use Rattle.theorems.proofs.OneWriting.{literal_some}
use Rattle.theorems.proofs.Produced.{ranged_for}

module _ {ver : Version} where
  -- ---- strings
  id_words : {t : StringTable} {v : Vocabulary Octets} {x : Octets} {h h' : How} {n n' : ℕ} {w' : Vocabulary Octets} {o : Octets} {w : Vocabulary Octets}
      → Identifying ver t v x h n o w → PermitsId t v x h' n' w' → h ≡ h' → (w ≡ w') × (n ≡ n')
  id_words (id_spelled sp first room) (id_new m) e = (refl, refl)
  id_words (id_spelled sp first room) (id_entry en) e = (cc, cc)
  id_words (id_numbered small en) (id_new m) e = (cc, cc)
  id_words (id_numbered small en) (id_entry en') e = (refl, cc)

  optional_words : {t : StringTable} {v w w' : Vocabulary Octets} {x : Option Octets} {h h' : Option How} {n n' : ℕ} {o : Octets}
      → Optional ver t v x h n o w → PermitsIfAny t v x h' n' w' → h ≡ h' → (w ≡ w') × (n ≡ n')
  optional_words absent not_there e = (refl, refl)
  optional_words (present u) (there c) e = id_words u c (cc)

  literal_words : {C : Version} {q : Layout} {t : StringTable} {v w : Vocabulary Octets} {x : Octets} {h : How} {o : Octets} {c : Chose How}
      → Literal ver q t v x h o w → LiteralCase C q t v x c → h ≡ c.how → w ≡ c.tables
  literal_words {t = t} {v = v} {x = x} (literal_spelled {added = a} sp room) (lit_new {added = b} r) e = let y : a ≡ b = cc in λ j. keeping (y j) v t x
  literal_words (literal_spelled sp room) (lit_held en) e = cc
  literal_words (literal_numbered small fits en) (lit_new r) e = cc
  literal_words (literal_numbered small fits en) (lit_held en') e = refl

  -- an empty value adds nothing, and is no literal's choice
  value_words : {C : Version} {t : StringTable} {v w : Vocabulary Octets} {x : Octets} {h : How} {o : Octets} {c : Chose How}
      → Value ver t v x h o w → ValueCase C t v x c → h ≡ c.how → w ≡ c.tables
  value_words value_empty (is_empty_lem z) e = refl
  value_words value_empty (is_literal long c) e = absurd (omega arith)
  value_words (value u) (is_empty_lem z) e = literal_some u e
  value_words (value u) (is_literal long c) e = literal_words u c e

  -- ---- names: the numbers of the parts make the triple
  named_words : {q : NameLayout} {lead : ℕ} {v w : Vocabulary Octets} {x : Name Octets} {h : NameHow} {o : Octets} {c : Chose NameHow}
      → Named ver q lead v x h o w → NameCase q.table v x c → h ≡ c.how → w ≡ c.tables
  named_words {q} {v = v} {x = x} (in_parts_lem lone up un ul first room) (name_new m) e =
      let p = choose_optional PREFIX v x.prefix in
      let n = choose_optional NAMESPACE_NAME p.tables x.namespace in
      let a = optional_words up (optional_case PREFIX v x.prefix) (cc) in
      let b = optional_words (rw a.0 at un) (optional_case NAMESPACE_NAME p.tables x.namespace) (cc) in
      let d = id_words (rw b.0 at ul) (id_case LOCAL_NAME n.tables x.local) (cc) in
      λ j. adding_name (d.0 j) q.table (record { prefix = a.1 j; namespace = b.1 j; local = d.1 j })
  named_words (in_parts_lem lone up un ul first room) (name_held en m) e = cc
  named_words (by_number_lem small fits en m) (name_new new) e = cc
  named_words (by_number_lem small fits en m) (name_held en' m') e = refl

  declared_words : {v w : Vocabulary Octets} {p n : Option Octets} {hp hn : Option How} {o : Octets} → Declared ver v p n hp hn o w
      → hp ≡ (choose_optional PREFIX v p).how → hn ≡ (choose_optional NAMESPACE_NAME (choose_optional PREFIX v p).tables n).how
      → w ≡ (choose_optional NAMESPACE_NAME (choose_optional PREFIX v p).tables n).tables
  declared_words {v = v} {p = p} {n = n} (declared up un) ep en =
      let a = optional_words up (optional_case PREFIX v p) ep in
      (optional_words (rw a.0 at un) (optional_case NAMESPACE_NAME (choose_optional PREFIX v p).tables n) en).0

  -- ---- items
  module _ (C : Version) where
    octets-words : {v w : State Octets} {i : Item Octets} {o : Octets} → ItemWrittenAs ver v i o w → Ranged v.tables
        → i.choice ≡ (choose_for C v.tables i.event).how → w.tables ≡ (choose_for C v.tables i.event).tables
    unfolding choose_for of_element of_attribute
    octets-words {v} (o_start a {x = x} md may deep u) r e = named_words u (name_case ELEMENT_NAME v.tables x r) (cc)
    octets-words (o_first_namespace md may deep u) r e = declared_words u (cc) (cc)
    octets-words (o_namespace md u) r e = declared_words u (cc) (cc)
    octets-words {v} (o_named_start {x = x} md u) r e = named_words u (name_case ELEMENT_NAME v.tables x r) (cc)
    octets-words {v} (o_attribute {x = x} {y = y} md u1 u2) r e =
        let a = named_words u1 (name_case ATTRIBUTE_NAME v.tables x r) (cc) in
        value_words (rw a at u2) (value_case C ATTRIBUTE_VALUE (choose_name ATTRIBUTE_NAME v.tables x).tables y) (cc)
    octets-words {v} (o_text {y = y} md lv u) r e = literal_words u (literal_case C c15 CONTENT_CHARACTER_CHUNK v.tables y) (cc)
    octets-words {v} (o_comment {y = y} md u) r e = value_words u (value_case C OTHER_STRING v.tables y) (cc)
    octets-words {v} (o_instruction {x = x} {y = y} md u1 u2) r e =
        let a = id_words u1 (id_case OTHER_NCNAME v.tables x) (cc) in
        value_words (rw a.0 at u2) (value_case C OTHER_STRING (choose_id OTHER_NCNAME v.tables x).tables y) (cc)

    -- a list of them; the tables are said to be u, so that each step can name them by the choices
    from_items : {at : ℕ} {v w : State Octets} {u : Vocabulary Octets} {items : List (Item Octets)} {hs : Halves} (es : List (Event Octets))
        → Begun ver at v items hs w → v.tables ≡ u → Ranged u → items ≡ chosen C u es → w.tables ≡ tables_after C u es
    unfolding chosen tables_after choose_for
    from_items [] begun q r e = q
    from_items [] (after_attributes md b) q r e = cc
    from_items [] (after_end_lem md lv b) q r e = cc
    from_items [] (after_item o b) q r e = cc
    from_items (x ∷ es) begun q r e = cc
    from_items {u = u} (x ∷ es) (after_attributes {at = at} {v = v} {w = w} {i = i} {items = items} {hs = hs} md b) q r e =
        from_items {at = suc at} {v = moved v v.tables content} {w = w} {u = u} {items = i ∷ items} {hs = hs} (x ∷ es) b q r e
    from_items {u = u} (x ∷ es) (after_end_lem md lv b) q r e =
        let y : (End by for_end) ≡ (x by (choose_for C u x).how) = cc in
        from_items es b (q ∙ ap (λ (i : Item Octets). (choose_for C u i.event).tables) y) (ranged_for C u x r) (cc)
    from_items {u = u} (x ∷ es) (after_item {i = i} o b) q r e =
        let y : i ≡ (x by (choose_for C u x).how) = cc in
        let p = octets-words (rw y at o) (rw q r) (rw q) in
        from_items es b (rw q at p) (ranged_for C u x r) (cc)

    pub begun_words : {at : ℕ} {v w : State Octets} {hs : Halves} (es : List (Event Octets))
        → Begun ver at v (chosen C v.tables es) hs w → Ranged v.tables → w.tables ≡ tables_after C v.tables es
    begun_words es b r = from_items es b refl r refl
