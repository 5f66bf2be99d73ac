-- The items leave nothing open: one list of items is written in one way only.
use mathlib.Core.Path.{◌≡◌, refl, sym, ap, ap₂, ◌∙◌}
use mathlib.Core.Bool.{Bool, true, false}
use mathlib.Core.Option.{Option}
use mathlib.Core.List.{List, [], ◌∷◌, ◌++◌}
use Prim.Native.Nat.{ℕ, suc, ◌+◌, ◌*◌}
use native.Mathlib.Omega.{arith}
use Rattle.format.specs.Octets.{Octets, Halves}
use Rattle.format.specs.Events.{Name, Event, Namespace, Start, Attribute, Text, Comment, Instruction, End, How, numbered, NameHow, Item, ◌by◌, for_end, is_declaration, is_start}
use Rattle.format.specs.Tables.{StringTable, Vocabulary, adding_name, Version}
use Rattle.format.specs.Strings.{in_format, bit, Identifying, id_spelled, id_numbered, Optional, absent, present, Layout, Literal, literal_spelled, literal_numbered, Value, value_empty, value}
use Rattle.format.specs.Names.{has, NameLayout, Named, in_parts_lem, by_number_lem, Declared, declared}
use Rattle.format.specs.Items.{Mode, content, declaring, listing, State, after_start, knowing, moved, opened, ItemWrittenAs, o_start, o_first_namespace, o_namespace, o_named_start, o_attribute, o_text, o_comment, o_instruction}
use Rattle.write_items.specs.Steps.{is_attribute}
use Rattle.tables.proofs.Found.{clash as false-true}
use Rattle.format.specs.Document.{halves, pad, Written, document_end_lem, attributes_end, element_end, item}
use Rattle.forms.proofs.Forms.{one_spelling}
use Rattle.theorems.proofs.Lists.{octet_is}

-- Whether attributes follow is decided by the items: by the next, and behind declarations by the one behind the Start.
abbrev attribute_next : List (Item Octets) → Bool
attribute_next [] = false
attribute_next (i ∷ is) = is_attribute i.event

abbrev pub later : Event Octets → Bool → Bool → Bool
later (Namespace p n) next behind = behind
later (Start x) next behind = next
later (Attribute x y) next behind = false
later (Text y) next behind = false
later (Comment y) next behind = false
later (Instruction x y) next behind = false
later End next behind = false

-- A Start has the bit of what is next, a declaration that of what is behind it.
pub later_start : (e : Event Octets) (next behind : Bool) → is_start e ≡ true → later e next behind ≡ next
later_start (Namespace p n) next behind t = false-true t
later_start (Start x) next behind t = refl
later_start (Attribute x y) next behind t = false-true t
later_start (Text y) next behind t = false-true t
later_start (Comment y) next behind t = false-true t
later_start (Instruction x y) next behind t = false-true t
later_start End next behind t = false-true t

pub later_declared : (e : Event Octets) (next behind : Bool) → is_declaration e ≡ true → later e next behind ≡ behind
later_declared (Namespace p n) next behind t = refl
later_declared (Start x) next behind t = false-true t
later_declared (Attribute x y) next behind t = false-true t
later_declared (Text y) next behind t = false-true t
later_declared (Comment y) next behind t = false-true t
later_declared (Instruction x y) next behind t = false-true t
later_declared End next behind t = false-true t

attribute_later : List (Item Octets) → Bool
attribute_later [] = false
attribute_later (i ∷ is) = later i.event (attribute_next is) (attribute_later is)

abbrev pub in_list : Mode → Bool
in_list content = false
in_list (declaring a) = false
in_list (listing any) = true

-- The mode behind an item, from what follows it.
abbrev mode_after : Event Octets → List (Item Octets) → Mode
mode_after (Namespace p n) items = declaring (attribute_later items)
mode_after (Start x) items = after_start (attribute_next items)
mode_after (Attribute x y) items = listing true
mode_after (Text y) items = content
mode_after (Comment y) items = content
mode_after (Instruction x y) items = content
mode_after End items = content

clash : {X : Type 0} → ◌≡◌ {A = ℕ} 0 1 → X
clash e = absurd (omega arith)

-- Behind a Start the mode says the bit, and a list has no member yet.
bit-said : (a : Bool) → in_list (after_start a) ≡ a
bit-said true = refl
bit-said false = refl

no_member : (a : Bool) → after_start a ≡ listing true → ⊥
no_member true e = clash (cc)
no_member false e = clash (cc)

-- Halves of octets determine the octets.
pub halves_one : (a b : Octets) → halves a ≡ halves b → a ≡ b
unfolding halves
halves_one [] [] e = refl
halves_one [] (y ∷ b) e = cc
halves_one (x ∷ a) [] e = cc
halves_one (x ∷ a) (y ∷ b) e = ap₂ (λ (z : ℕ) (l : Octets). z ∷ l) (octet_is x y (cc) (cc)) (halves_one a b (cc))

module _ {ver : Version} where
  -- strings: the octets, the number and the tables
  pub identifying_one : {t : StringTable} {v : Vocabulary Octets} {x : Octets} {h : How} {n n' : ℕ} {o : Octets} {w : Vocabulary Octets} {o' : Octets} {w' : Vocabulary Octets}
      → Identifying ver t v x h n o w → Identifying ver t v x h n' o' w' → (o ≡ o') × (n ≡ n') × (w ≡ w')
  identifying_one (id_spelled sp new room) (id_spelled sp' new' room') = (refl, refl, refl)
  identifying_one (id_numbered small en) (id_numbered small' en') = (refl, refl, refl)

  optional_one : {t : StringTable} {v w w' : Vocabulary Octets} {x : Option Octets} {h : Option How} {n n' : ℕ} {o o' : Octets}
      → Optional ver t v x h n o w → Optional ver t v x h n' o' w' → (o ≡ o') × (n ≡ n') × (w ≡ w')
  optional_one absent absent = (refl, refl, refl)
  optional_one (present u) (present u') = identifying_one u u'

  pub literal_one : {q : Layout} {t : StringTable} {v w w' : Vocabulary Octets} {x : Octets} {h : How} {o o' : Octets}
      → Literal ver q t v x h o w → Literal ver q t v x h o' w' → (o ≡ o') × (w ≡ w')
  literal_one {q} (literal_spelled {x = x} {y = y} {form = form} {added = a} sp room) (literal_spelled {y = y'} sp' room') =
      (ap (in_format q.length_bit form (q.spelled_bits + q.add_bit * bit a)) (one_spelling form x y y' sp.formed sp'.formed), refl)
  literal_one (literal_numbered small fits en) (literal_numbered small' fits' en') = (refl, refl)

  pub literal_some : {q : Layout} {t : StringTable} {v w : Vocabulary Octets} {x : Octets} {h : How} {o : Octets} {X : Type 0}
      → Literal ver q t v x h o w → h ≡ numbered 0 → X
  literal_some (literal_spelled sp room) e = clash (cc)
  literal_some (literal_numbered {k = k} small fits en) e = absurd (let y : suc k ≡ 0 = cc in omega arith)

  pub value_one : {t : StringTable} {v w w' : Vocabulary Octets} {x : Octets} {h : How} {o o' : Octets}
      → Value ver t v x h o w → Value ver t v x h o' w' → (o ≡ o') × (w ≡ w')
  value_one value_empty value_empty = (refl, refl)
  value_one value_empty (value u) = literal_some u refl
  value_one (value u) value_empty = literal_some u refl
  value_one (value u) (value u') = literal_one u u'

  -- names
  pub named_one : {q : NameLayout} {lead : ℕ} {v w w' : Vocabulary Octets} {x : Name Octets} {h : NameHow} {o o' : Octets}
      → Named ver q lead v x h o w → Named ver q lead v x h o' w' → (o ≡ o') × (w ≡ w')
  named_one (by_number_lem small fits en m) (by_number_lem small' fits' en' m') = (refl, refl)
  named_one {q} {lead} {x = x} (in_parts_lem lone up un ul new room) (in_parts_lem lone' up' un' ul' new' room') =
      let a = optional_one up up' in
      let b = optional_one un (rw (← a.2) at un') in
      let c = identifying_one ul (rw (← b.2) at ul') in (
        (λ j. (lead + q.in_parts_bits + 2 * has x.prefix + has x.namespace) ∷ (a.0 j ++ (b.0 j ++ c.0 j))),
        (λ j. adding_name (c.2 j) q.table (record { prefix = a.1 j; namespace = b.1 j; local = c.1 j })),
      )

  pub declared_one : {v w w' : Vocabulary Octets} {p n : Option Octets} {hp hn : Option How} {o o' : Octets}
      → Declared ver v p n hp hn o w → Declared ver v p n hp hn o' w' → (o ≡ o') × (w ≡ w')
  declared_one {p = p} {n = n} (declared up un) (declared up' un') =
      let a = optional_one up up' in
      let b = optional_one un (rw (← a.2) at un') in
      ((λ j. (0xCC + 2 * has p + has n) ∷ (a.0 j ++ b.0 j)), b.2)

  -- attributes are written in attribute lists, and nothing else is; End is no item's event
  pub where_attributes : {v w : State Octets} {i : Item Octets} {o : Octets} → ItemWrittenAs ver v i o w → is_attribute i.event ≡ in_list v.mode
  where_attributes (o_start a md may deep u) = cc
  where_attributes (o_first_namespace md may deep u) = cc
  where_attributes (o_namespace md u) = cc
  where_attributes (o_named_start md u) = cc
  where_attributes (o_attribute md u1 u2) = cc
  where_attributes (o_text md lv u) = cc
  where_attributes (o_comment md u) = cc
  where_attributes (o_instruction md u1 u2) = cc

  pub no_end : {v w : State Octets} {o : Octets} {X : Type 0} → ItemWrittenAs ver v (End by for_end) o w → X
  no_end u = elim u [ ]

  next_is : {at : ℕ} {v z : State Octets} {items : List (Item Octets)} {hs : Halves}
      → Written ver at v items hs z → (v.mode ≡ listing true → ⊥) → attribute_next items ≡ in_list v.mode
  next_is (document_end_lem md lv rt) n = cc
  next_is (attributes_end md w) n = absurd (n md)
  next_is (element_end md lv w) n = cc
  next_is (item u w) n = where_attributes u

  behind-start : {at : ℕ} {v z : State Octets} {items : List (Item Octets)} {hs : Halves} (a : Bool) → Written ver at v items hs z → v.mode ≡ after_start a → a ≡ attribute_next items
  behind-start a w e = sym (next_is w (λ l. no_member a (sym e ∙ l)) ∙ ap in_list e ∙ bit-said a)

  behind_declarations : {at : ℕ} {v z : State Octets} {items : List (Item Octets)} {hs : Halves} (a : Bool) → Written ver at v items hs z → v.mode ≡ declaring a → a ≡ attribute_later items
  unfolding attribute_later
  behind_declarations a (document_end_lem md lv rt) e = cc
  behind_declarations a (attributes_end md w) e = cc
  behind_declarations a (element_end md lv w) e = cc
  behind_declarations a (item (o_start b md may deep u) w) e = cc
  behind_declarations a (item (o_first_namespace md may deep u) w) e = cc
  behind_declarations a (item (o_namespace {a = b} md u) w) e = behind_declarations a w (sym md ∙ e)
  behind_declarations a (item (o_named_start {a = b} md u) w) e = let y : a ≡ b = cc in y ∙ behind-start b w refl
  behind_declarations a (item (o_attribute md u1 u2) w) e = cc
  behind_declarations a (item (o_text md lv u) w) e = cc
  behind_declarations a (item (o_comment md u) w) e = cc
  behind_declarations a (item (o_instruction md u1 u2) w) e = cc

  mode_is : {at : ℕ} {v w z : State Octets} {i : Item Octets} {o : Octets} {items : List (Item Octets)} {hs : Halves}
      → ItemWrittenAs ver v i o w → Written ver at w items hs z → w.mode ≡ mode_after i.event items
  mode_is (o_start a md may deep u) w = ap after_start (behind-start a w refl)
  mode_is (o_first_namespace {a = a} md may deep u) w = ap declaring (behind_declarations a w refl)
  mode_is (o_namespace {a = a} md u) w = ap declaring (behind_declarations a w refl)
  mode_is (o_named_start {a = a} md u) w = ap after_start (behind-start a w refl)
  mode_is (o_attribute md u1 u2) w = refl
  mode_is (o_text md lv u) w = md
  mode_is (o_comment md u) w = md
  mode_is (o_instruction md u1 u2) w = md

  -- items
  octets_one : {v w w' : State Octets} {i : Item Octets} {o o' : Octets} → ItemWrittenAs ver v i o w → ItemWrittenAs ver v i o' w' → w.mode ≡ w'.mode → (o ≡ o') × (w ≡ w')
  octets_one {v} (o_start a md may deep u) (o_start b md' may' deep' u') e =
      let q : a ≡ b = sym (bit-said a) ∙ ap in_list e ∙ bit-said b in
      let r = named_one u (rw (← q) at u') in
      (r.0, λ j. opened v (r.1 j) (q j))
  octets_one (o_start a md may deep u) (o_named_start md' u') e = (cc, cc)
  octets_one (o_named_start md u) (o_start a md' may' deep' u') e = (cc, cc)
  octets_one {v} (o_named_start {a = a} md u) (o_named_start {a = b} md' u') e =
      let q : a ≡ b = cc in
      let r = named_one u u' in
      (ap (λ (l : Octets). 0xF0 ∷ l) r.0, λ j. opened v (r.1 j) (q j))
  octets_one {v} (o_first_namespace {a = a} md may deep u) (o_first_namespace {a = b} md' may' deep' u') e =
      let q : a ≡ b = cc in
      let r = declared_one u u' in
      ((λ j. (64 * bit (q j) + 0x38) ∷ r.0 j), λ j. moved v (r.1 j) (declaring (q j)))
  octets_one (o_first_namespace md may deep u) (o_namespace md' u') e = (cc, cc)
  octets_one (o_namespace md u) (o_first_namespace md' may' deep' u') e = (cc, cc)
  octets_one {v} (o_namespace md u) (o_namespace md' u') e = let r = declared_one u u' in (r.0, λ j. moved v (r.1 j) (e j))
  octets_one {v} (o_attribute md u1 u2) (o_attribute md' u1' u2') e =
      let r = named_one u1 u1' in
      let t = value_one u2 (rw (← r.1) at u2') in
      ((λ j. r.0 j ++ t.0 j), λ j. moved v (t.1 j) (listing true))
  octets_one {v} (o_text md lv u) (o_text md' lv' u') e = let r = literal_one u u' in (r.0, λ j. knowing v (r.1 j))
  octets_one {v} (o_comment md u) (o_comment md' u') e = let r = value_one u u' in ((λ j. 0xE2 ∷ r.0 j), λ j. knowing v (r.1 j))
  octets_one {v} (o_instruction md u1 u2) (o_instruction md' u1' u2') e =
      let r = identifying_one u1 u1' in
      let t = value_one u2 (rw (← r.2) at u2') in
      ((λ j. 0xE1 ∷ (r.0 j ++ t.0 j)), λ j. knowing v (t.1 j))

  -- a list that has ended does not go on
  no_list : {at : ℕ} {v w z : State Octets} {i : Item Octets} {o : Octets} {items : List (Item Octets)} {hs : Halves} {X : Type 0}
      → v.mode ≡ listing true → ItemWrittenAs ver v i o w
      → Written ver at (moved v v.tables content) (i ∷ items) hs z → X
  no_list md u w = let a = where_attributes u in let b = next_is w (λ e. clash (cc)) in clash (cc)

  pub one_writing : {at : ℕ} {v z z' : State Octets} {items : List (Item Octets)} {hs hs' : Halves}
      → Written ver at v items hs z → Written ver at v items hs' z' → (hs ≡ hs') × (z ≡ z')
  one_writing (document_end_lem md lv rt) (document_end_lem md' lv' rt') = (refl, refl)
  one_writing (document_end_lem md lv rt) (attributes_end md' w') = (cc, cc)
  one_writing (attributes_end md w) (document_end_lem md' lv' rt') = (cc, cc)
  one_writing (attributes_end md w) (attributes_end md' w') = let r = one_writing w w' in ((λ j. 15 ∷ r.0 j), r.1)
  one_writing (attributes_end md w) (element_end md' lv' w') = (cc, cc)
  one_writing (attributes_end md w) (item u' w') = no_list md u' w
  one_writing (element_end md lv w) (attributes_end md' w') = (cc, cc)
  one_writing (element_end md lv w) (element_end md' lv' w') = let r = one_writing w w' in ((λ j. 15 ∷ r.0 j), r.1)
  one_writing (element_end md lv w) (item u' w') = no_end u'
  one_writing (item u w) (attributes_end md' w') = no_list md' u w'
  one_writing (item u w) (element_end md' lv' w') = no_end u
  one_writing (item {at = at} u w) (item u' w') =
      let q = octets_one u u' (mode_is u w ∙ sym (mode_is u' w')) in
      let r = one_writing w (rw (← q.0, ← q.1) at w') in
      ((λ j. pad at ++ (halves (q.0 j) ++ r.0 j)), r.1)
