-- A law for each way out of the functions that write an item, on plain values.
-- Assumes nothing.
use mathlib.Core.Path.{◌≡◌, refl, sym, subst, ◌∙◌}
use mathlib.Core.Bool.{Bool, true, false, not, ◌&&◌}
use mathlib.Core.List.{List, [], ◌∷◌, ◌++◌, map}
use Prim.Native.Nat.{ℕ, ◌+◌, ◌-◌, ◌*◌, ◌/◌, ◌^◌, ◌≤◌, ◌<◌, min}
use native.Mathlib.Numerals.{add-one}
use native.Mathlib.Omega.{arith}
use borrow.Author.Tests.{lt-ltb, le-leb, lt-leb, eqb-false, leb-false}
use lib.Dec.{eqb, leb}
use lib.ListN.{length, set, length-append, length-map}
use Rattle.format.specs.Numbers.{lengths, numbers, c25, spell, sizes, pick}
use Rattle.format.specs.Events as E
use Rattle.format.specs.Events.{Choice}
use Rattle.format.specs.Tables.{StringTable, PREFIX, NAMESPACE_NAME, LOCAL_NAME, ATTRIBUTE_VALUE, CONTENT_CHARACTER_CHUNK, OTHER_STRING, Vocabulary, strings, names, adding, link}
use Rattle.format.specs.Strings.{with_length, in_format, c15, keeping}
use Rattle.format.specs.Names.{NameLayout, of_element, of_attribute}
use Rattle.format.specs.Items as F
use Rattle.std.specs.Prelude.{Ok, Err}
use Rattle.format.specs.Document.{aligned}
use Rattle.format.specs.declared.refusals.Refusal.TheVariants.{Room}
use Rattle.format.specs.declared.StringForm.{StringForm}
use Rattle.format.specs.declared.StringForm.TheVariants.{Utf8, Utf16, Numeric, Dates, Short, Int, Long}
use Rattle.fields.specs.PutContracts.{Puts}
use Rattle.fields.proofs.Forms.{Ordered}
use Rattle.fields.proofs.Numbers.{numbers_ordered, c25_ordered}
use Rattle.fields.proofs.Puts.{puts_one, puts_append}
use Rattle.fields.proofs.RoundTrip.{some_first}
use Rattle.tables.specs.Located.{Located, octets_of}
use Rattle.tables.specs.Search.{number_in, number_of_triple}
use Rattle.tables.specs.Rows.{table_of}
use Rattle.tables.specs.Kept.{name_table_of, layout_of}
use Rattle.tables.proofs.Laws.{number-within, name_number-within}
use Rattle.states.specs.declared.State.{State}
use Rattle.states.specs.States.{farthest, mode_of, state_of, coming, moved_to, opened_at, after_end, declaring_mode}
use Rattle.states.proofs.Modes.{mode_content, mode_listed, mode_declaring, after_mode, after-coming, coming_low, declaring_coming, root_one}
use Rattle.events.specs.declared.Kind.{Kind}
use Rattle.events.specs.declared.Kind.TheVariants.{Blank, Namespace, Start, Attribute, Chunk, Comment, Instruction, End}
use Rattle.events.specs.declared.Event.{Event}
use Rattle.events.specs.Records.{located_of, optional_of}
use Rattle.write_names.specs.declared.QualifiedName.{QualifiedName}
use Rattle.write_names.specs.Choices.{Wrote, write_id, write_optional, write_name, field_in, write_literal, write_value, worth_adding, within}
use Rattle.write_names.specs.Promises.{string_most, value_most, pair_most, name_most, tables_in, InOrder, named_of, triple_for, Proper, pair_behind, declared_by, Stands}
use Rattle.write_names.proofs.Order.{entries_count, triples_count, counted_at}
use Rattle.write_names.proofs.NameLaws.{names-kept}
use Rattle.write_items.specs.Events.{name_of, event_of, is_declaring, is_listing}
use Rattle.write_items.specs.Items.{WroteItem, before_declaration, before_name, name_lead, write_item}
use Rattle.write_items.specs.Steps.{is_attribute, is_end, fits}
use Rattle.write_items.specs.OutputContracts.{end_octet}
use Rattle.write_items.specs.StepContracts.{known}
use Rattle.write_items.specs.ItemContracts.{owes, list_ended, end_put, qualified_of, Fit, Landed, holding}
use Rattle.write_items.proofs.WellMade.{Named}
use Rattle.write_items.proofs.Strings.{prefix_suits, namespace_suits, stretch_suits}
use Rattle.write_items.proofs.ModeLaws.{declares}

-- ---- a name
pub name_ready : (text : List ℕ) (table lead : ℕ) (e : Event) (name : QualifiedName) → name ≡ qualified_of table lead e → 8 ≤ table → table < 10 → lead ≤ 0x80 → Named text e → Proper text name
name_ready text table lead e name is low high bits n =
    let s = stretch_suits text 2 e.name n.local in
    rw is (low, high, bits, prefix_suits text e.prefix n.prefix, namespace_suits text e.namespace n.namespace, s.0, s.1)

-- ---- the end of an attribute list, and the room
pub no_member : (k : Kind) (e : Event) → (k ≡ Attribute → ⊥) → is_attribute (event_of k e) ≡ false
unfolding event_of
no_member Blank e h = refl
no_member Namespace e h = refl
no_member Start e h = refl
no_member Attribute e h = absurd (h refl)
no_member Chunk e h = refl
no_member Comment e h = refl
no_member Instruction e h = refl
no_member End e h = refl

module _ (st : State) (e : Event) (out : List ℕ) where
  pub settled_elsewhere : is_listing (mode_of st.mode) ≡ false → (st ≡ list_ended (owes st e) st) × (out ≡ end_put (owes st e) out st.at)
  unfolding owes
  settled_elsewhere l = rw l (refl, refl)

  module _ (l : is_listing (mode_of st.mode) ≡ true) where
    pub settled_member : is_attribute (event_of e.kind e) ≡ true → (st ≡ list_ended (owes st e) st) × (out ≡ end_put (owes st e) out st.at)
    unfolding owes
    settled_member i = rw (l, i) (refl, refl)

    pub settled-behind : is_attribute (event_of e.kind e) ≡ false → {out' : List ℕ} → out' ≡ set out (st.at / 2) (end_octet st.at)
        → (list_ended true st ≡ list_ended (owes st e) st) × (out' ≡ end_put (owes st e) out st.at)
    unfolding owes
    settled-behind i p = rw (l, i) (refl, p)

pub octet-aligned : (at : ℕ) → (at + 1) / 2 ≡ aligned at / 2
unfolding aligned
octet-aligned at = omega arith

module _ (text : List ℕ) (room : ℕ) (st : State) where
  pub held_over : min room 16384 < (st.at + 1) / 2 → Err Room ≡ holding text room st
  unfolding holding fits link
  held_over h = rw (← (octet-aligned st.at), lt-leb _ _ h)

  pub held_fitting : (st.at + 1) / 2 ≤ min room 16384 → Ok st ≡ holding text room st
  unfolding holding fits link
  held_fitting h = rw (← (octet-aligned st.at), le-leb _ _ h)

-- ---- octets put behind others
module _ {text out out' c w ix : List ℕ} {H K : Type 0} (d : Wrote H) (d' : Wrote K) {at most h : ℕ} where
  stands_as : d'.octets ≡ d.octets → d'.tables ≡ d.tables → Stands text out at most h out' c w ix d → Stands text out at most h out' c w ix d'
  stands_as o v s = record { puts = rw o s.puts; few = s.few; tables = s.tables ∙ sym v; order = s.order }

  stands_behind : {out₁ xs : List ℕ} {r : ℕ} (k : ℕ) → Puts out at r out₁ xs → r ≤ at + k → d'.octets ≡ xs ++ d.octets → d'.tables ≡ d.tables → Stands text out₁ r most h out' c w ix d
      → Stands text out at (k + most) h out' c w ix d'
  stands_behind k p l o v s = let f = s.few in record { puts = rw o (puts_append p s.puts); few = omega arith; tables = s.tables ∙ sym v; order = s.order }

-- ---- the state behind an item
abbrev as_wrote : WroteItem → Wrote Choice
as_wrote d = record { octets = d.octets; how = d.choice; number = 0; tables = d.state.tables }

module _ (text : List ℕ) (a : Bool) (st : State) (c out w : List ℕ) (e : E.Event Located) (item : is_end e ≡ false) (next : ℕ → State) (even : (k : ℕ) → (next k).at ≡ 2 * k)
    (state : (k : ℕ) → state_of (next k) (write_item link text a (known st c w) e).state.tables ≡ (write_item link text a (known st c w) e).state)
    (shallow : (k : ℕ) → (next k).level + coming (next k).mode ≤ 32) where
  lands : (most h : ℕ) (out' c' w' ix' : List ℕ) → 1 ≤ length (write_item link text a (known st c w) e).octets
      → Stands text out (aligned st.at / 2) most h out' c' w' ix' (as_wrote (write_item link text a (known st c w) e)) → h ≤ farthest → Landed text a st c out w e (next h) out' c' w' ix'
  lands most h out' c' w' ix' some s n =
      let z : 2 * h / 2 ≡ h = omega arith in
      record {
        laid = rw (item, even h, z) (s.puts, refl, some);
        near = let d = even h in omega arith;
        state = rw s.tables (state h);
        order = s.order;
        shallow = shallow h;
      }

  -- octets stand before what was put last
  lands_behind : {H : Type 0} (d : Wrote H) {xs out₁ : List ℕ} {at : ℕ} (most : ℕ) → Puts out (aligned st.at / 2) at out₁ xs → at ≤ aligned st.at / 2 + 1
      → (write_item link text a (known st c w) e).octets ≡ xs ++ d.octets → (write_item link text a (known st c w) e).state.tables ≡ d.tables → (h : ℕ) (out' c' w' ix' : List ℕ)
      → 1 ≤ length (write_item link text a (known st c w) e).octets → Stands text out₁ at most h out' c' w' ix' d → h ≤ farthest → Landed text a st c out w e (next h) out' c' w' ix'
  lands_behind d most p l o s h out' c' w' ix' some m n = lands (1 + most) h out' c' w' ix' some (stands_behind d _ 1 p l o s m) n

-- ---- an item has an octet
sizes_4 : 256 ≤ sizes (numbers 4)
unfolding sizes numbers
sizes_4 = omega arith

length_some : (bit lead : ℕ) (y : List ℕ) → 1 ≤ length (with_length (lengths bit) lead y)
unfolding spell lengths
length_some bit lead [] = rw (lt-ltb 0 (1 + 2 ^ (8 - bit)) (omega arith)) (omega arith)
length_some bit lead (b ∷ y) = simp length-append (omega arith)

field_some : (bit lead : ℕ) (f : StringForm) (y : List ℕ) → 1 ≤ length (in_format bit f lead y)
unfolding in_format
field_some bit lead Utf8 y = length_some bit lead y
field_some bit lead Utf16 y = length_some bit (lead + 2 ^ (9 - bit)) y
field_some bit lead Numeric y = omega arith
field_some bit lead Dates y = omega arith
field_some bit lead Short y = omega arith
field_some bit lead Int y = omega arith
field_some bit lead Long y = omega arith

module _ (text : List ℕ) (v : Vocabulary Located) (x : Located) (few : length (strings v CONTENT_CHARACTER_CHUNK) ≤ 256) where
  chunk_by : (b : Bool) → eqb (number_in (map (octets_of text) (strings v CONTENT_CHARACTER_CHUNK)) (octets_of text x)) 0 ≡ b
      → 1 ≤ length (write_literal link c15 text CONTENT_CHARACTER_CHUNK v x).octets
  unfolding write_literal field_in c15
  chunk_by true q = rw q (field_some 7 _ _ _)
  chunk_by false q =
      let m = number-within (map (octets_of text) (strings v CONTENT_CHARACTER_CHUNK)) (octets_of text x) in
      let n = length-map (strings v CONTENT_CHARACTER_CHUNK) (octets_of text) in
      let z = sizes_4 in
      let k : ℕ = number_in (map (octets_of text) (strings v CONTENT_CHARACTER_CHUNK)) (octets_of text x) in
      let p : k ≡ 0 → ⊥ = eqb-false k 0 q in
      rw q (some_first (numbers 4) 0xA0 k (numbers_ordered 4 (omega arith) (omega arith)) (omega arith) (omega arith))

-- the numbers of names: their forms are in order, and enough
abbrev Wide : NameLayout → Type 0
Wide q = Ordered q.number_forms × (256 ≤ sizes q.number_forms)

wide_name : (t : ℕ) → Wide (layout_of t)
unfolding layout_of sizes numbers c25 of_element of_attribute
wide_name t = by (eqb t 8)
  where
    by : (b : Bool) → Wide (pick b of_element of_attribute)
    by true = (numbers_ordered 3 (omega arith) (omega arith), omega arith)
    by false = (c25_ordered, omega arith)

-- the name's number once its strings are written
abbrev number_then : NameLayout → List ℕ → Vocabulary Located → E.Name Located → ℕ
number_then q text v x =
    let p = write_optional text PREFIX v x.prefix in
    let n = write_optional text NAMESPACE_NAME p.tables x.namespace in
    number_of_triple (names (write_id text LOCAL_NAME n.tables x.local).tables q.table) (triple_for text v x)

module _ (q : NameLayout) (lead : ℕ) (text : List ℕ) (v : Vocabulary Located) (x : E.Name Located) (wide : Wide q) (few : length (names v q.table) ≤ 256) where
  name_by : (b : Bool) → eqb (number_then q text v x) 0 ≡ b → 1 ≤ length (write_name q lead text v x).octets
  unfolding write_name triple_for
  name_by true e = rw e (omega arith)
  name_by false e =
      let kept = names-kept text v q.table x.prefix x.namespace x.local in
      let m = name_number-within (names v q.table) (triple_for text v x) in
      let z = wide.1 in
      let k : ℕ = number_of_triple (names v q.table) (triple_for text v x) in
      let p : k ≡ 0 → ⊥ = eqb-false k 0 (rw kept at e) in
      rw (e, kept) (some_first q.number_forms lead k wide.0 (omega arith) (omega arith))

-- ---- a value as the item's last string: its table has room or is left alone
module _ (text : List ℕ) (t : StringTable) (v : Vocabulary Located) (x : Located) (same : within link (adding v t x) ≡ within link v) where
  within-kept : (added : Bool) → within link (keeping added v t x) ≡ within link v
  within-kept true = same
  within-kept false = refl

  value_by_lem : (b c : Bool) → eqb (length (octets_of text x)) 0 ≡ b → eqb (number_in (map (octets_of text) (strings v t)) (octets_of text x)) 0 ≡ c
      → within link (write_value link text t v x).tables ≡ within link v
  unfolding write_value write_literal
  value_by_lem true c p q = rw p
  value_by_lem false true p q = rw (p, q) (within-kept (worth_adding link (strings v t) (octets_of text x)))
  value_by_lem false false p q = rw (p, q)

  value_within : within link (write_value link text t v x).tables ≡ within link v
  value_within = value_by_lem _ _ refl refl

-- a value behind something else
abbrev and_value : {H : Type 0} → List ℕ → StringTable → Wrote H → Located → Wrote E.How
and_value text t d y =
    let v : Wrote E.How = write_value link text t d.tables y in
    record { octets = d.octets ++ v.octets; how = v.how; number = 0; tables = v.tables }

value_behind : {H : Type 0} {text out out₁ out₂ c₁ w₁ i₁ c₂ w₂ i₂ : List ℕ} {at m h g : ℕ} (d : Wrote H) (t : StringTable) (y : Located) → Stands text out at m h out₁ c₁ w₁ i₁ d
    → Stands text out₁ h value_most g out₂ c₂ w₂ i₂ (write_value link text t (tables_in c₁ w₁) y) → Stands text out at (m + value_most) g out₂ c₂ w₂ i₂ (and_value text t d y)
value_behind {text = text} {m = m} d t y s r = stands_behind (write_value link text t d.tables y) _ m s.puts s.few refl refl (rw s.tables at r)

-- ---- an element more
room_by : (level : ℕ) (b : Bool) → level + pick b 1 0 ≤ 32 → (not b && leb link.depth level) ≡ false → level < 32
unfolding link
room_by level true s r = omega arith
room_by level false s r = leb-false 32 level r

element_room : (level m : ℕ) → level + coming m ≤ 32 → (not (is_declaring (mode_of m)) && leb link.depth level) ≡ false → level < 32
unfolding coming
element_room level m s r = room_by level (leb 3 m) s (rw (declares m) at r)

pub start_room : {text c w ix : List ℕ} {st : State} {e : Event} → Fit text st c w ix Start e → st.level < 32
unfolding event_of
start_room {st = st} fit = element_room st.level st.mode fit.shallow fit.roomy

-- ---- each kind
module _ (text : List ℕ) (a : Bool) (st : State) (c w : List ℕ) (e : Event) where
  pub chunk_lands : {ix : List ℕ} → Fit text st c w ix Chunk e → {at : ℕ} → (at ≡ aligned st.at / 2) × (at ≤ 16385) → {out out' c' w' ix' : List ℕ} {h : ℕ}
      → Stands text out at value_most h out' c' w' ix' (write_literal link c15 text CONTENT_CHARACTER_CHUNK (tables_in c w) (located_of e.value))
      → Landed text a st c out w (event_of Chunk e) (moved_to st h st.mode) out' c' w' ix'
  unfolding event_of write_item table_of
  chunk_lands fit q {out' = out'} {c' = c'} {w' = w'} {ix' = ix'} {h = h} s =
      let n = entries_count c w fit.order.ten 6 (omega arith) in
      let l = counted_at text c w _ 6 fit.order in
      let o = chunk_by text (tables_in c w) (located_of e.value) (omega arith) _ refl in
      lands text a st c _ w (event_of Chunk e) refl (λ k. moved_to st k st.mode) (λ k. refl) (λ k. refl) (λ k. fit.shallow) value_most h out' c' w' ix' o
      (rw (← q.0) (stands_as _ _ refl refl s)) (let b = q.1 in let f = s.few in omega arith)

  pub comment_lands : {ix : List ℕ} → Fit text st c w ix Comment e → {at : ℕ} → (at ≡ aligned st.at / 2) × (at ≤ 16385) → {out out₁ out' c' w' ix' : List ℕ} {h : ℕ} → out₁ ≡ set out at 0xE2
      → Stands text out₁ (at + 1) value_most h out' c' w' ix' (write_value link text (table_of 7) (tables_in c w) (located_of e.value))
      → Landed text a st c out w (event_of Comment e) (moved_to st h st.mode) out' c' w' ix'
  unfolding event_of write_item table_of
  comment_lands fit q {out' = out'} {c' = c'} {w' = w'} {ix' = ix'} {h = h} p s =
      lands text a st c _ w (event_of Comment e) refl (λ k. moved_to st k st.mode) (λ k. refl) (λ k. refl) (λ k. fit.shallow) (1 + value_most) h out' c' w' ix' (omega arith)
      (rw (← q.0) (stands_behind _ _ 1 (puts_one p) (omega arith) refl refl s)) (let b = q.1 in let f = s.few in omega arith)

  pub instruction_full : within link (write_id text (table_of 3) (tables_in c w) (located_of e.name)).tables ≡ false
      → within link (write_item link text a (known st c w) (event_of Instruction e)).state.tables ≡ false
  unfolding event_of write_item table_of adding within
  instruction_full f = value_within text OTHER_STRING _ (located_of e.value) refl ∙ f

  pub instruction_lands : {ix : List ℕ} → Fit text st c w ix Instruction e → {at : ℕ} → (at ≡ aligned st.at / 2) × (at ≤ 16385) → {out out₁ out₂ out' c₁ w₁ i₁ c' w' ix' : List ℕ} {h g : ℕ}
      → out₁ ≡ set out at 0xE1 → Stands text out₁ (at + 1) string_most h out₂ c₁ w₁ i₁ (write_id text (table_of 3) (tables_in c w) (located_of e.name))
      → Stands text out₂ h value_most g out' c' w' ix' (write_value link text (table_of 7) (tables_in c₁ w₁) (located_of e.value))
      → Landed text a st c out w (event_of Instruction e) (moved_to st g st.mode) out' c' w' ix'
  unfolding event_of write_item table_of
  instruction_lands fit q {out' = out'} {c' = c'} {w' = w'} {ix' = ix'} {g = g} p s r =
      lands text a st c _ w (event_of Instruction e) refl (λ k. moved_to st k st.mode) (λ k. refl) (λ k. refl) (λ k. fit.shallow) (1 + (string_most + value_most)) g out' c' w' ix'
      (omega arith) (rw (← q.0) (stands_behind _ _ 1 (puts_one p) (omega arith) refl refl (value_behind _ OTHER_STRING _ s r))) (let b = q.1 in let f = s.few in let k = r.few in omega arith)

  pub declare_full : within link (declared_by text (tables_in c w) (optional_of e.prefix) (optional_of e.namespace)).tables ≡ false
      → within link (write_item link text a (known st c w) (event_of Namespace e)).state.tables ≡ false
  unfolding event_of write_item declared_by pair_behind
  declare_full f = f

  pub declare_lands : {ix : List ℕ} → Fit text st c w ix Namespace e → {at₀ at : ℕ} {out out₁ : List ℕ} → (at₀ ≡ aligned st.at / 2) × (at₀ ≤ 16385)
      → Puts out at₀ at out₁ (before_declaration (mode_of st.mode) a) × (at ≤ at₀ + 1) → {h : ℕ} {out' c' w' ix' : List ℕ}
      → Stands text out₁ at pair_most h out' c' w' ix' (declared_by text (tables_in c w) (optional_of e.prefix) (optional_of e.namespace))
      → Landed text a st c out w (event_of Namespace e) (moved_to st h (declaring_mode a)) out' c' w' ix'
  unfolding event_of write_item declared_by pair_behind
  declare_lands fit q p {h} {out'} {c'} {w'} {ix'} m =
      let s = element_room st.level st.mode fit.shallow fit.roomy in
      let b = q.1 in
      let l = p.1 in
      let f = m.few in
      let coming-on = declaring_coming a in
      lands_behind text a st c _ w (event_of Namespace e) refl (λ k. moved_to st k (declaring_mode a)) (λ k. refl) (λ k. rw (mode_declaring a)) (λ k. omega arith) _ pair_most (rw q.0 at p.0) (rw q.0 at l)
      refl refl h out' c' w' ix' (simp length-append (omega arith)) m (omega arith)

  module _ {ix : List ℕ} (fit : Fit text st c w ix Start e) {at₀ at lead : ℕ} {out out₁ : List ℕ} (q : (at₀ ≡ aligned st.at / 2) × (at₀ ≤ 16385))
      (p : Puts out at₀ at out₁ (before_name (mode_of st.mode)) × (at ≤ at₀ + 1)) (lead_is : lead ≡ name_lead (mode_of st.mode) a) where
    start_some : 1 ≤ length (write_item link text a (known st c w) (event_of Start e)).octets
    unfolding event_of write_item layout_of name_table_of of_element
    start_some =
        let n = triples_count c w fit.order.ten 8 (omega arith) (omega arith) in
        let l = counted_at text c w ix 8 fit.order in
        let o = name_by (layout_of 8) (name_lead (mode_of st.mode) a) text (tables_in c w) (name_of e) (wide_name 8) (omega arith) _ refl in
        simp length-append (omega arith)

    pub start_full : (name : QualifiedName) → name ≡ qualified_of 8 lead e → within link (write_name (layout_of name.table) name.lead text (tables_in c w) (named_of name)).tables ≡ false
        → within link (write_item link text a (known st c w) (event_of Start e)).state.tables ≡ false
    unfolding event_of write_item layout_of
    start_full name is f = rw (is, lead_is) at f

    pub start_lands : (name : QualifiedName) → name ≡ qualified_of 8 lead e → {h : ℕ} {out' c' w' ix' : List ℕ}
        → Stands text out₁ at name_most h out' c' w' ix' (write_name (layout_of name.table) name.lead text (tables_in c w) (named_of name))
        → Landed text a st c out w (event_of Start e) (opened_at st h a) out' c' w' ix'
    unfolding event_of write_item layout_of
    start_lands name is {h} {out'} {c'} {w'} {ix'} m =
        let s = start_room fit in
        let b = q.1 in
        let l = p.1 in
        let f = m.few in
        let coming-on = after-coming a in
        lands_behind text a st c _ w (event_of Start e) refl (λ k. opened_at st k a) (λ k. refl) (λ k. rw (root_one, after_mode a, add-one)) (λ k. omega arith) _ name_most (rw q.0 at p.0) (rw q.0 at l)
        refl refl h out' c' w' ix' start_some (rw (is, lead_is) at m) (omega arith)

  module _ {ix : List ℕ} (fit : Fit text st c w ix Attribute e) (name : QualifiedName) (is : name ≡ qualified_of 9 0 e) where
    attribute_some : 1 ≤ length (write_item link text a (known st c w) (event_of Attribute e)).octets
    unfolding event_of write_item layout_of name_table_of of_attribute
    attribute_some =
        let n = triples_count c w fit.order.ten 9 (omega arith) (omega arith) in
        let l = counted_at text c w ix 9 fit.order in
        let o = name_by (layout_of 9) 0 text (tables_in c w) (name_of e) (wide_name 9) (omega arith) _ refl in
        simp length-append (omega arith)

    pub attribute_full : within link (write_name (layout_of name.table) name.lead text (tables_in c w) (named_of name)).tables ≡ false
        → within link (write_item link text a (known st c w) (event_of Attribute e)).state.tables ≡ false
    unfolding event_of write_item layout_of adding within
    attribute_full f = value_within text ATTRIBUTE_VALUE _ (located_of e.value) refl ∙ rw is at f

    pub attribute_lands : {at : ℕ} → (at ≡ aligned st.at / 2) × (at ≤ 16385) → {out out₁ out' c₁ w₁ i₁ c' w' ix' : List ℕ} {h g : ℕ}
        → Stands text out at name_most h out₁ c₁ w₁ i₁ (write_name (layout_of name.table) name.lead text (tables_in c w) (named_of name))
        → Stands text out₁ h value_most g out' c' w' ix' (write_value link text (table_of 5) (tables_in c₁ w₁) (located_of e.value))
        → Landed text a st c out w (event_of Attribute e) (moved_to st g 2) out' c' w' ix'
    unfolding event_of write_item layout_of table_of
    attribute_lands q {out' = out'} {c' = c'} {w' = w'} {ix' = ix'} {g = g} s r =
        let b = q.1 in
        let f = s.few in
        let k = r.few in
        let d = fit.shallow in
        let l = coming_low 2 (omega arith) in
        lands text a st c _ w (event_of Attribute e) refl (λ k. moved_to st k 2) (λ k. refl) (λ k. rw mode_listed) (λ k. omega arith) (name_most + value_most) g out' c' w' ix' attribute_some
        (rw (← q.0) (stands_as _ _ refl refl (value_behind _ ATTRIBUTE_VALUE _ (rw is at s) r))) (omega arith)

pub end_lands : (text : List ℕ) (a : Bool) (st : State) (c w ix : List ℕ) → InOrder text c w ix → st.at ≤ 32769 → st.level ≤ 32 → {out out' : List ℕ} → out' ≡ set out (st.at / 2) (end_octet st.at)
    → Landed text a st c out w E.End (after_end st (st.level - 1)) out' c w ix
unfolding write_item
end_lands text a st c w ix order l d p =
    record { laid = (refl, p); near = omega arith; state = rw mode_content; order = order; shallow = let k = coming_low 0 (omega arith) in omega arith }
