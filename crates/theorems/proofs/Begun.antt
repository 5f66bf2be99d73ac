-- The laws of `Begun`, some items written: what is begun goes on, what is written begins; one size, within the limits, and what the events say of it.
use Prim.Native.Nat.{ℕ, suc, ◌+◌, ◌-◌, ◌*◌, ◌<◌}
use mathlib.Core.Path.{◌≡◌, refl, sym, ap, ◌∙◌, subst}
use mathlib.Core.Bool.{Bool, true, false, ◌||◌}
use mathlib.Core.Option.{Option}
use mathlib.Core.List.{List, [], ◌∷◌, ◌++◌, append_assoc}
use native.Mathlib.Omega.{arith}
use lib.Dec.{eqb}
use lib.ListN.{length, length-append}
use Rattle.format.specs.Octets.{Octets, Halves}
use Rattle.format.specs.Numbers.{Form, form, pick, spell}
use Rattle.format.specs.Events.{Name, How, NameHow, Item, is_declaration, is_start, open_then, open_after, declares_last}
use Rattle.format.specs.Tables.{StringTable, NameTable, Triple, Vocabulary, strings, names, adding, adding_name, Version, InLimits}
use Rattle.format.specs.Strings.{bit, Identifying, id_spelled, id_numbered, Optional, absent, present, Layout, Literal, literal_spelled, literal_numbered, Value, value_empty, value}
use Rattle.format.specs.Names.{NameLayout, Named, in_parts_lem, by_number_lem, Declared, declared}
use Rattle.format.specs.Items.{Mode, content, declaring, listing, State, after_start, moved, ItemWrittenAs, o_start, o_first_namespace, o_namespace, o_named_start, o_attribute, o_text, o_comment, o_instruction}
use Rattle.format.specs.Document.{halves, pad, aligned, closed, Written, attributes_end, element_end, item, known_after, Begun, begun, after_attributes, after_end_lem, after_item}
use Rattle.write_items.specs.Events.{is_declaring}
use Rattle.tables.proofs.Found.{clash}
use Rattle.tables.specs.Rows.{place}
use Rattle.tables.proofs.Adding.{same_names, strings-adding, names-adding, strings-adding_name, names-adding_name}
use Rattle.theorems.proofs.Lists.{halves-length, pad-length}
use Rattle.write_items.specs.Steps.{is_attribute}
use Rattle.theorems.proofs.OneWriting.{in_list, identifying_one, literal_one, value_one, named_one, declared_one, where_attributes, no_end}
use Rattle.theorems.proofs.Growing.{same_table, same_name_table, extended_few}
use Rattle.theorems.proofs.Documents.{events}

-- ---- where one stands behind no half, behind an end, and behind an item; how an item's halves are grouped
none_on : (at : ℕ) → at + 0 ≡ at
none_on at = omega arith

end_on : (at n : ℕ) → at + suc n ≡ suc at + n
end_on at n = omega arith

item_on : (at : ℕ) (o : Octets) (hs : Halves) → at + length (pad at ++ (halves o ++ hs)) ≡ aligned at + 2 * length o + length hs
item_on at o hs = let a = pad-length at in let b = halves-length o in simp length-append (omega arith)

item_group : (at : ℕ) (o : Octets) (hs ks : Halves) → (pad at ++ (halves o ++ hs)) ++ ks ≡ pad at ++ (halves o ++ (hs ++ ks))
item_group at o hs ks = simp append_assoc

-- What is written, in two: the items xs, and the rest of the document.
pub record Split (ver : Version) (at : ℕ) (v : State Octets) (xs ys : List (Item Octets)) (hs : Halves) (z : State Octets) : Type 0 where
  pub front_halves : Halves
  pub rest_halves : Halves
  pub mid : State Octets
  pub begun : Begun ver at v xs front_halves mid
  pub rest : Written ver (at + length front_halves) mid ys rest_halves z
  pub are : hs ≡ front_halves ++ rest_halves

module _ {ver : Version} where
  -- ---- what is begun goes on
  pub begun_more : {at : ℕ} {v w z : State Octets} {xs ys : List (Item Octets)} {hs ks : Halves}
      → Begun ver at v xs hs w → Begun ver (at + length hs) w ys ks z → Begun ver at v (xs ++ ys) (hs ++ ks) z
  begun_more {at} begun r = rw (none_on at) at r
  begun_more {at} (after_attributes {hs = hs} md b) r = after_attributes md (begun_more b (rw (end_on at (length hs)) at r))
  begun_more {at} (after_end_lem {hs = hs} md lv b) r = after_end_lem md lv (begun_more b (rw (end_on at (length hs)) at r))
  begun_more {at} {ks = ks} (after_item {o = o} {hs = hs} u b) r = rw (item_group at o hs ks) (after_item u (begun_more b (rw (item_on at o hs) at r)))

  pub begun_written : {at : ℕ} {v w z : State Octets} {xs ys : List (Item Octets)} {hs ks : Halves}
      → Begun ver at v xs hs w → Written ver (at + length hs) w ys ks z → Written ver at v (xs ++ ys) (hs ++ ks) z
  begun_written {at} begun r = rw (none_on at) at r
  begun_written {at} (after_attributes {hs = hs} md b) r = attributes_end md (begun_written b (rw (end_on at (length hs)) at r))
  begun_written {at} (after_end_lem {hs = hs} md lv b) r = element_end md lv (begun_written b (rw (end_on at (length hs)) at r))
  begun_written {at} {ks = ks} (after_item {o = o} {hs = hs} u b) r = rw (item_group at o hs ks) (item u (begun_written b (rw (item_on at o hs) at r)))

  -- the same, said of another place or of other halves
  elsewhere : {at at' : ℕ} {v z : State Octets} {items : List (Item Octets)} {hs hs' : Halves} → at ≡ at' → hs ≡ hs' → (r : Written ver at v items hs z)
      → (u : Written ver at' v items hs' z) × (known_after ver u ≡ known_after ver r)
  elsewhere {at' = at'} {v} {z} {items} {hs} a h r =
      subst (λ (l : Octets). (u : Written ver at' v items l z) × (known_after ver u ≡ known_after ver r)) h
      (subst (λ (k : ℕ). (u : Written ver k v items hs z) × (known_after ver u ≡ known_after ver r)) a (r, refl))

  -- one item in front: what is known behind it is known first
  pub front : {at : ℕ} {v w z : State Octets} {i : Item Octets} {items : List (Item Octets)} {own : Octets} {hs : Halves}
      → Begun ver at v (i ∷ []) own w → (r : Written ver (at + length own) w items hs z)
      → (u : Written ver at v (i ∷ items) (own ++ hs) z) × (known_after ver u ≡ w ∷ known_after ver r)
  unfolding known_after
  front {at} (after_attributes {hs = own} md b) r =
      let k = elsewhere (end_on at (length own)) refl r in
      let f = front b k.0 in
      (attributes_end md f.0, cc)
  front {at} (after_end_lem {v = v} md lv begun) r =
      let k = elsewhere (end_on at 0 ∙ none_on (suc at)) refl r in
      (element_end md lv k.0, ap (λ (l : List (State Octets)). closed v ∷ l) k.1)
  front {at} {hs = hs} (after_item {u = w} {o = o} u begun) r =
      let k = elsewhere (item_on at o [] ∙ none_on (aligned at + 2 * length o)) refl r in
      let f = elsewhere refl (sym (item_group at o [] hs)) (item u k.0) in
      (f.0, f.1 ∙ ap (λ (l : List (State Octets)). w ∷ l) k.1)

  -- ---- what is written begins
  behind_end : {at : ℕ} {v u z : State Octets} {xs xs' ys : List (Item Octets)} {hs : Halves} (s : Split ver (suc at) u xs ys hs z)
      → Begun ver at v xs' (15 ∷ s.front_halves) s.mid → Split ver at v xs' ys (15 ∷ hs) z
  behind_end {at} s b =
      record {
        front_halves = 15 ∷ s.front_halves;
        rest_halves = s.rest_halves;
        mid = s.mid;
        begun = b;
        rest = rw (end_on at (length s.front_halves)) s.rest;
        are = ap (λ (l : Octets). 15 ∷ l) s.are;
      }

  first_split : {at : ℕ} {v z : State Octets} {x : Item Octets} {xs ys items : List (Item Octets)} {hs : Halves}
      → Written ver at v (x ∷ items) hs z → ((k : ℕ) (u : State Octets) (l : Octets) → Written ver k u items l z → Split ver k u xs ys l z)
      → Split ver at v (x ∷ xs) ys hs z
  first_split (attributes_end md w) go = let s = first_split w go in behind_end s (after_attributes md s.begun)
  first_split (element_end md lv w) go = let s = go _ _ _ w in behind_end s (after_end_lem md lv s.begun)
  first_split {at} (item {o = o} u w) go =
      let s = go _ _ _ w in
      record {
        front_halves = pad at ++ (halves o ++ s.front_halves);
        rest_halves = s.rest_halves;
        mid = s.mid;
        begun = after_item u s.begun;
        rest = rw (item_on at o s.front_halves) s.rest;
        are = ap (λ (l : Octets). pad at ++ (halves o ++ l)) s.are ∙ sym (item_group at o s.front_halves s.rest_halves);
      }

  pub begun_of_written : {at : ℕ} {v z : State Octets} {hs : Halves} (xs ys : List (Item Octets))
      → Written ver at v (xs ++ ys) hs z → Split ver at v xs ys hs z
  begun_of_written {at} {v} {hs = hs} [] ys w = record { front_halves = []; rest_halves = hs; mid = v; begun = begun; rest = rw (none_on at) w; are = refl }
  begun_of_written (x ∷ xs) ys w = first_split w (λ k u l. begun_of_written xs ys)

-- ---- one size: the items leave open only which attribute bit announces what follows, and no size depends on it
-- A mode, without the bit.
abbrev pub bitless : Mode → Mode
bitless content = content
bitless (declaring a) = declaring false
bitless (listing true) = listing true
bitless (listing false) = content

-- The same is known, but for the bit.
pub record Alike (v v' : State Octets) : Type 0 where
  pub tables : v.tables ≡ v'.tables
  pub level : v.level ≡ v'.level
  pub root : v.root ≡ v'.root
  pub mode : bitless v.mode ≡ bitless v'.mode

alike : (v : State Octets) → Alike v v
alike v = record { tables = refl; level = refl; root = refl; mode = refl }

start_bitless : (a : Bool) → bitless (after_start a) ≡ content
start_bitless true = refl
start_bitless false = refl

member_bitless : (m : Mode) → bitless m ≡ listing true → in_list m ≡ true
member_bitless content e = cc
member_bitless (declaring a) e = cc
member_bitless (listing any) e = refl

-- a number's octets are as many behind any bits
length-pick : (b : Bool) (x y : Octets) → length (pick b x y) ≡ pick b (length x) (length y)
length-pick true x y = refl
length-pick false x y = refl

spell-size : (fs : List Form) (lead lead' n : ℕ) → length (spell fs lead n) ≡ length (spell fs lead' n)
unfolding spell
spell-size [] lead lead' n = refl
spell-size (form _ _ _ _ ∷ fs) lead lead' n = simp (length-pick, spell-size fs lead lead' n)

module _ {ver : Version} where
  -- and so are a name's
  behind_bits : {q : NameLayout} {lead : ℕ} {v w : Vocabulary Octets} {x : Name Octets} {h : NameHow} {o : Octets} (lead' : ℕ)
      → Named ver q lead v x h o w → (o' : Octets) × Named ver q lead' v x h o' w × (length o ≡ length o')
  behind_bits lead' (in_parts_lem lone up un ul new room) = (_, in_parts_lem lone up un ul new room, refl)
  behind_bits {q} {lead} lead' (by_number_lem {k = k} small fits en m) = (_, by_number_lem small fits en m, spell-size q.number_forms lead lead' (suc k))

  octets_alike : {v v' w w' : State Octets} {i : Item Octets} {o o' : Octets} → Alike v v' → ItemWrittenAs ver v i o w → ItemWrittenAs ver v' i o' w'
      → (length o ≡ length o') × Alike w w'
  octets_alike e (o_start a md may deep u) (o_start b md' may' deep' u') =
      let t = behind_bits (64 * bit b) u in
      let r = named_one t.1 (rw (← e.tables) at u') in
      (t.2 ∙ ap length r.0, record { tables = r.1; level = ap suc e.level; root = refl; mode = start_bitless a ∙ sym (start_bitless b) })
  octets_alike e (o_start a md may deep u) (o_named_start md' u') = clash (cc)
  octets_alike e (o_named_start md u) (o_start a md' may' deep' u') = clash (cc)
  octets_alike e (o_named_start {a = a} md u) (o_named_start {a = b} md' u') =
      let r = named_one u (rw (← e.tables) at u') in
      (ap (λ (l : Octets). suc (length l)) r.0, record { tables = r.1; level = ap suc e.level; root = refl; mode = start_bitless a ∙ sym (start_bitless b) })
  octets_alike e (o_first_namespace md may deep u) (o_first_namespace md' may' deep' u') =
      let r = declared_one u (rw (← e.tables) at u') in
      (ap (λ (l : Octets). suc (length l)) r.0, record { tables = r.1; level = e.level; root = e.root; mode = refl })
  octets_alike e (o_first_namespace md may deep u) (o_namespace md' u') = clash (cc)
  octets_alike e (o_namespace md u) (o_first_namespace md' may' deep' u') = clash (cc)
  octets_alike e (o_namespace md u) (o_namespace md' u') =
      let r = declared_one u (rw (← e.tables) at u') in
      (ap length r.0, record { tables = r.1; level = e.level; root = e.root; mode = refl })
  octets_alike e (o_attribute md u1 u2) (o_attribute md' u1' u2') =
      let r = named_one u1 (rw (← e.tables) at u1') in
      let t = value_one u2 (rw (← r.1) at u2') in
      ((λ j. length (r.0 j ++ t.0 j)), record { tables = t.1; level = e.level; root = e.root; mode = refl })
  octets_alike e (o_text md lv u) (o_text md' lv' u') =
      let r = literal_one u (rw (← e.tables) at u') in
      (ap length r.0, record { tables = r.1; level = e.level; root = e.root; mode = e.mode })
  octets_alike e (o_comment md u) (o_comment md' u') =
      let r = value_one u (rw (← e.tables) at u') in
      (ap (λ (l : Octets). suc (length l)) r.0, record { tables = r.1; level = e.level; root = e.root; mode = e.mode })
  octets_alike e (o_instruction md u1 u2) (o_instruction md' u1' u2') =
      let r = identifying_one u1 (rw (← e.tables) at u1') in
      let t = value_one u2 (rw (← r.2) at u2') in
      ((λ j. suc (length (r.0 j ++ t.0 j))), record { tables = t.1; level = e.level; root = e.root; mode = e.mode })

  -- an attribute does not follow the end of its list
  no_attribute : {at : ℕ} {v w : State Octets} {i : Item Octets} {items : List (Item Octets)} {hs : Halves}
      → Begun ver at v (i ∷ items) hs w → v.mode ≡ content → is_attribute i.event ≡ false
  no_attribute (after_attributes md b) e = clash (cc)
  no_attribute (after_end_lem md lv b) e = refl
  no_attribute (after_item u b) e = where_attributes u ∙ ap in_list e

  no_list : {at : ℕ} {v v' u w : State Octets} {i : Item Octets} {o : Octets} {items : List (Item Octets)} {hs : Halves} {X : Type 0}
      → bitless v'.mode ≡ bitless v.mode → v.mode ≡ listing true → Begun ver at (moved v v.tables content) (i ∷ items) hs w → ItemWrittenAs ver v' i o u → X
  no_list {v' = v'} e md b u = let y = member_bitless v'.mode (cc) in clash (cc (no_attribute b refl, where_attributes u))

  pub begun_alike : {at : ℕ} {v v' w w' : State Octets} {items : List (Item Octets)} {hs hs' : Halves}
      → Alike v v' → Begun ver at v items hs w → Begun ver at v' items hs' w' → (length hs ≡ length hs') × Alike w w'
  begun_alike e begun begun = (refl, e)
  begun_alike e (after_attributes md b) (after_attributes md' b') =
      let r = begun_alike (record { tables = e.tables; level = e.level; root = e.root; mode = refl }) b b' in
      (ap suc r.0, r.1)
  begun_alike e (after_attributes md b) (after_end_lem md' lv' b') = clash (cc)
  begun_alike e (after_attributes md b) (after_item u' b') = no_list (sym e.mode) md b u'
  begun_alike e (after_end_lem md lv b) (after_attributes md' b') = clash (cc)
  begun_alike e (after_end_lem md lv b) (after_end_lem md' lv' b') =
      let r = begun_alike (record { tables = e.tables; level = ap (λ (n : ℕ). n - 1) e.level; root = e.root; mode = refl }) b b' in
      (ap suc r.0, r.1)
  begun_alike e (after_end_lem md lv b) (after_item u' b') = no_end u'
  begun_alike e (after_item u b) (after_attributes md' b') = no_list e.mode md' b' u
  begun_alike e (after_item u b) (after_end_lem md' lv' b') = no_end u
  begun_alike {at} e (after_item {o = o} {hs = hs} u b) (after_item {o = o'} {hs = hs'} u' b') =
      let q = octets_alike e u u' in
      let r = begun_alike q.1 b (rw (← q.0) at b') in
      let a = item_on at o hs in
      let c = item_on at o' hs' in
      (omega (arith, q.0, r.0), r.1)

  pub begun_size : {at : ℕ} {v w w' : State Octets} {items : List (Item Octets)} {hs hs' : Halves}
      → Begun ver at v items hs w → Begun ver at v items hs' w' → (length hs ≡ length hs') × Alike w w'
  begun_size {v = v} = begun_alike (alike v)

-- ---- the limits: a table gets an entry where it has room for one, an element opens where it may
module _ {ver : Version} where
  adding-fits : {v : Vocabulary Octets} (t : StringTable) (x : Octets) → length (strings v t) < ver.entries → InLimits ver v → InLimits ver (adding v t x)
  adding-fits {v} t x room f =
      record {
        few = λ u. rw (strings-adding v t x u) (extended_few (eqb (place t) (place u)) ver.entries (strings v u) x (f.few u) (λ e. rw (← (same_table t u e)) room));
        few_names = λ u. rw (names-adding v t x u) (f.few_names u);
      }

  adding_name-fits : {v : Vocabulary Octets} (t : NameTable) (x : Triple) → length (names v t) < ver.entries → InLimits ver v → InLimits ver (adding_name v t x)
  adding_name-fits {v} t x room f =
      record {
        few = λ u. rw (strings-adding_name v t x u) (f.few u);
        few_names = λ u. rw (names-adding_name v t x u) (extended_few (same_names t u) ver.entries (names v u) x (f.few_names u) (λ e. rw (← (same_name_table t u e)) room));
      }

  identifying_fits : {t : StringTable} {v : Vocabulary Octets} {x : Octets} {h : How} {n : ℕ} {o : Octets} {w : Vocabulary Octets} → Identifying ver t v x h n o w → InLimits ver v → InLimits ver w
  identifying_fits {t} (id_spelled {x = x} sp new room) f = adding-fits t x room f
  identifying_fits (id_numbered small en) f = f

  optional_fits : {t : StringTable} {v w : Vocabulary Octets} {x : Option Octets} {h : Option How} {n : ℕ} {o : Octets} → Optional ver t v x h n o w → InLimits ver v → InLimits ver w
  optional_fits absent f = f
  optional_fits (present u) f = identifying_fits u f

  literal_fits : {q : Layout} {t : StringTable} {v w : Vocabulary Octets} {x : Octets} {h : How} {o : Octets} → Literal ver q t v x h o w → InLimits ver v → InLimits ver w
  literal_fits {t = t} (literal_spelled {x = x} {added = true} sp room) f = adding-fits t x (room refl) f
  literal_fits (literal_spelled {added = false} sp room) f = f
  literal_fits (literal_numbered small fits en) f = f

  value_fits : {t : StringTable} {v w : Vocabulary Octets} {x : Octets} {h : How} {o : Octets} → Value ver t v x h o w → InLimits ver v → InLimits ver w
  value_fits value_empty f = f
  value_fits (value u) f = literal_fits u f

  named_fits : {q : NameLayout} {lead : ℕ} {v w : Vocabulary Octets} {x : Name Octets} {h : NameHow} {o : Octets} → Named ver q lead v x h o w → InLimits ver v → InLimits ver w
  named_fits {q} (in_parts_lem {kp = kp} {kn = kn} {kl = kl} lone up un ul new room) f =
      adding_name-fits q.table (record { prefix = kp; namespace = kn; local = kl }) room (identifying_fits ul (optional_fits un (optional_fits up f)))
  named_fits (by_number_lem small fits en m) f = f

  declared_fits : {v w : Vocabulary Octets} {p n : Option Octets} {hp hn : Option How} {o : Octets} → Declared ver v p n hp hn o w → InLimits ver v → InLimits ver w
  declared_fits (declared up un) f = optional_fits un (optional_fits up f)

  octets_fit : {v w : State Octets} {i : Item Octets} {o : Octets} → ItemWrittenAs ver v i o w → InLimits ver v.tables → InLimits ver w.tables
  octets_fit (o_start a md may deep u) f = named_fits u f
  octets_fit (o_first_namespace md may deep u) f = declared_fits u f
  octets_fit (o_namespace md u) f = declared_fits u f
  octets_fit (o_named_start md u) f = named_fits u f
  octets_fit (o_attribute md u1 u2) f = value_fits u2 (named_fits u1 f)
  octets_fit (o_text md lv u) f = literal_fits u f
  octets_fit (o_comment md u) f = value_fits u f
  octets_fit (o_instruction md u1 u2) f = value_fits u2 (identifying_fits u1 f)

  pub fits_on : {at : ℕ} {v w : State Octets} {items : List (Item Octets)} {hs : Halves} → Begun ver at v items hs w → InLimits ver v.tables → InLimits ver w.tables
  fits_on begun f = f
  fits_on (after_attributes md b) f = fits_on b f
  fits_on (after_end_lem md lv b) f = fits_on b f
  fits_on (after_item u b) f = fits_on b (octets_fit u f)

  pub shallow_is : {v w : State Octets} {i : Item Octets} {o : Octets} → ItemWrittenAs ver v i o w
      → (is_declaration i.event || is_start i.event) ≡ true → is_declaring v.mode ≡ false → v.level < ver.depth
  shallow_is (o_start a md may deep u) opens e = deep
  shallow_is (o_first_namespace md may deep u) opens e = deep
  shallow_is (o_namespace md u) opens e = clash (cc)
  shallow_is (o_named_start md u) opens e = clash (cc)
  shallow_is (o_attribute md u1 u2) opens e = clash opens
  shallow_is (o_text md lv u) opens e = clash opens
  shallow_is (o_comment md u) opens e = clash opens
  shallow_is (o_instruction md u1 u2) opens e = clash opens

  pub written_shallow : {at : ℕ} {v z : State Octets} {i : Item Octets} {items : List (Item Octets)} {hs : Halves} → Written ver at v (i ∷ items) hs z
      → (is_declaration i.event || is_start i.event) ≡ true → is_declaring v.mode ≡ false → v.level < ver.depth
  written_shallow (attributes_end md w) opens e = written_shallow w opens refl
  written_shallow (element_end md lv w) opens e = clash opens
  written_shallow (item u w) opens e = shallow_is u opens e

-- ---- the events say how many elements are open, and whether the last of them is a declaration
start_declares : (a : Bool) → is_declaring (after_start a) ≡ false
start_declares true = refl
start_declares false = refl

module _ {ver : Version} where
  octets_level : {v w : State Octets} {i : Item Octets} {o : Octets} → ItemWrittenAs ver v i o w → w.level ≡ open_then v.level i.event
  octets_level (o_start a md may deep u) = refl
  octets_level (o_first_namespace md may deep u) = refl
  octets_level (o_namespace md u) = refl
  octets_level (o_named_start md u) = refl
  octets_level (o_attribute md u1 u2) = refl
  octets_level (o_text md lv u) = refl
  octets_level (o_comment md u) = refl
  octets_level (o_instruction md u1 u2) = refl

  pub level_is : {at : ℕ} {v w : State Octets} {items : List (Item Octets)} {hs : Halves} → Begun ver at v items hs w → w.level ≡ open_after v.level (events items)
  unfolding open_after
  level_is begun = refl
  level_is (after_attributes md b) = level_is b
  level_is (after_end_lem md lv b) = level_is b
  level_is (after_item {items = items} u b) = level_is b ∙ ap (λ (n : ℕ). open_after n (events items)) (octets_level u)

  octets_declare : {v w : State Octets} {i : Item Octets} {o : Octets} → ItemWrittenAs ver v i o w → is_declaring w.mode ≡ is_declaration i.event
  octets_declare (o_start a md may deep u) = start_declares a
  octets_declare (o_first_namespace md may deep u) = refl
  octets_declare (o_namespace md u) = refl
  octets_declare (o_named_start {a = a} md u) = start_declares a
  octets_declare (o_attribute md u1 u2) = refl
  octets_declare (o_text md lv u) = cc
  octets_declare (o_comment md u) = cc
  octets_declare (o_instruction md u1 u2) = cc

  pub declaring_is : {at : ℕ} {v w : State Octets} {items : List (Item Octets)} {hs : Halves} → Begun ver at v items hs w
      → is_declaring w.mode ≡ declares_last (is_declaring v.mode) (events items)
  unfolding declares_last
  declaring_is begun = refl
  declaring_is (after_attributes md b) = declaring_is b
  declaring_is (after_end_lem md lv b) = declaring_is b
  declaring_is (after_item {items = items} u b) = declaring_is b ∙ ap (λ (t : Bool). declares_last t (events items)) (octets_declare u)
