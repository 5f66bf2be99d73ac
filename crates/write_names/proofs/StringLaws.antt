-- A law for each way out of the functions that write strings, on plain values.
-- Assumes nothing.
use mathlib.Core.Path.{◌≡◌, refl, sym, ap, ◌∙◌}
use mathlib.Core.Bool.{true, false}
use mathlib.Core.List.{List, [], ◌∷◌, map}
use Rattle.std.specs.Prelude.{Result, Ok, Err}
use Prim.Native.Nat.{ℕ, suc, ◌+◌, ◌*◌, ◌≤◌, ◌<◌}
use native.Mathlib.Omega.{arith}
use borrow.Author.Tests.{eq-eqb, ne_eqb, lt-leb, le-leb, le-ltb, lt-ltb}
use lib.ListN.{length, get_or, set, take, drop, length-map}
use Rattle.format.specs.Numbers.{lengths, numbers, c25, spell}
use Rattle.format.specs.Events.{spelled, numbered}
use Rattle.format.specs.Tables.{StringTable, CONTENT_CHARACTER_CHUNK, Vocabulary, strings, adding, link}
use Rattle.format.specs.Strings.{with_length, Layout, c14, c15}
use Rattle.format.specs.Names.{has, of_element, of_attribute}
use Rattle.format.specs.Forms.{form_number, form_of}
use Rattle.format.specs.declared.refusals.Refusal.{Refusal}
use Rattle.format.specs.declared.StringForm.{StringForm}
use Rattle.format.specs.declared.StringForm.TheVariants.{Utf8}
use Rattle.fields.specs.PutContracts.{Puts}
use Rattle.fields.proofs.Laws.{case}
use Rattle.fields.proofs.Puts.{puts_nothing, puts_one, puts_append}
use Rattle.tables.specs.Located.{Located, stretch, built_in_prefix, built_in_namespace, octets_of}
use Rattle.tables.specs.Search.{lowest, number_in}
use Rattle.tables.proofs.Search.{octets_stretch, length-octets}
use Rattle.tables.specs.Rows.{table_of, string_at, entries}
use Rattle.tables.specs.Kept.{unlisted, Ends, Inside, IsSound, layout_of}
use Rattle.tables.proofs.FormLaws.{MayHold, holds_any, form_of_lem}
use Rattle.tables.proofs.Laws.{number-within, all_table}
use Rattle.index.specs.Hash.{bucket}
use Rattle.index.specs.Indexed.{slots, StringsIndexed, SoughtSaid}
use Rattle.index.proofs.Counted.{count_at}
use Rattle.index.proofs.Ordered.{string_more}
use Rattle.events.specs.declared.EventString.{EventString}
use Rattle.events.specs.declared.EventString.TheVariants.{Absent, Empty, Stretch, XmlPrefix, XmlNamespace}
use Rattle.events.specs.Records.{located_of, optional_of}
use Rattle.events.specs.Words.{string_tag, string_place, string_size}
use Rattle.tables.proofs.Found.{same_refl}
use Rattle.write_names.specs.declared.Sought.{Sought}
use Rattle.write_names.specs.declared.Spelling.{Spelling}
use Rattle.write_names.specs.Choices.{Wrote, write_id, write_optional, write_literal, write_value, worth_adding, within}
use Rattle.write_names.specs.Promises.{string_most, value_most, chosen_field, tables_in, Begins, InOrder, Suits, Fills, Spells, held_as, Looked, Added, spelled_as, Stands, Meets}
use Rattle.write_names.proofs.Order.{entries_are, entries_count, counted_at, order_string, full_string}
use Rattle.write_names.proofs.Stretches.{there, absent, tagged, Stretched, stretched, located, said-length}

-- ---- a string of an event
pub has_none : (x : EventString) → string_tag x ≡ 0 → (0 ≡ has (optional_of x)) × (0 ≤ 1)
has_none x e = rw (absent x e) (refl, omega arith)

pub has_one : (x : EventString) → (string_tag x ≡ 0 → ⊥) → (1 ≡ has (optional_of x)) × (1 ≤ 1)
has_one x e = rw (there x (omega arith)) (refl, omega arith)

-- ---- a name's layout
module _ (t : ℕ) (e : t ≡ 8) where
  pub element_forms : (layout_of t).number_forms ≡ numbers 3
  unfolding layout_of of_element
  element_forms = rw (eq-eqb t 8 e)

module _ (t : ℕ) (e : t ≡ 8 → ⊥) where
  pub attribute_forms : (layout_of t).number_forms ≡ c25
  unfolding layout_of of_attribute
  attribute_forms = rw (ne_eqb t 8 e)

-- ---- a string's number
first_is : (text : List ℕ) (x : Located) (l : List Located) → Begins x l → 1 ≡ number_in (map (octets_of text) l) (octets_of text x)
unfolding number_in lowest
first_is text x [] h = absurd h
first_is text x (y ∷ l) h = rw (h, same_refl (octets_of text x))

module _ (text c w ix : List ℕ) (t : ℕ) (order : InOrder text c w ix) (x : EventString) where
  pub held_absent : x ≡ Absent → (0 ≡ held_as text (table_of t) (tables_in c w) x) × (0 ≤ 256)
  unfolding held_as
  held_absent e = rw e (refl, omega arith)

  pub held_empty : x ≡ Empty → Suits text t x → (0 ≡ held_as text (table_of t) (tables_in c w) x) × (0 ≤ 256)
  held_empty e s = absurd (rw e at s)

  pub held_stretch : (f : StringForm) (p n r : ℕ) → x ≡ Stretch f p n → t < 8
      → r ≡ number_in (map (octets_of text) (entries (string_at (table_of t) w) (768 * t) (get_or c t 0))) (octets_of text (stretch f p n))
      → (r ≡ held_as text (table_of t) (tables_in c w) x) × (r ≤ 256)
  unfolding held_as
  held_stretch f p n r e small is =
      let q : r ≡ number_in (map (octets_of text) (strings (tables_in c w) (table_of t))) (octets_of text (stretch f p n)) = rw (entries_are c w order.ten t small) is in
      let l = number-within (map (octets_of text) (strings (tables_in c w) (table_of t))) (octets_of text (stretch f p n)) in
      let k = length-map (strings (tables_in c w) (table_of t)) (octets_of text) in
      let f = entries_count c w order.ten t small in
      let g = counted_at text c w ix t order in
      (rw e q, omega arith)

  pub held_prefix : x ≡ XmlPrefix → Suits text t x → (1 ≡ held_as text (table_of t) (tables_in c w) x) × (1 ≤ 256)
  unfolding held_as table_of strings
  held_prefix e s =
      let z : t ≡ 0 = rw e at s in
      (rw (e, z) (first_is text built_in_prefix (tables_in c w).prefixes order.more.0), omega arith)

  pub held_namespace : x ≡ XmlNamespace → Suits text t x → (1 ≡ held_as text (table_of t) (tables_in c w) x) × (1 ≤ 256)
  unfolding held_as table_of strings
  held_namespace e s =
      let z : t ≡ 1 = rw e at s in
      (rw (e, z) (first_is text built_in_namespace (tables_in c w).namespaces order.more.1), omega arith)

-- a stretch among the identifying strings is in utf-8
pub suits_utf8 : (text : List ℕ) (t : ℕ) (x : EventString) (f : StringForm) (p n : ℕ) → x ≡ Stretch f p n → Suits text t x → x ≡ Stretch Utf8 p n
suits_utf8 text t x f p n e s = let q : (0 < n) × (p + n ≤ length text) × (f ≡ Utf8) = rw e at s in e ∙ rw q.2

-- what a search asks
module _ (text c w ix : List ℕ) (t : ℕ) (order : InOrder text c w ix) (small : t < 8) where
  inside_table : Inside text (entries (string_at (table_of t) w) (768 * t) (get_or c t 0))
  inside_table = rw (count_at c order.ten t) at (all_table (Ends text) (unlisted c) w t small order.inside)

  indexed_table : StringsIndexed text w ix t (get_or c t 0)
  indexed_table = rw (count_at c order.ten t) at (order.indexed.of_strings t small refl)

  pub find_ready : t < 5 → (x : EventString) (f : StringForm) (p n : ℕ) → x ≡ Stretch f p n → Suits text t x
      → (length w ≡ 7680) × (length ix ≡ slots) × (t < 5) × (get_or c t 0 ≤ 256) × (p + n ≤ length text) × Inside text (entries (string_at (table_of t) w) (768 * t) (get_or c t 0))
      × StringsIndexed text w ix t (get_or c t 0)
  find_ready few x f p n e s =
      let q : (0 < n) × (p + n ≤ length text) × (f ≡ Utf8) = rw e at s in
      (order.room, order.indexed.size, few, counted_at text c w ix t order, q.1, inside_table, indexed_table)

  pub find_said_ready : 5 ≤ t → (x : EventString) (f : StringForm) (p n : ℕ) → Stretched text x f p n → SoughtSaid text w ix t (get_or c t 0) f p n
  find_said_ready other x f p n s = (
    order.room,
    order.indexed.size,
    other,
    small,
    counted_at text c w ix t order,
    s.some,
    s.lies,
    order.size,
    s.sound,
    inside_table,
    rw (count_at c order.ten t) at (all_table (IsSound text) (unlisted c) w t small order.more.2),
    indexed_table,
  )

-- a string that has no number is a stretch
module _ (text c w ix : List ℕ) (t : ℕ) (order : InOrder text c w ix) where
  pub new_stretch : (x : EventString) → Suits text t x → 1 ≤ string_tag x → 0 ≡ held_as text (table_of t) (tables_in c w) x
      → Stretched text x Utf8 (string_place x) (string_size x)
  new_stretch Absent s h e = absurd (omega arith)
  new_stretch Empty s h e = absurd s
  new_stretch (Stretch f p n) s h e = record { is = rw s.2; some = s.0; lies = s.1; sound = tt }
  new_stretch XmlPrefix s h e = let q = (held_prefix text c w ix t order XmlPrefix refl s).0 in absurd (omega arith)
  new_stretch XmlNamespace s h e = let q = (held_namespace text c w ix t order XmlNamespace refl s).0 in absurd (omega arith)

pub held_is : (text : List ℕ) (t : StringTable) (v : Vocabulary Located) (x : EventString) → 1 ≤ string_tag x → held_as text t v x ≡ number_in (map (octets_of text) (strings v t)) (octets_of text (located_of x))
unfolding held_as octets_of
held_is text t v Absent h = absurd (omega arith)
held_is text t v Empty h = refl
held_is text t v (Stretch f p n) h = refl
held_is text t v XmlPrefix h = refl
held_is text t v XmlNamespace h = refl

-- ---- a spelled string
pub puts_spelled : (n lead : ℕ) (text : List ℕ) (place size : ℕ) {at r q : ℕ} {out out₁ out₂ : List ℕ} → place + size ≤ length text → length text ≤ 16384
    → Puts out at r out₁ (spell (lengths n) lead size) × (r ≤ at + 5) → Puts out₁ r q out₂ (take size (drop place text))
    → Puts out at q out₂ (with_length (lengths n) lead (octets_of text (stretch Utf8 place size))) × (q ≤ at + string_most)
puts_spelled n lead text place size h short a b =
    let l = length-octets text place size h in
    let c = rw (← octets_stretch text Utf8 place size) at b in
    let k = c.behind in
    let m = a.1 in
    (rw l (puts_append a.0 c), omega arith)

-- what `enter_in` asks of a string that its table may hold, and has `known` as its number there; k is the word that says its form
pub enter_ready : (text c w ix : List ℕ) (t : ℕ) (f : StringForm) (p m : ℕ) → InOrder text c w ix → t < 8 → MayHold t f → get_or c t 0 < 256 → 0 < m → p + m ≤ length text
    → (known k h : ℕ) → known ≡ number_in (map (octets_of text) (strings (tables_in c w) (table_of t))) (octets_of text (stretch f p m)) → k ≡ form_number f
    → (h ≡ bucket (octets_of text (stretch f p m))) × (h < 128)
    → (length w ≡ 7680) × (length ix ≡ slots) × (t < 8) × (get_or c t 0 < 256) × (1 ≤ m) × (p + m ≤ length text) × (t < 5 → k ≡ 0)
    × (known ≡ number_in (map (octets_of text) (entries (string_at (table_of t) w) (768 * t) (get_or c t 0))) (octets_of text (stretch (form_of k) p m)))
    × (h ≡ bucket (octets_of text (stretch (form_of k) p m)))
    × (h < 128)
enter_ready text c w ix t f p m order small may room full lies known k h is e b =
    let form = form_of_lem k f e in (
      order.room,
      order.indexed.size,
      small,
      room,
      full,
      lies,
      λ l. e ∙ ap form_number (may l),
      rw (form, ← entries_are c w order.ten t small) is,
      rw form b.0,
      b.1,
    )

-- ---- what was put stands for the definition
module _ (text c w ix : List ℕ) (order : InOrder text c w ix) {H : Type 0} (d : Wrote H) {out out' : List ℕ} {at r most : ℕ} where
  pub stands_put : Puts out at r out' d.octets → r ≤ at + most → tables_in c w ≡ d.tables → Stands text out at most r out' c w ix d
  stands_put p h e = record { puts = p; few = h; tables = e; order = order }

  -- and the string at a place became an entry
  pub stands_added : (t : ℕ) (f : StringForm) (p n : ℕ) → t < 8 → MayHold t f → get_or c t 0 < 256 → {x : EventString} → Stretched text x f p n → (c' v iv : List ℕ)
      → Added text t (record { a = p; b = n; c = form_number f }) c w ix c' v iv → Puts out at r out' d.octets → r ≤ at + most
      → adding (tables_in c w) (table_of t) (located_of x) ≡ d.tables → Stands text out at most r out' c' v iv d
  stands_added t f p n small may room s c' v iv e q l is =
      rw e.0
      (record {
        puts = q;
        few = l;
        tables = rw e.1.words (string_more order t room f p n small may s.some) ∙ sym (ap (adding (tables_in c w) (table_of t)) (located s)) ∙ is;
        order = order_string text c w ix t order room f p n small may s.some s.lies s.sound v iv e.1;
      })

-- ---- an identifying string: k is its number
module _ (text : List ℕ) (t : StringTable) (v : Vocabulary Located) (x : Located) (k : ℕ) (is : k ≡ number_in (map (octets_of text) (strings v t)) (octets_of text x)) where
  numbered_is : (k ≡ 0 → ⊥) → write_id text t v x ≡ record { octets = spell c25 0x80 k; how = numbered k; number = k; tables = v }
  unfolding write_id
  numbered_is n = rw (← is, ne_eqb k 0 n)

  spelled_is : k ≡ 0 → write_id text t v x ≡ record { octets = with_length (lengths 2) 0 (octets_of text x); how = spelled Utf8 true; number = suc (length (strings v t)); tables = adding v t x }
  unfolding write_id
  spelled_is z = rw (← is, z)

module _ (text c w ix : List ℕ) (order : InOrder text c w ix) (x : Sought) (there : 1 ≤ string_tag x.string) (looked : Looked text c w x) where
  held_number : x.number ≡ number_in (map (octets_of text) (strings (tables_in c w) (table_of x.table))) (octets_of text (located_of x.string))
  held_number = looked.2 ∙ held_is text (table_of x.table) (tables_in c w) x.string there

  pub id_numbered : (x.number ≡ 0 → ⊥) → {out out' : List ℕ} {at r : ℕ} → Puts out at r out' (spell c25 0x80 x.number) × (r ≤ at + 3)
      → Stands text out at string_most r out' c w ix (write_id text (table_of x.table) (tables_in c w) (located_of x.string))
  id_numbered n p =
      rw (numbered_is text (table_of x.table) (tables_in c w) (located_of x.string) x.number held_number n)
      (stands_put text c w ix order _ p.0 (let l = p.1 in omega arith) refl)

  pub id_full : x.number ≡ 0 → 256 ≤ get_or c x.table 0 → within link (write_id text (table_of x.table) (tables_in c w) (located_of x.string)).tables ≡ false
  id_full z full =
      let small = looked.0 in
      let l = entries_count c w order.ten x.table (omega arith) in
      rw (spelled_is text (table_of x.table) (tables_in c w) (located_of x.string) x.number held_number z) (full_string (tables_in c w) x.table (located_of x.string) small (omega arith))

  module _ (z : x.number ≡ 0) where
    module _ (p n : ℕ) (ep : p ≡ string_place x.string) (en : n ≡ string_size x.string) where
      pub id_stretch : Stretched text x.string Utf8 p n
      id_stretch = rw (ep, en) (new_stretch text c w ix x.table order x.string looked.1 there (sym z ∙ looked.2))

      pub id_new : 0 ≡ number_in (map (octets_of text) (strings (tables_in c w) (table_of x.table))) (octets_of text (stretch Utf8 p n))
      id_new = rw (← located id_stretch) (sym z ∙ held_number)

      pub id_added : get_or c x.table 0 < 256 → (c' v iv : List ℕ) {out out' : List ℕ} {at r : ℕ}
          → Added text x.table (record { a = p; b = n; c = 0 }) c w ix c' v iv
          → Puts out at r out' (with_length (lengths 2) 0 (octets_of text (stretch Utf8 p n))) × (r ≤ at + string_most)
          → Stands text out at string_most r out' c' v iv (write_id text (table_of x.table) (tables_in c w) (located_of x.string))
      id_added room c' v iv e q =
          let small = looked.0 in
          rw (spelled_is text (table_of x.table) (tables_in c w) (located_of x.string) x.number held_number z)
          (stands_added text c w ix order _ x.table Utf8 p n (omega arith) (λ l. refl) room id_stretch c' v iv e (rw (← located id_stretch) at q.0) q.1 refl)

-- ---- one that may be absent
module _ (text c w ix : List ℕ) (t : ℕ) (order : InOrder text c w ix) (x : EventString) where
  pub optional_absent : string_tag x ≡ 0 → (out : List ℕ) (at : ℕ) → Stands text out at string_most at out c w ix (write_optional text (table_of t) (tables_in c w) (optional_of x))
  unfolding write_optional
  optional_absent e out at = rw (absent x e) (record { puts = puts_nothing refl; few = omega arith; tables = refl; order = order })

  pub optional_there : (string_tag x ≡ 0 → ⊥) → (r : Result ℕ Refusal) (out out' c' v iv : List ℕ) (at : ℕ) → Meets text out at string_most r out' c' v iv (write_id text (table_of t) (tables_in c w) (located_of x))
      → Meets text out at string_most r out' c' v iv (write_optional text (table_of t) (tables_in c w) (optional_of x))
  unfolding write_optional
  optional_there n (Ok h) out out' c' v iv at m = rw (there x (omega arith)) (record { puts = m.puts; few = m.few; tables = m.tables; order = m.order })
  optional_there n (Err e) out out' c' v iv at m = rw (there x (omega arith)) m

-- ---- a value, comment, content or chunk
pub fills_empty : (text : List ℕ) (x : EventString) → Fills text x → string_size x ≡ 0 → x ≡ Empty
fills_empty text Absent f e = absurd f
fills_empty text Empty f e = refl
fills_empty text (Stretch g p n) f e = let l = f.0 in absurd (omega arith)
fills_empty text XmlPrefix f e = absurd f
fills_empty text XmlNamespace f e = absurd f

pub fills_spells : (text : List ℕ) (x : EventString) → Fills text x → (string_size x ≡ 0 → ⊥) → Spells text x
fills_spells text Absent f n = f
fills_spells text Empty f n = absurd (n refl)
fills_spells text (Stretch g p m) f n = f
fills_spells text XmlPrefix f n = f
fills_spells text XmlNamespace f n = f

pub spells_tagged : (text : List ℕ) (x : EventString) → Spells text x → 1 ≤ string_tag x
spells_tagged text x spells = tagged x _ _ _ (stretched text x spells refl refl refl).is

module _ (text c w ix : List ℕ) (order : InOrder text c w ix) (x : EventString) (f : StringForm) (p m : ℕ) (s : Stretched text x f p m) where
  pub literal_new : (t : ℕ) → 0 ≡ held_as text (table_of t) (tables_in c w) x → 0 ≡ number_in (map (octets_of text) (strings (tables_in c w) (table_of t))) (octets_of text (stretch f p m))
  literal_new t new = rw (← located s) (new ∙ held_is text (table_of t) (tables_in c w) x (tagged x _ _ _ s.is))

  module _ (q : Spelling) (other : 5 ≤ q.table) (small : q.table < 8) (n : ℕ) (size : n ≡ length (octets_of text (stretch f p m))) where
    worth_long : 5 < n → worth_adding link (strings (tables_in c w) (table_of q.table)) (octets_of text (stretch f p m)) ≡ false
    unfolding worth_adding
    worth_long h = rw (← size, lt-leb n 5 h)

    worth_full : n ≤ 5 → 256 ≤ get_or c q.table 0 → worth_adding link (strings (tables_in c w) (table_of q.table)) (octets_of text (stretch f p m)) ≡ false
    unfolding worth_adding link
    worth_full h full = rw (← size, le-leb n 5 h, entries_count c w order.ten q.table small, le-ltb _ _ full)

    worth_more : n ≤ 5 → get_or c q.table 0 < 256 → worth_adding link (strings (tables_in c w) (table_of q.table)) (octets_of text (stretch f p m)) ≡ true
    unfolding worth_adding link
    worth_more h room = rw (← size, le-leb n 5 h, entries_count c w order.ten q.table small, lt-ltb _ _ room)

    -- one that is not added
    pub literal_kept : (n ≤ 5 → 256 ≤ get_or c q.table 0) → (b : ℕ) → b ≡ q.lead → {out out' : List ℕ} {at r : ℕ}
        → Puts out at r out' (chosen_field q.bit b (octets_of text (stretch f p m))) × (r ≤ at + value_most)
        → Stands text out at value_most r out' c w ix (spelled_as q text (tables_in c w) (located_of x))
    unfolding spelled_as
    literal_kept why b eb g =
        let z : q.lead + q.add * 0 ≡ b = omega arith in
        rw (located s, case 5 n worth_long (λ l. worth_full l (why l)), z) (stands_put text c w ix order _ g.0 g.1 refl)

    pub literal_added : n ≤ 5 → get_or c q.table 0 < 256 → (b : ℕ) → b ≡ q.lead + q.add → (k : ℕ) → k ≡ form_number f → (c' v iv : List ℕ) {out out' : List ℕ} {at r : ℕ}
        → Added text q.table (record { a = p; b = m; c = k }) c w ix c' v iv
        → Puts out at r out' (chosen_field q.bit b (octets_of text (stretch f p m))) × (r ≤ at + value_most)
        → Stands text out at value_most r out' c' v iv (spelled_as q text (tables_in c w) (located_of x))
    unfolding spelled_as
    literal_added l room b eb k ek c' v iv e g =
        let z : q.lead + q.add * 1 ≡ b = omega arith in
        rw (located s, worth_more l room, z)
        (stands_added text c w ix order _ q.table f p m small (holds_any q.table f other) room s c' v iv (rw ek at e) g.0 g.1 (ap (adding (tables_in c w) (table_of q.table)) (located s)))

-- k is the number that the table has for it
module _ (text c w ix : List ℕ) (t : ℕ) (order : InOrder text c w ix) (x : EventString) (k : ℕ) (held : k ≡ held_as text (table_of t) (tables_in c w) x) where
  module _ (spells : Spells text x) (q : Layout) where
    number_is : k ≡ number_in (map (octets_of text) (strings (tables_in c w) (table_of t))) (octets_of text (located_of x))
    number_is = held ∙ held_is text (table_of t) (tables_in c w) x (spells_tagged text x spells)

    literal_numbered : (k ≡ 0 → ⊥) → {out out' : List ℕ} {at r : ℕ} → Puts out at r out' (spell q.number_forms q.numbered_bits k) → r ≤ at + value_most
        → Stands text out at value_most r out' c w ix (write_literal link q text (table_of t) (tables_in c w) (located_of x))
    unfolding write_literal
    literal_numbered n p l = rw (← number_is, ne_eqb k 0 n) (stands_put text c w ix order _ p l refl)

    literal_spelled : k ≡ 0
        → spelled_as (record { table = t; bit = q.length_bit; lead = q.spelled_bits; add = q.add_bit }) text (tables_in c w) (located_of x) ≡ write_literal link q text (table_of t) (tables_in c w) (located_of x)
    unfolding write_literal spelled_as chosen_field
    literal_spelled z = rw (← number_is, z)

  module _ (fills : Fills text x) (n : string_size x ≡ 0 → ⊥) where
    value_is : write_value link text (table_of t) (tables_in c w) (located_of x) ≡ write_literal link c14 text (table_of t) (tables_in c w) (located_of x)
    unfolding write_value
    value_is =
        let l = (said-length (stretched text x (fills_spells text x fills n) refl refl refl) order.size).0 in
        rw (ne_eqb (length (octets_of text (located_of x))) 0 (omega arith))

    pub value_numbered : (k ≡ 0 → ⊥) → {out out' : List ℕ} {at r : ℕ} → Puts out at r out' (spell c25 0x80 k) × (r ≤ at + 3)
        → Stands text out at value_most r out' c w ix (write_value link text (table_of t) (tables_in c w) (located_of x))
    unfolding c14
    value_numbered m p = rw value_is (literal_numbered (fills_spells text x fills n) c14 m p.0 (let l = p.1 in omega arith))

    pub value_spelled : k ≡ 0 → spelled_as (record { table = t; bit = 5; lead = 0; add = 0x40 }) text (tables_in c w) (located_of x) ≡ write_value link text (table_of t) (tables_in c w) (located_of x)
    unfolding c14
    value_spelled z = rw value_is (literal_spelled (fills_spells text x fills n) c14 z)

pub value_empty : (text c w ix : List ℕ) (t : ℕ) (order : InOrder text c w ix) (x : EventString) (fills : Fills text x) → string_size x ≡ 0 → {out out' : List ℕ} {at : ℕ} → out' ≡ set out at 0xFF
    → Stands text out at value_most (at + 1) out' c w ix (write_value link text (table_of t) (tables_in c w) (located_of x))
unfolding write_value octets_of
value_empty text c w ix t order x fills z e = rw (fills_empty text x fills z) (stands_put text c w ix order _ (puts_one e) (omega arith) refl)

module _ (text c w ix : List ℕ) (order : InOrder text c w ix) (x : EventString) (spells : Spells text x) (k : ℕ) (held : k ≡ held_as text (table_of 6) (tables_in c w) x) where
  pub chunk_numbered : (k ≡ 0 → ⊥) → {out out' : List ℕ} {at r : ℕ} → Puts out at r out' (spell (numbers 4) 0xA0 k) × (r ≤ at + 4)
      → Stands text out at value_most r out' c w ix (write_literal link c15 text CONTENT_CHARACTER_CHUNK (tables_in c w) (located_of x))
  unfolding c15 table_of
  chunk_numbered n p = literal_numbered text c w ix 6 order x k held spells c15 n p.0 (let l = p.1 in omega arith)

  pub chunk_spelled : k ≡ 0
      → spelled_as (record { table = 6; bit = 7; lead = 0x80; add = 0x10 }) text (tables_in c w) (located_of x) ≡ write_literal link c15 text CONTENT_CHARACTER_CHUNK (tables_in c w) (located_of x)
  unfolding c15 table_of
  chunk_spelled z = literal_spelled text c w ix 6 order x k held spells c15 z
