-- Names and declarations on plain values: a law for each way out of each function, and that the tables stay in order.
-- Assumes nothing.
use mathlib.Core.Path.{◌≡◌, refl, sym, ap, ◌∙◌}
use mathlib.Core.Bool.{Bool, true, false, not, and-false}
use mathlib.Core.List.{List, [], ◌∷◌, ◌++◌, map}
use Prim.Native.Nat.{ℕ, zero, suc, ◌+◌, ◌-◌, ◌*◌, ◌%◌, ◌≤◌, ◌<◌}
use native.Mathlib.Omega.{arith}
use native.Mathlib.Numerals.{add-one}
use native.Mathlib.Decide.{dec_lt}
use borrow.Author.Tests.{lt-ltb, le-ltb, le-leb, lt-leb, eq-eqb, ne_eqb}
use lib.Dec.{eqb, ltb, leb}
use lib.ListN.{length, get_or, set}
use Rattle.std.specs.Prelude.{Result, Ok, Err}
use Rattle.format.specs.Numbers.{pick, numbers, c25, lengths, top}
use Rattle.format.specs.Refusals.{refusal_number}
use Rattle.format.specs.declared.refusals.Fault.{Fault}
use Rattle.format.specs.declared.refusals.Refusal.TheVariants.{Repeat, Full}
use Rattle.fields.specs.Utf8.{is_text}
use Rattle.format.specs.Tables.{StringTable, PREFIX, NAMESPACE_NAME, LOCAL_NAME}
use Rattle.format.specs.Tables.{NameTable, ELEMENT_NAME, ATTRIBUTE_NAME, Triple, Vocabulary, strings, names, adding_name}
use Rattle.format.specs.Tables.{holds, holds_name, same_triple, link}
use Rattle.format.specs.Names.{NameLayout, of_element, of_attribute}
use Rattle.format.specs.Events.{by_number}
use Rattle.format.specs.declared.StringForm.TheVariants.{Utf8}
use Rattle.fields.specs.declared.Read.{Read}
use Rattle.fields.specs.Fields as F
use Rattle.fields.specs.Fields.{bits_of, field_at, no_top}
use Rattle.fields.proofs.Laws.{case}
use Rattle.fields.proofs.Bounds.{field_got}
use Rattle.tables.specs.declared.Counts.{Counts}
use Rattle.tables.specs.declared.Row.{Row}
use Rattle.tables.specs.Located.{Located, empty, stretch, octets_of}
use Rattle.tables.specs.Counts.{table_words}
use Rattle.tables.specs.Search.{lowest, number_of_triple}
use Rattle.tables.specs.Rows.{table_of, triple_at, entries, vocabulary}
use Rattle.tables.specs.Kept.{name_table_of, unlisted, count_of, one_more, Counted, row_at, stored, layout_of, triple_of}
use Rattle.tables.proofs.ByNumber.{eight_nine}
use Rattle.tables.proofs.Adding.{names-adding}
use Rattle.tables.proofs.Laws.{names_are_lem, length-names, string_nth, name_added, holds_name-number}
use Rattle.tables.proofs.Entries.{stored_0, stored_1, stored_2}
use Rattle.index.specs.Indexed.{NamesIndexed, NameEntered}
use Rattle.events.specs.declared.EventString.{EventString}
use Rattle.events.specs.declared.EventString.TheVariants.{Absent}
use Rattle.events.specs.Records.{event_string, optional_event_string}
use Rattle.read_names.specs.declared.Parts.{Parts}
use Rattle.read_names.specs.Strings as S
use Rattle.read_names.specs.Strings.{IdRead, OptionalRead, id_at, optional_at, spelling}
use Rattle.read_names.specs.Names.{NameRead, prefix_bit, namespace_bit, name_bit, part_of, name_of, no_triple, parts_at, numbered_at, name_at, declared_at}
use Rattle.read_names.specs.Promises.{Ranged, searched, Tidy, Grown, Left, event_string_at, event_strings_at, name_strings_at, Seen, IdLeft, Positive, id_seen, optional_seen, seen_name, name_seen, declared_seen}
use Rattle.read_names.specs.StringContracts.{held_of, held_by}
use Rattle.read_names.specs.NameContracts.{new_name, seen_number, NewRow, Addable, AddsName}
use Rattle.index.proofs.Counted.{count_at, one_more_lem, one_more-words}
use Rattle.index.proofs.Ordered.{ordered_name}
use Rattle.read_names.proofs.Grown.{searched_name, grown_none, grown_on, grown-stored, string_stays, InRange, name_at as name_in_table, name_ranged}
use Rattle.read_names.proofs.StringLaws.{tests, ranged_kept}

-- ---- a table's layout
module _ (t : ℕ) (e : t ≡ 8) where
  pub element_number : (s : List ℕ) (at : ℕ) → field_at (numbers 3) top 3 s at ≡ field_at (layout_of t).number_forms top (name_bit (layout_of t).table) s at
  unfolding layout_of of_element
  element_number s at = rw (eq-eqb t 8 e)

pub layout_table : (t : ℕ) → 8 ≤ t → t < 10 → (layout_of t).table ≡ name_table_of t
unfolding layout_of name_table_of of_element of_attribute
layout_table = eight_nine (λ (t : ℕ). (layout_of t).table ≡ name_table_of t) refl refl

-- ---- the strings behind a name's number
string_is : (c w : List ℕ) (t n : ℕ) → t < 8 → n ≤ count_of (unlisted c) t → event_string_at w t n ≡ optional_event_string (part_of (strings (vocabulary (unlisted c) w) (table_of t)) empty n)
unfolding event_string_at
string_is c w t zero h l = refl
string_is c w t (suc k) h l = ap event_string (sym (string_nth (unlisted c) w t k empty h l))

name_is : (c w : List ℕ) (x : Triple) → InRange (unlisted c) x
    → event_strings_at w x
    ≡ record { prefix = optional_event_string (name_of (vocabulary (unlisted c) w) empty x).prefix; namespace = optional_event_string (name_of (vocabulary (unlisted c) w) empty x).namespace; local = event_string (name_of (vocabulary (unlisted c) w) empty x).local }
unfolding event_strings_at name_of strings table_of count_of
name_is c w x r =
    λ i. record {
      prefix = string_is c w 0 x.prefix (omega arith) r.0 i;
      namespace = string_is c w 1 x.namespace (omega arith) r.1 i;
      local = (string_is c w 2 x.local (omega arith) r.3 ∙ some_string x.local r.2) i;
    }
  where
    some_string : (n : ℕ) → 1 ≤ n → optional_event_string (part_of (vocabulary (unlisted c) w).locals empty n) ≡ event_string (get_or (vocabulary (unlisted c) w).locals (n - 1) empty)
    some_string zero h = absurd (omega arith)
    some_string (suc k) h = let z : suc k - 1 ≡ k = omega arith in rw z

-- the row of a name, read by its number
module _ (w : List ℕ) (t n : ℕ) (x : Row) (e : x ≡ row_at w (768 * t + 3 * (n - 1))) where
  pub row_is : triple_of x ≡ triple_at w (768 * t + 3 * (n - 1))
  unfolding row_at triple_at
  row_is = ap triple_of e

  pub strings_are_lem : (p m l : EventString) → p ≡ event_string_at w 0 x.a → m ≡ event_string_at w 1 x.b → l ≡ event_string_at w 2 x.c
      → record { prefix = p; namespace = m; local = l } ≡ name_strings_at w t n
  unfolding name_strings_at event_strings_at
  strings_are_lem p m l ep em el = rw (ep, em, el) (ap (event_strings_at w) row_is)

-- ---- a name by number: m is what the number's field gave
pub number_held : (s c w x : List ℕ) (t k : ℕ) → Tidy s c w x → 8 ≤ t → t < 10 → (m : Result (Read ℕ) Fault) → m ≡ field_at (layout_of t).number_forms top (name_bit (layout_of t).table) s k
    → (a : Result (Read ℕ) Fault) → a ≡ held_by (count_of (unlisted c) t) k m
    → (seen_name t a c w ≡ name_seen (numbered_at link (layout_of t) s k (vocabulary (unlisted c) w))) × IdLeft s c w t a c w x
unfolding numbered_at held_of name_strings_at
number_held s c w x t k tidy low high m is a ea = rw (ea, ← is) (by m is)
  where
    by : (m : Result (Read ℕ) Fault) → m ≡ field_at (layout_of t).number_forms top (name_bit (layout_of t).table) s k
        → (seen_name t (held_by (count_of (unlisted c) t) k m) c w
        ≡ name_seen (S.number m λ n next. pick (leb n (length (names (vocabulary (unlisted c) w) (layout_of t).table)))
        (S.got (record { name = name_of (vocabulary (unlisted c) w) empty (get_or (names (vocabulary (unlisted c) w) (layout_of t).table) (n - 1) no_triple); how = by_number n }) next (vocabulary (unlisted c) w))
        (S.refused 10 k)))
        × IdLeft s c w t (held_by (count_of (unlisted c) t) k m) c w x
    by (Err f) e = (refl, (tidy.ten, tidy.room))
    by (Ok r) e =
        let g = field_got top s k (layout_of t).number_forms (name_bit (layout_of t).table) (sym e) in
        rw (layout_table t low high, length-names (unlisted c) w t low high)
        (case (count_of (unlisted c) t) r.value
        (λ l. rw (lt-leb _ _ l) (refl, (tidy.ten, tidy.room)))
        (λ l. rw (le-leb _ _ l, name_in_table s c w x tidy t r.value low high g.0 l) (
          ap (λ (z : Parts). S.got z r.next.at (vocabulary (unlisted c) w)) (name_is c w (triple_at w (768 * t + 3 * (r.value - 1))) (name_ranged s c w x tidy t r.value low high g.0 l)),
          (record { tidy = tidy; within = g.3; grown = grown_none c w }, l),
        )))

-- ---- a new name
module _ (c d : Counts) (p : c.prefix ≤ d.prefix) (n : c.namespace ≤ d.namespace) (l : c.local ≤ d.local) where
  ranged_more : (xs : List Triple) (x : Triple) → Ranged c xs → Ranged c (x ∷ []) → Ranged d (xs ++ (x ∷ []))
  ranged_more [] x r q = ranged_kept c d p n l (x ∷ []) q
  ranged_more (y ∷ xs) x r q = (omega arith, omega arith, omega arith, omega arith, ranged_more xs x r.4 q)

ranged_adding : (c : Counts) (v : Vocabulary Located) (x : Triple) → Ranged c (x ∷ []) → ((u : NameTable) → Ranged c (names v u))
    → (t : ℕ) → 8 ≤ t → t < 10 → (u : NameTable) → Ranged (one_more c t) (names (adding_name v (name_table_of t) x) u)
unfolding one_more count_of name_table_of adding_name names
ranged_adding c v x q r =
    eight_nine (λ (t : ℕ). (u : NameTable) → Ranged (one_more c t) (names (adding_name v (name_table_of t) x) u))
    (λ u. elim u as (λ k. Ranged (one_more c 8) (names (adding_name v (name_table_of 8) x) k)) [
      | ELEMENT_NAME ↦ ranged_more c (one_more c 8) (omega arith) (omega arith) (omega arith) v.elements x (r ELEMENT_NAME) q
      | ATTRIBUTE_NAME ↦ ranged_kept c (one_more c 8) (omega arith) (omega arith) (omega arith) v.attributes (r ATTRIBUTE_NAME)
    ])
    (λ u. elim u as (λ k. Ranged (one_more c 9) (names (adding_name v (name_table_of 9) x) k)) [
      | ELEMENT_NAME ↦ ranged_kept c (one_more c 9) (omega arith) (omega arith) (omega arith) v.elements (r ELEMENT_NAME)
      | ATTRIBUTE_NAME ↦ ranged_more c (one_more c 9) (omega arith) (omega arith) (omega arith) v.attributes x (r ATTRIBUTE_NAME) q
    ])

-- what is asked of a name to be added, and of the index
pub addable : (s c w i : List ℕ) → Tidy s c w i → (t : ℕ) → 8 ≤ t → t < 10 → (x : Row) → Ranged (unlisted c) (triple_of x ∷ []) → Addable c w i t x
addable s c w i tidy t low high x ranged = (tidy.room, tidy.ten, tidy.indexed.size, low, high, tidy.counted, tidy.indexed.of_names t low high (searched_name t low), ranged)

pub search_asked : (c w i : List ℕ) (t : ℕ) (x : Row) → Addable c w i t x → (length w ≡ table_words) × (length i ≡ 3840) × (t < 10) × (get_or c t 0 ≤ 256) × NamesIndexed w i t (get_or c t 0)
search_asked c w i t x may =
    let n = count_at c may.1 t in
    let few = may.5 t in
    (may.0, may.2, may.4, omega arith, rw n at may.6)

module _ (c w : List ℕ) (t : ℕ) (ten : length c ≡ 10) where
  -- a name that its table does not hold is not in the words that hold the table
  pub words_unnamed : (x : Triple) → 8 ≤ t → t < 10 → 0 ≡ number_of_triple (names (vocabulary (unlisted c) w) (name_table_of t)) x → 0 ≡ number_of_triple (entries (triple_at w) (768 * t) (get_or c t 0)) x
  words_unnamed x low high e = rw (names_are_lem (unlisted c) w t low high, count_at c ten t) at e

-- x is the name that is read, f the number that was found
module _ (c w : List ℕ) (t k next f : ℕ) (x : Triple) (low : 8 ≤ t) (high : t < 10) (ten : length c ≡ 10) (fits : length w ≡ table_words)
    (ef : f ≡ number_of_triple (entries (triple_at w) (768 * t) (get_or c t 0)) x) where
  held_is : holds_name (names (vocabulary (unlisted c) w) (name_table_of t)) x ≡ not (eqb f 0)
  held_is = rw (ef, names_are_lem (unlisted c) w t low high, count_at c ten t) (holds_name-number (entries (triple_at w) (768 * t) (get_or c t 0)) x)

  -- the answer, what it leaves, and the row it stands for
  abbrev Named : Result (Read ℕ) Fault → (i d v y : List ℕ) → Type 0
  Named r i d v y =
      (seen_number r d v ≡ new_name link (name_table_of t) x k next (vocabulary (unlisted c) w)) × ((s : List ℕ) → Tidy s c w i → next ≤ length s → IdLeft s c w t r d v y)
      × NewRow v t x r

  name_held : (i : List ℕ) → (f ≡ 0 → ⊥) → Named (F.refused Repeat k) i c w i
  unfolding new_name
  name_held i h = rw (held_is, ne_eqb f 0 h) (refl, λ s tidy l. (ten, fits), tt)

  module _ (new : f ≡ 0) where
    name_full : (i : List ℕ) → 256 ≤ get_or c t 0 → Named (F.refused Full k) i c w i
    unfolding new_name link
    name_full i h = rw (held_is, eq-eqb f 0 new, length-names (unlisted c) w t low high, count_at c ten t, le-ltb _ _ h) (refl, λ s tidy l. (ten, fits), tt)

    module _ (room : get_or c t 0 < 256) (ranged : Ranged (unlisted c) (x ∷ [])) where
      abbrev then_counts : List ℕ
      then_counts = set c t (get_or c t 0 + 1)

      abbrev then-words : List ℕ
      then-words = stored w t (get_or c t 0) x.prefix x.namespace x.local

      is_added : Counted (unlisted c) → vocabulary (unlisted then_counts) then-words ≡ adding_name (vocabulary (unlisted c) w) (name_table_of t) x
      is_added small =
          let n = count_at c ten t in
          rw (one_more_lem c ten t) (rw n at (name_added (unlisted c) w t small (omega arith) fits x low high))

      left_named : (s i y : List ℕ) → Tidy s c w i → next ≤ length s → NameEntered s t (get_or c t 0) x w i then-words y → Left s c w next then_counts then-words y
      left_named s i y tidy l e =
          let more = one_more_lem c ten t in
          record {
            tidy =
                ordered_name tidy t room x low high then-words y refl
                (e.keeps.still searched (count_of (unlisted c)) (count_of (unlisted then_counts)) (one_more-words c ten t high) tidy.indexed)
                (rw (is_added tidy.counted, more) (ranged_adding (unlisted c) (vocabulary (unlisted c) w) x ranged tidy.more t low high));
            within = l;
            grown = grown-stored c w t x.prefix x.namespace x.local ten high room tidy.counted;
          }

      new_row : triple_at then-words (768 * t + 3 * (get_or c t 0 + 1 - 1)) ≡ x
      unfolding triple_at
      new_row =
          let ends : 768 * t + 3 * get_or c t 0 + 3 ≤ length w = omega arith in
          let z : get_or c t 0 + 1 - 1 ≡ get_or c t 0 = omega arith in
          rw z
          (λ i. record {
            prefix = stored_0 w t (get_or c t 0) x.prefix x.namespace x.local ends i;
            namespace = stored_1 w t (get_or c t 0) x.prefix x.namespace x.local ends i;
            local = stored_2 w t (get_or c t 0) x.prefix x.namespace x.local ends i;
          })

      name_stored : Counted (unlisted c) → (i y : List ℕ) → ((s : List ℕ) → NameEntered s t (get_or c t 0) x w i then-words y)
          → Named (F.got (get_or c t 0 + 1) next) i then_counts then-words y
      unfolding new_name link
      name_stored small i y e =
          rw (held_is, eq-eqb f 0 new, length-names (unlisted c) w t low high, count_at c ten t, lt-ltb _ _ room, ← add-one (get_or c t 0)) (
            ap (S.got (get_or c t 0 + 1) next) (is_added small),
            λ s tidy l. (left_named s i y tidy l (e s), let m = (one_more-words c ten t high).here in omega arith),
            (omega arith, new_row),
          )

      name_new : Counted (unlisted c) → (i v y : List ℕ) → ((s : List ℕ) → NameEntered s t (get_or c t 0) x w i v y)
          → Named (F.got (get_or c t 0 + 1) next) i then_counts v y
      name_new small i v y e = rw (e []).words (name_stored small i y (λ s. rw (e []).words at (e s)))

-- the same of a name that may be added: the answers of the functions that add one
module _ (c w i : List ℕ) (t k next f : ℕ) (x : Row) (may : Addable c w i t x) (ef : f ≡ number_of_triple (entries (triple_at w) (768 * t) (get_or c t 0)) (triple_of x)) where
  pub adds_held : (f ≡ 0 → ⊥) → AddsName c w i t k next x (F.refused Repeat k) c w i
  adds_held = name_held c w t k next f (triple_of x) may.3 may.4 may.1 may.0 ef i

  pub adds_full : f ≡ 0 → 256 ≤ get_or c t 0 → AddsName c w i t k next x (F.refused Full k) c w i
  adds_full new = name_full c w t k next f (triple_of x) may.3 may.4 may.1 may.0 ef new i

  pub adds_new : f ≡ 0 → get_or c t 0 < 256 → (v y : List ℕ) → ((s : List ℕ) → NameEntered s t (get_or c t 0) (triple_of x) w i v y)
      → AddsName c w i t k next x (F.got (get_or c t 0 + 1) next) (set c t (get_or c t 0 + 1)) v y
  adds_new new room = name_new c w t k next f (triple_of x) may.3 may.4 may.1 may.0 ef new room may.7 may.5 i

-- ---- a string that is read leaves the names
abbrev SameNames : Vocabulary Located → S.Got Seen → Type 0
SameNames v (S.got x next w) = (u : NameTable) → names w u ≡ names v u
SameNames v (S.refused n p) = Unit {0}

module _ {B : Type 0} (P : S.Got B → Type 0) where
  numbered : (a : Result (Read ℕ) Fault) (f : ℕ → ℕ → S.Got B) → ((n next : ℕ) → P (f n next)) → ((n p : ℕ) → P (S.refused n p)) → P (S.number a f)
  numbered (Ok r) f g h = g r.value r.next.at
  numbered (Err r) f g h = h (refusal_number r.refusal) r.at

same_names_lem : (s : List ℕ) (t : StringTable) (k : ℕ) (v : Vocabulary Located) → SameNames v (id_seen (id_at link s t k v))
unfolding id_at spelling
same_names_lem s t k v =
    let P : S.Got IdRead → Type 0 = λ (g : S.Got IdRead). SameNames v (id_seen g) in
    tests P (ltb (get_or s k 0) 0x80) _ _
    (λ o. numbered P (field_at (lengths 2) no_top 2 s k) _
    (λ n next. tests P (leb (next + n) (length s)) _ _
    (λ a. tests P (is_text (octets_of s (stretch Utf8 next n))) _ _
    (λ b. tests P (holds (map (octets_of s) (strings v t)) (octets_of s (stretch Utf8 next n))) _ _ (λ h. tt)
    (λ h. tests P (ltb (length (strings v t)) link.entries) _ _ (λ r. names-adding v t (stretch Utf8 next n)) (λ r. tt)))
    (λ b. tt))
    (λ a. tt))
    (λ n p. tt))
    (λ o. numbered P (field_at c25 top 2 s k) _
    (λ n next. tests P (leb n (length (strings v t))) _ _ (λ h u. refl) (λ h. tt))
    (λ n p. tt))

-- a local name that is new is in no name
unnamed : (c : Counts) (x : Triple) → c.local < x.local → (l : List Triple) (k : ℕ) → Ranged c l → 0 ≡ lowest (λ (y : Triple). same_triple y x) k l
unfolding lowest same_triple
unnamed c x h [] k r = refl
unnamed c x h (y ∷ l) k r = rw (ne_eqb y.local x.local (omega arith), and-false, and-false) (unnamed c x h l (suc k) r.4)

pub local_new : (s c w i d v : List ℕ) (k k₁ : ℕ) (x : Seen) → Tidy s c w i → S.got x k₁ (vocabulary (unlisted d) v) ≡ id_seen (id_at link s (table_of 2) k (vocabulary (unlisted c) w))
    → (t : NameTable) (p n : ℕ) → get_or c 2 0 < x.number → 0 ≡ number_of_triple (names (vocabulary (unlisted d) v) t) (record { prefix = p; namespace = n; local = x.number })
unfolding number_of_triple
local_new s c w i d v k k₁ x tidy e t p n h =
    let g = (rw (← e) at (same_names_lem s (table_of 2) k (vocabulary (unlisted c) w))) t in
    rw g (unnamed (unlisted c) _ h (names (vocabulary (unlisted c) w) t) 1 (tidy.more t))

-- ---- a name's strings, read one behind the other, and what is said at the end
abbrev pub Says : List ℕ → (t : ℕ) → Parts → Result (Read ℕ) Fault → Type 0
Says v t y (Ok r) = name_strings_at v t r.value ≡ y
Says v t y (Err f) = Unit {0}

module _ (c₁ w₁ c₂ w₂ c₃ w₃ : List ℕ) (p n l : ℕ) (hp : p ≤ count_of (unlisted c₁) 0) (hn : n ≤ count_of (unlisted c₂) 1) (hl : l ≤ count_of (unlisted c₃) 2) (g : Grown c₁ w₁ c₂ w₂)
    (h : Grown c₂ w₂ c₃ w₃) where
  pub strings_ranged : 1 ≤ l → Ranged (unlisted c₃) (record { prefix = p; namespace = n; local = l } ∷ [])
  unfolding count_of
  strings_ranged some = let a = g.counts 0 in let b = h.counts 0 in let e = h.counts 1 in (omega arith, omega arith, some, hl, tt)

  pub new_says : (s d v y : List ℕ) (t : ℕ) (r : Result (Read ℕ) Fault) → IdLeft s c₃ w₃ t r d v y → NewRow v t (record { prefix = p; namespace = n; local = l }) r
      → Says v t (record { prefix = event_string_at w₁ 0 p; namespace = event_string_at w₂ 1 n; local = event_string_at w₃ 2 l }) r
  unfolding name_strings_at event_strings_at
  new_says s d v y t (Ok r) left row =
      let k = left.0.grown in
      let j = grown_on c₂ w₂ c₃ w₃ d v h k in
      rw (row.1, string_stays c₁ w₁ d v (grown_on c₁ w₁ c₂ w₂ d v g j) 0 p (omega arith) hp, string_stays c₂ w₂ d v j 1 n (omega arith) hn, string_stays c₃ w₃ d v k 2 l (omega arith) hl)
  new_says s d v y t (Err f) left row = tt

-- ---- what is seen of a name's strings
module _ {C : Type 0} (z : S.Got C → S.Got Parts) (refusal : (n p : ℕ) → z (S.refused n p) ≡ S.refused n p) (h : Seen → ℕ → Vocabulary Located → S.Got Parts) where
  seen_optional : (g : S.Got OptionalRead) (f : OptionalRead → ℕ → Vocabulary Located → S.Got C)
      → ((x : OptionalRead) (k : ℕ) (v : Vocabulary Located) → z (f x k v) ≡ h (record { text = optional_event_string x.string; number = x.number }) k v)
      → z (S.then g f) ≡ S.then (optional_seen g) h
  seen_optional (S.got x k v) f e = e x k v
  seen_optional (S.refused n p) f e = refusal n p

  seen_id_lem : (g : S.Got IdRead) (f : IdRead → ℕ → Vocabulary Located → S.Got C)
      → ((x : IdRead) (k : ℕ) (v : Vocabulary Located) → z (f x k v) ≡ h (record { text = event_string x.string; number = x.number }) k v)
      → z (S.then g f) ≡ S.then (id_seen g) h
  seen_id_lem (S.got x k v) f e = e x k v
  seen_id_lem (S.refused n p) f e = refusal n p

-- the fields as the code reads them, by the bits that say what is there
abbrev prefix_field : List ℕ → (pn k : ℕ) → Vocabulary Located → S.Got Seen
prefix_field s pn k v = optional_seen (optional_at link (leb 2 pn) s (table_of 0) (k + 1) v)

abbrev namespace_field : List ℕ → (m k : ℕ) → Vocabulary Located → S.Got Seen
namespace_field s m k v = optional_seen (optional_at link (eqb m 1) s (table_of 1) k v)

abbrev local_field : List ℕ → ℕ → Vocabulary Located → S.Got Seen
local_field s k v = id_seen (id_at link s (table_of 2) k v)

prefix_field_lem : (s : List ℕ) (b k : ℕ) (v : Vocabulary Located) (pn : ℕ) → pn ≡ bits_of b 7 8 → optional_seen (optional_at link (prefix_bit b) s PREFIX (suc k) v) ≡ prefix_field s pn k v
unfolding table_of
prefix_field_lem s b k v pn e = let z : pn ≡ b % 4 = omega arith in rw (z, add-one k)

namespace_field_lem : (s : List ℕ) (b k : ℕ) (v : Vocabulary Located) (m : ℕ) → m ≡ bits_of b 8 8 → optional_seen (optional_at link (namespace_bit b) s NAMESPACE_NAME k v) ≡ namespace_field s m k v
unfolding table_of
namespace_field_lem s b k v m e = let z : m ≡ b % 2 = omega arith in rw z

-- a name, where its number is got
abbrev named : Parts → S.Got ℕ → S.Got Parts
named y (S.got n next v) = S.got y next v
named y (S.refused n p) = S.refused n p

seen_new : (held room : Bool) (x : NameRead) (y : Parts) (m k next : ℕ) (v : Vocabulary Located) → name_seen (S.got x next v) ≡ S.got y next v
    → name_seen (pick held (S.refused 11 k) (pick room (S.got x next v) (S.refused 12 k))) ≡ named y (pick held (S.refused 11 k) (pick room (S.got m next v) (S.refused 12 k)))
seen_new true room x y m k next v e = refl
seen_new false true x y m k next v e = e
seen_new false false x y m k next v e = refl

-- a name in parts, of what is seen of its strings
module _ (q : NameLayout) (s : List ℕ) (b k : ℕ) where
  abbrev behind_local : Seen → Seen → Seen → ℕ → Vocabulary Located → S.Got Parts
  behind_local p n l k₃ v₃ =
      named (record { prefix = p.text; namespace = n.text; local = l.text }) (new_name link q.table (record { prefix = p.number; namespace = n.number; local = l.number }) k k₃ v₃)

  abbrev behind_namespace : Seen → Seen → ℕ → Vocabulary Located → S.Got Parts
  behind_namespace p n k₂ v₂ = S.then (local_field s k₂ v₂) λ l k₃ v₃. behind_local p n l k₃ v₃

  abbrev behind_prefix : Seen → ℕ → Vocabulary Located → S.Got Parts
  behind_prefix p k₁ v₁ = S.then (optional_seen (optional_at link (namespace_bit b) s NAMESPACE_NAME k₁ v₁)) λ n k₂ v₂. behind_namespace p n k₂ v₂

  parts_seen : (v : Vocabulary Located) → (b % 4 ≡ 2 → ⊥)
      → name_seen (parts_at link q s b k v) ≡ S.then (optional_seen (optional_at link (prefix_bit b) s PREFIX (suc k) v)) behind_prefix
  unfolding parts_at new_name table_of
  parts_seen v h =
      rw (ne_eqb (b % 4) 2 h)
      (seen_optional name_seen (λ n p. refl) behind_prefix (optional_at link (prefix_bit b) s PREFIX (suc k) v) _
      λ p k₁ v₁. seen_optional name_seen (λ n p. refl) (behind_namespace (record { text = optional_event_string p.string; number = p.number })) (optional_at link (namespace_bit b) s NAMESPACE_NAME k₁ v₁) _
      λ n k₂ v₂. seen_id_lem name_seen (λ n p. refl) (behind_local (record { text = optional_event_string p.string; number = p.number }) (record { text = optional_event_string n.string; number = n.number })) (id_at link s LOCAL_NAME k₂ v₂) _
      λ l k₃ v₃.
      let x : Triple = record { prefix = p.number; namespace = n.number; local = l.number } in
      seen_new (holds_name (names v₃ q.table) x) (ltb (length (names v₃ q.table)) link.entries) _ _ _ k k₃ (adding_name v₃ q.table x) refl)

module _ (q : NameLayout) (s : List ℕ) (b k : ℕ) (v : Vocabulary Located) (pn : ℕ) (ep : pn ≡ bits_of b 7 8) where
  pub parts_lone : pn ≡ 2 → S.refused 15 k ≡ name_seen (parts_at link q s b k v)
  unfolding parts_at
  parts_lone h = let z : b % 4 ≡ 2 = omega arith in rw (eq-eqb (b % 4) 2 z)

  module _ (paired : pn ≡ 2 → ⊥) where
    parts_first : name_seen (parts_at link q s b k v) ≡ S.then (prefix_field s pn k v) (behind_prefix q s b k)
    parts_first = let z : b % 4 ≡ 2 → ⊥ = omega arith in rw (← prefix_field_lem s b k v pn ep) (parts_seen q s b k v z)

    pub parts_prefix : (n p : ℕ) → S.refused n p ≡ prefix_field s pn k v → S.refused n p ≡ name_seen (parts_at link q s b k v)
    parts_prefix n p e = rw (parts_first, ← e)

    module _ (m : ℕ) (em : m ≡ bits_of b 8 8) (x₁ : Seen) (k₁ : ℕ) (v₁ : Vocabulary Located) (e₁ : S.got x₁ k₁ v₁ ≡ prefix_field s pn k v) where
      parts_second : name_seen (parts_at link q s b k v) ≡ S.then (namespace_field s m k₁ v₁) (behind_namespace q s b k x₁)
      parts_second = rw (parts_first, ← e₁, namespace_field_lem s b k₁ v₁ m em)

      pub parts_namespace : (n p : ℕ) → S.refused n p ≡ namespace_field s m k₁ v₁ → S.refused n p ≡ name_seen (parts_at link q s b k v)
      parts_namespace n p e = rw (parts_second, ← e)

      module _ (x₂ : Seen) (k₂ : ℕ) (v₂ : Vocabulary Located) (e₂ : S.got x₂ k₂ v₂ ≡ namespace_field s m k₁ v₁) where
        parts_third : name_seen (parts_at link q s b k v) ≡ behind_namespace q s b k x₁ x₂ k₂ v₂
        parts_third = rw (parts_second, ← e₂)

        pub parts-local : (n p : ℕ) → S.refused n p ≡ local_field s k₂ v₂ → S.refused n p ≡ name_seen (parts_at link q s b k v)
        parts-local n p e = rw (parts_third, ← e)

        -- t is the table's number, and r what adding the name gave
        pub parts-read : (x₃ : Seen) (k₃ : ℕ) (v₃ : Vocabulary Located) → S.got x₃ k₃ v₃ ≡ local_field s k₂ v₂ → (t : ℕ) → q.table ≡ name_table_of t → (r : Result (Read ℕ) Fault) (d u : List ℕ)
            → seen_number r d u ≡ new_name link (name_table_of t) (record { prefix = x₁.number; namespace = x₂.number; local = x₃.number }) k k₃ v₃
            → Says u t (record { prefix = x₁.text; namespace = x₂.text; local = x₃.text }) r → seen_name t r d u ≡ name_seen (parts_at link q s b k v)
        parts-read x₃ k₃ v₃ e₃ t et r d u h says = rw (parts_third, ← e₃, et, ← h) (by r says)
          where
            by : (a : Result (Read ℕ) Fault) → Says u t (record { prefix = x₁.text; namespace = x₂.text; local = x₃.text }) a
                → seen_name t a d u ≡ named (record { prefix = x₁.text; namespace = x₂.text; local = x₃.text }) (seen_number a d u)
            by (Ok r) e = ap (λ (y : Parts). S.got y r.next.at (vocabulary (unlisted d) u)) e
            by (Err f) e = refl

pub positive : (v : List ℕ) (t : ℕ) (x : Triple) (r : Result (Read ℕ) Fault) → NewRow v t x r → Positive r
positive v t x (Ok r) h = h.0
positive v t x (Err f) h = tt

-- ---- by number or in parts
module _ (q : NameLayout) (s : List ℕ) (b k : ℕ) (v : Vocabulary Located) (g : S.Got Parts) (i : ℕ) (e : i ≡ q.in_parts_bits) where
  pub name_numbered : b < i → g ≡ name_seen (numbered_at link q s k v) → g ≡ name_seen (name_at link q s b k v)
  unfolding name_at
  name_numbered h p = rw (lt-ltb b q.in_parts_bits (omega arith)) p

  pub name_parts : i ≤ b → g ≡ name_seen (parts_at link q s b k v) → g ≡ name_seen (name_at link q s b k v)
  unfolding name_at
  name_parts h p = rw (le-ltb b q.in_parts_bits (omega arith)) p

-- ---- a declaration
pub declared_missing : (s : List ℕ) (k : ℕ) (v : Vocabulary Located) → length s ≤ k → S.refused 2 k ≡ declared_seen (declared_at link s k v)
unfolding declared_at
declared_missing s k v h = rw (le-ltb k (length s) h)

module _ (s : List ℕ) (k : ℕ) (v : Vocabulary Located) (there : k < length s) where
  abbrev octet : ℕ
  octet = get_or s k 0

  pub declared_end : get_or s k 0 ≡ 0xF0 → S.refused 15 k ≡ declared_seen (declared_at link s k v)
  unfolding declared_at
  declared_end h = rw (lt-ltb k (length s) there, h)

  pub declared_padded : 0xF0 < get_or s k 0 → S.refused 6 k ≡ declared_seen (declared_at link s k v)
  unfolding declared_at
  declared_padded h =
      rw (lt-ltb k (length s) there, le-ltb octet 0xCC (omega arith), le-ltb octet 0xD0 (omega arith), le-ltb octet 0xF0 (omega arith), ne_eqb octet 0xF0 (omega arith))

  module _ (low : get_or s k 0 < 0xF0) (x : ℕ) (ex : x ≡ bits_of (get_or s k 0) 1 6) where
    pub declared_other : (x ≡ 0x33 → ⊥) → S.refused 5 k ≡ declared_seen (declared_at link s k v)
    unfolding declared_at
    declared_other h =
        rw (lt-ltb k (length s) there)
        (elim (dec_lt octet 0xCC) [
          | yes l ↦ rw (lt-ltb octet 0xCC l)
          | no l ↦ rw (le-ltb octet 0xCC (omega arith), le-ltb octet 0xD0 (omega arith), lt-ltb octet 0xF0 low)
        ])

    module _ (is : x ≡ 0x33) (pn : ℕ) (ep : pn ≡ bits_of (get_or s k 0) 7 8) where
      abbrev behind_first : Seen → ℕ → Vocabulary Located → S.Got Parts
      behind_first p k₁ v₁ =
          S.then (optional_seen (optional_at link (namespace_bit octet) s NAMESPACE_NAME k₁ v₁)) λ n k₂ v₂. S.got (record { prefix = p.text; namespace = n.text; local = Absent }) k₂ v₂

      declared_first : declared_seen (declared_at link s k v) ≡ S.then (prefix_field s pn k v) behind_first
      unfolding declared_at
      declared_first =
          rw (lt-ltb k (length s) there, le-ltb octet 0xCC (omega arith), lt-ltb octet 0xD0 (omega arith), ← prefix_field_lem s octet k v pn ep)
          (seen_optional declared_seen (λ n p. refl) behind_first (optional_at link (prefix_bit octet) s PREFIX (suc k) v) _
          λ p k₁ v₁. seen_optional declared_seen (λ n p. refl) _ (optional_at link (namespace_bit octet) s NAMESPACE_NAME k₁ v₁) _ λ n k₂ v₂. refl)

      pub declared_prefix : (n p : ℕ) → S.refused n p ≡ prefix_field s pn k v → S.refused n p ≡ declared_seen (declared_at link s k v)
      declared_prefix n p e = rw (declared_first, ← e)

      module _ (m : ℕ) (em : m ≡ bits_of (get_or s k 0) 8 8) (x₁ : Seen) (k₁ : ℕ) (v₁ : Vocabulary Located) (e₁ : S.got x₁ k₁ v₁ ≡ prefix_field s pn k v) where
        declared_second : declared_seen (declared_at link s k v) ≡ S.then (namespace_field s m k₁ v₁) λ n k₂ v₂. S.got (record { prefix = x₁.text; namespace = n.text; local = Absent }) k₂ v₂
        declared_second = rw (declared_first, ← e₁, namespace_field_lem s octet k₁ v₁ m em)

        pub declared_namespace : (n p : ℕ) → S.refused n p ≡ namespace_field s m k₁ v₁ → S.refused n p ≡ declared_seen (declared_at link s k v)
        declared_namespace n p e = rw (declared_second, ← e)

        pub declared_read : (x₂ : Seen) (k₂ : ℕ) (v₂ : Vocabulary Located) → S.got x₂ k₂ v₂ ≡ namespace_field s m k₁ v₁
            → S.got (record { prefix = x₁.text; namespace = x₂.text; local = Absent }) k₂ v₂ ≡ declared_seen (declared_at link s k v)
        declared_read x₂ k₂ v₂ e = rw (declared_second, ← e)

-- the numbers of a declaration's strings, and what they leave
pub declared_left : (s c w c₁ w₁ x₁ d v x : List ℕ) (k₁ k₂ p n : ℕ) → Left s c w k₁ c₁ w₁ x₁ × (p ≤ count_of (unlisted c₁) 0) → Left s c₁ w₁ k₂ d v x × (n ≤ count_of (unlisted d) 1)
    → Left s c w k₂ d v x × (p ≤ 256) × (n ≤ 256)
declared_left s c w c₁ w₁ x₁ d v x k₁ k₂ p n f g =
    let a = f.0.tidy.counted 0 in
    let b = g.0.tidy.counted 1 in
    (record { tidy = g.0.tidy; within = g.0.within; grown = grown_on c w c₁ w₁ d v f.0.grown g.0.grown }, omega arith, omega arith)
