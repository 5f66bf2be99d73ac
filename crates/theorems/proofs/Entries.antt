-- How many entries the tables have behind permitted choices: they only grow, each by one at most with each event; and whether they pass a limit is decided.
use Prim.Native.Nat.{ℕ, ◌+◌, ◌≤◌, ◌<◌}
use mathlib.Core.Path.{◌≡◌, refl, ap, ◌∙◌}
use mathlib.Core.Bool.{Bool, true, false}
use mathlib.Core.List.{List, [], ◌∷◌}
use native.Mathlib.Omega.{arith}
use lib.Dec.{eqb}
use lib.ListN.{length, length-append}
use Rattle.format.specs.Octets.{Octets}
use Rattle.format.specs.Events.{Name, Event, NameHow, Choice, Item}
use Rattle.format.specs.Tables.{StringTable, PREFIX, NAMESPACE_NAME, LOCAL_NAME, OTHER_NCNAME, OTHER_URI, ATTRIBUTE_VALUE, CONTENT_CHARACTER_CHUNK, OTHER_STRING, NameTable, ELEMENT_NAME, ATTRIBUTE_NAME, Vocabulary, strings, names, Version, InLimits}
use Rattle.format.specs.Strings.{bit}
use Rattle.format.specs.Allowed.{All}
use Rattle.fields.proofs.Laws.{case}
use Rattle.tables.specs.Rows.{place}
use Rattle.tables.proofs.Adding.{extended, same_names, strings-adding, strings-adding_name, names-adding_name}
use Rattle.tables.proofs.ByNumber.{by_table_lem}
use Rattle.write_names.specs.Chosen.{choose_for, chosen, tables_after}
use Rattle.theorems.specs.Permitted.{PermitsName, name_parts, name_entry, Permits, a_declaration, a_start, an_attribute, a_chunk, a_comment, an_instruction, an_end, PermitsAll, no_item, an_item}
use Rattle.theorems.proofs.Growing.{extended_few}
use Rattle.theorems.proofs.Documents.{events}
use Rattle.theorems.proofs.Chosen.{Grows, same_size, grows_on, More, as_was, one_more_lem, id_more, optional_more, string_more, value_more, more-names, Ranged}
use Rattle.theorems.proofs.Produced.{Said, permits_for, permits_grows, ranged_for}

-- ---- one entry more, in one table
extended_adds : {A : Type 0} (b : Bool) (l : List A) (x : A) → length (extended b l x) ≤ length l + bit b
extended_adds true l x = let y = length-append l (x ∷ []) in omega arith
extended_adds false l x = omega arith

-- 1 for the table itself, 0 for another
abbrev own : StringTable → StringTable → ℕ
own t u = bit (eqb (place t) (place u))

module _ (u : StringTable) where
  more_adds : {t : StringTable} {v w : Vocabulary Octets} → More t v w → length (strings w u) ≤ length (strings v u) + own t u
  more_adds as_was = omega arith
  more_adds {t} {v} (one_more_lem x) = rw (strings-adding v t x u) (extended_adds (eqb (place t) (place u)) (strings v u) x)

  name_adds : {t : NameTable} {v w : Vocabulary Octets} {x : Name Octets} {h : NameHow} → PermitsName t v x h w
      → length (strings w u) ≤ length (strings v u) + own PREFIX u + own NAMESPACE_NAME u + own LOCAL_NAME u
  name_adds (name_entry en m) = omega arith
  name_adds (name_parts up un ul new) = let a = more_adds (optional_more up) in let b = more_adds (optional_more un) in let c = more_adds (id_more ul) in rw strings-adding_name (omega arith)

-- no event adds to one table twice
once : (u : StringTable) → own PREFIX u + own NAMESPACE_NAME u + own LOCAL_NAME u + own OTHER_NCNAME u + own ATTRIBUTE_VALUE u + own CONTENT_CHARACTER_CHUNK u + own OTHER_STRING u ≤ 1
unfolding place
once = by_table_lem _ (omega arith) (omega arith) (omega arith) (omega arith) (omega arith) (omega arith) (omega arith) (omega arith)

-- ---- with each event, each table by one at most
pub record Adds (n : ℕ) (v w : Vocabulary Octets) : Type 0 where
  pub few : (t : StringTable) → length (strings w t) ≤ length (strings v t) + n
  pub few_names : (t : NameTable) → length (names w t) ≤ length (names v t) + n

strings_for : {v w : Vocabulary Octets} {e : Event Octets} {c : Choice} → Permits v e c w → (u : StringTable) → length (strings w u) ≤ length (strings v u) + 1
strings_for (a_declaration up un) u = let a = more_adds u (optional_more up) in let b = more_adds u (optional_more un) in let o = once u in omega arith
strings_for (a_start x) u = let a = name_adds u x in let o = once u in omega arith
strings_for (an_attribute x y) u = let a = name_adds u x in let b = more_adds u (value_more y) in let o = once u in omega arith
strings_for (a_chunk y) u = let a = more_adds u (string_more y) in let o = once u in omega arith
strings_for (a_comment y) u = let a = more_adds u (value_more y) in let o = once u in omega arith
strings_for (an_instruction x y) u = let a = more_adds u (id_more x) in let b = more_adds u (value_more y) in let o = once u in omega arith
strings_for an_end u = omega arith

name_more : {t : NameTable} {v w : Vocabulary Octets} {x : Name Octets} {h : NameHow} (u : NameTable) → PermitsName t v x h w → length (names w u) ≤ length (names v u) + 1
name_more u (name_entry en m) = omega arith
name_more {t} {v} u (name_parts up un ul new) =
    let a = ap length (more-names (id_more ul) u ∙ more-names (optional_more un) u ∙ more-names (optional_more up) u) in
    rw names-adding_name (extended_few (same_names t u) (length (names v u) + 1) _ _ (omega arith) (λ e. omega arith))

names_for : {v w : Vocabulary Octets} {e : Event Octets} {c : Choice} → Permits v e c w → (u : NameTable) → length (names w u) ≤ length (names v u) + 1
names_for (a_declaration up un) u = let a = ap length (more-names (optional_more up) u) in let b = ap length (more-names (optional_more un) u) in omega arith
names_for (a_start x) u = name_more u x
names_for (an_attribute x y) u = let a = name_more u x in let b = ap length (more-names (value_more y) u) in omega arith
names_for (a_chunk y) u = let a = ap length (more-names (string_more y) u) in omega arith
names_for (a_comment y) u = let a = ap length (more-names (value_more y) u) in omega arith
names_for (an_instruction x y) u = let a = ap length (more-names (id_more x) u) in let b = ap length (more-names (value_more y) u) in omega arith
names_for an_end u = omega arith

-- ---- along a list
pub all_grow : {v w : Vocabulary Octets} {items : List (Item Octets)} → PermitsAll v items w → Grows v w
all_grow {v} no_item = same_size v
all_grow (an_item p ps) = grows_on (permits_grows p) (all_grow ps)

all_add : {v w : Vocabulary Octets} {items : List (Item Octets)} → PermitsAll v items w → Adds (length items) v w
all_add no_item = record { few = λ t. omega arith; few_names = λ t. omega arith }
all_add (an_item p ps) =
    let b = all_add ps in
    record {
      few = λ t. let x = strings_for p t in let y = b.few t in omega arith;
      few_names = λ t. let x = names_for p t in let y = b.few_names t in omega arith;
    }

-- The required choices, along a list
pub chosen_permitted : (C : Version) (v : Vocabulary Octets) (es : List (Event Octets)) → All Said es → Ranged v → PermitsAll v (chosen C v es) (tables_after C v es)
unfolding chosen tables_after
chosen_permitted C v [] s r = no_item
chosen_permitted C v (e ∷ es) s r = an_item (permits_for C v e s.0 r) (chosen_permitted C (choose_for C v e).tables es s.1 (ranged_for C v e r))

pub chosen_events : (C : Version) (v : Vocabulary Octets) (es : List (Event Octets)) → events (chosen C v es) ≡ es
unfolding chosen
chosen_events C v [] = refl
chosen_events C v (e ∷ es) = ap (λ (l : List (Event Octets)). e ∷ l) (chosen_events C (choose_for C v e).tables es)

-- ---- from tables none of which has more than so many entries
pub record AtMost (n : ℕ) (v : Vocabulary Octets) : Type 0 where
  pub few : (t : StringTable) → length (strings v t) ≤ n
  pub few_names : (t : NameTable) → length (names v t) ≤ n

-- a list that is short enough passes no limit
pub few_after : (M : Version) {n : ℕ} {items : List (Item Octets)} {v w : Vocabulary Octets} → AtMost n v → PermitsAll v items w → n + length items ≤ M.entries → InLimits M w
few_after M c ps h =
    let a = all_add ps in
    record {
      few = λ t. let x = a.few t in let y = c.few t in omega arith;
      few_names = λ t. let x = a.few_names t in let y = c.few_names t in omega arith;
    }

-- ---- a limit is kept by every table, or passed by one
module _ {X : Type 0} (n : ℕ) where
  of_strings_lem : (f : StringTable → ℕ) → (((t : StringTable) → f t ≤ n) → X) → ((t : StringTable) → n < f t → X) → X
  of_strings_lem f kept passed =
      check PREFIX λ a.
      check NAMESPACE_NAME λ b.
      check LOCAL_NAME λ c.
      check OTHER_NCNAME λ d.
      check OTHER_URI λ e.
      check ATTRIBUTE_VALUE λ g.
      check CONTENT_CHARACTER_CHUNK λ h.
      check OTHER_STRING λ i.
      kept (λ t. elim t as (λ u. f u ≤ n) [ PREFIX ↦ a | NAMESPACE_NAME ↦ b | LOCAL_NAME ↦ c | OTHER_NCNAME ↦ d | OTHER_URI ↦ e | ATTRIBUTE_VALUE ↦ g | CONTENT_CHARACTER_CHUNK ↦ h | OTHER_STRING ↦ i ])
    where
      check : (t : StringTable) → (f t ≤ n → X) → X
      check t k = case n (f t) (passed t) k

  of_names_lem : (f : NameTable → ℕ) → (((t : NameTable) → f t ≤ n) → X) → ((t : NameTable) → n < f t → X) → X
  of_names_lem f kept passed =
      case n (f ELEMENT_NAME) (passed ELEMENT_NAME) λ a.
      case n (f ATTRIBUTE_NAME) (passed ATTRIBUTE_NAME) λ b.
      kept (λ t. elim t as (λ u. f u ≤ n) [ ELEMENT_NAME ↦ a | ATTRIBUTE_NAME ↦ b ])

pub in_limits : (ver : Version) (v : Vocabulary Octets) → Dec (InLimits ver v)
in_limits ver v =
    of_strings_lem ver.entries (λ t. length (strings v t))
    (λ a.
    of_names_lem ver.entries (λ t. length (names v t)) (λ b. yes (record { few = a; few_names = b }))
    (λ t h. no (λ f. let x = f.few_names t in omega arith)))
    (λ t h. no (λ f. let x = f.few t in omega arith))
