-- The choices that the requirements fix, for strings and names: the octets that go with each are what the rules write, and the tables are theirs.
use mathlib.Core.Path.{◌≡◌, refl, sym, ap, ◌∙◌, subst}
use mathlib.Core.Bool.{Bool, true, false, not}
use mathlib.Core.Option.{Option, none, some}
use mathlib.Core.List.{List, [], ◌∷◌, ◌++◌}
use Prim.Native.Nat.{ℕ, zero, suc, ◌+◌, ◌-◌, ◌*◌, ◌≤◌, ◌<◌}
use native.Mathlib.Omega.{arith}
use borrow.Author.Tests.{ltb-true, eq-eqb, ne_eqb}
use lib.Dec.{eqb, ltb, leb}
use lib.ListN.{length, length-append}
use Rattle.format.specs.Octets.{Octets}
use Rattle.format.specs.Numbers.{pick, spell, sizes, lengths, c25, top}
use Rattle.format.specs.Events.{Name, How, spelled, numbered, NameHow, in_parts, by_number}
use Rattle.format.specs.Tables.{StringTable, PREFIX, NAMESPACE_NAME, LOCAL_NAME, NameTable, ELEMENT_NAME, ATTRIBUTE_NAME, Triple, Vocabulary, strings, names, adding, adding_name, Entry, New, first, later, Behind, nothing, an_entry, Means, Version, InLimits}
use Rattle.format.specs.declared.StringForm.TheVariants.{Utf8}
use Rattle.format.specs.Strings.{with_length, Spelling, in_format, bit, Layout, c14, keeping, Identifying, id_spelled, id_numbered, Optional, absent, present, Literal, literal_spelled, literal_numbered, Value, value_empty, value}
use Rattle.format.specs.Names.{has, NameLayout, Named, in_parts_lem, by_number_lem}
use Rattle.tables.specs.Search.{number_in, number_of_triple}
use Rattle.tables.specs.Rows.{place}
use Rattle.tables.proofs.EntryLaws.{entry_made}
use Rattle.tables.proofs.Adding.{extended, same_names, strings-adding, names-adding, strings-adding_name, names-adding_name}
use Rattle.tables.proofs.Laws.{holds-number, number_entry, holds_name-number, name_number_entry}
use Rattle.write_names.specs.Choices.{field_in, form_for, worth_adding}
use Rattle.write_names.specs.Chosen.{Chose, choose_id, choose_optional, choose_name, choose_literal, choose_value}
use Rattle.tables.proofs.Found.{clash, both_true}
use Rattle.tables.proofs.NewLaws.{new_string, new_name_lem}
use Rattle.theorems.specs.Permitted.{PermitsId, id_new, id_entry, PermitsIfAny, not_there, there, PermitsString, string_spelled, string_entry, PermitsValue, value_none, value_spelled, value_entry, PermitsName, name_parts, name_entry}
use Rattle.theorems.proofs.Forms.{has_form, has-spelling, chosen_spelling}

-- ---- tables grow, and stay within the limits
pub record Grows {S T : Type 0} (v : Vocabulary S) (w : Vocabulary T) : Type 0 where
  pub strings_grow : (t : StringTable) → length (strings v t) ≤ length (strings w t)
  pub names_grow : (t : NameTable) → length (names v t) ≤ length (names w t)

pub same_size : {S : Type 0} (v : Vocabulary S) → Grows v v
same_size v = record { strings_grow = λ t. omega arith; names_grow = λ t. omega arith }

pub grows_on : {S : Type 0} {v w z : Vocabulary S} → Grows v w → Grows w z → Grows v z
grows_on a b =
    record {
      strings_grow = λ t. let x = a.strings_grow t in let y = b.strings_grow t in omega arith;
      names_grow = λ t. let x = a.names_grow t in let y = b.names_grow t in omega arith;
    }

extended_grows : {A : Type 0} (t : Bool) (l : List A) (x : A) → length l ≤ length (extended t l x)
extended_grows true l x = let y = length-append l (x ∷ []) in omega arith
extended_grows false l x = omega arith

pub adding_grows : {S : Type 0} (v : Vocabulary S) (t : StringTable) (x : S) → Grows v (adding v t x)
adding_grows v t x =
    record {
      strings_grow = λ u. let e = ap length (strings-adding v t x u) in let g = extended_grows (eqb (place t) (place u)) (strings v u) x in omega arith;
      names_grow = λ u. let e = ap length (names-adding v t x u) in omega arith;
    }

pub adding_name_grows : {S : Type 0} (v : Vocabulary S) (t : NameTable) (x : Triple) → Grows v (adding_name v t x)
adding_name_grows v t x =
    record {
      strings_grow = λ u. let e = ap length (strings-adding_name v t x u) in omega arith;
      names_grow = λ u. let e = ap length (names-adding_name v t x u) in let g = extended_grows (same_names t u) (names v u) x in omega arith;
    }

pub fits_before : {ver : Version} {S : Type 0} {v w : Vocabulary S} → Grows v w → InLimits ver w → InLimits ver v
fits_before g f =
    record {
      few = λ t. let a = g.strings_grow t in let b = f.few t in omega arith;
      few_names = λ t. let a = g.names_grow t in let b = f.few_names t in omega arith;
    }

one_longer : {S : Type 0} (v : Vocabulary S) (t : StringTable) (x : S) → length (strings (adding v t x) t) ≡ suc (length (strings v t))
one_longer v t x =
    let e = ap length (strings-adding v t x t ∙ ap (λ (b : Bool). extended b (strings v t) x) (eq-eqb (place t) (place t) refl)) in
    let l = length-append (strings v t) (x ∷ []) in
    omega arith

-- ---- what a permitted choice for a string does with the tables: one entry more in its table, or nothing
pub data More (t : StringTable) (v : Vocabulary Octets) : Vocabulary Octets → Type 0 where
  as_was : More t v v
  one_more_lem : (x : Octets) → More t v (adding v t x)

keeping-more : (b : Bool) {t : StringTable} {v : Vocabulary Octets} (x : Octets) → More t v (keeping b v t x)
keeping-more true x = one_more_lem x
keeping-more false x = as_was

pub id_more : {t : StringTable} {v : Vocabulary Octets} {x : Octets} {h : How} {n : ℕ} {w : Vocabulary Octets} → PermitsId t v x h n w → More t v w
id_more (id_entry en) = as_was
id_more {x = x} (id_new h) = one_more_lem x

pub optional_more : {t : StringTable} {v w : Vocabulary Octets} {x : Option Octets} {h : Option How} {n : ℕ} → PermitsIfAny t v x h n w → More t v w
optional_more not_there = as_was
optional_more (there c) = id_more c

pub string_more : {t : StringTable} {v w : Vocabulary Octets} {x : Octets} {h : How} → PermitsString t v x h w → More t v w
string_more (string_entry en) = as_was
string_more {x = x} (string_spelled a y) = keeping-more a x

pub value_more : {t : StringTable} {v w : Vocabulary Octets} {x : Octets} {h : How} → PermitsValue t v x h w → More t v w
value_more value_none = as_was
value_more {x = x} (value_spelled a long y) = keeping-more a x
value_more (value_entry en) = as_was

pub more_grows : {t : StringTable} {v w : Vocabulary Octets} → More t v w → Grows v w
more_grows {v = v} as_was = same_size v
more_grows {t} {v} (one_more_lem x) = adding_grows v t x

pub more-names : {t : StringTable} {v w : Vocabulary Octets} → More t v w → (u : NameTable) → names w u ≡ names v u
more-names as_was u = refl
more-names {t} {v} (one_more_lem x) u = names-adding v t x u

-- ---- the octets of an identifying string or a name, from how it is written
abbrev pub id_octets : Octets → How → Octets
id_octets x (spelled form added) = with_length (lengths 2) 0 x
id_octets x (numbered k) = spell c25 0x80 k

abbrev pub optional_octets : Option Octets → Option How → Octets
optional_octets none h = []
optional_octets (some x) none = []
optional_octets (some x) (some h) = id_octets x h

abbrev pub name_octets : NameLayout → ℕ → Name Octets → NameHow → Octets
name_octets q lead x (in_parts hp hn hl) =
    (lead + q.in_parts_bits + 2 * has x.prefix + has x.namespace) ∷ (optional_octets x.prefix hp ++ (optional_octets x.namespace hn ++ id_octets x.local hl))
name_octets q lead x (by_number k) = spell q.number_forms lead k

-- ---- an identifying string is held, or new: the required choice is a permitted one
abbrev IdCase : StringTable → Vocabulary Octets → Octets → Chose How → Type 0
IdCase t v x c = PermitsId t v x c.how c.number c.tables

-- what a number other than 0 says
found : (t : StringTable) (v : Vocabulary Octets) (x : Octets) (n : ℕ) → number_in (strings v t) x ≡ suc n → Entry (strings v t) n x
found t v x n e =
    let en = rw e at (number_entry (strings v t) x (λ z. absurd (omega arith))) in
    let y : suc n - 1 ≡ n = omega arith in
    rw y at en

module _ (t : StringTable) (v : Vocabulary Octets) (x : Octets) where
  id_from : (k : ℕ) → number_in (strings v t) x ≡ k
      → IdCase t v x (pick (eqb k 0) (record { how = spelled Utf8 true; number = suc (length (strings v t)); tables = adding v t x }) (record { how = numbered k; number = k; tables = v }))
  id_from zero e = id_new ((new_string (strings v t) x).0 (holds-number (strings v t) x ∙ ap (λ (k : ℕ). not (eqb k 0)) e))
  id_from (suc n) e = rw (ne_eqb (suc n) 0 (λ z. omega arith)) (id_entry {k = n} (found t v x n e))

  pub id_case : IdCase t v x (choose_id t v x)
  unfolding choose_id
  id_case = id_from (number_in (strings v t) x) refl

module _ (ver : Version) (small : ver.entries ≤ top) where
  pub id_rule : {t : StringTable} {v : Vocabulary Octets} {x : Octets} {h : How} {n : ℕ} {w : Vocabulary Octets} → Spelling Utf8 x x → InLimits ver w → PermitsId t v x h n w → Identifying ver t v x h n (id_octets x h) w
  id_rule {t} {v} sp f (id_entry {k = j} en) = let a = f.few t in let h = entry_made en in id_numbered {k = j} (omega arith) en
  id_rule {t} {v} {x = x} sp f (id_new h) = let o = one_longer v t x in let a = f.few t in id_spelled sp h (omega arith)

-- one that may be absent
abbrev OptionalCase : StringTable → Vocabulary Octets → Option Octets → Chose (Option How) → Type 0
OptionalCase t v x c = PermitsIfAny t v x c.how c.number c.tables

pub optional_case : (t : StringTable) (v : Vocabulary Octets) (x : Option Octets) → OptionalCase t v x (choose_optional t v x)
unfolding choose_optional
optional_case t v none = not_there
optional_case t v (some x) = there (id_case t v x)

-- what can be spelled, if it is there
abbrev pub SpellingIfAny : Option Octets → Type 0
SpellingIfAny none = Unit {0}
SpellingIfAny (some x) = Spelling Utf8 x x

module _ (ver : Version) (small : ver.entries ≤ top) where
  pub optional_rule : {t : StringTable} {v w : Vocabulary Octets} {x : Option Octets} {h : Option How} {n : ℕ} → SpellingIfAny x → InLimits ver w → PermitsIfAny t v x h n w
      → Optional ver t v x h n (optional_octets x h) w
  optional_rule sp f not_there = absent
  optional_rule sp f (there c) = present (id_rule ver small sp f c)

-- ---- C.14, C.15
-- the octets of a string with a permitted choice
abbrev pub string_octets : (q : Layout) {t : StringTable} {v w : Vocabulary Octets} {x : Octets} {h : How} → PermitsString t v x h w → Octets
string_octets q (string_spelled {form = form} added y) = in_format q.length_bit form (q.spelled_bits + q.add_bit * bit added) y.octets
string_octets q (string_entry {k = k} en) = spell q.number_forms q.numbered_bits (suc k)

-- with the required one
abbrev pub literal_octets : Layout → Octets → How → Octets
literal_octets q x (spelled form added) = field_in q.length_bit form (q.spelled_bits + q.add_bit * bit added) x
literal_octets q x (numbered k) = spell q.number_forms q.numbered_bits k

pub data LiteralCase (ver : Version) (q : Layout) (t : StringTable) (v : Vocabulary Octets) (x : Octets) : Chose How → Type 0 where
  lit_held : {j : ℕ} → Entry (strings v t) j x → LiteralCase ver q t v x (record { how = numbered (suc j); number = suc j; tables = v })
  lit_new : {added : Bool} → (added ≡ true → length (strings v t) < ver.entries)
      → LiteralCase ver q t v x (record { how = spelled (form_for q.length_bit x) added; number = 0; tables = keeping added v t x })

module _ (ver : Version) (q : Layout) (t : StringTable) (v : Vocabulary Octets) (x : Octets) where
  literal_from : (k : ℕ) (added : Bool) → number_in (strings v t) x ≡ k → (added ≡ true → length (strings v t) < ver.entries)
      → LiteralCase ver q t v x (pick (eqb k 0) (record { how = spelled (form_for q.length_bit x) added; number = 0; tables = keeping added v t x }) (record { how = numbered k; number = k; tables = v }))
  literal_from zero added e r = lit_new r
  literal_from (suc n) added e r = rw (ne_eqb (suc n) 0 (λ z. omega arith)) (lit_held {j = n} (found t v x n e))

  worth_room : worth_adding ver (strings v t) x ≡ true → length (strings v t) < ver.entries
  unfolding worth_adding
  worth_room e = ltb-true (length (strings v t)) ver.entries (both_true (leb (length x) 5) (ltb (length (strings v t)) ver.entries) e).1

  pub literal_case : LiteralCase ver q t v x (choose_literal ver q t v x)
  unfolding choose_literal
  literal_case = literal_from (number_in (strings v t) x) (worth_adding ver (strings v t) x) refl worth_room

module _ {ver : Version} {q : Layout} {t : StringTable} {v : Vocabulary Octets} {x : Octets} where
  pub literal_more : {c : Chose How} → LiteralCase ver q t v x c → More t v c.tables
  literal_more (lit_held en) = as_was
  literal_more (lit_new {added = a} r) = keeping-more a x

  -- the required choice is a permitted one, and its octets are those
  pub literal_permits : {c : Chose How} → Spelling Utf8 x x → LiteralCase ver q t v x c → (p : PermitsString t v x c.how c.tables) × (string_octets q p ≡ literal_octets q x c.how)
  unfolding field_in
  literal_permits sp (lit_held en) = (string_entry en, refl)
  literal_permits sp (lit_new {added = a} r) = (string_spelled a (has_form (chosen_spelling q.length_bit x sp)), refl)

module _ (ver : Version) (small : ver.entries ≤ top) where
  -- one that is added had room
  had_room : (added : Bool) (v : Vocabulary Octets) (t : StringTable) (x : Octets) → InLimits ver (keeping added v t x) → added ≡ true → length (strings v t) < ver.entries
  had_room true v t x f e = let o = one_longer v t x in let a = f.few t in omega arith
  had_room false v t x f e = clash e

  pub literal_rule : {q : Layout} {t : StringTable} {v w : Vocabulary Octets} {x : Octets} {h : How} → top ≤ sizes q.number_forms → 0 < length x → InLimits ver w
      → (p : PermitsString t v x h w) → Literal ver q t v x h (string_octets q p) w
  literal_rule {t = t} big long f (string_entry {k = j} en) =
      let a = f.few t in
      let h = entry_made en in
      literal_numbered {k = j} (omega arith) (omega arith) en
  literal_rule {t = t} {v = v} {x = x} big long f (string_spelled added y) = literal_spelled (has-spelling long y) (had_room added v t x f)

-- ---- values
abbrev pub value_octets : {t : StringTable} {v w : Vocabulary Octets} {x : Octets} {h : How} → PermitsValue t v x h w → Octets
value_octets value_none = 0xFF ∷ []
value_octets {t} {v} (value_spelled added long y) = string_octets c14 {t = t} {v = v} (string_spelled added y)
value_octets {t} {v} (value_entry en) = string_octets c14 {t = t} {v = v} (string_entry en)

-- with the required choice: the number 0 is that of the empty string
abbrev pub value_by : Octets → How → Octets
value_by x (spelled form added) = literal_octets c14 x (spelled form added)
value_by x (numbered zero) = 0xFF ∷ []
value_by x (numbered (suc k)) = literal_octets c14 x (numbered (suc k))

pub data ValueCase (ver : Version) (t : StringTable) (v : Vocabulary Octets) (x : Octets) : Chose How → Type 0 where
  is_empty_lem : x ≡ [] → ValueCase ver t v x (record { how = numbered 0; number = 0; tables = v })
  is_literal : {c : Chose How} → 0 < length x → LiteralCase ver c14 t v x c → ValueCase ver t v x c

pub value_case : (ver : Version) (t : StringTable) (v : Vocabulary Octets) (x : Octets) → ValueCase ver t v x (choose_value ver t v x)
unfolding choose_value
value_case ver t v [] = is_empty_lem refl
value_case ver t v (b ∷ x) = rw (ne_eqb (length (b ∷ x)) 0 (λ z. omega arith)) (is_literal (omega arith) (literal_case ver c14 t v (b ∷ x)))

-- A text that may be spelled, or be empty.
abbrev pub SpellingIfSome : Octets → Type 0
SpellingIfSome x = 0 < length x → Spelling Utf8 x x

module _ {ver : Version} {t : StringTable} {v : Vocabulary Octets} {x : Octets} where
  pub value_adds : {c : Chose How} → ValueCase ver t v x c → More t v c.tables
  value_adds (is_empty_lem e) = as_was
  value_adds (is_literal h l) = literal_more l

  pub value_permits : {c : Chose How} → SpellingIfSome x → ValueCase ver t v x c → (p : PermitsValue t v x c.how c.tables) × (value_octets p ≡ value_by x c.how)
  unfolding field_in
  value_permits sp (is_empty_lem e) = rw e (value_none, refl)
  value_permits sp (is_literal h (lit_held en)) = (value_entry en, refl)
  value_permits sp (is_literal h (lit_new {added = a} r)) = (value_spelled a h (has_form (chosen_spelling c14.length_bit x (sp h))), refl)

pub literal_value : {ver : Version} {t : StringTable} {v : Vocabulary Octets} {x : Octets} {c : Chose How} → LiteralCase ver c14 t v x c → value_by x c.how ≡ literal_octets c14 x c.how
literal_value (lit_held en) = refl
literal_value (lit_new r) = refl

module _ (ver : Version) (small : ver.entries ≤ top) where
  pub value_rule : {t : StringTable} {v w : Vocabulary Octets} {x : Octets} {h : How} → InLimits ver w → (p : PermitsValue t v x h w) → Value ver t v x h (value_octets p) w
  unfolding c14 sizes c25
  value_rule f value_none = value_empty
  value_rule {t} {v} {x = x} f (value_spelled added long y) = value (literal_spelled (has-spelling long y) (had_room ver small added v t x f))
  value_rule {t} f (value_entry {k = j} en) =
      let a = f.few t in
      let h = entry_made en in
      value (literal_numbered {k = j} (omega arith) (omega arith) en)

-- ---- names: the numbers of a triple are of entries that are there
pub record InRange {S : Type 0} (v : Vocabulary S) (x : Triple) : Type 0 where
  pub prefix : x.prefix ≤ length (strings v PREFIX)
  pub namespace : x.namespace ≤ length (strings v NAMESPACE_NAME)
  pub some_local : 0 < x.local
  pub local : x.local ≤ length (strings v LOCAL_NAME)

abbrev pub Ranged : {S : Type 0} → Vocabulary S → Type 0
Ranged v = (t : NameTable) (k : ℕ) (x : Triple) → Entry (names v t) k x → InRange v x

pub in_range_on : {S : Type 0} {v w : Vocabulary S} {x : Triple} → Grows v w → InRange v x → InRange w x
in_range_on g r =
    let d = g.strings_grow PREFIX in
    let e = g.strings_grow NAMESPACE_NAME in
    let f = g.strings_grow LOCAL_NAME in
    record { prefix = omega arith; namespace = omega arith; some_local = r.some_local; local = omega arith }

-- more strings, the same names
pub more_ranged : {t : StringTable} {v w : Vocabulary Octets} → More t v w → Ranged v → Ranged w
more_ranged m r t k x e = in_range_on (more_grows m) (r t k x (rw (more-names m t) at e))

-- what holds of a table's entries and of one more
of_extended : {A : Type 0} {P : A → Type 0} (b : Bool) (l : List A) (x : A) → ((k : ℕ) (y : A) → Entry l k y → P y) → P x → (k : ℕ) (y : A) → Entry (extended b l x) k y → P y
of_extended false l x f p k y e = f k y e
of_extended true [] x f p k y first = p
of_extended true [] x f p _ y (later {k = j} e) = elim e [ ]
of_extended true (z ∷ l) x f p k y first = f 0 z first
of_extended true (z ∷ l) x f p k y (later {k = j} e) = of_extended true l x (λ i w u. f (suc i) w (later u)) p j y e

-- one name more
pub ranged_name : {S : Type 0} {v : Vocabulary S} (t : NameTable) (x : Triple) → InRange v x → Ranged v → Ranged (adding_name v t x)
ranged_name {v = v} t x i r u k y e =
    let g = adding_name_grows v t x in
    of_extended {P = InRange (adding_name v t x)} (same_names t u) (names v u) x (λ j z h. in_range_on g (r u j z h)) (in_range_on g i) k y (rw (names-adding_name v t x u) at e)

same-names-longer : (t : NameTable) (l : List Triple) (x : Triple) → length (extended (same_names t t) l x) ≡ suc (length l)
unfolding same_names
same-names-longer ELEMENT_NAME l x = let y = length-append l (x ∷ []) in omega arith
same-names-longer ATTRIBUTE_NAME l x = let y = length-append l (x ∷ []) in omega arith

-- the number is in range of the table then
id_number : {t : StringTable} {v : Vocabulary Octets} {x : Octets} {h : How} {n : ℕ} {w : Vocabulary Octets} → PermitsId t v x h n w → n ≤ length (strings w t)
id_number (id_entry en) = entry_made en
id_number {t} {v} {x = x} (id_new h) = let o = one_longer v t x in omega arith

optional_number : {t : StringTable} {v w : Vocabulary Octets} {x : Option Octets} {h : Option How} {n : ℕ} → PermitsIfAny t v x h n w → n ≤ length (strings w t)
optional_number not_there = omega arith
optional_number (there c) = id_number c

id_some : {t : StringTable} {v : Vocabulary Octets} {x : Octets} {h : How} {n : ℕ} {w : Vocabulary Octets} → PermitsId t v x h n w → 0 < n
id_some (id_entry en) = omega arith
id_some (id_new h) = omega arith

-- a number of the table before is that of a string which was held
id_was : {t : StringTable} {v : Vocabulary Octets} {x : Octets} {h : How} {n : ℕ} {w : Vocabulary Octets} → PermitsId t v x h n w → n ≤ length (strings v t) → (w ≡ v) × Behind (strings v t) n (some x)
id_was (id_entry en) r = (refl, an_entry en)
id_was (id_new h) r = absurd (omega arith)

optional_was : {t : StringTable} {v w : Vocabulary Octets} {x : Option Octets} {h : Option How} {n : ℕ} → PermitsIfAny t v x h n w → n ≤ length (strings v t) → (w ≡ v) × Behind (strings v t) n x
optional_was not_there r = (refl, nothing)
optional_was (there c) r = id_was c r

-- ---- a name is held, or comes in parts
module _ (t : NameTable) (v : Vocabulary Octets) (x : Name Octets) where
  abbrev p : Chose (Option How)
  p = choose_optional PREFIX v x.prefix

  abbrev n : Chose (Option How)
  n = choose_optional NAMESPACE_NAME p.tables x.namespace

  abbrev l : Chose How
  l = choose_id LOCAL_NAME n.tables x.local

  abbrev cp : OptionalCase PREFIX v x.prefix p
  cp = optional_case PREFIX v x.prefix

  abbrev cn : OptionalCase NAMESPACE_NAME p.tables x.namespace n
  cn = optional_case NAMESPACE_NAME p.tables x.namespace

  abbrev cl : IdCase LOCAL_NAME n.tables x.local l
  cl = id_case LOCAL_NAME n.tables x.local

  abbrev triple : Triple
  triple = record { prefix = p.number; namespace = n.number; local = l.number }

  pub data NameCase : Chose NameHow → Type 0 where
    name_held : {j : ℕ} → Entry (names v t) j triple → Means v triple x → NameCase (record { how = by_number (suc j); number = suc j; tables = v })
    name_new : New (names l.tables t) triple
        → NameCase (record { how = in_parts p.how n.how l.how; number = suc (length (names l.tables t)); tables = adding_name l.tables t triple })

  no_names : (u : NameTable) → names l.tables u ≡ names v u
  no_names u = more-names (id_more cl) u ∙ more-names (optional_more cn) u ∙ more-names (optional_more cp) u

  -- parts with numbers of the tables before: the triple names the name
  name_was : InRange v triple → Means v triple x
  unfolding strings
  name_was r =
      let a = optional_was cp r.prefix in
      let n1 = subst (λ (w : Vocabulary Octets). n.number ≤ length (strings w NAMESPACE_NAME)) (sym a.0) r.namespace in
      let b = optional_was cn n1 in
      let e : n.tables ≡ v = b.0 ∙ a.0 in
      let l1 = subst (λ (w : Vocabulary Octets). l.number ≤ length (strings w LOCAL_NAME)) (sym e) r.local in
      let c = id_was cl l1 in
      record {
        prefix = a.1;
        namespace = subst (λ (w : Vocabulary Octets). Behind (strings w NAMESPACE_NAME) n.number x.namespace) a.0 b.1;
        local = subst (λ (w : Vocabulary Octets). Behind (strings w LOCAL_NAME) l.number (some x.local)) e c.1;
      }

  name_from : Ranged v → (k : ℕ) → number_of_triple (names l.tables t) triple ≡ k
      → NameCase (pick (eqb k 0)
      (record { how = in_parts p.how n.how l.how; number = suc (length (names l.tables t)); tables = adding_name l.tables t triple })
      (record { how = by_number k; number = k; tables = v }))
  name_from r zero e = name_new ((new_name_lem (names l.tables t) triple).0 (holds_name-number (names l.tables t) triple ∙ ap (λ (k : ℕ). not (eqb k 0)) e))
  name_from r (suc m) e =
      let en = rw e at (name_number_entry (names l.tables t) triple (λ z. absurd (omega arith))) in
      let y : suc m - 1 ≡ m = omega arith in
      let no = no_names t in
      let here : Entry (names v t) m triple = rw (y, no) at en in
      rw (ne_eqb (suc m) 0 (λ u. omega arith)) (name_held {j = m} here (name_was (r t m triple here)))

  pub name_case : Ranged v → NameCase (choose_name t v x)
  unfolding choose_name
  name_case r = name_from r (number_of_triple (names l.tables t) triple) refl

  pub name_permits : {c : Chose NameHow} → NameCase c → PermitsName t v x c.how c.tables
  name_permits (name_held en m) = name_entry en m
  name_permits (name_new h) = name_parts cp cn cl h

-- ---- a permitted name
pub name_grows : {t : NameTable} {v w : Vocabulary Octets} {x : Name Octets} {h : NameHow} → PermitsName t v x h w → Grows v w
name_grows {t} (name_parts {v₃ = v₃} up un ul new) = grows_on (more_grows (optional_more up)) (grows_on (more_grows (optional_more un)) (grows_on (more_grows (id_more ul)) (adding_name_grows v₃ t _)))
name_grows {v = v} (name_entry en m) = same_size v

pub name_ranged : {t : NameTable} {v w : Vocabulary Octets} {x : Name Octets} {h : NameHow} → PermitsName t v x h w → Ranged v → Ranged w
name_ranged {t} (name_parts up un ul new) r =
    let a = optional_number up in
    let b = optional_number un in
    let c = id_number ul in
    let d = (grows_on (more_grows (optional_more un)) (more_grows (id_more ul))).strings_grow PREFIX in
    let e = (more_grows (id_more ul)).strings_grow NAMESPACE_NAME in
    ranged_name t _ (record { prefix = omega arith; namespace = omega arith; some_local = id_some ul; local = c })
    (more_ranged (id_more ul) (more_ranged (optional_more un) (more_ranged (optional_more up) r)))
name_ranged (name_entry en m) r = r

-- what can be said of a name's strings
pub record NameSaid (x : Name Octets) : Type 0 where
  pub prefix : SpellingIfAny x.prefix
  pub namespace : SpellingIfAny x.namespace
  pub local : Spelling Utf8 x.local x.local
  pub pair : has x.prefix ≤ has x.namespace

module _ (ver : Version) (small : ver.entries ≤ top) (q : NameLayout) (big : top ≤ sizes q.number_forms) (lead : ℕ) where
  pub name_rule : {v w : Vocabulary Octets} {x : Name Octets} {h : NameHow} → NameSaid x → InLimits ver w → PermitsName q.table v x h w → Named ver q lead v x h (name_octets q lead x h) w
  name_rule s f (name_entry {k = j} en m) =
      let a = f.few_names q.table in
      let h = entry_made en in
      by_number_lem {k = j} (omega arith) (omega arith) en m
  name_rule s f (name_parts {kp = kp} {kn = kn} {kl = kl} {v₃ = w} up un ul new) =
      let y : Triple = record { prefix = kp; namespace = kn; local = kl } in
      let fl = fits_before (adding_name_grows w q.table y) f in
      let fn = fits_before (more_grows (id_more ul)) fl in
      let fp = fits_before (more_grows (optional_more un)) fn in
      let longer = ap length (names-adding_name w q.table y q.table) in
      let one = same-names-longer q.table (names w q.table) y in
      let room = f.few_names q.table in
      in_parts_lem s.pair (optional_rule ver small s.prefix fp up) (optional_rule ver small s.namespace fn un) (id_rule ver small s.local fl ul) new (omega arith)
