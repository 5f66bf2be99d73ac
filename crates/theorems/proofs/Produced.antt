-- One event with a permitted choice is what the rules write, and its tables keep in order; the required choices are permitted ones.
use mathlib.Core.Path.{◌≡◌, refl, sym, ap, ◌∙◌, subst}
use mathlib.Core.Bool.{Bool, true, false}
use mathlib.Core.Option.{Option}
use mathlib.Core.List.{[], ◌∷◌, ◌++◌}
use Prim.Native.Nat.{ℕ, ◌+◌, ◌*◌, ◌≤◌, ◌<◌}
use native.Mathlib.Omega.{arith}
use borrow.Author.Tests.{ne_eqb}
use lib.Dec.{eqb}
use lib.ListN.{length}
use Rattle.format.specs.Octets.{Octets}
use Rattle.format.specs.Numbers.{sizes, numbers, c25, top}
use Rattle.format.specs.Events.{Name, Event, Namespace, Start, Attribute, Text, Comment, Instruction, End, How, NameHow, Item, ◌by◌, Choice}
use Rattle.format.specs.Tables.{StringTable, PREFIX, NAMESPACE_NAME, LOCAL_NAME, OTHER_NCNAME, ATTRIBUTE_VALUE, CONTENT_CHARACTER_CHUNK, OTHER_STRING, NameTable, ELEMENT_NAME, ATTRIBUTE_NAME, Vocabulary, strings, adding, Version, InLimits}
use Rattle.format.specs.Strings.{Spelling, bit, Layout, c15}
use Rattle.format.specs.declared.StringForm.TheVariants.{Utf8}
use Rattle.format.specs.Names.{has, of_element, of_attribute, Declared, declared}
use Rattle.format.specs.Items.{Mode, content, declaring, listing, State, may_start, knowing, moved, opened, ItemWrittenAs, o_start, o_first_namespace, o_namespace, o_named_start, o_attribute, o_text, o_comment, o_instruction}
use Rattle.format.specs.Document.{closed}
use Rattle.tables.specs.Rows.{place}
use Rattle.tables.proofs.Adding.{extended, strings-adding, strings-adding_name}
use Rattle.write_names.specs.Chosen.{Chose, choose_id, choose_optional, choose_name, choose_literal, choose_value, choose_for}
use Rattle.write_items.specs.Items.{before_declaration, before_name, name_lead}
use Rattle.theorems.specs.Permitted.{PermitsIfAny, Permits, a_declaration, a_start, an_attribute, a_chunk, a_comment, an_instruction, an_end}
use Rattle.theorems.proofs.Growing.{same_table, extended_few}
use Rattle.theorems.proofs.Chosen.{Grows, same_size, grows_on, fits_before, id_octets, optional_octets, name_octets, More, as_was, one_more_lem, id_more, optional_more, string_more, value_more, more_grows, id_case, id_rule, optional_case, optional_rule, SpellingIfAny, SpellingIfSome, string_octets, literal_octets, LiteralCase, lit_held, lit_new, literal_case, literal_more, literal_permits, literal_rule, value_octets, value_by, ValueCase, is_empty_lem, is_literal, value_case, value_adds, value_permits, value_rule, Ranged, more_ranged, NameCase, name_held, name_new, name_case, name_permits, name_grows, name_ranged, NameSaid, name_rule}

-- the tables in order: none over its limit, and each triple's numbers in range
pub record Order (ver : Version) (v : Vocabulary Octets) : Type 0 where
  pub fit : InLimits ver v
  pub ranged : Ranged v

-- ---- the tables that no identifying string is added to: they are added to only where there is room
pub record Rest (ver : Version) (v : Vocabulary Octets) : Type 0 where
  pub few : (t : StringTable) → 4 ≤ place t → length (strings v t) ≤ ver.entries

-- what stands in the other tables stays
same_rest : {ver : Version} {v w : Vocabulary Octets} → ((t : StringTable) → 4 ≤ place t → strings w t ≡ strings v t) → Rest ver v → Rest ver w
same_rest e r = record { few = λ t h. let a = r.few t h in let b = ap length (e t h) in omega arith }

other_tables : {t : StringTable} {v w : Vocabulary Octets} (u : StringTable) → place t < 4 → 4 ≤ place u → More t v w → strings w u ≡ strings v u
other_tables u a b as_was = refl
other_tables {t} {v} u a b (one_more_lem x) = strings-adding v t x u ∙ ap (λ (c : Bool). extended c (strings v u) x) (ne_eqb (place t) (place u) (λ e. omega arith))

adding_rest : {ver : Version} (v : Vocabulary Octets) (t : StringTable) (x : Octets) → length (strings v t) < ver.entries → Rest ver v → Rest ver (adding v t x)
adding_rest {ver} v t x room r =
    record {
      few = λ u h.
          rw (strings-adding v t x u)
          (extended_few (eqb (place t) (place u)) ver.entries (strings v u) x (r.few u h)
          (λ e. let z = same_table t u e in rw (← z) room));
    }

literal_rest : {ver : Version} {q : Layout} {t : StringTable} {v : Vocabulary Octets} {x : Octets} {c : Chose How} → LiteralCase ver q t v x c → Rest ver v → Rest ver c.tables
literal_rest (lit_held en) r = r
literal_rest {t = t} {v = v} {x = x} (lit_new {added = true} room) r = adding_rest v t x (room refl) r
literal_rest (lit_new {added = false} room) r = r

value_rest : {ver : Version} {t : StringTable} {v : Vocabulary Octets} {x : Octets} {c : Chose How} → ValueCase ver t v x c → Rest ver v → Rest ver c.tables
value_rest (is_empty_lem e) r = r
value_rest (is_literal h c) r = literal_rest c r

name_rest : (t : NameTable) (v : Vocabulary Octets) (x : Name Octets) {c : Chose NameHow} (u : StringTable) → 4 ≤ place u → NameCase t v x c → strings c.tables u ≡ strings v u
unfolding place
name_rest t v x u h (name_held en e) = refl
name_rest t v x u h (name_new m) =
    let p = choose_optional PREFIX v x.prefix in
    let n = choose_optional NAMESPACE_NAME p.tables x.namespace in
    strings-adding_name _ t _ u ∙ other_tables u (omega arith) h (id_more (id_case LOCAL_NAME n.tables x.local))
    ∙ other_tables u (omega arith) h (optional_more (optional_case NAMESPACE_NAME p.tables x.namespace)) ∙ other_tables u (omega arith) h (optional_more (optional_case PREFIX v x.prefix))

-- so it is after each event
pub rest_for : (C : Version) (v : Vocabulary Octets) (e : Event Octets) → Order C v → Rest C (choose_for C v e).tables
unfolding choose_for place
rest_for C v e o = go e (record { few = λ t h. o.fit.few t })
  where
    go : (e : Event Octets) → Rest C v → Rest C (choose_for C v e).tables
    go (Namespace p n) r =
        let a = optional_more (optional_case PREFIX v p) in
        let b = optional_more (optional_case NAMESPACE_NAME (choose_optional PREFIX v p).tables n) in
        same_rest (λ u h. other_tables u (omega arith) h b ∙ other_tables u (omega arith) h a) r
    go (Start x) r = same_rest (λ u h. name_rest ELEMENT_NAME v x u h (name_case ELEMENT_NAME v x o.ranged)) r
    go (Attribute x y) r =
        value_rest (value_case C ATTRIBUTE_VALUE (choose_name ATTRIBUTE_NAME v x).tables y)
        (same_rest (λ u h. name_rest ATTRIBUTE_NAME v x u h (name_case ATTRIBUTE_NAME v x o.ranged)) r)
    go (Text y) r = literal_rest (literal_case C c15 CONTENT_CHARACTER_CHUNK v y) r
    go (Comment y) r = value_rest (value_case C OTHER_STRING v y) r
    go (Instruction x y) r =
        value_rest (value_case C OTHER_STRING (choose_id OTHER_NCNAME v x).tables y)
        (same_rest (λ u h. other_tables u (omega arith) h (id_more (id_case OTHER_NCNAME v x))) r)
    go End r = r

-- ---- tables only grow, and the numbers of triples stay in range
pub permits_grows : {v w : Vocabulary Octets} {e : Event Octets} {c : Choice} → Permits v e c w → Grows v w
permits_grows (a_declaration up un) = grows_on (more_grows (optional_more up)) (more_grows (optional_more un))
permits_grows (a_start u) = name_grows u
permits_grows (an_attribute u y) = grows_on (name_grows u) (more_grows (value_more y))
permits_grows (a_chunk y) = more_grows (string_more y)
permits_grows (a_comment y) = more_grows (value_more y)
permits_grows (an_instruction u y) = grows_on (more_grows (id_more u)) (more_grows (value_more y))
permits_grows {v} an_end = same_size v

pub permits_ranged : {v w : Vocabulary Octets} {e : Event Octets} {c : Choice} → Permits v e c w → Ranged v → Ranged w
permits_ranged (a_declaration up un) r = more_ranged (optional_more un) (more_ranged (optional_more up) r)
permits_ranged (a_start u) r = name_ranged u r
permits_ranged (an_attribute u y) r = more_ranged (value_more y) (name_ranged u r)
permits_ranged (a_chunk y) r = more_ranged (string_more y) r
permits_ranged (a_comment y) r = more_ranged (value_more y) r
permits_ranged (an_instruction x y) r = more_ranged (value_more y) (more_ranged (id_more x) r)
permits_ranged an_end r = r

-- so they do with the required choices, also where a string is no text
pub ranged_for : (C : Version) (v : Vocabulary Octets) (e : Event Octets) → Ranged v → Ranged (choose_for C v e).tables
unfolding choose_for
ranged_for C v (Namespace p n) r = more_ranged (optional_more (optional_case NAMESPACE_NAME (choose_optional PREFIX v p).tables n)) (more_ranged (optional_more (optional_case PREFIX v p)) r)
ranged_for C v (Start x) r = name_ranged (name_permits ELEMENT_NAME v x (name_case ELEMENT_NAME v x r)) r
ranged_for C v (Attribute x y) r =
    more_ranged (value_adds (value_case C ATTRIBUTE_VALUE (choose_name ATTRIBUTE_NAME v x).tables y)) (name_ranged (name_permits ATTRIBUTE_NAME v x (name_case ATTRIBUTE_NAME v x r)) r)
ranged_for C v (Text y) r = more_ranged (literal_more (literal_case C c15 CONTENT_CHARACTER_CHUNK v y)) r
ranged_for C v (Comment y) r = more_ranged (value_adds (value_case C OTHER_STRING v y)) r
ranged_for C v (Instruction x y) r = more_ranged (value_adds (value_case C OTHER_STRING (choose_id OTHER_NCNAME v x).tables y)) (more_ranged (id_more (id_case OTHER_NCNAME v x)) r)
ranged_for C v End r = r

-- ---- one event
-- where an event may stand, a says whether an attribute follows its element's Start
pub data Where (ver : Version) (a : Bool) (v : State Octets) : Event Octets → Type 0 where
  first_namespace : {p n : Option Octets} → v.mode ≡ content → may_start v ≡ true → v.level < ver.depth → Where ver a v (Namespace p n)
  next_namespace : {p n : Option Octets} → v.mode ≡ declaring a → Where ver a v (Namespace p n)
  first-start : {x : Name Octets} → v.mode ≡ content → may_start v ≡ true → v.level < ver.depth → Where ver a v (Start x)
  named_start : {x : Name Octets} → v.mode ≡ declaring a → Where ver a v (Start x)
  in_list_lem : {x : Name Octets} {y : Octets} {any : Bool} → v.mode ≡ listing any → Where ver a v (Attribute x y)
  in_element : {y : Octets} → v.mode ≡ content → 0 < v.level → Where ver a v (Text y)
  comment : {y : Octets} → v.mode ≡ content → Where ver a v (Comment y)
  instruction : {x y : Octets} → v.mode ≡ content → Where ver a v (Instruction x y)

-- its strings can be said
abbrev pub Said : Event Octets → Type 0
Said (Namespace p n) = SpellingIfAny p × SpellingIfAny n
Said (Start x) = NameSaid x
Said (Attribute x y) = NameSaid x × SpellingIfSome y
Said (Text y) = Spelling Utf8 y y
Said (Comment y) = SpellingIfSome y
Said (Instruction x y) = Spelling Utf8 x x × SpellingIfSome y
Said End = Unit {0}

-- ---- the required choices are permitted ones
unfoldable pub permits_for : (C : Version) (v : Vocabulary Octets) (e : Event Octets) → Said e → Ranged v → Permits v e (choose_for C v e).how (choose_for C v e).tables
unfolding choose_for
permits_for C v (Namespace p n) s r = a_declaration (optional_case PREFIX v p) (optional_case NAMESPACE_NAME (choose_optional PREFIX v p).tables n)
permits_for C v (Start x) s r = a_start (name_permits ELEMENT_NAME v x (name_case ELEMENT_NAME v x r))
permits_for C v (Attribute x y) s r =
    an_attribute (name_permits ATTRIBUTE_NAME v x (name_case ATTRIBUTE_NAME v x r)) (value_permits s.1 (value_case C ATTRIBUTE_VALUE (choose_name ATTRIBUTE_NAME v x).tables y)).0
permits_for C v (Text y) s r = a_chunk (literal_permits s (literal_case C c15 CONTENT_CHARACTER_CHUNK v y)).0
permits_for C v (Comment y) s r = a_comment (value_permits s (value_case C OTHER_STRING v y)).0
permits_for C v (Instruction x y) s r = an_instruction (id_case OTHER_NCNAME v x) (value_permits s.1 (value_case C OTHER_STRING (choose_id OTHER_NCNAME v x).tables y)).0
permits_for C v End s r = an_end

-- what is known behind it, with these tables
abbrev pub behind : Bool → State Octets → Vocabulary Octets → Event Octets → State Octets
behind a v w (Namespace p n) = moved v w (declaring a)
behind a v w (Start x) = opened v w a
behind a v w (Attribute x y) = moved v w (listing true)
behind a v w (Text y) = knowing v w
behind a v w (Comment y) = knowing v w
behind a v w (Instruction x y) = knowing v w
behind a v w End = closed v

-- its octets, by the choice made for it; an End has none of its own
unfoldable pub octets_as : Bool → Mode → {v w : Vocabulary Octets} {e : Event Octets} {c : Choice} → Permits v e c w → Octets
octets_as a m (a_declaration {p = p} {n = n} {hp = hp} {hn = hn} up un) = before_declaration m a ++ ((0xCC + 2 * has p + has n) ∷ (optional_octets p hp ++ optional_octets n hn))
octets_as a m (a_start {x = x} {h = h} u) = before_name m ++ name_octets of_element (name_lead m a) x h
octets_as a m (an_attribute {x = x} {h = h} u z) = name_octets of_attribute 0 x h ++ value_octets z
octets_as a m (a_chunk u) = string_octets c15 u
octets_as a m (a_comment u) = 0xE2 ∷ value_octets u
octets_as a m (an_instruction {x = x} {h = h} u z) = 0xE1 ∷ (id_octets x h ++ value_octets z)
octets_as a m an_end = []

module _ (C : Version) where
  -- with the required choice
  unfoldable pub octets_by : Bool → State Octets → Event Octets → Octets
  octets_by a v (Namespace p n) =
      let x : Chose (Option How) = choose_optional PREFIX v.tables p in
      let y : Chose (Option How) = choose_optional NAMESPACE_NAME x.tables n in
      before_declaration v.mode a ++ ((0xCC + 2 * has p + has n) ∷ (optional_octets p x.how ++ optional_octets n y.how))
  octets_by a v (Start x) = before_name v.mode ++ name_octets of_element (name_lead v.mode a) x (choose_name ELEMENT_NAME v.tables x).how
  octets_by a v (Attribute x y) =
      let w : Chose NameHow = choose_name ATTRIBUTE_NAME v.tables x in
      name_octets of_attribute 0 x w.how ++ value_by y (choose_value C ATTRIBUTE_VALUE w.tables y).how
  octets_by a v (Text y) = literal_octets c15 y (choose_literal C c15 CONTENT_CHARACTER_CHUNK v.tables y).how
  octets_by a v (Comment y) = 0xE2 ∷ value_by y (choose_value C OTHER_STRING v.tables y).how
  octets_by a v (Instruction x y) =
      let w : Chose How = choose_id OTHER_NCNAME v.tables x in
      0xE1 ∷ (id_octets x w.how ++ value_by y (choose_value C OTHER_STRING w.tables y).how)
  octets_by a v End = []

  -- what is known behind it
  abbrev pub known_by : Bool → State Octets → Event Octets → State Octets
  known_by a v e = behind a v (choose_for C v.tables e).tables e

pub octets_by_lem : (C : Version) (a : Bool) (v : State Octets) (e : Event Octets) (s : Said e) (r : Ranged v.tables) → octets_as a v.mode (permits_for C v.tables e s r) ≡ octets_by C a v e
unfolding octets_as octets_by permits_for choose_for
octets_by_lem C a v (Namespace p n) s r = refl
octets_by_lem C a v (Start x) s r = refl
octets_by_lem C a v (Attribute x y) s r =
    let w = choose_name ATTRIBUTE_NAME v.tables x in
    ap (λ (o : Octets). name_octets of_attribute 0 x w.how ++ o) (value_permits s.1 (value_case C ATTRIBUTE_VALUE w.tables y)).1
octets_by_lem C a v (Text y) s r = (literal_permits s (literal_case C c15 CONTENT_CHARACTER_CHUNK v.tables y)).1
octets_by_lem C a v (Comment y) s r = ap (λ (o : Octets). 0xE2 ∷ o) (value_permits s (value_case C OTHER_STRING v.tables y)).1
octets_by_lem C a v (Instruction x y) s r =
    let w = choose_id OTHER_NCNAME v.tables x in
    ap (λ (o : Octets). 0xE1 ∷ (id_octets x w.how ++ o)) (value_permits s.1 (value_case C OTHER_STRING w.tables y)).1
octets_by_lem C a v End s r = refl

-- A permitted choice is what the rules write.
module _ (ver : Version) (small : ver.entries ≤ top) where
  -- the strings of a declaration
  declared_rule : {v v₁ w : Vocabulary Octets} {p n : Option Octets} {hp hn : Option How} {kp kn : ℕ} → SpellingIfAny p × SpellingIfAny n → InLimits ver w
      → PermitsIfAny PREFIX v p hp kp v₁ → PermitsIfAny NAMESPACE_NAME v₁ n hn kn w
      → Declared ver v p n hp hn ((0xCC + 2 * has p + has n) ∷ (optional_octets p hp ++ optional_octets n hn)) w
  declared_rule s f up un = declared (optional_rule ver small s.0 (fits_before (more_grows (optional_more un)) f) up) (optional_rule ver small s.1 f un)

  at_mode : (f : Mode → Octets) {m k : Mode} {v z : State Octets} {i : Item Octets} → m ≡ k → ItemWrittenAs ver v i (f k) z → ItemWrittenAs ver v i (f m) z
  at_mode f {v = v} {z} {i} e u = subst (λ (y : Mode). ItemWrittenAs ver v i (f y) z) (sym e) u

  pub made : (a : Bool) (v : State Octets) {e : Event Octets} {c : Choice} {w : Vocabulary Octets} → Said e → Where ver a v e → InLimits ver w → (p : Permits v.tables e c w)
      → ItemWrittenAs ver v (e by c) (octets_as a v.mode p) (behind a v w e)
  unfolding octets_as may_start of_element of_attribute c15 sizes numbers c25
  made a v s (first_namespace md may deep) f (a_declaration up un) = at_mode (λ m. octets_as a m (a_declaration up un)) md (o_first_namespace {a = a} md may deep (declared_rule s f up un))
  made a v s (next_namespace md) f (a_declaration up un) = at_mode (λ m. octets_as a m (a_declaration up un)) md (o_namespace {a = a} md (declared_rule s f up un))
  made a v s (first-start md may deep) f (a_start u) = at_mode (λ m. octets_as a m (a_start u)) md (o_start a md may deep (name_rule ver small of_element (omega arith) (64 * bit a) s f u))
  made a v s (named_start md) f (a_start u) = at_mode (λ m. octets_as a m (a_start u)) md (o_named_start md (name_rule ver small of_element (omega arith) 0 s f u))
  made a v s (in_list_lem md) f (an_attribute u y) = o_attribute md (name_rule ver small of_attribute (omega arith) 0 s.0 (fits_before (more_grows (value_more y)) f) u) (value_rule ver small f y)
  made a v s (in_element md lev) f (a_chunk y) = o_text md lev (literal_rule ver small (omega arith) s.some f y)
  made a v s (comment md) f (a_comment y) = o_comment md (value_rule ver small f y)
  made a v s (instruction md) f (an_instruction x y) = o_instruction md (id_rule ver small s.0 (fits_before (more_grows (value_more y)) f) x) (value_rule ver small f y)
