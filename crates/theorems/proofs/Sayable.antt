-- The records that the writer takes are those that are well made; their strings, if they are text, can be spelled; and its test of an event is the requirements' five tests.
use mathlib.Core.Path.{◌≡◌, refl, sym, ap₂, subst}
use mathlib.Core.Logic.{◌↔◌}
use mathlib.Core.Bool.{Bool, true, not, ◌&&◌, ◌||◌, or-true}
use mathlib.Core.Option.{Option, none, some, map}
use mathlib.Core.List.{List, [], ◌∷◌, ◌++◌, append_assoc}
use Prim.Native.Nat.{◌+◌, ◌*◌, ◌≤◌}
use native.Mathlib.Omega.{arith}
use borrow.Author.Tests.{ltb-true, leb-true, lt-ltb, le-leb}
use lib.Dec.{ltb, leb}
use lib.ListN.{length, take, drop}
use Rattle.format.specs.Octets.{Octets}
use Rattle.format.specs.Numbers.{longest}
use Rattle.format.specs.Characters.{IsText}
use Rattle.format.specs.Events as E
use Rattle.format.specs.Events.{Name, name_map, event_map, if_any, strings_of}
use Rattle.format.specs.Tables.{xml_prefix, xml_namespace}
use Rattle.format.specs.Strings.{Spelling}
use Rattle.format.specs.Names.{has}
use Rattle.format.specs.Allowed as A
use Rattle.format.specs.Allowed.{All, SaidIfAny, AllowedName, Allowed}
use Rattle.format.specs.Forms.{width}
use Rattle.format.specs.declared.StringForm.{StringForm}
use Rattle.format.specs.declared.StringForm.TheVariants.{Utf8, Utf16, Numeric, Dates, Short, Int, Long}
use Rattle.fields.specs.Utf8.{is_text}
use Rattle.fields.proofs.Utf8.{told}
use Rattle.fields.proofs.Characters.{text_exact}
use Rattle.forms.specs.Reading as S
use Rattle.forms.specs.Reading.{is_text16, are_places, are_integers}
use Rattle.forms.proofs.Forms as F
use Rattle.forms.proofs.Forms.{sound_most}
use Rattle.events.specs.declared.EventString.{EventString}
use Rattle.events.specs.declared.EventString.TheVariants.{Absent, Empty, Stretch, XmlPrefix, XmlNamespace}
use Rattle.events.specs.declared.Kind.{Kind}
use Rattle.events.specs.declared.Kind.TheVariants.{Blank, Namespace, Start, Attribute, Chunk, Comment, Instruction, End}
use Rattle.events.specs.declared.Event.{Event}
use Rattle.events.specs.Records.{event_string, optional_event_string as stringIfAny, record_of, placed, unplaced, namespace_record, start_record, attribute_record, chunk_record, comment_record, instruction_record}
use Rattle.events.specs.WellMade.{IsStretch, inside_utf8, IsString, inside, IsPrefix, no_prefix, xml_prefix_lem, a_prefix, IsNamespace, no_namespace, xml_namespace_lem, a_namespace, IsValue, no_octets, some_octets, IsName, WellMade, a_declaration, a_start, an_attribute, a_chunk, a_comment, an_instruction, an_end}
use Rattle.tables.specs.Located.{Located, empty, stretch, built_in_prefix, built_in_namespace, octets_of}
use Rattle.tables.proofs.Search.{short_octets, length-octets}
use Rattle.write_items.specs.Events.{is_absent, is_stretch, is_string, is_prefix, is_namespace, is_value, is_name, no_name, well_made, located_of, optional_of, event_of, optional_text, name_text, all_text}
use Rattle.write_items.specs.Steps.{fits}
use Rattle.tables.proofs.Found.{clash, both_true}
use Rattle.theorems.specs.Verdicts.{plain_of}
use Rattle.theorems.proofs.Chosen.{SpellingIfAny, SpellingIfSome, NameSaid}
use Rattle.theorems.proofs.Produced.{Said}

pub both : {a b : Bool} → a ≡ true → b ≡ true → (a && b) ≡ true
both p q = ap₂ (λ (x y : Bool). x && y) p q

absent_is : (x : EventString) → is_absent x ≡ true → Absent ≡ x
absent_is Absent e = refl
absent_is Empty e = clash e
absent_is (Stretch form p n) e = clash e
absent_is XmlPrefix e = clash e
absent_is XmlNamespace e = clash e

-- ---- the writer's test of a record, and what the requirements say of it
module _ (s : Octets) where
  pub stretch_is : (x : EventString) → is_stretch s x ≡ true → IsStretch s x
  stretch_is Absent e = clash e
  stretch_is Empty e = clash e
  stretch_is (Stretch Utf8 p n) e = let a = both_true (ltb 0 n) (leb (p + n) (length s)) e in inside_utf8 (ltb-true 0 n a.0) (leb-true (p + n) (length s) a.1)
  stretch_is (Stretch Utf16 p n) e = clash e
  stretch_is (Stretch Numeric p n) e = clash e
  stretch_is (Stretch Dates p n) e = clash e
  stretch_is (Stretch Short p n) e = clash e
  stretch_is (Stretch Int p n) e = clash e
  stretch_is (Stretch Long p n) e = clash e
  stretch_is XmlPrefix e = clash e
  stretch_is XmlNamespace e = clash e

  pub is_stretch_lem : {x : EventString} → IsStretch s x → is_stretch s x ≡ true
  is_stretch_lem (inside_utf8 h k) = both (lt-ltb _ _ h) (le-leb _ _ k)

  pub string_is : (x : EventString) → is_string s x ≡ true → IsString s x
  string_is Absent e = clash e
  string_is Empty e = clash e
  string_is (Stretch form p n) e = let a = both_true (ltb 0 n) (leb (p + n) (length s)) e in inside (ltb-true 0 n a.0) (leb-true (p + n) (length s) a.1)
  string_is XmlPrefix e = clash e
  string_is XmlNamespace e = clash e

  pub is_string_lem : {x : EventString} → IsString s x → is_string s x ≡ true
  is_string_lem (inside h k) = both (lt-ltb _ _ h) (le-leb _ _ k)

  -- a stretch in utf-8 is one in some form
  pub as_string : {x : EventString} → IsStretch s x → IsString s x
  as_string (inside_utf8 h k) = inside h k

  prefix_is : (x : EventString) → is_prefix s x ≡ true → IsPrefix s x
  prefix_is Absent e = no_prefix
  prefix_is Empty e = clash e
  prefix_is (Stretch form p n) e = a_prefix (stretch_is (Stretch form p n) e)
  prefix_is XmlPrefix e = xml_prefix_lem
  prefix_is XmlNamespace e = clash e

  is_prefix_lem : {x : EventString} → IsPrefix s x → is_prefix s x ≡ true
  is_prefix_lem no_prefix = refl
  is_prefix_lem xml_prefix_lem = refl
  is_prefix_lem (a_prefix (inside_utf8 h k)) = is_stretch_lem (inside_utf8 h k)

  namespace_is : (x : EventString) → is_namespace s x ≡ true → IsNamespace s x
  namespace_is Absent e = no_namespace
  namespace_is Empty e = clash e
  namespace_is (Stretch form p n) e = a_namespace (stretch_is (Stretch form p n) e)
  namespace_is XmlPrefix e = clash e
  namespace_is XmlNamespace e = xml_namespace_lem

  is_namespace_lem : {x : EventString} → IsNamespace s x → is_namespace s x ≡ true
  is_namespace_lem no_namespace = refl
  is_namespace_lem xml_namespace_lem = refl
  is_namespace_lem (a_namespace (inside_utf8 h k)) = is_stretch_lem (inside_utf8 h k)

  value_is : (x : EventString) → is_value s x ≡ true → IsValue s x
  value_is Absent e = clash e
  value_is Empty e = no_octets
  value_is (Stretch form p n) e = some_octets (string_is (Stretch form p n) e)
  value_is XmlPrefix e = clash e
  value_is XmlNamespace e = clash e

  is_value_lem : {x : EventString} → IsValue s x → is_value s x ≡ true
  is_value_lem no_octets = refl
  is_value_lem (some_octets (inside {form = form} h k)) = is_string_lem (inside {form = form} h k)

  -- a prefix only with a namespace
  alone_is : (p n : EventString) → (is_absent p || not (is_absent n)) ≡ true → n ≡ Absent → p ≡ Absent
  alone_is Absent n e q = refl
  alone_is Empty n e q = clash (rw q at e)
  alone_is (Stretch form a b) n e q = clash (rw q at e)
  alone_is XmlPrefix n e q = clash (rw q at e)
  alone_is XmlNamespace n e q = clash (rw q at e)

  is_alone : (p n : EventString) → (n ≡ Absent → p ≡ Absent) → (is_absent p || not (is_absent n)) ≡ true
  is_alone p Absent f = rw (f refl)
  is_alone p Empty f = or-true (is_absent p)
  is_alone p (Stretch form a b) f = or-true (is_absent p)
  is_alone p XmlPrefix f = or-true (is_absent p)
  is_alone p XmlNamespace f = or-true (is_absent p)

  name_is : (e : Event) → is_name s e ≡ true → IsName s e.prefix e.namespace e.name
  unfolding is_name
  name_is e m =
      let a = both_true (is_prefix s e.prefix) _ m in
      let b = both_true (is_namespace s e.namespace) _ a.1 in
      let c = both_true (is_stretch s e.name) _ b.1 in
      record { a_prefix = prefix_is e.prefix a.0; a_namespace = namespace_is e.namespace b.0; a_local = stretch_is e.name c.0; not_alone = alone_is e.prefix e.namespace c.1 }

  is_name_lem : (e : Event) → IsName s e.prefix e.namespace e.name → is_name s e ≡ true
  unfolding is_name
  is_name_lem e m = both (is_prefix_lem m.a_prefix) (both (is_namespace_lem m.a_namespace) (both (is_stretch_lem m.a_local) (is_alone e.prefix e.namespace m.not_alone)))

  rebuilt : (e : Event) (k : Kind) (p n l v : EventString) → k ≡ e.kind → p ≡ e.prefix → n ≡ e.namespace → l ≡ e.name → v ≡ e.value → record { kind = k; prefix = p; namespace = n; name = l; value = v; place = e.place } ≡ e
  rebuilt e k p n l v a b c d f = λ i. record { kind = a i; prefix = b i; namespace = c i; name = d i; value = f i; place = e.place }

  pub made_is : (e : Event) (k : Kind) → e.kind ≡ k → well_made s k e ≡ true → WellMade s e
  unfolding well_made no_name
  made_is e Blank q m = clash m
  made_is e Namespace q m =
      let a = both_true (is_prefix s e.prefix) _ m in
      let b = both_true (is_namespace s e.namespace) _ a.1 in
      let c = both_true (is_absent e.name) _ b.1 in
      subst (WellMade s) (rebuilt e Namespace _ _ _ _ (sym q) refl refl (absent_is e.name c.0) (absent_is e.value c.1)) (a_declaration (prefix_is e.prefix a.0) (namespace_is e.namespace b.0))
  made_is e Start q m =
      let a = both_true (is_name s e) (is_absent e.value) m in
      subst (WellMade s) (rebuilt e Start _ _ _ _ (sym q) refl refl refl (absent_is e.value a.1)) (a_start (name_is e a.0))
  made_is e Attribute q m =
      let a = both_true (is_name s e) (is_value s e.value) m in
      subst (WellMade s) (rebuilt e Attribute _ _ _ _ (sym q) refl refl refl refl) (an_attribute (name_is e a.0) (value_is e.value a.1))
  made_is e Chunk q m =
      let a = both_true (is_absent e.prefix && is_absent e.namespace) _ m in
      let b = both_true (is_absent e.prefix) (is_absent e.namespace) a.0 in
      let c = both_true (is_absent e.name) _ a.1 in
      subst (WellMade s) (rebuilt e Chunk _ _ _ _ (sym q) (absent_is e.prefix b.0) (absent_is e.namespace b.1) (absent_is e.name c.0) refl) (a_chunk (string_is e.value c.1))
  made_is e Comment q m =
      let a = both_true (is_absent e.prefix && is_absent e.namespace) _ m in
      let b = both_true (is_absent e.prefix) (is_absent e.namespace) a.0 in
      let c = both_true (is_absent e.name) _ a.1 in
      subst (WellMade s) (rebuilt e Comment _ _ _ _ (sym q) (absent_is e.prefix b.0) (absent_is e.namespace b.1) (absent_is e.name c.0) refl) (a_comment (value_is e.value c.1))
  made_is e Instruction q m =
      let a = both_true (is_absent e.prefix && is_absent e.namespace) _ m in
      let b = both_true (is_absent e.prefix) (is_absent e.namespace) a.0 in
      let c = both_true (is_stretch s e.name) _ a.1 in
      subst (WellMade s) (rebuilt e Instruction _ _ _ _ (sym q) (absent_is e.prefix b.0) (absent_is e.namespace b.1) refl refl) (an_instruction (stretch_is e.name c.0) (value_is e.value c.1))
  made_is e End q m =
      let a = both_true (is_absent e.prefix && is_absent e.namespace) _ m in
      let b = both_true (is_absent e.prefix) (is_absent e.namespace) a.0 in
      let c = both_true (is_absent e.name) _ a.1 in
      subst (WellMade s) (rebuilt e End _ _ _ _ (sym q) (absent_is e.prefix b.0) (absent_is e.namespace b.1) (absent_is e.name c.0) (absent_is e.value c.1)) an_end

  pub is_made : {e : Event} → WellMade s e → well_made s e.kind e ≡ true
  unfolding well_made no_name
  is_made (a_declaration p n) = both (is_prefix_lem p) (both (is_namespace_lem n) refl)
  is_made (a_start {place = k} {p = p} {n = n} {l = l} m) = both (is_name_lem (placed k (start_record p n l)) m) refl
  is_made (an_attribute {place = k} {p = p} {n = n} {l = l} {v = v} m y) = both (is_name_lem (placed k (attribute_record p n l v)) m) (is_value_lem y)
  is_made (a_chunk y) = is_string_lem y
  is_made (a_comment y) = is_value_lem y
  is_made (an_instruction x y) = both (is_stretch_lem x) (is_value_lem y)
  is_made an_end = refl

  -- ---- a record that is well made is that of its event
  optional_back : (x : EventString) → stringIfAny (optional_of x) ≡ x
  optional_back Absent = refl
  optional_back Empty = refl
  optional_back (Stretch form p n) = refl
  optional_back XmlPrefix = refl
  optional_back XmlNamespace = refl

  string_back : {x : EventString} → IsString s x → event_string (located_of x) ≡ x
  string_back (inside h k) = refl

  value_back : {x : EventString} → IsValue s x → event_string (located_of x) ≡ x
  value_back no_octets = refl
  value_back (some_octets y) = string_back y

  pub record_back : {e : Event} → WellMade s e → record_of (event_of e.kind e) ≡ unplaced e
  unfolding event_of record_of
  record_back (a_declaration {p = p} {n = n} x y) = λ i. namespace_record (optional_back p i) (optional_back n i)
  record_back (a_start {p = p} {n = n} m) = λ i. start_record (optional_back p i) (optional_back n i) (string_back (as_string m.a_local) i)
  record_back (an_attribute {p = p} {n = n} m y) = λ i. attribute_record (optional_back p i) (optional_back n i) (string_back (as_string m.a_local) i) (value_back y i)
  record_back (a_chunk y) = λ i. chunk_record (string_back y i)
  record_back (a_comment y) = λ i. comment_record (value_back y i)
  record_back (an_instruction x y) = λ i. instruction_record (string_back (as_string x) i) (value_back y i)
  record_back an_end = refl

-- ---- the strings of an event, by its kind
-- What holds of a string, if there is one; of the strings of a name; of those of an event.
abbrev pub IfAny : (Octets → Type 0) → Option Octets → Type 0
IfAny P none = Unit {0}
IfAny P (some x) = P x

abbrev pub EachOfName : (Octets → Type 0) → Name Octets → Type 0
EachOfName P x = IfAny P x.prefix × IfAny P x.namespace × P x.local

abbrev pub Each : (Octets → Type 0) → E.Event Octets → Type 0
Each P (E.Namespace p n) = IfAny P p × IfAny P n
Each P (E.Start x) = EachOfName P x
Each P (E.Attribute x y) = EachOfName P x × P y
Each P (E.Text y) = P y
Each P (E.Comment y) = P y
Each P (E.Instruction x y) = P x × P y
Each P E.End = Unit {0}

module _ (P : Octets → Type 0) where
  any_last : (x : Option Octets) → All P (if_any x) → IfAny P x
  any_last none a = tt
  any_last (some x) a = a.0

  any_first : (x : Option Octets) (l : List Octets) → All P (if_any x ++ l) → IfAny P x × All P l
  any_first none l a = (tt, a)
  any_first (some x) l a = a

  last_any : (x : Option Octets) → IfAny P x → All P (if_any x)
  last_any none a = tt
  last_any (some x) a = (a, tt)

  first_any : (x : Option Octets) (l : List Octets) → IfAny P x → All P l → All P (if_any x ++ l)
  first_any none l a b = b
  first_any (some x) l a b = (a, b)

  name_first : (x : Name Octets) (l : List Octets) → All P (if_any x.prefix ++ (if_any x.namespace ++ (x.local ∷ l))) → EachOfName P x × All P l
  name_first x l a =
      let b = any_first x.prefix _ a in
      let c = any_first x.namespace _ b.1 in
      ((b.0, c.0, c.1.0), c.1.1)

  first_name : (x : Name Octets) (l : List Octets) → EachOfName P x → All P l → All P (if_any x.prefix ++ (if_any x.namespace ++ (x.local ∷ l)))
  first_name x l a b = first_any x.prefix _ a.0 (first_any x.namespace _ a.1 (a.2, b))

  pub by_kind : (e : E.Event Octets) → All P (strings_of e) → Each P e
  unfolding strings_of
  by_kind (E.Namespace p n) a = let b = any_first p (if_any n) a in (b.0, any_last n b.1)
  by_kind (E.Start x) a = (name_first x [] a).0
  by_kind (E.Attribute x y) a = let b = name_first x (y ∷ []) (simp append_assoc at a) in (b.0, b.1.0)
  by_kind (E.Text y) a = a.0
  by_kind (E.Comment y) a = a.0
  by_kind (E.Instruction x y) a = (a.0, a.1.0)
  by_kind E.End a = tt

  pub in_order : (e : E.Event Octets) → Each P e → All P (strings_of e)
  unfolding strings_of
  in_order (E.Namespace p n) a = first_any p (if_any n) a.0 (last_any n a.1)
  in_order (E.Start x) a = first_name x [] a tt
  in_order (E.Attribute x y) a = simp append_assoc (first_name x (y ∷ []) a.0 (a.1, tt))
  in_order (E.Text y) a = (a, tt)
  in_order (E.Comment y) a = (a, tt)
  in_order (E.Instruction x y) a = (a.0, (a.1, tt))
  in_order E.End a = tt

-- ---- strings that are allowed can be spelled, if they are not too long
abbrev pub Sayable : Octets → Type 0
Sayable x = length x ≤ longest

said_one : (x : Octets) → A.Said x → Sayable x → Spelling Utf8 x x
said_one x a b = record { some = a.0; fits = b; formed = (a.1, refl) }

said_some : (x : Octets) → IsText x → Sayable x → SpellingIfSome x
said_some x a b h = record { some = h; fits = b; formed = (a, refl) }

said_any : (x : Option Octets) → SaidIfAny x → IfAny Sayable x → SpellingIfAny x
said_any none a b = tt
said_any (some x) a b = said_one x a b

said_name : (x : Name Octets) → AllowedName x → EachOfName Sayable x → NameSaid x
said_name x a b =
    record { prefix = said_any x.prefix a.prefix b.0; namespace = said_any x.namespace a.namespace b.1; local = said_one x.local a.local b.2; pair = a.not_alone }

pub said : (e : E.Event Octets) → Allowed e → Each Sayable e → Said e
said (E.Namespace p n) a b = (said_any p a.0 b.0, said_any n a.1 b.1)
said (E.Start x) a b = said_name x a b
said (E.Attribute x y) a b = (said_name x a.0 b.0, said_some y a.1 b.1)
said (E.Text y) a b = said_one y a b
said (E.Comment y) a b = said_some y a b
said (E.Instruction x y) a b = (said_one x a.0 b.0, said_some y a.1 b.1)
said E.End a b = tt

-- and they are text
any_is_text : (x : Option Octets) → SaidIfAny x → IfAny IsText x
any_is_text none a = tt
any_is_text (some x) a = a.1

name_is_text : (x : Name Octets) → AllowedName x → EachOfName IsText x
name_is_text x a = (any_is_text x.prefix a.prefix, any_is_text x.namespace a.namespace, a.local.1)

pub allowed_text : (e : E.Event Octets) → Allowed e → Each IsText e
allowed_text (E.Namespace p n) a = (any_is_text p a.0, any_is_text n a.1)
allowed_text (E.Start x) a = name_is_text x a
allowed_text (E.Attribute x y) a = (name_is_text x a.0, a.1)
allowed_text (E.Text y) a = a.1
allowed_text (E.Comment y) a = a
allowed_text (E.Instruction x y) a = (a.0.1, a.1)
allowed_text E.End a = tt

-- ---- the strings of a record over a text area
module _ (text : Octets) where
  abbrev f : Located → Octets
  f = octets_of text

  exact : (x : Located) → (is_text (f x) ≡ true) ↔ IsText (f x)
  exact x = text_exact (f x)

  -- the writer's test of them
  optional_text_lem : (x : Option Located) → optional_text text x ≡ true → IfAny IsText (map f x)
  optional_text_lem none e = tt
  optional_text_lem (some x) e = (exact x).0 e

  text_optional : (x : Option Located) → IfAny IsText (map f x) → optional_text text x ≡ true
  text_optional none e = refl
  text_optional (some x) e = (exact x).1 e

  name_text_lem : (x : Name Located) → name_text text x ≡ true → EachOfName IsText (name_map f x)
  unfolding name_text
  name_text_lem x e =
      let a = both_true (optional_text text x.prefix) _ e in
      let b = both_true (optional_text text x.namespace) _ a.1 in
      (optional_text_lem x.prefix a.0, optional_text_lem x.namespace b.0, (exact x.local).0 b.1)

  text_name : (x : Name Located) → EachOfName IsText (name_map f x) → name_text text x ≡ true
  unfolding name_text
  text_name x a = both (text_optional x.prefix a.0) (both (text_optional x.namespace a.1) ((exact x.local).1 a.2))

  pub all_text_lem : (e : E.Event Located) → all_text text e ≡ true → Each IsText (event_map f e)
  unfolding all_text event_map
  all_text_lem (E.Namespace p n) t = let a = both_true (optional_text text p) _ t in (optional_text_lem p a.0, optional_text_lem n a.1)
  all_text_lem (E.Start x) t = name_text_lem x t
  all_text_lem (E.Attribute x y) t = let a = both_true (name_text text x) _ t in (name_text_lem x a.0, (exact y).0 a.1)
  all_text_lem (E.Text y) t = (exact y).0 t
  all_text_lem (E.Comment y) t = (exact y).0 t
  all_text_lem (E.Instruction x y) t = let a = both_true (is_text (f x)) _ t in ((exact x).0 a.0, (exact y).0 a.1)
  all_text_lem E.End t = tt

  pub text_all : (e : E.Event Located) → Each IsText (event_map f e) → all_text text e ≡ true
  unfolding all_text event_map
  text_all (E.Namespace p n) t = both (text_optional p t.0) (text_optional n t.1)
  text_all (E.Start x) t = text_name x t
  text_all (E.Attribute x y) t = both (text_name x t.0) ((exact y).1 t.1)
  text_all (E.Text y) t = (exact y).1 t
  text_all (E.Comment y) t = (exact y).1 t
  text_all (E.Instruction x y) t = both ((exact x).1 t.0) ((exact y).1 t.1)
  text_all E.End t = refl

  -- none is longer than four times the text area, or than the built-in ones
  short_said : (form : StringForm) (o : Octets) → 4 * length o ≤ longest → Sayable (S.said form o)
  short_said Utf8 o h = omega arith
  short_said Utf16 o h = told (is_text16 o) (λ e. let l = sound_most Utf16 o e in omega arith) (λ e. rw e (omega arith))
  short_said Numeric o h = told (are_places o) (λ e. let l = sound_most Numeric o e in omega arith) (λ e. rw e (omega arith))
  short_said Dates o h = told (are_places o) (λ e. let l = sound_most Dates o e in omega arith) (λ e. rw e (omega arith))
  short_said Short o h = told (are_integers (width Short) o) (λ e. let l = sound_most Short o e in omega arith) (λ e. rw e (omega arith))
  short_said Int o h = told (are_integers (width Int) o) (λ e. let l = sound_most Int o e in omega arith) (λ e. rw e (omega arith))
  short_said Long o h = told (are_integers (width Long) o) (λ e. let l = sound_most Long o e in omega arith) (λ e. rw e (omega arith))

  module _ (short : 4 * length text ≤ longest) where
    pub short_one : (x : Located) → Sayable (f x)
    unfolding octets_of xml_prefix xml_namespace
    short_one empty = omega arith
    short_one (stretch form p n) = let a = short_octets text p n in short_said form (take n (drop p text)) (omega arith)
    short_one built_in_prefix = omega arith
    short_one built_in_namespace = omega arith

    short_any : (x : Option Located) → IfAny Sayable (map f x)
    short_any none = tt
    short_any (some x) = short_one x

    pub all_short : (e : E.Event Located) → Each Sayable (event_map f e)
    unfolding event_map
    all_short (E.Namespace p n) = (short_any p, short_any n)
    all_short (E.Start x) = (short_any x.prefix, short_any x.namespace, short_one x.local)
    all_short (E.Attribute x y) = ((short_any x.prefix, short_any x.namespace, short_one x.local), short_one y)
    all_short (E.Text y) = short_one y
    all_short (E.Comment y) = short_one y
    all_short (E.Instruction x y) = (short_one x, short_one y)
    all_short E.End = tt

  -- a record that is well made, its strings text, is an event as the requirements allow it
  pub string_said : {x : EventString} → IsString text x → IsText (f (located_of x)) → A.Said (f (located_of x))
  unfolding octets_of
  string_said (inside {form = form} {place = p} {size = n} h k) t = let l = length-octets text p n k in (F.said_some form (take n (drop p text)) (omega arith), t)

  prefix_said : {x : EventString} → IsPrefix text x → IfAny IsText (map f (optional_of x)) → SaidIfAny (map f (optional_of x))
  unfolding octets_of xml_prefix
  prefix_said no_prefix t = tt
  prefix_said xml_prefix_lem t = (omega arith, t)
  prefix_said (a_prefix (inside_utf8 h k)) t = string_said (inside {form = Utf8} h k) t

  namespace_said : {x : EventString} → IsNamespace text x → IfAny IsText (map f (optional_of x)) → SaidIfAny (map f (optional_of x))
  unfolding octets_of xml_namespace
  namespace_said no_namespace t = tt
  namespace_said xml_namespace_lem t = (omega arith, t)
  namespace_said (a_namespace (inside_utf8 h k)) t = string_said (inside {form = Utf8} h k) t

  one_or_none : (x : Option Octets) → has x ≤ 1
  one_or_none none = omega arith
  one_or_none (some x) = omega arith

  paired : (p n : EventString) → (n ≡ Absent → p ≡ Absent) → has (map f (optional_of p)) ≤ has (map f (optional_of n))
  paired p Absent c = rw (c refl) (omega arith)
  paired p Empty c = one_or_none (map f (optional_of p))
  paired p (Stretch form a b) c = one_or_none (map f (optional_of p))
  paired p XmlPrefix c = one_or_none (map f (optional_of p))
  paired p XmlNamespace c = one_or_none (map f (optional_of p))

  name_allowed : {p n l : EventString} → IsName text p n l → EachOfName IsText (name_map f (record { prefix = optional_of p; namespace = optional_of n; local = located_of l }))
      → AllowedName (name_map f (record { prefix = optional_of p; namespace = optional_of n; local = located_of l }))
  name_allowed {p} {n} m t =
      record { prefix = prefix_said m.a_prefix t.0; namespace = namespace_said m.a_namespace t.1; local = string_said (as_string text m.a_local) t.2; not_alone = paired p n m.not_alone }

  pub made_allowed : {e : Event} → WellMade text e → Each IsText (plain_of text e) → Allowed (plain_of text e)
  unfolding event_of event_map
  made_allowed (a_declaration p n) t = (prefix_said p t.0, namespace_said n t.1)
  made_allowed (a_start m) t = name_allowed m t
  made_allowed (an_attribute m y) t = (name_allowed m t.0, t.1)
  made_allowed (a_chunk y) t = string_said y t
  made_allowed (a_comment y) t = t
  made_allowed (an_instruction x y) t = (string_said (as_string text x) t.0, t.1)
  made_allowed an_end t = tt
