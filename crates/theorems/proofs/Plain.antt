-- The strings of written events are as the requirements allow; and, for any kind of strings, what holds of all that is spelled holds of every string of an event.
use Prim.Native.Nat.{ℕ, zero, suc, ◌≤◌}
use mathlib.Core.Path.{◌≡◌, refl, sym, subst}
use mathlib.Core.Bool.{true, false}
use mathlib.Core.Option.{Option, none, some}
use mathlib.Core.List.{List, []}
use lib.Dec.{eqb}
use Rattle.format.specs.Octets.{Octets}
use Rattle.format.specs.Characters.{utf8s, IsText}
use Rattle.format.specs.Events.{Name, Event, Namespace, Start, Attribute, Text, Comment, Instruction, End, How, NameHow, Item}
use Rattle.format.specs.Tables.{StringTable, PREFIX, NAMESPACE_NAME, LOCAL_NAME, OTHER_NCNAME, ATTRIBUTE_VALUE, CONTENT_CHARACTER_CHUNK, OTHER_STRING}
use Rattle.format.specs.Tables.{NameTable, Triple, Vocabulary, strings, names, adding, adding_name, Version}
use Rattle.format.specs.Tables.{Behind, nothing, an_entry, Means}
use Rattle.format.specs.Head.{Head, some?}
use Rattle.format.specs.Names.{has}
use Rattle.format.specs.Items.{State}
use Rattle.format.specs.Allowed.{SaidIfAny, AllowedName, Allowed, All}
use Rattle.format.specs.Document.{Document}
use Rattle.tables.specs.Rows.{place}
use Rattle.tables.proofs.Adding.{same_names, strings-adding, names-adding, strings-adding_name, names-adding_name}
use Rattle.theorems.proofs.Alls.{all_extended, all_entry, all_so}
use Rattle.theorems.proofs.Effects.{IdDone, id_made, id_used, PartDone, no_part, a_part, StringDone, string_made, string_used, ValueDone, empty_value, a_value, NameDone, name_made, name_used}
use Rattle.theorems.proofs.Effects.{ItemDone, done_namespace, done_start, done_attribute, done_text, done_comment, done_instruction, done_end, Done, no_item, an_item, OfTable, document_done}
use Rattle.read_names.specs.Names.{part_of, name_of}
use Rattle.theorems.specs.Heads.{NamesParts}
use Rattle.theorems.proofs.Triples.{means_is, means_at}
use Rattle.theorems.proofs.Heads.{opened_spelled, opened_named}
use Rattle.theorems.proofs.Growing.{same_table, means_kept, Keeps}
use Rattle.theorems.proofs.Growing.{keeps-adding_name, keeps-adding, parts_mean}

-- ---- P is what holds of the strings of a table; d is the empty string
module _ {S : Type 0} (P : StringTable → S → Type 0) (d : S) where
  abbrev pub IfAny : StringTable → Option S → Type 0
  IfAny t none = Unit {0}
  IfAny t (some x) = P t x

  pub record Parts (x : Name S) : Type 0 where
    pub prefix : IfAny PREFIX x.prefix
    pub namespace : IfAny NAMESPACE_NAME x.namespace
    pub local : P LOCAL_NAME x.local
    pub not_alone : has x.prefix ≤ has x.namespace

  -- a value, comment or content can be empty
  pub data OrEmpty (t : StringTable) : S → Type 0 where
    is_empty_lem : OrEmpty t d
    not_empty : {x : S} → P t x → OrEmpty t x

  abbrev pub Holds : Event S → Type 0
  Holds (Namespace p n) = IfAny PREFIX p × IfAny NAMESPACE_NAME n
  Holds (Start x) = Parts x
  Holds (Attribute x y) = Parts x × OrEmpty ATTRIBUTE_VALUE y
  Holds (Text y) = P CONTENT_CHARACTER_CHUNK y
  Holds (Comment y) = OrEmpty OTHER_STRING y
  Holds (Instruction x y) = P OTHER_NCNAME x × OrEmpty OTHER_STRING y
  Holds End = Unit {0}

  -- tables that hold only such strings, and only triples of such names
  abbrev Meant : Vocabulary S → Triple → Type 0
  Meant v x = (y : Name S) × Means v x y × Parts y

  record Good (v : Vocabulary S) : Type 0 where
    of_strings_lem : (t : StringTable) → All (P t) (strings v t)
    of_names_lem : (t : NameTable) → All (Meant v) (names v t)

  still_meant : {v w : Vocabulary S} → Keeps v w → (l : List Triple) → All (Meant v) l → All (Meant w) l
  still_meant {w = w} k = all_so (Meant w) (λ x m. (m.0, means_kept k m.1, m.2))

  good_adding : (v : Vocabulary S) (t : StringTable) (x : S) → P t x → Good v → Good (adding v t x)
  good_adding v t x s g =
      record {
        of_strings_lem = λ u. rw (strings-adding v t x u) (all_extended (P u) (eqb (place t) (place u)) (strings v u) x (g.of_strings_lem u) (λ e. subst (λ (y : StringTable). P y x) (same_table t u e) s));
        of_names_lem = λ u. rw (names-adding v t x u) (still_meant (keeps-adding v t x) (names v u) (g.of_names_lem u));
      }

  good_adding_name : (v : Vocabulary S) (t : NameTable) (x : Triple) (y : Name S) → Means v x y → Parts y → Good v → Good (adding_name v t x)
  good_adding_name v t x y m a g =
      let k = keeps-adding_name v t x in
      record {
        of_strings_lem = λ u. rw (strings-adding_name v t x u) (g.of_strings_lem u);
        of_names_lem = λ u.
            rw (names-adding_name v t x u)
            (all_extended (Meant (adding_name v t x)) (same_names t u) (names v u) x (still_meant k (names v u) (g.of_names_lem u)) (λ e. (y, means_kept k m, a)));
      }

  -- a triple whose parts are there, in tables that hold only such strings
  behind-holds : (t : StringTable) {l : List S} {n : ℕ} {x : Option S} → All (P t) l → Behind l n x → IfAny t x
  behind-holds t a nothing = tt
  behind-holds t a (an_entry e) = all_entry (P t) a e

  part-has : (l : List S) (n : ℕ) → has (part_of l d n) ≡ some? n
  part-has l zero = refl
  part-has l (suc k) = refl

  triple_meant : (v : Vocabulary S) → ((t : StringTable) → All (P t) (strings v t)) → (x : Triple) → NamesParts v x → Meant v x
  unfolding strings name_of
  triple_meant v a x k =
      let m = means_at d v x k.prefix k.namespace k.has-local k.local in (
        name_of v d x,
        m,
        record {
          prefix = behind-holds PREFIX (a PREFIX) m.prefix;
          namespace = behind-holds NAMESPACE_NAME (a NAMESPACE_NAME) m.namespace;
          local = behind-holds LOCAL_NAME (a LOCAL_NAME) m.local;
          not_alone = rw (part-has v.prefixes x.prefix, part-has v.namespaces x.namespace) k.not_alone;
        },
      )

  -- P holds of all that can be spelled
  module _ (Spelt : StringTable → S → Type 0) (of-spelt : (t : StringTable) (x : S) → Spelt t x → P t x) where
    id_holds : {t : StringTable} {v : Vocabulary S} {x : S} {h : How} {n : ℕ} {w : Vocabulary S} → IdDone d Spelt t v x h n w → Good v → P t x × Good w
    id_holds {t} {v} (id_made {x = x} sp) g = let p = of-spelt t x sp in (p, good_adding v t x p g)
    id_holds {t} (id_used en) g = (all_entry (P t) (g.of_strings_lem t) en, g)

    part-holds : {t : StringTable} {v w : Vocabulary S} {x : Option S} {h : Option How} {n : ℕ} → PartDone d Spelt t v x h n w → Good v → IfAny t x × Good w
    part-holds no_part g = (tt, g)
    part-holds (a_part u) g = id_holds u g

    string_holds : {t : StringTable} {v : Vocabulary S} {x : S} {h : How} {w : Vocabulary S} → StringDone d Spelt t v x h w → Good v → P t x × Good w
    string_holds {t} {v} (string_made {x = x} true sp) g = let p = of-spelt t x sp in (p, good_adding v t x p g)
    string_holds {t} (string_made {x = x} false sp) g = (of-spelt t x sp, g)
    string_holds {t} (string_used en) g = (all_entry (P t) (g.of_strings_lem t) en, g)

    value_holds : {t : StringTable} {v w : Vocabulary S} {x : S} {h : How} → ValueDone d Spelt t v x h w → Good v → OrEmpty t x × Good w
    value_holds empty_value g = (is_empty_lem, g)
    value_holds (a_value u) g = let r = string_holds u g in (not_empty r.0, r.1)

    name_holds : {t : NameTable} {v w : Vocabulary S} {x : Name S} {h : NameHow} → NameDone d Spelt t v x h w → Good v → Parts x × Good w
    name_holds {t} (name_made {p = p} {n = n} {l = l} {v₃ = v3} lone up un ul) g =
        let a = part-holds up g in
        let b = part-holds un a.1 in
        let c = id_holds ul b.1 in
        let y : Parts (record { prefix = p; namespace = n; local = l }) = record { prefix = a.0; namespace = b.0; local = c.0; not_alone = lone } in
        (y, good_adding_name v3 t _ _ (parts_mean up un ul) y c.1)
    name_holds {t} {v} (name_used en) g =
        let m = all_entry (Meant v) (g.of_names_lem t) en in
        (subst Parts (sym (means_is d m.1)) m.2, g)

    item_holds : {v w : Vocabulary S} {i : Item S} → ItemDone d Spelt v i w → Good v → Holds i.event × Good w
    item_holds (done_namespace up un) g = let a = part-holds up g in let b = part-holds un a.1 in ((a.0, b.0), b.1)
    item_holds (done_start u) g = name_holds u g
    item_holds (done_attribute u1 u2) g = let a = name_holds u1 g in let b = value_holds u2 a.1 in ((a.0, b.0), b.1)
    item_holds (done_text u) g = string_holds u g
    item_holds (done_comment u) g = value_holds u g
    item_holds (done_instruction u1 u2) g = let a = id_holds u1 g in let b = value_holds u2 a.1 in ((a.0, b.0), b.1)
    item_holds done_end g = (tt, g)

    all_hold : {v z : Vocabulary S} {items : List (Item S)} → Done d Spelt v items z → Good v → All (λ i. Holds i.event) items
    all_hold no_item g = tt
    all_hold (an_item u r) g = let a = item_holds u g in (a.0, all_hold r a.1)

    pub holds : {v z : Vocabulary S} {items : List (Item S)} → ((t : StringTable) → All (P t) (strings v t)) → ((t : NameTable) → All (NamesParts v) (names v t)) → Done d Spelt v items z
        → All (λ i. Holds i.event) items
    holds {v} a b r = all_hold r (record { of_strings_lem = a; of_names_lem = λ t. all_so (Meant v) (triple_meant v a) (names v t) (b t) })

-- ---- the requirements' strings
if_any_lem : (t : StringTable) (x : Option Octets) → IfAny OfTable [] t x → SaidIfAny x
if_any_lem t none a = tt
if_any_lem t (some x) a = a

as_name_lem : (x : Name Octets) → Parts OfTable [] x → AllowedName x
as_name_lem x a = record { prefix = if_any_lem PREFIX x.prefix a.prefix; namespace = if_any_lem NAMESPACE_NAME x.namespace a.namespace; local = a.local; not_alone = a.not_alone }

as_text : {t : StringTable} {x : Octets} → OrEmpty OfTable [] t x → IsText x
unfolding utf8s
as_text is_empty_lem = record { says = []; are = tt; octets = refl }
as_text (not_empty a) = a.1

as_allowed : (e : Event Octets) → Holds OfTable [] e → Allowed e
as_allowed (Namespace p n) a = (if_any_lem PREFIX p a.0, if_any_lem NAMESPACE_NAME n a.1)
as_allowed (Start x) a = as_name_lem x a
as_allowed (Attribute x y) a = (as_name_lem x a.0, as_text a.1)
as_allowed (Text y) a = a
as_allowed (Comment y) a = as_text a
as_allowed (Instruction x y) a = (a.0, as_text a.1)
as_allowed End a = tt

pub all_allowed : {ver : Version} {h : Head} {items : List (Item Octets)} {z : State Octets} {s : Octets} → Document ver h items z s → All (λ i. Allowed i.event) items
all_allowed {items = items} w =
    all_so (λ i. Allowed i.event) (λ i a. as_allowed i.event a) items (holds OfTable [] OfTable (λ t x a. a) (opened_spelled w.opens) (opened_named w.opens) (document_done w))
