-- The records that a reader hands out are well made: their stretches lie in the document and are not empty, a built-in string stands only where it can, and a
-- prefix only with a namespace.
use Prim.Native.Nat.{ℕ, ◌+◌, ◌-◌, ◌*◌, ◌/◌, ◌%◌, ◌≤◌, ◌<◌}
use mathlib.Core.Path.{◌≡◌, refl, sym, subst}
use mathlib.Core.Option.{Option, none, some}
use mathlib.Core.Bool.{Bool, true, false}
use mathlib.Core.List.{List, [], ◌∷◌, ◌++◌, map}
use native.Mathlib.Omega.{arith}
use lib.ListN.{length, length-append, length-map}
use Rattle.format.specs.Octets.{Octets}
use Rattle.format.specs.Events.{Name, Event, Namespace, Start, Attribute, Text, Comment, Instruction, End, Item}
use Rattle.format.specs.Numbers.{pick, spell, lengths, c21}
use Rattle.format.specs.Tables.{StringTable, PREFIX, NAMESPACE_NAME, LOCAL_NAME, OTHER_NCNAME, OTHER_URI, ATTRIBUTE_VALUE, CONTENT_CHARACTER_CHUNK, OTHER_STRING}
use Rattle.format.specs.Tables.{NameTable, ELEMENT_NAME, ATTRIBUTE_NAME, Triple, Vocabulary, strings, names, vocabulary_map, followed_by, Version, starting}
use Rattle.format.specs.Strings.{id_spelled, literal_spelled}
use Rattle.format.specs.Head.{Listed, Head, is_identifying, Table, ten_tables, presence, of_strings, of_names, size_of, c19, StringListed, an_identifying, another, Each, no_entry, an_entry, TablesListed, no_table, absent, present, Opens, without_head, with_head}
use Rattle.format.specs.Names.{has}
use Rattle.format.specs.Allowed.{All}
use Rattle.format.specs.declared.StringForm.{StringForm}
use Rattle.format.specs.declared.StringForm.TheVariants.{Utf8}
use Rattle.tables.specs.Rows.{place}
use Rattle.tables.specs.Located.{Located, empty, stretch, built_in_prefix, built_in_namespace, octets_of, form_as, listed_as, plain_tables, start}
use Rattle.tables.proofs.ByNumber.{by_table_lem}
use Rattle.events.specs.declared.EventString.TheVariants.{Absent, Stretch}
use Rattle.events.specs.Records.{event_string, optional_event_string, record_of, record_at}
use Rattle.events.specs.WellMade as W
use Rattle.events.specs.WellMade.{IsStretch, inside_utf8, IsString, inside, IsPrefix, IsNamespace, IsValue, IsName, WellMade}
use Rattle.read_items.specs.Items.{Stand}
use Rattle.reader.specs.Reading.{EventRead, items_read, record_read, accepted, reading}
use Rattle.theorems.specs.Heads.{CanBeListed, NamesParts, all_listed}
use Rattle.theorems.specs.Places.{in_entry, in_entries, in_tables, listed_in}
use Rattle.theorems.proofs.Alls.{all_both, both_all, all_so, all_map}
use Rattle.theorems.proofs.Words.{strings-map}
use Rattle.theorems.proofs.Formats.{field_longer}
use Rattle.theorems.proofs.HeadKeeps.{opens_can}
use Rattle.theorems.proofs.Opening.{OpensAt}
use Rattle.theorems.proofs.Heads.{opened_named}
use Rattle.theorems.proofs.TenTables.{list_followed}
use Rattle.theorems.proofs.Plain.{IfAny, Parts, OrEmpty, is_empty_lem, not_empty, Holds, holds}
use Rattle.theorems.proofs.ReadEffects.{Lies, reading_done}

all_two : {A : Type 0} (P Q : A → Type 0) (l : List A) → All P l → All Q l → All (λ x. P x × Q x) l
all_two P Q [] a b = tt
all_two P Q (x ∷ l) a b = ((a.0, b.0), all_two P Q l a.1 b.1)

module _ (s : Octets) where
  -- a string of table t: a stretch of the document, or what is built into that table
  data Stands : StringTable → Located → Type 0 where
    spelled_here : {t : StringTable} {x : Located} → Lies s t x → Stands t x
    the_prefix : Stands PREFIX built_in_prefix
    the_namespace : Stands NAMESPACE_NAME built_in_namespace

  in_utf8 : (x : Located) → IsString s (event_string x) → form_as x ≡ Utf8 → IsStretch s (event_string x)
  in_utf8 empty h e = elim h [ ]
  in_utf8 built_in_prefix h e = elim h [ ]
  in_utf8 built_in_namespace h e = elim h [ ]
  in_utf8 (stretch form p n) (inside h k) e = subst (λ (f : StringForm). IsStretch s (Stretch f p n)) (sym e) (inside_utf8 h k)

  lies_utf8 : (t : StringTable) (x : Located) → is_identifying t ≡ true → Lies s t x → IsStretch s (event_string x)
  lies_utf8 t x i l = in_utf8 x l.0 (l.1 i)

  as_prefix : (x : Option Located) → IfAny Stands empty PREFIX x → IsPrefix s (optional_event_string x)
  unfolding is_identifying
  as_prefix none a = W.no_prefix
  as_prefix (some x) (spelled_here l) = W.a_prefix (lies_utf8 PREFIX x refl l)
  as_prefix (some x) the_prefix = W.xml_prefix_lem

  as_namespace : (x : Option Located) → IfAny Stands empty NAMESPACE_NAME x → IsNamespace s (optional_event_string x)
  unfolding is_identifying
  as_namespace none a = W.no_namespace
  as_namespace (some x) (spelled_here l) = W.a_namespace (lies_utf8 NAMESPACE_NAME x refl l)
  as_namespace (some x) the_namespace = W.xml_namespace_lem

  -- nothing is built into the tables behind the first two
  lies_here : {t : StringTable} {x : Located} → 2 ≤ place t → Stands t x → Lies s t x
  unfolding place
  lies_here h (spelled_here l) = l
  lies_here h the_prefix = absurd (omega arith)
  lies_here h the_namespace = absurd (omega arith)

  as_stretch : {t : StringTable} {x : Located} → 2 ≤ place t → is_identifying t ≡ true → Stands t x → IsStretch s (event_string x)
  as_stretch {t} {x} h i a = lies_utf8 t x i (lies_here h a)

  as_value : {t : StringTable} {x : Located} → 2 ≤ place t → OrEmpty Stands empty t x → IsValue s (event_string x)
  as_value h is_empty_lem = W.no_octets
  as_value h (not_empty a) = W.some_octets (lies_here h a).0

  not_absent : (x : Located) → event_string x ≡ Absent → ⊥
  not_absent empty e = let y : ◌≡◌ {A = ℕ} 0 1 = cc in omega arith
  not_absent (stretch form p n) e = let y : ◌≡◌ {A = ℕ} 0 1 = cc in omega arith
  not_absent built_in_prefix e = let y : ◌≡◌ {A = ℕ} 0 1 = cc in omega arith
  not_absent built_in_namespace e = let y : ◌≡◌ {A = ℕ} 0 1 = cc in omega arith

  paired : (p n : Option Located) → has p ≤ has n → optional_event_string n ≡ Absent → optional_event_string p ≡ Absent
  paired none n h e = refl
  paired (some x) none h e = absurd (omega arith)
  paired (some x) (some y) h e = absurd (not_absent y e)

  as_name_lem : (x : Name Located) → Parts Stands empty x → IsName s (optional_event_string x.prefix) (optional_event_string x.namespace) (event_string x.local)
  unfolding place is_identifying
  as_name_lem x a =
      record {
        a_prefix = as_prefix x.prefix a.prefix;
        a_namespace = as_namespace x.namespace a.namespace;
        a_local = as_stretch (omega arith) refl a.local;
        not_alone = paired x.prefix x.namespace a.not_alone;
      }

  as_record : (place : ℕ) (e : Event Located) → Holds Stands empty e → WellMade s (record_at place e)
  unfolding record_of place is_identifying
  as_record k (Namespace p n) a = W.a_declaration (as_prefix p a.0) (as_namespace n a.1)
  as_record k (Start x) a = W.a_start (as_name_lem x a)
  as_record k (Attribute x y) a = W.an_attribute (as_name_lem x a.0) (as_value (omega arith) a.1)
  as_record k (Text y) a = W.a_chunk (lies_here (omega arith) a).0
  as_record k (Comment y) a = W.a_comment (as_value (omega arith) a)
  as_record k (Instruction x y) a = W.an_instruction (as_stretch (omega arith) refl a.0) (as_value (omega arith) a.1)
  as_record k End a = W.an_end

  as_records : (es : List EventRead) → All (λ (i : Item Located). Holds Stands empty i.event) (items_read es) → All (WellMade s) (map record_read es)
  as_records [] a = tt
  as_records (e ∷ es) a = (as_record e.place e.item.event a.0, as_records es a.1)

-- ---- the strings of a head stand where the rules list them
-- a string in any form lies in the document
abbrev InDocument : Octets → Located → Type 0
InDocument s x = IsString s (event_string x)

-- an identifying string is in utf-8
abbrev InUtf8 : StringTable → Located → Type 0
InUtf8 t x = is_identifying t ≡ true → form_as x ≡ Utf8

module _ (s : Octets) where
  -- the octets x, the end of a field's octets
  at_end : (form : StringForm) (k : ℕ) (x o : Octets) → 0 < length x → length x ≤ length o → k + length o ≤ length s → InDocument s (stretch form (k + length o - length x) (length x))
  at_end form k x o any long h = inside {place = k + length o - length x} any (omega arith)

module _ (ver : Version) (s : Octets) where
  entry_lies : (k : ℕ) {t : StringTable} {v : Vocabulary Octets} {x : Listed} {o : Octets} {w : Vocabulary Octets} (u : StringListed ver t v x o w) → k + length o ≤ length s → All (InDocument s) (in_entry k u)
  entry_lies k {o = o} (an_identifying is (id_spelled {x = x} sp new room)) h = (at_end s Utf8 k x o sp.some (let l = length-append (spell (lengths 2) 0 (length x)) x in omega arith) h, tt)
  entry_lies k {o = o} (another is (literal_spelled {y = y} {form = form} sp room)) h = (at_end s form k y o sp.some (field_longer c19.length_bit form (c19.spelled_bits + c19.add_bit * 1) y) h, tt)

  entries_lie : {t : StringTable} (k : ℕ) {v w : Vocabulary Octets} {xs : List Listed} {o : Octets} (e : Each ver (StringListed ver t) v xs o w) → k + length o ≤ length s → All (InDocument s) (in_entries k e)
  entries_lie k no_entry h = tt
  entries_lie k (an_entry {o = o} {os = os} u rest) h =
      let l = length-append o os in
      all_both (InDocument s) (in_entry k u) (in_entries (k + length o) rest) (entry_lies k u (omega arith)) (entries_lie (k + length o) rest (omega arith))

  tables_lie : {h : Head} (k : ℕ) {v w : Vocabulary Octets} {ts : List Table} {o : Octets} (e : TablesListed ver h ts v o w) → k + length o ≤ length s → All (InDocument s) (in_tables k e)
  unfolding in_tables
  tables_lie k no_table h = tt
  tables_lie k (absent none_listed rest) h = tables_lie k rest h
  tables_lie {h = g} k (present {t = of_strings t} o {os = os} any few u rest) h =
      let n : Octets = spell c21 0 (size_of g (of_strings t)) in
      let l = length-append n (o ++ os) in
      let m = length-append o os in
      all_both (InDocument s) (in_entries (k + length n) u) (in_tables (k + length n + length o) rest) (entries_lie (k + length n) u (omega arith)) (tables_lie (k + length n + length o) rest (omega arith))
  tables_lie {h = g} k (present {t = of_names t} o {os = os} any few u rest) h =
      let n : Octets = spell c21 0 (size_of g (of_names t)) in
      let l = length-append n (o ++ os) in
      let m = length-append o os in
      tables_lie (k + length n + length o) rest (omega arith)

  listed_lie : {h : Head} {w : Vocabulary Octets} {o : Octets} (op : Opens ver h o w) → length o ≤ length s → All (InDocument s) (listed_in op)
  listed_lie without_head long = tt
  listed_lie {h} (with_head {o = o} heads any u) long =
      let l = length-append ver.identification (0x20 ∷ presence h ten_tables / 256 ∷ presence h ten_tables % 256 ∷ o) in
      tables_lie (length ver.identification + 3) u (omega arith)

  -- ---- the tables behind a head
  if_built_in : {t : StringTable} {x : Located} → Stands s t x → (b : Bool) → All (Stands s t) (pick b (x ∷ []) [])
  if_built_in h true = (h, tt)
  if_built_in h false = tt

  start_stands : (t : StringTable) → All (Stands s t) (strings (start ver) t)
  unfolding strings start starting
  start_stands = by_table_lem _ (if_built_in the_prefix ver.built_in) (if_built_in the_namespace ver.built_in) tt tt tt tt tt tt

  -- table by table
  head_lies : (h : Vocabulary Located) → All (InDocument s) (all_listed h) → (t : StringTable) → All (InDocument s) (strings h t)
  head_lies h a =
      let P : Located → Type 0 = InDocument s in
      let b = both_all P (strings h PREFIX) _ a in
      let c = both_all P (strings h NAMESPACE_NAME) _ b.1 in
      let d = both_all P (strings h LOCAL_NAME) _ c.1 in
      let e = both_all P (strings h OTHER_NCNAME) _ d.1 in
      let f = both_all P (strings h OTHER_URI) _ e.1 in
      let g = both_all P (strings h ATTRIBUTE_VALUE) _ f.1 in
      let i = both_all P (strings h CONTENT_CHARACTER_CHUNK) (strings h OTHER_STRING) g.1 in
      by_table_lem _ b.0 c.0 d.0 e.0 f.0 g.0 i.0 i.1

  forms_are : {h : Head} {o : Octets} {v : Vocabulary Octets} (op : Opens ver h o v) (g : Vocabulary Located) → vocabulary_map (listed_as s) g ≡ h
      → (t : StringTable) → All (InUtf8 t) (strings g t)
  forms_are op g e t =
      all_so (InUtf8 t) (λ x c. c.plain) (strings g t)
      ((all_map (listed_as s) (CanBeListed t) (strings g t)).1 (rw (strings-map (listed_as s) g t) at (rw (← e) at (opens_can ver op t))))

  tables_stand : (h : Vocabulary Located) → ((t : StringTable) → All (Lies s t) (strings h t)) → (t : StringTable) → All (Stands s t) (strings (followed_by (start ver) h) t)
  tables_stand h a t =
      rw (list_followed (start ver) h (of_strings t))
      (all_both (Stands s t) (strings (start ver) t) (strings h t) (start_stands t) (all_so (Stands s t) (λ x l. spelled_here l) (strings h t) (a t)))

  -- the parts of a name are there, as octets or by where they stand
  parts_there : (v : Vocabulary Located) (x : Triple) → NamesParts (plain_tables s v) x → NamesParts v x
  unfolding vocabulary_map
  parts_there v x k =
      let p = length-map v.prefixes (octets_of s) in
      let n = length-map v.namespaces (octets_of s) in
      let l = length-map v.locals (octets_of s) in
      let kp = k.prefix in
      let kn = k.namespace in
      let kl = k.local in
      record { prefix = omega arith; namespace = omega arith; local = omega arith; has-local = k.has-local; not_alone = k.not_alone }

  pub named_there : (v : Vocabulary Located) → ((t : NameTable) → All (NamesParts (plain_tables s v)) (names (plain_tables s v) t)) → (t : NameTable) → All (NamesParts v) (names v t)
  unfolding names vocabulary_map
  named_there v a ELEMENT_NAME = all_so (NamesParts v) (parts_there v) v.elements (a ELEMENT_NAME)
  named_there v a ATTRIBUTE_NAME = all_so (NamesParts v) (parts_there v) v.attributes (a ATTRIBUTE_NAME)

  pub well_made : {h : Head} {o : Octets} {v : Vocabulary Octets} (op : Opens ver h o v) (at : OpensAt ver s op) → length o ≤ length s
      → (room : ℕ) (es : List EventRead) (m : Stand) → reading ver s room ≡ accepted es m → All (WellMade s) (map record_read es)
  well_made {o = o} {v = v} op at long room es m e =
      let lie = head_lies at.head (rw at.listed_are (listed_lie op long)) in
      as_records s es
      (holds (Stands s) empty (Lies s) (λ t x l. spelled_here l)
      (λ t. rw at.tables_are (tables_stand at.head (λ t. all_two (InDocument s) (InUtf8 t) (strings at.head t) (lie t) (forms_are op at.head at.head_is t)) t))
      (named_there at.tables (λ t. rw at.are (opened_named op t)))
      (reading_done ver s room (length o) at.tables at.answers es m e))
