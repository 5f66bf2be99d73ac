-- Along the rules for a head: which entries are added, and what holds of the tables then: every entry is as the requirements allow, and no table has too many.
use Prim.Native.Nat.{ℕ, ◌≤◌, ◌<◌}
use mathlib.Core.Path.{◌≡◌, refl, sym, ap, ◌∙◌, subst}
use mathlib.Core.Logic.{◌↔◌}
use mathlib.Core.Bool.{Bool, true, false}
use mathlib.Core.List.{List, [], ◌∷◌, ◌++◌, map}
use native.Mathlib.Omega.{arith}
use lib.Dec.{eqb}
use lib.ListN.{length, length-append}
use Rattle.format.specs.Octets.{Octets}
use Rattle.format.specs.Numbers.{pick}
use Rattle.format.specs.Tables.{StringTable, PREFIX, NAMESPACE_NAME, LOCAL_NAME, OTHER_NCNAME, OTHER_URI, NameTable, ELEMENT_NAME, ATTRIBUTE_NAME, Triple, Vocabulary, strings, names, adding, adding_name, no_entries}
use Rattle.format.specs.Tables.{Version, starting, xml_prefix, xml_namespace, New, InLimits}
use Rattle.format.specs.Strings.{id_spelled, literal_spelled}
use Rattle.format.specs.Head.{Listed, Head, plain_head, Table, of_strings, of_names, is_identifying, started, size_of, StringListed, an_identifying, another, PartListed, no_part, a_part, a_surrogate}
use Rattle.format.specs.Head.{Each, no_entry, an_entry, TablesListed, no_table, absent, present, Opens, without_head, with_head}
use Rattle.format.specs.Allowed.{All, Said}
use Rattle.fields.proofs.Utf8.{built_in_texts}
use Rattle.fields.proofs.Characters.{text_exact}
use Rattle.tables.specs.Rows.{place}
use Rattle.tables.proofs.Adding.{extended, same_names, strings-adding, names-adding, strings-adding_name, names-adding_name}
use Rattle.tables.proofs.ByNumber.{by_table_lem}
use Rattle.tables.proofs.EntryLaws.{entry_made}
use Rattle.tables.proofs.Found.{clash}
use Rattle.theorems.specs.Heads.{CanBeListed, Distinct, AllDistinct, NamesParts}
use Rattle.theorems.proofs.Forms.{spelling-said}
use Rattle.theorems.proofs.Alls.{all_extended, all_so}
use Rattle.theorems.proofs.Splits.{splits_last}
use Rattle.theorems.proofs.Growing.{same_table, same_name_table, extended_few}
use Rattle.theorems.proofs.Chosen.{Grows, adding_grows, adding_name_grows}
use Rattle.theorems.proofs.TenTables.{no_list, EntryOf, list_of, add_to, add_all, In, here, there, every, pieces, behind, map_entry, list_map, size-map}
use Rattle.theorems.proofs.HeadEntries.{EntryListed, says}

-- ---- along the rules: what is added, and what every entry keeps
module _ (ver : Version) where
  listed_is : (t : Table) (v : Vocabulary Octets) (x : EntryOf Listed t) (o : Octets) (w : Vocabulary Octets) → EntryListed ver t v x o w → w ≡ add_to v t (map_entry says t x)
  listed_is (of_strings t) v x o w (an_identifying i (id_spelled sp new room)) = refl
  listed_is (of_strings t) v x o w (another i (literal_spelled sp room)) = refl
  listed_is (of_names t) v x o w (a_surrogate paired has up un ul new room) = refl

  each_is : (t : Table) {v w : Vocabulary Octets} {xs : List (EntryOf Listed t)} {o : Octets} → Each ver (EntryListed ver t) v xs o w → w ≡ add_all t v (map (map_entry says t) xs)
  each_is t no_entry = refl
  each_is t (an_entry {v = v} {u = u} {x = x} {xs = xs} {o = o} r q) = each_is t q ∙ ap (λ (z : Vocabulary Octets). add_all t z (map (map_entry says t) xs)) (listed_is t v x o u r)

  -- the entries that a head lists for a table, behind those that it had
  table_is : (h : Head) (t : Table) {v w : Vocabulary Octets} {o : Octets} → Each ver (EntryListed ver t) v (list_of h t) o w → w ≡ add_all t v (list_of (plain_head h) t)
  table_is h t {v} y = each_is t y ∙ ap (add_all t v) (sym (list_map says h t))

  pub tables_are : {h : Head} {ts : List Table} {v w : Vocabulary Octets} {o : Octets} → TablesListed ver h ts v o w → w ≡ behind v ts (pieces (plain_head h) ts)
  tables_are no_table = refl
  tables_are {h} (absent {t = t} {ts = ts} {v = v} e r) =
      tables_are r
      ∙ ap (λ (l : List (EntryOf Octets t)). behind (add_all t v l) ts (pieces (plain_head h) ts)) (sym (no_list (list_of (plain_head h) t) (size-map says h t ∙ e)))
  tables_are {h} (present {t = of_strings t} {ts = ts} o any few y r) = tables_are r ∙ ap (λ (z : Vocabulary Octets). behind z ts (pieces (plain_head h) ts)) (table_is h (of_strings t) y)
  tables_are {h} (present {t = of_names t} {ts = ts} o any few y r) = tables_are r ∙ ap (λ (z : Vocabulary Octets). behind z ts (pieces (plain_head h) ts)) (table_is h (of_names t) y)

  module _ (P : Vocabulary Octets → Type 0) (step : (t : Table) (v : Vocabulary Octets) (x : EntryOf Listed t) (o : Octets) (w : Vocabulary Octets) → EntryListed ver t v x o w → P v → P w) where
    each_keeps : (t : Table) {v w : Vocabulary Octets} {xs : List (EntryOf Listed t)} {o : Octets} → Each ver (EntryListed ver t) v xs o w → P v → P w
    each_keeps t no_entry p = p
    each_keeps t (an_entry {v = v} {u = u} {x = x} {o = o} r q) p = each_keeps t q (step t v x o u r p)

    tables_keep : {h : Head} {ts : List Table} {v w : Vocabulary Octets} {o : Octets} → TablesListed ver h ts v o w → P v → P w
    tables_keep no_table p = p
    tables_keep (absent e r) p = tables_keep r p
    tables_keep (present {t = of_strings t} o any few y r) p = tables_keep r (each_keeps (of_strings t) y p)
    tables_keep (present {t = of_names t} o any few y r) p = tables_keep r (each_keeps (of_names t) y p)

    pub opens_keep : {h : Head} {o : Octets} {v : Vocabulary Octets} → Opens ver h o v → P (started ver) → P v
    opens_keep without_head p = p
    opens_keep (with_head heads any u) p = tables_keep u p

  -- every string that a head lists can be listed so
  string_can : {t : StringTable} {v : Vocabulary Octets} {x : Listed} {o : Octets} {w : Vocabulary Octets} → StringListed ver t v x o w → CanBeListed t x
  string_can (an_identifying {x = x} i (id_spelled sp new room)) = record { octets = x; spelled = sp; plain = λ e. refl }
  string_can (another i (literal_spelled {y = y} sp room)) = record { octets = y; spelled = sp; plain = λ e. clash (sym i ∙ e) }

  each_can : {t : StringTable} {v w : Vocabulary Octets} {xs : List Listed} {o : Octets} → Each ver (StringListed ver t) v xs o w → All (CanBeListed t) xs
  each_can no_entry = tt
  each_can (an_entry r q) = (string_can r, each_can q)

  tables_can : {h : Head} (t : StringTable) {ts : List Table} {v : Vocabulary Octets} {o : Octets} {w : Vocabulary Octets} → In (of_strings t) ts → TablesListed ver h ts v o w → All (CanBeListed t) (strings h t)
  unfolding size_of
  tables_can {h} t here (absent e r) = subst (All (CanBeListed t)) (sym (no_list (strings h t) e)) tt
  tables_can t here (present o any few y r) = each_can y
  tables_can t (there i) (absent e r) = tables_can t i r
  tables_can t (there i) (present o any few y r) = tables_can t i r

  pub opens_can : {h : Head} {o : Octets} {v : Vocabulary Octets} → Opens ver h o v → (t : StringTable) → All (CanBeListed t) (strings h t)
  unfolding strings no_entries
  opens_can without_head = by_table_lem _ tt tt tt tt tt tt tt tt
  opens_can (with_head heads any u) = λ t. tables_can t (every (of_strings t)) u

-- ---- lists
module _ {A : Type 0} where
  distinct_last : (l : List A) (x : A) → Distinct l → New l x → Distinct (l ++ (x ∷ []))
  distinct_last l x d new before y behind e =
      splits_last l x before y behind e (λ p q. subst (λ (z : A). New before z) q (subst (λ (m : List A). New m x) p new)) (λ mid p. d before y mid p)

  distinct_extended : (b : Bool) (l : List A) (x : A) → Distinct l → (b ≡ true → New l x) → Distinct (extended b l x)
  distinct_extended true l x d new = distinct_last l x d (new refl)
  distinct_extended false l x d new = d

  distinct_few : (l : List A) → length l ≤ 1 → Distinct l
  distinct_few l few before x behind e k en =
      absurd (let h = entry_made en in let a = ap length e in let b = length-append before (x ∷ behind) in omega arith)

-- ---- the seven tables that have each entry once are those of identifying strings and of names
pub distinct_exact : {S : Type 0} (v : Vocabulary S) → AllDistinct v ↔ (((t : StringTable) → is_identifying t ≡ true → Distinct (strings v t)) × ((t : NameTable) → Distinct (names v t)))
unfolding strings names is_identifying
distinct_exact v = (
  λ d. (
    by_table_lem _ (λ i. d.prefixes) (λ i. d.namespaces) (λ i. d.locals) (λ i. d.ncnames) (λ i. d.uris) (λ i. clash i) (λ i. clash i) (λ i. clash i),
    λ t. elim t as (λ u. Distinct (names v u)) [ ELEMENT_NAME ↦ d.elements | ATTRIBUTE_NAME ↦ d.attributes ],
  ),
  λ d. record {
    prefixes = d.0 PREFIX refl;
    namespaces = d.0 NAMESPACE_NAME refl;
    locals = d.0 LOCAL_NAME refl;
    ncnames = d.0 OTHER_NCNAME refl;
    uris = d.0 OTHER_URI refl;
    elements = d.1 ELEMENT_NAME;
    attributes = d.1 ATTRIBUTE_NAME;
  },
)

-- ---- a name's parts stay there
parts_on : {v w : Vocabulary Octets} (x : Triple) → Grows v w → NamesParts v x → NamesParts w x
unfolding strings
parts_on x g k =
    let p = g.strings_grow PREFIX in
    let n = g.strings_grow NAMESPACE_NAME in
    let l = g.strings_grow LOCAL_NAME in
    let kp = k.prefix in
    let kn = k.namespace in
    let kl = k.local in
    record { prefix = omega arith; namespace = omega arith; local = omega arith; has-local = k.has-local; not_alone = k.not_alone }

-- ---- tables whose entries are as the requirements allow
pub record Good (v : Vocabulary Octets) : Type 0 where
  pub spelled : (t : StringTable) → All Said (strings v t)
  pub named : (t : NameTable) → All (NamesParts v) (names v t)
  pub distinct : (t : StringTable) → is_identifying t ≡ true → Distinct (strings v t)
  pub distinct-names : (t : NameTable) → Distinct (names v t)

good_string : (v : Vocabulary Octets) (t : StringTable) (x : Octets) → Said x → (is_identifying t ≡ true → New (strings v t) x) → Good v → Good (adding v t x)
good_string v t x sp new g =
    record {
      spelled = λ u. rw (strings-adding v t x u) (all_extended Said (eqb (place t) (place u)) (strings v u) x (g.spelled u) (λ e. sp));
      named = λ u. rw (names-adding v t x u) (all_so (NamesParts (adding v t x)) (λ y k. parts_on y (adding_grows v t x) k) (names v u) (g.named u));
      distinct = λ u i. rw (strings-adding v t x u)
          (distinct_extended (eqb (place t) (place u)) (strings v u) x (g.distinct u i)
          (λ e. let same = same_table t u e in subst (λ (y : StringTable). New (strings v y) x) same (new (ap is_identifying same ∙ i))));
      distinct-names = λ u. rw (names-adding v t x u) (g.distinct-names u);
    }

good_name : (v : Vocabulary Octets) (t : NameTable) (x : Triple) → NamesParts v x → New (names v t) x → Good v → Good (adding_name v t x)
good_name v t x k new g =
    let grows = adding_name_grows v t x in
    record {
      spelled = λ u. rw (strings-adding_name v t x u) (g.spelled u);
      named = λ u. rw (names-adding_name v t x u)
          (all_extended (NamesParts (adding_name v t x)) (same_names t u) (names v u) x (all_so (NamesParts (adding_name v t x)) (λ y j. parts_on y grows j) (names v u) (g.named u)) (λ e. parts_on x grows k));
      distinct = λ u i. rw (strings-adding_name v t x u) (g.distinct u i);
      distinct-names = λ u. rw (names-adding_name v t x u)
          (distinct_extended (same_names t u) (names v u) x (g.distinct-names u) (λ e. subst (λ (y : NameTable). New (names v y) x) (same_name_table t u e) new));
    }

module _ (ver : Version) where
  part_there : {m n : ℕ} {o : Octets} → PartListed ver m n o → n ≤ m
  part_there no_part = omega arith
  part_there (a_part small en) = en

  pub good_step : (t : Table) (v : Vocabulary Octets) (x : EntryOf Listed t) (o : Octets) (w : Vocabulary Octets) → EntryListed ver t v x o w → Good v → Good w
  good_step (of_strings t) v x o w (an_identifying i (id_spelled sp new room)) g = good_string v t _ (spelling-said sp) (λ e. new) g
  good_step (of_strings t) v x o w (another i (literal_spelled sp room)) g = good_string v t _ (spelling-said sp) (λ e. clash (sym i ∙ e)) g
  good_step (of_names t) v x o w (a_surrogate paired has up un ul new room) g =
      good_name v t x (record { prefix = part_there up; namespace = part_there un; local = part_there ul; has-local = has; not_alone = paired }) new g

  few_string : (v : Vocabulary Octets) (t : StringTable) (x : Octets) → length (strings v t) < ver.entries → InLimits ver v → InLimits ver (adding v t x)
  few_string v t x room f =
      record {
        few = λ u. rw (strings-adding v t x u)
            (extended_few (eqb (place t) (place u)) ver.entries (strings v u) x (f.few u) (λ e. subst (λ (y : StringTable). length (strings v y) < ver.entries) (same_table t u e) room));
        few_names = λ u. rw (names-adding v t x u) (f.few_names u);
      }

  pub few_step : (t : Table) (v : Vocabulary Octets) (x : EntryOf Listed t) (o : Octets) (w : Vocabulary Octets) → EntryListed ver t v x o w → InLimits ver v → InLimits ver w
  few_step (of_strings t) v x o w (an_identifying i (id_spelled sp new room)) f = few_string v t _ room f
  few_step (of_strings t) v x o w (another i (literal_spelled sp room)) f = few_string v t _ (room refl) f
  few_step (of_names t) v x o w (a_surrogate paired has up un ul new room) f =
      record {
        few = λ u. rw (strings-adding_name v t x u) (f.few u);
        few_names = λ u. rw (names-adding_name v t x u)
            (extended_few (same_names t u) ver.entries (names v u) x (f.few_names u) (λ e. subst (λ (y : NameTable). length (names v y) < ver.entries) (same_name_table t u e) room));
      }

  -- ---- the tables with which every document starts
  at_most_one : (b : Bool) (x : Octets) → length (pick b (x ∷ []) []) ≤ 1
  at_most_one true x = omega arith
  at_most_one false x = omega arith

  pub few_started : (t : StringTable) → length (strings (started ver) t) ≤ 1
  unfolding strings starting
  few_started = by_table_lem _ (at_most_one ver.built_in xml_prefix) (at_most_one ver.built_in xml_namespace) (omega arith) (omega arith) (omega arith) (omega arith) (omega arith) (omega arith)

  pub none_started : (t : NameTable) → names (started ver) t ≡ []
  unfolding names starting
  none_started ELEMENT_NAME = refl
  none_started ATTRIBUTE_NAME = refl

  if_built_in : (x : Octets) → Said x → (b : Bool) → All Said (pick b (x ∷ []) [])
  if_built_in x h true = (h, tt)
  if_built_in x h false = tt

  two_said : Said xml_prefix × Said xml_namespace
  unfolding xml_prefix xml_namespace
  two_said = ((omega arith, (text_exact xml_prefix).0 built_in_texts.0), (omega arith, (text_exact xml_namespace).0 built_in_texts.1))

  spelled_started : (t : StringTable) → All Said (strings (started ver) t)
  unfolding strings starting
  spelled_started = by_table_lem _ (if_built_in xml_prefix two_said.0 ver.built_in) (if_built_in xml_namespace two_said.1 ver.built_in) tt tt tt tt tt tt

  pub good_started : Good (started ver)
  good_started =
      record {
        spelled = spelled_started;
        named = λ t. rw (none_started t) tt;
        distinct = λ t i. distinct_few (strings (started ver) t) (few_started t);
        distinct-names = λ t. distinct_few (names (started ver) t) (rw (none_started t) (omega arith));
      }

  pub limits_started : 1 ≤ ver.entries → InLimits ver (started ver)
  limits_started h = record { few = λ t. let f = few_started t in omega arith; few_names = λ t. rw (none_started t) (omega arith) }
