-- What the rules list as a head is allowed, and its tables are the built-in entries and then the head's; one head is one run of octets.
use Prim.Native.Nat.{ℕ, zero, suc, ◌+◌, ◌*◌, ◌/◌, ◌%◌, ◌≤◌, ◌<◌}
use mathlib.Core.Path.{◌≡◌, refl, sym, ap, ◌∙◌, subst, subst₂}
use mathlib.Core.Bool.{Bool, true, false}
use mathlib.Core.List.{List, [], ◌∷◌, ◌++◌, map, append_assoc}
use native.Mathlib.Omega.{arith}
use lib.ListN.{length, length-append}
use Rattle.format.specs.Octets.{Octets}
use Rattle.format.specs.Numbers.{spell, lengths, c25, top}
use Rattle.format.specs.Events.{Name}
use Rattle.format.specs.Tables.{StringTable, PREFIX, NAMESPACE_NAME, LOCAL_NAME, NameTable, ELEMENT_NAME, ATTRIBUTE_NAME, Triple, Tables, Vocabulary, strings, names, adding, adding_name, no_entries, followed_by, vocabulary_map}
use Rattle.format.specs.Tables.{Version, starting, Entry, first, later, New, InLimits}
use Rattle.format.specs.Strings.{with_length, Spelling, id_spelled, literal_spelled}
use Rattle.format.specs.declared.StringForm.{StringForm}
use Rattle.format.specs.declared.StringForm.TheVariants.{Utf8}
use Rattle.format.specs.Head.{Listed, Head, plain_head, Table, of_strings, of_names, ten_tables, is_identifying, started, size_of, some?, presence, StringListed, an_identifying, another, PartListed, no_part, a_part, NameListed, a_surrogate}
use Rattle.format.specs.Head.{Each, no_entry, an_entry, Entries, TablesListed, no_table, absent, present, Opens, without_head, with_head}
use Rattle.format.specs.Uses.{AllMean, no_triple_lem, a_triple, Holds}
use Rattle.format.specs.Allowed.{All, Said}
use Rattle.fields.proofs.Laws.{case}
use Rattle.tables.specs.Rows.{place}
use Rattle.tables.proofs.Adding.{strings-adding_name}
use Rattle.tables.proofs.ByNumber.{by_table_lem}
use Rattle.tables.proofs.Found.{clash}
use Rattle.read_names.specs.Names.{name_of}
use Rattle.theorems.specs.Bounded.{Bounded}
use Rattle.theorems.specs.Heads.{headed, CanBeListed, Distinct, NamesParts, HeadAllowed}
use Rattle.theorems.proofs.Alls.{both_all, all_entry}
use Rattle.theorems.proofs.Words.{strings-map, names-map}
use Rattle.theorems.proofs.Triples.{means_at}
use Rattle.theorems.proofs.Chosen.{InRange, Ranged}
use Rattle.theorems.proofs.TenTables.{no_list, EntryOf, code, list_of, add_to, add_all, list_own, Above, Ascending, above_ascending, ten_ascend, pieces, behind, kept, own, behind_ten, followed_none, list_followed, size-map}
use Rattle.theorems.proofs.HeadEntries.{EntryListed, says}
use Rattle.theorems.proofs.HeadOctets.{nothing-listed, nothing_present, one_opening}
use Rattle.theorems.proofs.HeadKeeps.{tables_are, opens_keep, opens_can, distinct_exact, Good, good_step, good_started, few_step, limits_started}

-- ---- what the rules list is allowed
pub named_ranged : {S : Type 0} {v : Vocabulary S} → ((t : NameTable) → All (NamesParts v) (names v t)) → Ranged v
unfolding strings
named_ranged {v = v} a t k x e =
    let p = all_entry (NamesParts v) (a t) e in
    record { prefix = p.prefix; namespace = p.namespace; some_local = p.has-local; local = p.local }

-- those behind the entries of other tables
pub named_listed : {S : Type 0} (v h : Vocabulary S) {w : Vocabulary S} → w ≡ followed_by v h → ((t : NameTable) → All (NamesParts w) (names w t)) → (t : NameTable) → All (NamesParts (followed_by v h)) (names h t)
named_listed {S} v h is a t =
    (both_all (NamesParts (followed_by v h)) (names v t) (names h t)
    (subst (All (NamesParts (followed_by v h))) (list_followed v h (of_names t)) (subst (λ (u : Vocabulary S). All (NamesParts u) (names u t)) is (a t)))).1

pub headed_none : (ver : Version) → headed ver no_entries ≡ started ver
unfolding vocabulary_map no_entries
headed_none ver = followed_none (started ver)

module _ {ver : Version} where
  pub opened_is : {h : Head} {o : Octets} {v : Vocabulary Octets} → Opens ver h o v → v ≡ headed ver h
  opened_is without_head = sym (headed_none ver)
  opened_is {h} (with_head heads any u) = tables_are ver u ∙ behind_ten (started ver) (plain_head h)

  opened_good : {h : Head} {o : Octets} {v : Vocabulary Octets} → Opens ver h o v → Good v
  opened_good op = opens_keep ver Good (good_step ver) op (good_started ver)

  pub opened_spelled : {h : Head} {o : Octets} {v : Vocabulary Octets} → Opens ver h o v → (t : StringTable) → All Said (strings v t)
  opened_spelled op t = (opened_good op).spelled t

  pub opened_named : {h : Head} {o : Octets} {v : Vocabulary Octets} → Opens ver h o v → (t : NameTable) → All (NamesParts v) (names v t)
  opened_named op t = (opened_good op).named t

  pub opened_ranged : {h : Head} {o : Octets} {v : Vocabulary Octets} → Opens ver h o v → Ranged v
  opened_ranged op = named_ranged (opened_named op)

  no_version : {h : Head} {o : Octets} {v : Vocabulary Octets} → Opens ver h o v → (ver.heads ≡ true → ⊥) → h ≡ no_entries
  no_version without_head n = refl
  no_version (with_head heads any u) n = absurd (n heads)

  pub head_allowed : Bounded ver → {h : Head} {o : Octets} {v : Vocabulary Octets} → Opens ver h o v → HeadAllowed ver h × (v ≡ headed ver h)
  head_allowed ok {h = h} op =
      let is = opened_is op in
      let g : Good (headed ver h) = subst Good is (opened_good op) in (
        record {
          spelled = opens_can ver op;
          named = λ t. subst (All (NamesParts (headed ver h))) (names-map says h t) (named_listed (started ver) (plain_head h) is (opened_named op) t);
          distinct = (distinct_exact (headed ver h)).1 (g.distinct, g.distinct-names);
          in_limits = subst (InLimits ver) is (opens_keep ver (InLimits ver) (few_step ver) op (limits_started ver ok.some_entries));
          version = no_version op;
        },
        is,
      )

-- ---- one head is one run of octets
pub one_head : {ver : Version} {h : Head} {o p : Octets} {v w : Vocabulary Octets} → Opens ver h o v → Opens ver h p w → (o ≡ p) × (v ≡ w)
one_head a b = (one_opening a b, opened_is a ∙ sym (opened_is b))

-- ---- within wider limits
module _ (ver M : Version) (many : ver.entries ≤ M.entries) where
  part_wider : {m n : ℕ} {o : Octets} → PartListed ver m n o → PartListed M m n o
  part_wider no_part = no_part
  part_wider (a_part small en) = a_part small en

  entry_wider : (t : Table) (v : Vocabulary Octets) (x : EntryOf Listed t) (o : Octets) (w : Vocabulary Octets) → EntryListed ver t v x o w → EntryListed M t v x o w
  entry_wider (of_strings t) v x o w (an_identifying i (id_spelled sp new room)) = an_identifying i (id_spelled sp new (omega arith))
  entry_wider (of_strings t) v x o w (another i (literal_spelled sp room)) = another i (literal_spelled sp (λ e. let r = room e in omega arith))
  entry_wider (of_names t) v x o w (a_surrogate paired has up un ul new room) = a_surrogate paired has (part_wider up) (part_wider un) (part_wider ul) new (omega arith)

  each_wider : (t : Table) {v w : Vocabulary Octets} {xs : List (EntryOf Listed t)} {o : Octets} → Each ver (EntryListed ver t) v xs o w → Each M (EntryListed M t) v xs o w
  each_wider t no_entry = no_entry
  each_wider t (an_entry {v = v} {u = u} {x = x} {o = o} r q) = an_entry (entry_wider t v x o u r) (each_wider t q)

  tables_wider : {h : Head} {ts : List Table} {v w : Vocabulary Octets} {o : Octets} → TablesListed ver h ts v o w → TablesListed M h ts v o w
  tables_wider no_table = no_table
  tables_wider (absent e r) = absent e (tables_wider r)
  tables_wider (present {t = of_strings t} o any few y r) = present o any few (each_wider (of_strings t) y) (tables_wider r)
  tables_wider (present {t = of_names t} o any few y r) = present o any few (each_wider (of_names t) y) (tables_wider r)

started-same : (ver M : Version) → ver.built_in ≡ M.built_in → started ver ≡ started M
unfolding starting
started-same ver M e = rw e

pub wider : {ver M : Version} → ver.entries ≤ M.entries → ver.identification ≡ M.identification → ver.built_in ≡ M.built_in → ver.heads ≡ M.heads
    → {h : Head} {o : Octets} {v : Vocabulary Octets} → Opens ver h o v → Opens M h o v
wider {ver} {M} many id built heads without_head =
    subst₂ (λ (i : Octets) (w : Vocabulary Octets). Opens M no_entries (i ++ (0x00 ∷ [])) w) (sym id) (sym (started-same ver M built)) without_head
wider {ver} {M} many id built heads {h} {v = v} (with_head {o = o} has any u) =
    subst (λ (i : Octets). Opens M h (i ++ (0x20 ∷ presence h ten_tables / 256 ∷ presence h ten_tables % 256 ∷ o)) v) (sym id)
    (with_head (sym heads ∙ has) any (subst (λ (w : Vocabulary Octets). TablesListed M h ten_tables w o v) (started-same ver M built) (tables_wider ver M many u)))

-- ---- tables with the names themselves in place of the triples
unfoldable pub begins : {S : Type 0} → S → Vocabulary S → Tables S (Name S)
begins d v =
    record {
      prefixes = v.prefixes;
      namespaces = v.namespaces;
      locals = v.locals;
      ncnames = v.ncnames;
      uris = v.uris;
      values = v.values;
      chunks = v.chunks;
      others = v.others;
      elements = map (name_of v d) v.elements;
      attributes = map (name_of v d) v.attributes;
    }

all_mean : {S : Type 0} (d : S) (v : Vocabulary S) (l : List Triple) → ((k : ℕ) (x : Triple) → Entry l k x → InRange v x) → AllMean v l (map (name_of v d) l)
unfolding strings
all_mean d v [] f = no_triple_lem
all_mean d v (x ∷ l) f = let i = f 0 x first in a_triple (means_at d v x i.prefix i.namespace i.some_local i.local) (all_mean d v l (λ k y e. f (suc k) y (later e)))

same-strings : {S : Type 0} (d : S) (v : Vocabulary S) (t : StringTable) → strings v t ≡ strings (begins d v) t
unfolding strings begins
same-strings d v = by_table_lem _ refl refl refl refl refl refl refl refl

pub holds_begins : {S : Type 0} (d : S) (v : Vocabulary S) → Ranged v → Holds v (begins d v)
unfolding names begins
holds_begins d v r =
    record { strings_are_lem = same-strings d v; names_are_lem = λ t. elim t as (λ u. AllMean v (names v u) (names (begins d v) u)) [ ELEMENT_NAME ↦ all_mean d v v.elements (r ELEMENT_NAME) | ATTRIBUTE_NAME ↦ all_mean d v v.attributes (r ATTRIBUTE_NAME) ] }

-- ---- every head that is allowed is listed
-- a string that can be listed in utf-8 is listed as itself
plain-spelling : {x y : Octets} {form : StringForm} → form ≡ Utf8 → Spelling form x y → Spelling Utf8 x x
plain-spelling {x} {y} e sp = let s : Spelling Utf8 x y = subst (λ (f : StringForm). Spelling f x y) e sp in subst (Spelling Utf8 x) s.formed.1 s

module _ (ver : Version) where
  list_string : (t : StringTable) (v : Vocabulary Octets) (x : Listed) → CanBeListed t x → (is_identifying t ≡ true → New (strings v t) x.says) → length (strings v t) < ver.entries
      → (b : Bool) → is_identifying t ≡ b → (o : Octets) × StringListed ver t v x o (adding v t x.says)
  list_string t v x c new room true i =
      subst (λ (f : StringForm). (o : Octets) × StringListed ver t v (record { says = x.says; form = f }) o (adding v t x.says)) (sym (c.plain i))
      (with_length (lengths 2) 0 x.says, an_identifying i (id_spelled (plain-spelling (c.plain i) c.spelled) (new i) room))
  list_string t v x c new room false i = (_, another i (literal_spelled {added = true} c.spelled (λ e. room)))

  more-behind : (t : Table) (v : Vocabulary Octets) (x : EntryOf Octets t) (xs : List (EntryOf Octets t)) → list_of v t ++ (x ∷ xs) ≡ list_of (add_to v t x) t ++ xs
  more-behind t v x xs = sym (append_assoc (list_of v t) (x ∷ []) xs) ∙ ap (λ (l : List (EntryOf Octets t)). l ++ xs) (sym (list_own v t x))

  list_strings : (t : StringTable) (v : Vocabulary Octets) (xs : List Listed) → All (CanBeListed t) xs → (is_identifying t ≡ true → Distinct (strings v t ++ map says xs))
      → length (strings v t ++ map says xs) ≤ ver.entries → (o : Octets) × Each ver (StringListed ver t) v xs o (add_all (of_strings t) v (map says xs))
  list_strings t v [] sp new few = ([], no_entry)
  list_strings t v (x ∷ xs) sp new few =
      let l = length-append (strings v t) (x.says ∷ map says xs) in
      let e = more-behind (of_strings t) v x.says (map says xs) in
      let one = list_string t v x sp.0 (λ i. new i (strings v t) x.says (map says xs) refl) (omega arith) (is_identifying t) refl in
      let rest = list_strings t (adding v t x.says) xs sp.1 (λ i. subst Distinct e (new i)) (subst (λ (m : List Octets). length m ≤ ver.entries) e few) in
      (one.0 ++ rest.0, an_entry one.1 rest.1)

  list_part : (m n : ℕ) → n ≤ m → m ≤ top → (o : Octets) × PartListed ver m n o
  list_part m zero h small = ([], no_part)
  list_part m (suc k) h small = (spell c25 0 (suc k), a_part {k = k} (omega arith) (omega arith))

  -- z are tables with the same strings
  list_names : (t : NameTable) (v z : Vocabulary Octets) (xs : List Triple) → ((u : StringTable) → strings v u ≡ strings z u) → ((u : StringTable) → length (strings z u) ≤ top) → All (NamesParts z) xs
      → Distinct (names v t ++ xs) → length (names v t ++ xs) ≤ ver.entries → (o : Octets) × Each ver (NameListed ver t) v xs o (add_all (of_names t) v xs)
  unfolding strings
  list_names t v z [] same small k new few = ([], no_entry)
  list_names t v z (x ∷ xs) same small k new few =
      let l = length-append (names v t) (x ∷ xs) in
      let e = more-behind (of_names t) v x xs in
      let k0 = k.0 in
      let kp = k0.prefix in
      let kn = k0.namespace in
      let kl = k0.local in
      let sp = ap length (same PREFIX) in
      let sn = ap length (same NAMESPACE_NAME) in
      let sl = ap length (same LOCAL_NAME) in
      let bp = small PREFIX in
      let bn = small NAMESPACE_NAME in
      let bl = small LOCAL_NAME in
      let p = list_part (length v.prefixes) x.prefix (omega arith) (omega arith) in
      let n = list_part (length v.namespaces) x.namespace (omega arith) (omega arith) in
      let c = list_part (length v.locals) x.local (omega arith) (omega arith) in
      let o : Octets = (2 * some? x.prefix + some? x.namespace) ∷ (p.0 ++ (n.0 ++ c.0)) in
      let one : NameListed ver t v x o (adding_name v t x) = a_surrogate k0.not_alone k0.has-local p.1 n.1 c.1 (new (names v t) x xs refl) (omega arith) in
      let rest = list_names t (adding_name v t x) z xs (λ u. strings-adding_name v t x u ∙ same u) small k.1 (subst Distinct e new) (subst (λ (m : List Triple). length m ≤ ver.entries) e few) in
      (o ++ rest.0, an_entry one rest.1)

  -- ts are the tables that are still to be listed: with them, v becomes what it has to become
  module _ (ok : Bounded ver) (h : Head) (a : HeadAllowed ver h) where
    abbrev plain : Vocabulary Octets
    plain = plain_head h

    few_all : (t : Table) → length (list_of (headed ver h) t) ≤ ver.entries
    few_all (of_strings t) = a.in_limits.few t
    few_all (of_names t) = a.in_limits.few_names t

    list_table : (t : Table) (ts : List Table) (v : Vocabulary Octets) → size_of h t ≤ top → (o : Octets) × Each ver (EntryListed ver t) v (list_of h t) o (add_all t v (list_of plain t))
        → (os : Octets) × TablesListed ver h ts (add_all t v (list_of plain t)) os (headed ver h) → (o : Octets) × TablesListed ver h (t ∷ ts) v o (headed ver h)
    list_table t ts v few e r =
        case 0 (size_of h t) (λ any. (_, present e.0 any few (entries_are t e) r.1))
        (λ none. let z : size_of h t ≡ 0 = omega arith in
        (r.0, absent z (subst (λ (l : List (EntryOf Octets t)). TablesListed ver h ts (add_all t v l) r.0 (headed ver h)) (no_list (list_of plain t) (size-map says h t ∙ z)) r.1)))
      where
        entries_are : (t : Table) (e : (o : Octets) × Each ver (EntryListed ver t) v (list_of h t) o (add_all t v (list_of plain t))) → Entries ver h t v e.0 (add_all t v (list_of plain t))
        entries_are (of_strings t) e = e.1
        entries_are (of_names t) e = e.1

    strings-first : (u : StringTable) (t : NameTable) → place u < code (of_names t)
    unfolding place
    strings-first u t = elim t as (λ k. place u < code (of_names k)) [ ELEMENT_NAME ↦ below u | ATTRIBUTE_NAME ↦ (let b = below u in omega arith) ]
      where
        below : (u : StringTable) → place u < 8
        below = by_table_lem _ (omega arith) (omega arith) (omega arith) (omega arith) (omega arith) (omega arith) (omega arith) (omega arith)

    list_tables : (ts : List Table) (v : Vocabulary Octets) → behind v ts (pieces plain ts) ≡ headed ver h → Ascending ts → (o : Octets) × TablesListed ver h ts v o (headed ver h)
    list_tables [] v e up = ([], subst (λ (w : Vocabulary Octets). TablesListed ver h [] v [] w) e no_table)
    list_tables (t ∷ ts) v e up =
        let is : list_of (headed ver h) t ≡ list_of v t ++ list_of plain t = sym (ap (λ (w : Vocabulary Octets). list_of w t) e) ∙ own v t ts (pieces plain (t ∷ ts)) up in
        let few = few_all t in
        let l = length-append (list_of v t) (list_of plain t) in
        let m = ap length is in
        let k = size-map says h t in
        let many = ok.few_entries in
        list_table t ts v (omega arith) (entries_of_lem t ts v e up is (omega arith)) (list_tables ts (add_all t v (list_of plain t)) e (above_ascending (code t) ts up))
      where
        entries_of_lem : (t : Table) (ts : List Table) (v : Vocabulary Octets) → behind v (t ∷ ts) (pieces plain (t ∷ ts)) ≡ headed ver h → Above (code t) ts → list_of (headed ver h) t ≡ list_of v t ++ list_of plain t
            → length (list_of v t ++ list_of plain t) ≤ ver.entries → (o : Octets) × Each ver (EntryListed ver t) v (list_of h t) o (add_all t v (list_of plain t))
        entries_of_lem (of_strings t) ts v e up is few =
            let same = strings-map says h t in
            rw same
            (list_strings t v (strings h t) (a.spelled t) (λ i. rw same at (subst Distinct is (((distinct_exact (headed ver h)).0 a.distinct).0 t i))) (rw same at few))
        entries_of_lem (of_names t) ts v e up is few =
            let same = names-map says h t in
            rw same
            (list_names t v (headed ver h) (names h t)
            (λ u. sym (kept v (of_strings u) (of_names t ∷ ts) (pieces plain (of_names t ∷ ts)) (strings-first u t, up)) ∙ ap (λ (w : Vocabulary Octets). strings w u) e)
            (λ u. let b = a.in_limits.few u in let many = ok.few_entries in omega arith) (a.named t) (rw same at (subst Distinct is (((distinct_exact (headed ver h)).0 a.distinct).1 t))) (rw same at few))

has_heads : {ver : Version} {h : Head} → HeadAllowed ver h → 0 < presence h ten_tables → (b : Bool) → ver.heads ≡ b → ver.heads ≡ true
has_heads a any true e = e
has_heads {ver} a any false e = absurd (let z = ap (λ (g : Head). presence g ten_tables) (a.version (λ t. clash (sym e ∙ t))) ∙ nothing_present Listed in omega arith)

pub every_head : {ver : Version} → Bounded ver → {h : Head} → HeadAllowed ver h → (o : Octets) × Opens ver h o (headed ver h)
every_head {ver} ok {h} a =
    case 0 (presence h ten_tables)
    (λ any. let r = list_tables ver ok h a ten_tables (started ver) (behind_ten (started ver) (plain_head h)) ten_ascend in (_, with_head (has_heads a any ver.heads refl) any r.1))
    (λ none. let z : h ≡ no_entries = nothing-listed h (omega arith) in
    subst (λ (g : Head). (o : Octets) × Opens ver g o (headed ver g)) (sym z) (_, subst (Opens ver no_entries (ver.identification ++ (0x00 ∷ []))) (sym (headed_none ver)) without_head))
