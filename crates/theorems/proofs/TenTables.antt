-- The ten tables alike, those of strings and those of names: the entries of one, some entries more, and entries for several tables in their order.
use Prim.Native.Nat.{ℕ, ◌≤◌, ◌<◌}
use mathlib.Core.Path.{◌≡◌, refl, sym, ap, ◌∙◌}
use mathlib.Core.List.{List, [], ◌∷◌, ◌++◌, map, append_assoc, append-nil}
use native.Mathlib.Omega.{arith}
use borrow.Author.Tests.{eq-eqb, ne_eqb}
use lib.ListN.{length}
use Rattle.format.specs.Tables.{StringTable, PREFIX, NAMESPACE_NAME, LOCAL_NAME, OTHER_NCNAME, OTHER_URI, ATTRIBUTE_VALUE, CONTENT_CHARACTER_CHUNK, OTHER_STRING}
use Rattle.format.specs.Tables.{ELEMENT_NAME, ATTRIBUTE_NAME, Triple, Vocabulary, strings, names, adding, adding_name, no_entries, followed_by, vocabulary_map}
use Rattle.format.specs.Head.{Table, of_strings, of_names, ten_tables, size_of}
use Rattle.tables.specs.Rows.{place}
use Rattle.tables.proofs.Adding.{same_names, strings-adding, names-adding, strings-adding_name, names-adding_name}
use Rattle.tables.proofs.ByNumber.{by_table_lem}
use Rattle.theorems.proofs.Words.{strings-map, length-strings, names-map, adding-map, adding-name-map}

pub no_list : {A : Type 0} (l : List A) → length l ≡ 0 → l ≡ []
no_list [] e = refl
no_list (x ∷ l) e = absurd (omega arith)

same-behind : {A : Type 0} (a b c : List A) → a ++ b ≡ a ++ c → b ≡ c
same-behind [] b c e = e
same-behind (x ∷ a) b c e = same-behind a b c (cc)

-- ---- one table
abbrev pub EntryOf : Type 0 → Table → Type 0
EntryOf S (of_strings t) = S
EntryOf S (of_names t) = Triple

abbrev pub code : Table → ℕ
code (of_strings t) = place t
code (of_names ELEMENT_NAME) = 8
code (of_names ATTRIBUTE_NAME) = 9

module _ {S : Type 0} where
  abbrev pub list_of : Vocabulary S → (t : Table) → List (EntryOf S t)
  list_of v (of_strings t) = strings v t
  list_of v (of_names t) = names v t

  abbrev pub add_to : Vocabulary S → (t : Table) → EntryOf S t → Vocabulary S
  add_to v (of_strings t) x = adding v t x
  add_to v (of_names t) x = adding_name v t x

  abbrev pub add_all : (t : Table) → Vocabulary S → List (EntryOf S t) → Vocabulary S
  add_all t v [] = v
  add_all t v (x ∷ xs) = add_all t (add_to v t x) xs

  pub list_own : (v : Vocabulary S) (t : Table) (x : EntryOf S t) → list_of (add_to v t x) t ≡ list_of v t ++ (x ∷ [])
  unfolding same_names
  list_own v (of_strings t) x = rw (strings-adding v t x t, eq-eqb (place t) (place t) refl)
  list_own v (of_names ELEMENT_NAME) x = names-adding_name v ELEMENT_NAME x ELEMENT_NAME
  list_own v (of_names ATTRIBUTE_NAME) x = names-adding_name v ATTRIBUTE_NAME x ATTRIBUTE_NAME

  list_other : (v : Vocabulary S) (t u : Table) (x : EntryOf S t) → (code t ≡ code u → ⊥) → list_of (add_to v t x) u ≡ list_of v u
  unfolding same_names
  list_other v (of_strings t) (of_strings u) x ne = rw (strings-adding v t x u, ne_eqb (place t) (place u) ne)
  list_other v (of_strings t) (of_names u) x ne = names-adding v t x u
  list_other v (of_names t) (of_strings u) x ne = strings-adding_name v t x u
  list_other v (of_names ELEMENT_NAME) (of_names ELEMENT_NAME) x ne = absurd (ne refl)
  list_other v (of_names ELEMENT_NAME) (of_names ATTRIBUTE_NAME) x ne = names-adding_name v ELEMENT_NAME x ATTRIBUTE_NAME
  list_other v (of_names ATTRIBUTE_NAME) (of_names ELEMENT_NAME) x ne = names-adding_name v ATTRIBUTE_NAME x ELEMENT_NAME
  list_other v (of_names ATTRIBUTE_NAME) (of_names ATTRIBUTE_NAME) x ne = absurd (ne refl)

  all_own : (t : Table) (v : Vocabulary S) (xs : List (EntryOf S t)) → list_of (add_all t v xs) t ≡ list_of v t ++ xs
  all_own t v [] = sym (append-nil (list_of v t))
  all_own t v (x ∷ xs) = all_own t (add_to v t x) xs ∙ ap (λ (l : List (EntryOf S t)). l ++ xs) (list_own v t x) ∙ append_assoc (list_of v t) (x ∷ []) xs

  all_other : (t : Table) (v : Vocabulary S) (u : Table) (xs : List (EntryOf S t)) → (code t ≡ code u → ⊥) → list_of (add_all t v xs) u ≡ list_of v u
  all_other t v u [] ne = refl
  all_other t v u (x ∷ xs) ne = all_other t (add_to v t x) u xs ne ∙ list_other v t u x ne

-- ---- several tables: a list of entries for each
abbrev pub Lists : Type 0 → List Table → Type 0
Lists S [] = Unit {0}
Lists S (t ∷ ts) = List (EntryOf S t) × Lists S ts

-- each table's number is over that of the one before it, and of the first one over n
abbrev pub Above : ℕ → List Table → Type 0
Above n [] = Unit {0}
Above n (t ∷ ts) = (n < code t) × Above (code t) ts

abbrev pub Ascending : List Table → Type 0
Ascending [] = Unit {0}
Ascending (t ∷ ts) = Above (code t) ts

above_less : (m n : ℕ) (ts : List Table) → m ≤ n → Above n ts → Above m ts
above_less m n [] h a = tt
above_less m n (t ∷ ts) h a = (omega arith, a.1)

pub above_ascending : (n : ℕ) (ts : List Table) → Above n ts → Ascending ts
above_ascending n [] a = tt
above_ascending n (t ∷ ts) a = a.1

pub data In (u : Table) : List Table → Type 0 where
  here : {ts : List Table} → In u (u ∷ ts)
  there : {t : Table} {ts : List Table} → In u ts → In u (t ∷ ts)

above_in : {u : Table} {n : ℕ} {ts : List Table} → Above n ts → In u ts → n < code u
above_in a here = a.0
above_in a (there {t = t} i) = let h = above_in {n = code t} a.1 i in omega arith

pub ten_ascend : Ascending ten_tables
unfolding ten_tables place
ten_ascend = omega arith

pub every : (u : Table) → In u ten_tables
unfolding ten_tables
every (of_strings t) =
    by_table_lem (λ (t : StringTable). In (of_strings t) ten_tables) here (there here) (there (there here)) (there (there (there here))) (there (there (there (there here))))
    (there (there (there (there (there here))))) (there (there (there (there (there (there here)))))) (there (there (there (there (there (there (there here))))))) t
every (of_names ELEMENT_NAME) = there (there (there (there (there (there (there (there here)))))))
every (of_names ATTRIBUTE_NAME) = there (there (there (there (there (there (there (there (there here))))))))

module _ {S : Type 0} where
  abbrev pub pieces : Vocabulary S → (ts : List Table) → Lists S ts
  pieces h [] = tt
  pieces h (t ∷ ts) = (list_of h t, pieces h ts)

  abbrev pub behind : Vocabulary S → (ts : List Table) → Lists S ts → Vocabulary S
  behind v [] l = v
  behind v (t ∷ ts) l = behind (add_all t v l.0) ts l.1

  pub kept : (v : Vocabulary S) (u : Table) (ts : List Table) (l : Lists S ts) → Above (code u) ts → list_of (behind v ts l) u ≡ list_of v u
  kept v u [] l a = refl
  kept v u (t ∷ ts) l a = kept (add_all t v l.0) u ts l.1 (above_less (code u) (code t) ts (let h = a.0 in omega arith) a.1) ∙ all_other t v u l.0 (λ e. let h = a.0 in omega arith)

  pub own : (v : Vocabulary S) (t : Table) (ts : List Table) (l : Lists S (t ∷ ts)) → Above (code t) ts → list_of (behind v (t ∷ ts) l) t ≡ list_of v t ++ l.0
  own v t ts l a = kept (add_all t v l.0) t ts l.1 a ∙ all_own t v l.0

  behind_list : (u : Table) (v h : Vocabulary S) {ts : List Table} → In u ts → Ascending ts → list_of (behind v ts (pieces h ts)) u ≡ list_of v u ++ list_of h u
  behind_list u v h (here {ts = ts}) a = own v u ts (pieces h (u ∷ ts)) a
  behind_list u v h (there {t = t} {ts = ts} i) a =
      behind_list u (add_all t v (list_of h t)) h i (above_ascending (code t) ts a)
      ∙ ap (λ (l : List (EntryOf S u)). l ++ list_of h u) (all_other t v u (list_of h t) (λ e. let b = above_in a i in omega arith))

  -- tables with the same entries are the same
  pub same_tables : (v w : Vocabulary S) → ((t : Table) → list_of v t ≡ list_of w t) → v ≡ w
  unfolding strings names
  same_tables v w e =
      λ i. record {
        prefixes = e (of_strings PREFIX) i;
        namespaces = e (of_strings NAMESPACE_NAME) i;
        locals = e (of_strings LOCAL_NAME) i;
        ncnames = e (of_strings OTHER_NCNAME) i;
        uris = e (of_strings OTHER_URI) i;
        values = e (of_strings ATTRIBUTE_VALUE) i;
        chunks = e (of_strings CONTENT_CHARACTER_CHUNK) i;
        others = e (of_strings OTHER_STRING) i;
        elements = e (of_names ELEMENT_NAME) i;
        attributes = e (of_names ATTRIBUTE_NAME) i;
      }

  strings_followed : (v h : Vocabulary S) (t : StringTable) → strings (followed_by v h) t ≡ strings v t ++ strings h t
  unfolding strings followed_by
  strings_followed v h = by_table_lem _ refl refl refl refl refl refl refl refl

  pub list_followed : (v h : Vocabulary S) (t : Table) → list_of (followed_by v h) t ≡ list_of v t ++ list_of h t
  unfolding names followed_by
  list_followed v h (of_strings t) = strings_followed v h t
  list_followed v h (of_names ELEMENT_NAME) = refl
  list_followed v h (of_names ATTRIBUTE_NAME) = refl

  pub followed_none : (v : Vocabulary S) → followed_by v no_entries ≡ v
  unfolding followed_by no_entries
  followed_none v = simp append-nil

  -- what stands behind the same entries is the same
  pub followed_one : (v : Vocabulary S) {g h : Vocabulary S} → followed_by v g ≡ followed_by v h → g ≡ h
  followed_one v {g} {h} e =
      same_tables g h (λ t. same-behind (list_of v t) (list_of g t) (list_of h t) (sym (list_followed v g t) ∙ ap (λ (w : Vocabulary S). list_of w t) e ∙ list_followed v h t))

  -- the ten with the entries of others behind their own
  pub behind_ten : (v h : Vocabulary S) → behind v ten_tables (pieces h ten_tables) ≡ followed_by v h
  behind_ten v h = same_tables _ _ (λ u. behind_list u v h (every u) ten_ascend ∙ sym (list_followed v h u))

-- lists for the ten are tables
module _ (S : Type 0) where
  unfoldable pub whole : Lists S ten_tables → Vocabulary S
  unfolding ten_tables
  whole l =
      let l1 = l.1 in
      let l2 = l1.1 in
      let l3 = l2.1 in
      let l4 = l3.1 in
      let l5 = l4.1 in
      let l6 = l5.1 in
      let l7 = l6.1 in
      let l8 = l7.1 in
      let l9 = l8.1 in
      record { prefixes = l.0; namespaces = l1.0; locals = l2.0; ncnames = l3.0; uris = l4.0; values = l5.0; chunks = l6.0; others = l7.0; elements = l8.0; attributes = l9.0 }

  pub whole_pieces : (h : Vocabulary S) → whole (pieces h ten_tables) ≡ h
  unfolding ten_tables strings names whole
  whole_pieces h = refl

  pieces_whole : (l : Lists S ten_tables) → pieces (whole l) ten_tables ≡ l
  unfolding ten_tables strings names whole
  pieces_whole l = refl

  pub behind_lists : (v : Vocabulary S) (l : Lists S ten_tables) → behind v ten_tables l ≡ followed_by v (whole l)
  behind_lists v l = ap (behind v ten_tables) (sym (pieces_whole l)) ∙ behind_ten v (whole l)

-- ---- the same with other strings
module _ {S T : Type 0} (f : S → T) where
  abbrev pub map_entry : (t : Table) → EntryOf S t → EntryOf T t
  map_entry (of_strings t) x = f x
  map_entry (of_names t) x = x

  abbrev pub map_lists : (ts : List Table) → Lists S ts → Lists T ts
  map_lists [] l = tt
  map_lists (t ∷ ts) l = (map (map_entry t) l.0, map_lists ts l.1)

  pub add_map : (v : Vocabulary S) (t : Table) (x : EntryOf S t) → vocabulary_map f (add_to v t x) ≡ add_to (vocabulary_map f v) t (map_entry t x)
  add_map v (of_strings t) x = adding-map f v t x
  add_map v (of_names t) x = adding-name-map f v t x

  map_triples : (l : List Triple) → map (λ (x : Triple). x) l ≡ l
  map_triples [] = refl
  map_triples (x ∷ l) = ap (λ (m : List Triple). x ∷ m) (map_triples l)

  pub list_map : (v : Vocabulary S) (t : Table) → list_of (vocabulary_map f v) t ≡ map (map_entry t) (list_of v t)
  list_map v (of_strings t) = strings-map f v t
  list_map v (of_names t) = names-map f v t ∙ sym (map_triples (names v t))

  pub size-map : (v : Vocabulary S) (t : Table) → length (list_of (vocabulary_map f v) t) ≡ size_of v t
  unfolding size_of
  size-map v (of_strings t) = length-strings f v t
  size-map v (of_names t) = ap length (names-map f v t)

  pub whole-map : (l : Lists S ten_tables) → whole T (map_lists ten_tables l) ≡ vocabulary_map f (whole S l)
  unfolding ten_tables vocabulary_map whole
  whole-map l = simp map_triples
