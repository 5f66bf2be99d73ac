-- The tests of tables that are given for a head, each with what it says: of every entry of a list, of every table, that no entry is listed twice, that no table has an entry.
use Prim.Native.Nat.{ℕ, suc}
use mathlib.Core.Path.{◌≡◌, refl, sym, ap, ◌∙◌, subst}
use mathlib.Core.Logic.{◌↔◌}
use mathlib.Core.Bool.{Bool, true, false, not, ◌&&◌}
use mathlib.Core.List.{List, [], ◌∷◌, ◌++◌}
use native.Mathlib.Omega.{arith}
use borrow.Author.Tests.{eqb-true, eq-eqb, leb-true, le-leb}
use lib.Dec.{leb}
use lib.ListN.{length, length-map}
use Rattle.format.specs.Octets.{Octets}
use Rattle.format.specs.Numbers.{pick}
use Rattle.format.specs.Tables.{StringTable, PREFIX, NAMESPACE_NAME, LOCAL_NAME, OTHER_NCNAME, OTHER_URI, ATTRIBUTE_VALUE, CONTENT_CHARACTER_CHUNK, OTHER_STRING, holds, holds_name}
use Rattle.format.specs.Tables.{NameTable, ELEMENT_NAME, ATTRIBUTE_NAME, Triple, Vocabulary, strings, names, no_entries, vocabulary_map, Entry, first, later, New}
use Rattle.format.specs.Head.{is_identifying, ten_tables, size_of, presence}
use Rattle.format.specs.Allowed.{All}
use Rattle.tables.proofs.Found.{clash, both_true}
use Rattle.tables.proofs.EntryLaws.{entry_made}
use Rattle.tables.proofs.NewLaws.{new_string, new_name_lem}
use Rattle.tables.proofs.ByNumber.{by_table_lem}
use Rattle.fields.proofs.Utf8.{told}
use Rattle.events.specs.declared.EventString.{EventString}
use Rattle.events.specs.WellMade.{IsStretch, is_stretch, IsString, is_string}
use Rattle.write_head.specs.Head.{is_none, in_strings, in_names, every, distinct, distinct_names, is_triple, is_entry}
use Rattle.theorems.proofs.Sayable.{both, stretch_is, is_stretch_lem, string_is, is_string_lem, as_string}
use Rattle.theorems.proofs.Alls.{all_so}
use Rattle.theorems.proofs.HeadOctets.{nothing-listed, nothing_present}
use Rattle.theorems.specs.Heads.{Distinct, NamesParts}

pub untrue : (b : Bool) → (b ≡ true → ⊥) → b ≡ false
untrue true f = absurd (f refl)
untrue false f = refl

-- ---- every entry of a list
module _ {A : Type 0} (f : A → Bool) (P : A → Type 0) where
  pub every_all : ((x : A) → f x ≡ true → P x) → (l : List A) → every f l ≡ true → All P l
  unfolding every
  every_all own [] e = tt
  every_all own (x ∷ l) e = let b = both_true (f x) (every f l) e in (own x b.0, every_all own l b.1)

  pub all_every : ((x : A) → P x → f x ≡ true) → (l : List A) → All P l → every f l ≡ true
  unfolding every
  all_every own [] a = refl
  all_every own (x ∷ l) a = both (own x a.0) (all_every own l a.1)

-- ---- every table
pub in_strings_lem : (f : StringTable → Bool) → (in_strings f ≡ true) ↔ ((t : StringTable) → f t ≡ true)
unfolding in_strings
in_strings_lem f = (from, λ a. both (a PREFIX) (both (a NAMESPACE_NAME) (both (a LOCAL_NAME) (both (a OTHER_NCNAME) (both (a OTHER_URI) (both (a ATTRIBUTE_VALUE) (both (a CONTENT_CHARACTER_CHUNK) (a OTHER_STRING))))))))
  where
    from : in_strings f ≡ true → (t : StringTable) → f t ≡ true
    from e =
        let a = both_true (f PREFIX) _ e in
        let b = both_true (f NAMESPACE_NAME) _ a.1 in
        let c = both_true (f LOCAL_NAME) _ b.1 in
        let d = both_true (f OTHER_NCNAME) _ c.1 in
        let g = both_true (f OTHER_URI) _ d.1 in
        let h = both_true (f ATTRIBUTE_VALUE) _ g.1 in
        let i = both_true (f CONTENT_CHARACTER_CHUNK) (f OTHER_STRING) h.1 in
        by_table_lem (λ (t : StringTable). f t ≡ true) a.0 b.0 c.0 d.0 g.0 h.0 i.0 i.1

pub in_names_lem : (f : NameTable → Bool) → (in_names f ≡ true) ↔ ((t : NameTable) → f t ≡ true)
unfolding in_names
in_names_lem f = (λ e t. let a = both_true (f ELEMENT_NAME) (f ATTRIBUTE_NAME) e in elim t as (λ u. f u ≡ true) [ ELEMENT_NAME ↦ a.0 | ATTRIBUTE_NAME ↦ a.1 ], λ a. both (a ELEMENT_NAME) (a ATTRIBUTE_NAME))

-- ---- the strings of a table: stretches of the text area, in utf-8 if they are identifying
module _ (t : StringTable) (text : Octets) where
  entry_is : (x : EventString) → is_entry t text x ≡ true → IsString text x × (is_identifying t ≡ true → IsStretch text x)
  unfolding is_entry
  entry_is x e =
      told (is_identifying t) (λ i. let s = stretch_is text x (rw i at e) in (as_string text s, λ u. s)) (λ i. (string_is text x (rw i at e), λ u. clash (sym i ∙ u)))

  is_entry_lem : (x : EventString) (b : Bool) → is_identifying t ≡ b → pick b (is_stretch text x) (is_string text x) ≡ true → is_entry t text x ≡ true
  unfolding is_entry
  is_entry_lem x b i e = rw i e

  pub entries_exact : (l : List EventString) → (every (is_entry t text) l ≡ true) ↔ (All (IsString text) l × (is_identifying t ≡ true → All (IsStretch text) l))
  entries_exact l = (
    λ e.
        let a = every_all (is_entry t text) (λ x. IsString text x × (is_identifying t ≡ true → IsStretch text x)) entry_is l e in
        (all_so (IsString text) (λ x s. s.0) l a, λ i. all_so (IsStretch text) (λ x s. s.1 i) l a),
    λ a.
        told (is_identifying t)
        (λ i. all_every (is_entry t text) (IsStretch text) (λ x s. is_entry_lem x true i (is_stretch_lem text s)) l (a.1 i))
        (λ i. all_every (is_entry t text) (IsString text) (λ x s. is_entry_lem x false i (is_string_lem text s)) l a.0),
  )

-- ---- an entry of a list: the first, or one of the others
by_entry : {X A : Type 0} {y x : A} {l : List A} {k : ℕ} → Entry (y ∷ l) k x → (y ≡ x → X) → ((j : ℕ) → Entry l j x → X) → X
by_entry first f g = f refl
by_entry (later {k = j} en) f g = g j en

-- ---- no entry twice, for a test that an entry is none of these
module _ {A : Type 0} (held : List A → A → Bool) (exact : (l : List A) (x : A) → (held l x ≡ false) ↔ New l x) (once : List A → Bool) (nil : once [] ≡ true)
    (cons : (x : A) (l : List A) → once (x ∷ l) ≡ (not (held l x) && once l)) where
  unheld : (b : Bool) → not b ≡ true → b ≡ false
  unheld true e = clash e
  unheld false e = refl

  behind_entry_lem : (b : List A) (x : A) (l : List A) → Entry (b ++ (x ∷ l)) (length b) x
  behind_entry_lem [] x l = first
  behind_entry_lem (y ∷ b) x l = later (behind_entry_lem b x l)

  apart : (b : List A) (x : A) (l : List A) → once (b ++ (x ∷ l)) ≡ true → New b x
  apart [] x l e k en = let h = entry_made en in omega arith
  apart (y ∷ b) x l e k en =
      let a = both_true (not (held (b ++ (x ∷ l)) y)) (once (b ++ (x ∷ l))) (sym (cons y (b ++ (x ∷ l))) ∙ e) in
      by_entry en
      (λ q. (exact (b ++ (x ∷ l)) y).0 (unheld (held (b ++ (x ∷ l)) y) a.0) (length b) (subst (λ (z : A). Entry (b ++ (x ∷ l)) (length b) z) (sym q) (behind_entry_lem b x l)))
      (λ j en. apart b x l a.1 j en)

  once_distinct : (l : List A) → once l ≡ true → Distinct l
  once_distinct l e b x c q = apart b x c (subst (λ (m : List A). once m ≡ true) q e)

  -- an entry that is held stands somewhere
  record At (l : List A) (x : A) : Type 0 where
    before : List A
    after : List A
    is : l ≡ before ++ (x ∷ after)

  at_entry : {l : List A} {k : ℕ} {x : A} → Entry l k x → At l x
  at_entry (first {table = l}) = record { before = []; after = l; is = refl }
  at_entry (later {y = y} en) = let a = at_entry en in record { before = y ∷ a.before; after = a.after; is = ap (λ (m : List A). y ∷ m) a.is }

  distinct_once : (l : List A) → Distinct l → once l ≡ true
  distinct_once [] d = nil
  distinct_once (x ∷ l) d =
      let new : New l x = λ k en. let a = at_entry en in d (x ∷ a.before) x a.after (ap (λ (m : List A). x ∷ m) a.is) 0 first in
      cons x l ∙ both (ap not ((exact l x).1 new)) (distinct_once l (λ b y c q k en. d (x ∷ b) y c (ap (λ (m : List A). x ∷ m) q) (suc k) (later en)))

  once_exact : (l : List A) → (once l ≡ true) ↔ Distinct l
  once_exact l = (once_distinct l, distinct_once l)

pub distinct-strings : (l : List Octets) → (distinct l ≡ true) ↔ Distinct l
unfolding distinct
distinct-strings = once_exact holds new_string distinct refl (λ x l. refl)

pub distinct_triples : (l : List Triple) → (distinct_names l ≡ true) ↔ Distinct l
unfolding distinct_names
distinct_triples = once_exact holds_name new_name_lem distinct_names refl (λ x l. refl)

-- ---- a name's numbers
pub triple_exact : {S : Type 0} (v : Vocabulary S) (x : Triple) → (is_triple v x ≡ true) ↔ NamesParts v x
unfolding is_triple
triple_exact v x = (from, λ r. both (le-leb _ _ r.prefix) (both (le-leb _ _ r.namespace) (both (le-leb _ _ r.has-local) (both (le-leb _ _ r.local) (le-leb _ _ r.not_alone)))))
  where
    from : is_triple v x ≡ true → NamesParts v x
    from e =
        let a = both_true (leb x.prefix (length v.prefixes)) _ e in
        let b = both_true (leb x.namespace (length v.namespaces)) _ a.1 in
        let c = both_true (leb 1 x.local) _ b.1 in
        let d = both_true (leb x.local (length v.locals)) _ c.1 in
        record { prefix = leb-true _ _ a.0; namespace = leb-true _ _ b.0; local = leb-true _ _ d.0; has-local = leb-true _ _ c.0; not_alone = leb-true _ _ d.1 }

pub triple-map : {S T : Type 0} (f : S → T) (v : Vocabulary S) (x : Triple) → is_triple (vocabulary_map f v) x ≡ is_triple v x
unfolding is_triple vocabulary_map
triple-map f v x = simp length-map

-- ---- no entry at all
pub none_is : {S : Type 0} (h : Vocabulary S) → is_none h ≡ true → h ≡ no_entries
unfolding is_none
none_is h e = nothing-listed h (eqb-true (presence h ten_tables) 0 e)

pub is_none_lem : (S : Type 0) → is_none (no_entries {S = S} {N = Triple}) ≡ true
unfolding is_none
is_none_lem S = eq-eqb (presence (no_entries {S = S} {N = Triple}) ten_tables) 0 (nothing_present S)

pub none_map : {S T : Type 0} (f : S → T) (v : Vocabulary S) → is_none (vocabulary_map f v) ≡ is_none v
unfolding is_none presence ten_tables size_of strings names vocabulary_map
none_map f v = simp length-map
