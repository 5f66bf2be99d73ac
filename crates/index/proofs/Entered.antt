-- What is indexed at the start, and stays so when an entry is added.
-- Assumes nothing.
use mathlib.Core.Path.{◌≡◌, refl, sym, ap, ◌∙◌}
use mathlib.Core.Bool.{Bool, true, false}
use mathlib.Core.List.{List, map}
use Prim.Native.Nat.{ℕ, ◌+◌, ◌*◌, ◌≤◌, ◌<◌}
use native.Mathlib.Omega.{arith}
use native.Mathlib.Decide.{ℕ_discrete}
use borrow.Author.Tests.{eq-eqb, ne_eqb}
use lib.ListN.{length, get_or, set, replicate, length-set, length-replicate, get_or-replicate}
use lib.Seq.{get_or-set_other}
use Rattle.format.specs.Tables.{Triple, same}
use Rattle.format.specs.declared.StringForm.{StringForm}
use Rattle.tables.specs.Located.{stretch, octets_of}
use Rattle.tables.specs.Counts.{table_words}
use Rattle.tables.specs.Rows.{table_of, built_in, form_in, string_at, triple_at, entries}
use Rattle.tables.specs.Search.{number_in, number_of_triple}
use Rattle.tables.specs.Kept.{stored}
use Rattle.tables.proofs.Entries.{stored_other, stored_0, stored_1, stored_2}
use Rattle.tables.proofs.Found.{clash, same_refl}
use Rattle.index.specs.Hash.{bucket, name_bucket}
use Rattle.index.specs.Chain.{reached, pushed}
use Rattle.index.specs.Indexed.{slots, strings, strings_at, names, StringsIndexed, NamesIndexed, Indexed, OneMore, Keeps, StringEntered, NameEntered}
use Rattle.index.proofs.Chain.{chains_ext, chains_none, entered, entered_known, entered_apart, entered_last}
use Rattle.index.proofs.Hash.{bucket_lt, name_bucket_lt}
use Rattle.index.proofs.Walks.{number_string, number_name}

-- ---- at the start: rows without octets, no names, and an index of zeros
module _ (only : ℕ → Bool) (s t : List ℕ) (count : ℕ → ℕ) (small : (k : ℕ) → count k ≤ 256)
    (bare : (k i : ℕ) → k < 8 → i < count k → get_or t (768 * k + 3 * i + 1) 0 ≡ 0) (unnamed : (k : ℕ) → 8 ≤ k → k < 10 → count k ≡ 0) where
  zero_head : (k h : ℕ) → k < 10 → h < 128 → get_or {A = ℕ} (replicate slots 0) (384 * k + h) 0 ≡ 0
  zero_head k h l u = get_or-replicate {A = ℕ} slots (384 * k + h) 0 0 (omega arith)

  bare_strings : (k : ℕ) → k < 8 → StringsIndexed s t (replicate slots 0) k (count k)
  unfolding StringsIndexed strings strings_at string_at
  bare_strings k l =
      chains_none (strings s k) (strings_at s t k) (768 * k) (reached (count k)) (384 * k) (replicate slots 0)
      (λ i u. rw (eq-eqb _ 0 (bare k i l (omega arith)), same_refl (octets_of s (built_in (table_of k))))) (λ h u. zero_head k h (omega arith) u)

  bare_names : (k : ℕ) → 8 ≤ k → k < 10 → NamesIndexed t (replicate slots 0) k (count k)
  unfolding NamesIndexed
  bare_names k l u =
      let z = unnamed k l u in
      chains_none names (triple_at t) (768 * k) (reached (count k)) (384 * k) (replicate slots 0) (λ i v. absurd (omega arith)) (λ h v. zero_head k h u v)

  pub indexed_bare : Indexed only s count t (replicate slots 0)
  indexed_bare =
      record { size = length-replicate {A = ℕ} slots 0; within = small; of_strings = λ k l o. bare_strings k l; of_names = λ k l u o. bare_names k l u }

-- ---- a row is stored
module _ (s t : List ℕ) (table n a b c : ℕ) where
  pub row_kept : (k j : ℕ) → k < 10 → j < 256 → n < 256 → (k ≡ table → j ≡ n → ⊥) → (i : ℕ) → i < 3 → get_or (stored t table n a b c) (768 * k + 3 * j + i) 0 ≡ get_or t (768 * k + 3 * j + i) 0
  row_kept k j l u r e i v =
      elim (ℕ_discrete k table) [
        | yes z ↦ (let w : j ≡ n → ⊥ = e z in stored_other t table n a b c (768 * k + 3 * j + i) (λ y. w (omega arith)) (λ y. w (omega arith)) (λ y. w (omega arith)))
        | no z ↦ stored_other t table n a b c (768 * k + 3 * j + i) (λ y. z (omega arith)) (λ y. z (omega arith)) (λ y. z (omega arith))
      ]

  -- a row's words, then what they say
  module _ (k j : ℕ) (l : k < 10) (u : j < 256) (r : n < 256) (e : k ≡ table → j ≡ n → ⊥) where
    pub word_kept : get_or (stored t table n a b c) (768 * k + 3 * j) 0 ≡ get_or t (768 * k + 3 * j) 0
    word_kept = let z : 768 * k + 3 * j + 0 ≡ 768 * k + 3 * j = omega arith in rw z at (row_kept k j l u r e 0 (omega arith))

    string_kept : strings_at s (stored t table n a b c) k (768 * k + 3 * j) ≡ strings_at s t k (768 * k + 3 * j)
    unfolding strings_at string_at
    string_kept = rw (word_kept, row_kept k j l u r e 1 (omega arith), row_kept k j l u r e 2 (omega arith))

    name_kept : triple_at (stored t table n a b c) (768 * k + 3 * j) ≡ triple_at t (768 * k + 3 * j)
    unfolding triple_at
    name_kept = rw (word_kept, row_kept k j l u r e 1 (omega arith), row_kept k j l u r e 2 (omega arith))

  -- the row itself
  module _ (l : table < 10) (r : n < 256) (size : length t ≡ table_words) where
    string_here : 1 ≤ b → (f : StringForm) → form_in (table_of table) c ≡ f → strings_at s (stored t table n a b c) table (768 * table + 3 * n) ≡ octets_of s (stretch f a b)
    unfolding strings_at string_at
    string_here g f is =
        let y = stored_1 t table n a b c (omega arith) in
        rw (y, stored_0 t table n a b c (omega arith), stored_2 t table n a b c (omega arith), ne_eqb b 0 (omega arith), is)

    name_here : triple_at (stored t table n a b c) (768 * table + 3 * n) ≡ record { prefix = a; namespace = b; local = c }
    unfolding triple_at
    name_here = rw (stored_0 t table n a b c (omega arith), stored_1 t table n a b c (omega arith), stored_2 t table n a b c (omega arith))

-- ---- the other tables, and their part of the index
-- table k's part of the index is as it was
abbrev pub Apart : (table : ℕ) (index other : List ℕ) → Type 0
Apart table index other = (k i : ℕ) → (k ≡ table → ⊥) → i < 384 → get_or other (384 * k + i) 0 ≡ get_or index (384 * k + i) 0

pub apart_pushed : (table h n : ℕ) (index : List ℕ) → h < 128 → n < 256 → Apart table index (pushed index (384 * table) h n)
unfolding pushed
apart_pushed table h n index l r k i ne u =
    get_or-set_other (set index (384 * table + 128 + n) (get_or index (384 * table + h) 0)) (384 * table + h) (384 * k + i) (n + 1) 0 (λ e. ne (omega arith))
    ∙ get_or-set_other index (384 * table + 128 + n) (384 * k + i) (get_or index (384 * table + h) 0) 0 (λ e. ne (omega arith))

pub length-pushed : (base h n : ℕ) (index : List ℕ) → length (pushed index base h n) ≡ length index
unfolding pushed
length-pushed base h n index = simp length-set

module _ (s t : List ℕ) (table n a b c : ℕ) (index other : List ℕ) (r : n < 256) (apart : Apart table index other) (same_size : length other ≡ length index) where
  links_apart : (k i : ℕ) → (k ≡ table → ⊥) → i < 256 → get_or other (384 * k + 128 + i) 0 ≡ get_or index (384 * k + 128 + i) 0
  links_apart k i ne l = let z : 384 * k + 128 + i ≡ 384 * k + (128 + i) = omega arith in rw z (apart k (128 + i) ne (omega arith))

  others_strings : (k m : ℕ) → k < 8 → (k ≡ table → ⊥) → m ≤ 256 → StringsIndexed s t index k m → StringsIndexed s (stored t table n a b c) other k m
  unfolding StringsIndexed
  others_strings k m l ne w x =
      chains_ext (strings s k) (strings_at s t k) (strings_at s (stored t table n a b c) k) (768 * k) (reached m) (384 * k) index other x
      (λ j u. string_kept s t table n a b c k j (omega arith) (omega arith) r (λ z y. ne z)) (λ h u. apart k h ne (omega arith)) (λ i u. links_apart k i ne (omega arith))

  others_names : (k m : ℕ) → 8 ≤ k → k < 10 → (k ≡ table → ⊥) → m ≤ 256 → NamesIndexed t index k m → NamesIndexed (stored t table n a b c) other k m
  unfolding NamesIndexed
  others_names k m g l ne w x =
      chains_ext names (triple_at t) (triple_at (stored t table n a b c)) (768 * k) (reached m) (384 * k) index other x
      (λ j u. name_kept s t table n a b c k j l (omega arith) r (λ z y. ne z)) (λ h u. apart k h ne (omega arith)) (λ i u. links_apart k i ne (omega arith))

  -- all tables, where the table itself is
  pub keeps : (length index ≡ slots → table < 8 → StringsIndexed s t index table n → StringsIndexed s (stored t table n a b c) other table (n + 1))
      → (length index ≡ slots → 8 ≤ table → table < 10 → NamesIndexed t index table n → NamesIndexed (stored t table n a b c) other table (n + 1))
      → Keeps s table n t index (stored t table n a b c) other
  keeps one two =
      record {
        still = λ only count more m x. record {
          size = same_size ∙ x.size;
          within = λ k. elim (ℕ_discrete k table) [
            | yes z ↦ (rw (z, m.here) (omega arith))
            | no z ↦ (rw (m.elsewhere k z) (x.within k))
          ];
          of_strings = λ k l o. elim (ℕ_discrete k table) [
            | yes z ↦ (rw (z, m.here) (one x.size (omega arith) (rw (z, m.was) at (x.of_strings k l o))))
            | no z ↦ (rw (m.elsewhere k z) (others_strings k (count k) l z (x.within k) (x.of_strings k l o)))
          ];
          of_names = λ k g l o. elim (ℕ_discrete k table) [
            | yes z ↦ (rw (z, m.here) (two x.size (omega arith) (omega arith) (rw (z, m.was) at (x.of_names k g l o))))
            | no z ↦ (rw (m.elsewhere k z) (others_names k (count k) g l z (x.within k) (x.of_names k g l o)))
          ];
        };
      }

-- ---- a string more, in the form f, which the word c says in its table
module _ (s t : List ℕ) (table n a b c : ℕ) (f : StringForm) (index : List ℕ) (l : table < 8) (r : n < 256) (size : length t ≡ table_words) (g : 1 ≤ b) (is : form_in (table_of table) c ≡ f) where
  rows : (j : ℕ) → j < n → strings_at s (stored t table n a b c) table (768 * table + 3 * j) ≡ strings_at s t table (768 * table + 3 * j)
  rows j u = string_kept s t table n a b c table j (omega arith) (omega arith) r (λ z y. omega arith)

  -- where the row is put in no chain, the index stays
  string_stays : (StringsIndexed s t index table n → StringsIndexed s (stored t table n a b c) index table (n + 1)) → Keeps s table n t index (stored t table n a b c) index
  string_stays f = keeps s t table n a b c index index r (λ k i ne u. refl) refl (λ z v x. f x) (λ z u v x. absurd (omega arith))

  pub string_known : (number_in (map (octets_of s) (entries (string_at (table_of table) t) (768 * table) n)) (octets_of s (stretch f a b)) ≡ 0 → ⊥)
      → Keeps s table n t index (stored t table n a b c) index
  unfolding StringsIndexed
  string_known old =
      string_stays
      (λ x. entered_known (strings s table) (strings_at s t table) (strings_at s (stored t table n a b c) table) (768 * table) n (384 * table) index (octets_of s (stretch f a b)) r x rows
      (string_here s t table n a b c (omega arith) r size g f is) (λ e. old (sym (number_string s t table n (octets_of s (stretch f a b))) ∙ e)))

  pub string_apart : same (octets_of s (built_in (table_of table))) (octets_of s (stretch f a b)) ≡ true → Keeps s table n t index (stored t table n a b c) index
  unfolding StringsIndexed strings
  string_apart e =
      string_stays
      (λ x. entered_apart (strings s table) (strings_at s t table) (strings_at s (stored t table n a b c) table) (768 * table) n (384 * table) index (octets_of s (stretch f a b)) r x rows
      (string_here s t table n a b c (omega arith) r size g f is) (rw e))

  pub string_last : 255 ≤ n → Keeps s table n t index (stored t table n a b c) index
  unfolding StringsIndexed
  string_last u =
      string_stays
      (λ x. entered_last (strings s table) (strings_at s t table) (strings_at s (stored t table n a b c) table) (768 * table) n (384 * table) index (octets_of s (stretch f a b)) r x rows
      (string_here s t table n a b c (omega arith) r size g f is) u)

  pub string_entered : n < 255 → number_in (map (octets_of s) (entries (string_at (table_of table) t) (768 * table) n)) (octets_of s (stretch f a b)) ≡ 0
      → same (octets_of s (built_in (table_of table))) (octets_of s (stretch f a b)) ≡ false
      → Keeps s table n t index (stored t table n a b c) (pushed index (384 * table) (bucket (octets_of s (stretch f a b))) n)
  unfolding StringsIndexed strings
  string_entered u new e =
      let y = octets_of s (stretch f a b) in
      keeps s t table n a b c index (pushed index (384 * table) (bucket y) n) r (apart_pushed table (bucket y) n index (bucket_lt y) r) (length-pushed (384 * table) (bucket y) n index)
      (λ z v x. entered (strings s table) (strings_at s t table) (strings_at s (stored t table n a b c) table) (768 * table) n (384 * table) index y r x rows
      (string_here s t table n a b c (omega arith) r size g f is) u (rw e) (number_string s t table n y ∙ new) (bucket_lt y) (omega arith))
      (λ z v w x. absurd (omega arith))

  pub string_added : (u other : List ℕ) → u ≡ stored t table n a b c → Keeps s table n t index (stored t table n a b c) other
      → StringEntered s table n (record { a = a; b = b; c = c }) t index u other
  string_added u other e kept = rw e (record { words = refl; keeps = kept })

-- ---- a name more
module _ (s t : List ℕ) (table n a b c : ℕ) (index : List ℕ) (m : 8 ≤ table) (l : table < 10) (r : n < 256) (size : length t ≡ table_words) where
  triples : (j : ℕ) → j < n → triple_at (stored t table n a b c) (768 * table + 3 * j) ≡ triple_at t (768 * table + 3 * j)
  triples j u = name_kept s t table n a b c table j l (omega arith) r (λ z y. omega arith)

  name_stays : (NamesIndexed t index table n → NamesIndexed (stored t table n a b c) index table (n + 1)) → Keeps s table n t index (stored t table n a b c) index
  name_stays f = keeps s t table n a b c index index r (λ k i ne u. refl) refl (λ z v x. absurd (omega arith)) (λ z u v x. f x)

  pub name_known : (number_of_triple (entries (triple_at t) (768 * table) n) (record { prefix = a; namespace = b; local = c }) ≡ 0 → ⊥)
      → Keeps s table n t index (stored t table n a b c) index
  unfolding NamesIndexed
  name_known old =
      name_stays
      (λ x. entered_known names (triple_at t) (triple_at (stored t table n a b c)) (768 * table) n (384 * table) index (record { prefix = a; namespace = b; local = c }) r x triples
      (name_here s t table n a b c l r size) (λ e. old (sym (number_name t table n (record { prefix = a; namespace = b; local = c })) ∙ e)))

  pub name_last : 255 ≤ n → Keeps s table n t index (stored t table n a b c) index
  unfolding NamesIndexed
  name_last u =
      name_stays
      (λ x. entered_last names (triple_at t) (triple_at (stored t table n a b c)) (768 * table) n (384 * table) index (record { prefix = a; namespace = b; local = c }) r x triples
      (name_here s t table n a b c l r size) u)

  pub name_entered : n < 255 → number_of_triple (entries (triple_at t) (768 * table) n) (record { prefix = a; namespace = b; local = c }) ≡ 0
      → Keeps s table n t index (stored t table n a b c) (pushed index (384 * table) (name_bucket (record { prefix = a; namespace = b; local = c })) n)
  unfolding NamesIndexed names
  name_entered u new =
      let y : Triple = record { prefix = a; namespace = b; local = c } in
      keeps s t table n a b c index (pushed index (384 * table) (name_bucket y) n) r (apart_pushed table (name_bucket y) n index (name_bucket_lt y) r) (length-pushed (384 * table) (name_bucket y) n index)
      (λ z v x. absurd (omega arith))
      (λ z v w x. entered names (triple_at t) (triple_at (stored t table n a b c)) (768 * table) n (384 * table) index y r x triples
      (name_here s t table n a b c l r size) u refl (number_name t table n y ∙ new) (name_bucket_lt y) (omega arith))

  pub name_added : (u other : List ℕ) → u ≡ stored t table n a b c → Keeps s table n t index (stored t table n a b c) other
      → NameEntered s table n (record { prefix = a; namespace = b; local = c }) t index u other
  name_added u other e kept = rw e (record { words = refl; keeps = kept })

-- ---- an entry more in a table that is not indexed
pub keeps_elsewhere : (only : ℕ → Bool) (s t index : List ℕ) (table n a b c : ℕ) (count more : ℕ → ℕ) → n < 256 → only table ≡ false → OneMore table n count more
    → Indexed only s count t index → Indexed only s more (stored t table n a b c) index
keeps_elsewhere only s t index table n a b c count more r o m x =
    record {
      size = x.size;
      within = λ k. elim (ℕ_discrete k table) [
        | yes z ↦ (rw (z, m.here) (omega arith))
        | no z ↦ (rw (m.elsewhere k z) (x.within k))
      ];
      of_strings = λ k l p. (let z : k ≡ table → ⊥ = λ e. clash (sym o ∙ ap only (sym e) ∙ p) in
          rw (m.elsewhere k z) (others_strings s t table n a b c index index r (λ k i ne u. refl) refl k (count k) l z (x.within k) (x.of_strings k l p)));
      of_names = λ k g l p. (let z : k ≡ table → ⊥ = λ e. clash (sym o ∙ ap only (sym e) ∙ p) in
          rw (m.elsewhere k z) (others_names s t table n a b c index index r (λ k i ne u. refl) refl k (count k) g l z (x.within k) (x.of_names k g l p)));
    }
