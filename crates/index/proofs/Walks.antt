-- The search along a chain, for strings and for names: where it starts, goes on, and stops.
-- Assumes nothing.
use mathlib.Core.Path.{◌≡◌, refl, ◌∙◌}
use mathlib.Core.Bool.{true, false, not, true≢false}
use mathlib.Core.List.{List, map}
use Prim.Native.Nat.{ℕ, ◌+◌, ◌-◌, ◌*◌, ◌≤◌, ◌<◌}
use native.Mathlib.Omega.{arith}
use native.Mathlib.Decide.{dec_lt}
use borrow.Author.Tests.{ne_eqb}
use lib.Dec.{eqb}
use lib.ListN.{get_or}
use Rattle.format.specs.Tables.{Triple, same, same_triple}
use Rattle.tables.specs.Located.{octets_of}
use Rattle.tables.specs.Rows.{table_of, built_in, string_at, triple_at, entries}
use Rattle.tables.specs.Search.{number_in, number_of_triple}
use Rattle.tables.proofs.Found.{same_eq, same_refl, same-triple_refl, same-triple_eq}
use Rattle.tables.proofs.Search.{octets-entries}
use Rattle.index.specs.Hash.{bucket, name_bucket}
use Rattle.index.specs.Chain.{numbered, reached, last_row}
use Rattle.index.specs.Indexed.{strings, strings_at, names, StringsIndexed, NamesIndexed}
use Rattle.index.proofs.Chain.{Equal, Walking, walk_start, walk_hit, walk_next, walk_falls, walk_end}
use Rattle.index.proofs.Hash.{bucket_lt, name_bucket_lt}

-- ---- strings
pub equal_strings : (s : List ℕ) (table : ℕ) → Equal (strings s table)
unfolding strings
equal_strings s table = record { exact = same_eq; itself = same_refl }

pub StringWalk : (s t : List ℕ) (table n : ℕ) (x : List ℕ) (k : ℕ) → Type 0
StringWalk s t table n x k = Walking (strings s table) (strings_at s t table) (768 * table) x (reached n) k

-- A number above 0 that was found says that there is one.
pub string_is : (k n : ℕ) → k ≡ n → 0 < k → true ≡ not (eqb n 0)
string_is k n e h = rw (ne_eqb n 0 (λ z. omega arith))

pub string_new : (n : ℕ) → not (eqb n 0) ≡ false → n ≡ 0
string_new n e = elim (dec_lt 0 n) [ yes h ↦ absurd (true≢false (string_is n n refl h ∙ e)) | no h ↦ omega arith ]

pub string_none : (n : ℕ) → n ≡ 0 → not (eqb n 0) ≡ false
string_none n e = rw e

module _ (s t : List ℕ) (table n : ℕ) (x : List ℕ) where
  pub number_string : numbered (strings s table) (strings_at s t table) (768 * table) n x ≡ number_in (map (octets_of s) (entries (string_at (table_of table) t) (768 * table) n)) x
  unfolding numbered number_in strings strings_at
  number_string = rw (octets-entries s (string_at (table_of table) t) (768 * table) n)

  module _ (k : ℕ) (w : StringWalk s t table n x k) where
    pub string_within : k ≤ n
    unfolding StringWalk
    string_within = let u = w.within in omega arith

    pub string_hit : 0 < k → same (octets_of s (string_at (table_of table) t (768 * table + 3 * (k - 1)))) x ≡ true
        → k ≡ number_in (map (octets_of s) (entries (string_at (table_of table) t) (768 * table) n)) x
    unfolding StringWalk strings_at strings
    string_hit p e = walk_hit (strings s table) (strings_at s t table) (768 * table) (equal_strings s table) x (reached n) k w p e n (omega arith) ∙ number_string

    pub string_end : n ≤ 256 → k ≡ 0 → last_row (strings s table) (strings_at s t table) (768 * table) n x ≡ number_in (map (octets_of s) (entries (string_at (table_of table) t) (768 * table) n)) x
    unfolding StringWalk
    string_end l z = walk_end (strings s table) (strings_at s t table) (768 * table) (equal_strings s table) x n k l w z ∙ number_string

  module _ (index : List ℕ) (c : StringsIndexed s t index table n) (e : same (octets_of s (built_in (table_of table))) x ≡ false) where
    counts : (strings s table).indexed x ≡ true
    unfolding strings
    counts = rw e

    pub string_start : StringWalk s t table n x (get_or index (384 * table + bucket x) 0)
    unfolding StringWalk StringsIndexed strings
    string_start = walk_start (strings s table) (strings_at s t table) (768 * table) (equal_strings s table) x (reached n) (384 * table) index c counts (bucket_lt x)

    module _ (k : ℕ) (w : StringWalk s t table n x k) (p : 0 < k) where
      pub string_falls : get_or index (384 * table + 128 + (k - 1)) 0 < k
      unfolding StringWalk StringsIndexed
      string_falls = walk_falls (strings s table) (strings_at s t table) (768 * table) (equal_strings s table) x (reached n) (384 * table) index c counts k w p

      pub string_next : same (octets_of s (string_at (table_of table) t (768 * table + 3 * (k - 1)))) x ≡ false → StringWalk s t table n x (get_or index (384 * table + 128 + (k - 1)) 0)
      unfolding StringWalk StringsIndexed strings_at strings
      string_next d = walk_next (strings s table) (strings_at s t table) (768 * table) (equal_strings s table) x (reached n) (384 * table) index c counts k w p d

-- ---- names
pub equal_names : Equal names
unfolding names
equal_names = record { exact = same-triple_eq; itself = same-triple_refl }

pub NameWalk : (t : List ℕ) (table n : ℕ) (x : Triple) (k : ℕ) → Type 0
NameWalk t table n x k = Walking names (triple_at t) (768 * table) x (reached n) k

module _ (t : List ℕ) (table n : ℕ) (x : Triple) where
  pub number_name : numbered names (triple_at t) (768 * table) n x ≡ number_of_triple (entries (triple_at t) (768 * table) n) x
  unfolding numbered number_of_triple names
  number_name = refl

  module _ (k : ℕ) (w : NameWalk t table n x k) where
    pub name_within : k ≤ n
    unfolding NameWalk
    name_within = let u = w.within in omega arith

    pub name_hit : 0 < k → same_triple (triple_at t (768 * table + 3 * (k - 1))) x ≡ true → k ≡ number_of_triple (entries (triple_at t) (768 * table) n) x
    unfolding NameWalk names
    name_hit p e = walk_hit names (triple_at t) (768 * table) equal_names x (reached n) k w p e n (omega arith) ∙ number_name

    pub name_end : n ≤ 256 → k ≡ 0 → last_row names (triple_at t) (768 * table) n x ≡ number_of_triple (entries (triple_at t) (768 * table) n) x
    unfolding NameWalk
    name_end l z = walk_end names (triple_at t) (768 * table) equal_names x n k l w z ∙ number_name

  module _ (index : List ℕ) (c : NamesIndexed t index table n) where
    named : names.indexed x ≡ true
    unfolding names
    named = refl

    pub name_start : NameWalk t table n x (get_or index (384 * table + name_bucket x) 0)
    unfolding NameWalk NamesIndexed names
    name_start = walk_start names (triple_at t) (768 * table) equal_names x (reached n) (384 * table) index c named (name_bucket_lt x)

    module _ (k : ℕ) (w : NameWalk t table n x k) (p : 0 < k) where
      pub name_falls : get_or index (384 * table + 128 + (k - 1)) 0 < k
      unfolding NameWalk NamesIndexed
      name_falls = walk_falls names (triple_at t) (768 * table) equal_names x (reached n) (384 * table) index c named k w p

      pub name_next : same_triple (triple_at t (768 * table + 3 * (k - 1))) x ≡ false → NameWalk t table n x (get_or index (384 * table + 128 + (k - 1)) 0)
      unfolding NameWalk NamesIndexed names
      name_next d = walk_next names (triple_at t) (768 * table) equal_names x (reached n) (384 * table) index c named k w p d
