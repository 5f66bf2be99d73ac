-- The entries and the tables of the head one behind the other, on plain values: a law for each way out of each function.
-- Assumes nothing.
use mathlib.Core.Path.{◌≡◌, refl, sym}
use mathlib.Core.Bool.{Bool, true, false}
use mathlib.Core.List.{List, ◌∷◌}
use Prim.Native.Nat.{ℕ, suc, ◌+◌, ◌-◌, ◌*◌, ◌/◌, ◌%◌, ◌^◌, ◌≤◌, ◌<◌}
use native.Mathlib.Omega.{arith}
use native.Mathlib.Numerals.{add-one}
use borrow.Author.Tests.{lt-ltb, le-ltb, ne_eqb}
use lib.Dec.{eqb}
use lib.ListN.{length, get_or, drop}
use Rattle.std.specs.Prelude.{Result, Ok, Err}
use Rattle.format.specs.Numbers.{pick, c21, top}
use Rattle.format.specs.declared.refusals.Fault.{Fault}
use Rattle.format.specs.Tables.{Vocabulary, link}
use Rattle.format.specs.Head.{Table, ten_tables}
use Rattle.fields.specs.declared.Read.{Read}
use Rattle.fields.specs.Fields.{field_at}
use Rattle.fields.proofs.Bounds.{field_got, field_refused}
use Rattle.tables.specs.Located.{Located}
use Rattle.tables.specs.Rows.{table_of, vocabulary}
use Rattle.tables.specs.Kept.{unlisted, name_table_of}
use Rattle.tables.proofs.ByNumber.{by_number_lem}
use Rattle.read_names.specs.Strings as S
use Rattle.read_names.specs.Strings.{got, refused, then}
use Rattle.read_names.specs.Promises.{Tidy, Left}
use Rattle.read_names.proofs.Grown.{grown_none, grown_on}
use Rattle.read_head.specs.Head.{Passed, entry_at, entries_at, tables_at, head_at}
use Rattle.read_head.specs.Promises.{seen_passed, PassedLeft, table_at, present_at}

-- ---- what is left at a place where nothing was read, and behind two fields
pub left_here : (s c w x : List ℕ) (at : ℕ) → Tidy s c w x → at ≤ length s → Left s c w at c w x
left_here s c w x at tidy l = record { tidy = tidy; within = l; grown = grown_none c w }

pub left-then : {s c w d v e u x y : List ℕ} {i j : ℕ} → Left s c w i d v x → Left s d v j e u y → Left s c w j e u y
left-then l m = record { tidy = m.tidy; within = m.within; grown = grown_on _ _ _ _ _ _ l.grown m.grown }

-- ---- entries
module _ (t : Table) (s : List ℕ) (n k : ℕ) (v : Vocabulary Located) where
  pub entries_end : n ≡ 0 → entries_at link t s n k v ≡ got tt k v
  unfolding entries_at
  entries_end e = rw e

  module _ (m : ℕ) (more : n ≡ m + 1) where
    one : entries_at link t s n k v ≡ then (entry_at link t s k v) λ b next w. entries_at link t s m next w
    unfolding entries_at
    one = let z : n ≡ suc m = omega arith in rw z

    pub entries_next : (k₁ : ℕ) (v₁ : Vocabulary Located) → got tt k₁ v₁ ≡ entry_at link t s k v → entries_at link t s m k₁ v₁ ≡ entries_at link t s n k v
    entries_next k₁ v₁ e = rw (one, ← e)

    pub entries_refused : (i p : ℕ) → refused i p ≡ entry_at link t s k v → refused i p ≡ entries_at link t s n k v
    entries_refused i p e = rw (one, ← e)

-- ---- a table: r is how many entries it lists
pub count_within : (s : List ℕ) (k : ℕ) (r : Read ℕ) → Ok r ≡ field_at c21 top 1 s k → r.next.at ≤ length s
count_within s k r read = (field_got top s k c21 1 (sym read)).3

module _ (s c w : List ℕ) (t : Table) (bit k : ℕ) (b : Bool) (is : b ≡ eqb bit 1) where
  abbrev table : Passed
  table = present_at t bit s k (vocabulary (unlisted c) w)

  pub table_absent : (x : List ℕ) → Tidy s c w x → k ≤ length s → b ≡ false → (seen_passed (Ok k) c w ≡ table) × PassedLeft s c w (Ok k) c w x
  unfolding present_at
  table_absent x tidy h z = rw (← is, z) (refl, left_here s c w x k tidy h)

  module _ (there : b ≡ true) where
    pub table_refused : (x : List ℕ) (f : Fault) → Err f ≡ field_at c21 top 1 s k → k ≤ length s → (seen_passed (Err f) c w ≡ table) × PassedLeft s c w (Err f) c w x
    unfolding present_at
    table_refused x f read h =
        let b = field_refused top s k c21 1 (sym read) in
        rw (← is, there, ← read) (refl, (omega arith, omega arith))

    pub table_read : (r : Read ℕ) → Ok r ≡ field_at c21 top 1 s k → (g : Passed) → g ≡ entries_at link t s r.value r.next.at (vocabulary (unlisted c) w) → g ≡ table
    unfolding present_at
    table_read r read g h = rw (← is, there, ← read) h

-- ---- the ten tables
-- by number, they are the ten in order; and below the presence bit of each are those of the tables behind it
ten_tables_lem : (i : ℕ) → i < 10 → (drop i ten_tables ≡ table_at i ∷ drop (i + 1) ten_tables) × (length (drop (i + 1) ten_tables) ≡ 9 - i)
unfolding ten_tables table_at table_of name_table_of
ten_tables_lem i h =
    by_number_lem (λ (i : ℕ). (drop i ten_tables ≡ table_at i ∷ drop (i + 1) ten_tables) × (length (drop (i + 1) ten_tables) ≡ 9 - i)) 0 10
    ((refl, refl), ((refl, refl), ((refl, refl), ((refl, refl), ((refl, refl), ((refl, refl), ((refl, refl), ((refl, refl), ((refl, refl), ((refl, refl), tt)))))))))) i (omega arith) (omega arith)

one_table : (t : Table) (ts : List Table) (b : ℕ) (s : List ℕ) (k : ℕ) (v : Vocabulary Located)
    → tables_at link (t ∷ ts) b s k v ≡ then (present_at t (b / 2 ^ length ts % 2) s k v) λ e k₁ v₁. tables_at link ts b s k₁ v₁
unfolding tables_at present_at
one_table t ts b s k v = by (eqb (b / 2 ^ length ts % 2) 1) (field_at c21 top 1 s k)
  where
    by : (there : Bool) (r : Result (Read ℕ) Fault)
        → pick there (S.number r λ n next. then (entries_at link t s n next v) λ e k₁ v₁. tables_at link ts b s k₁ v₁) (tables_at link ts b s k v)
        ≡ then (pick there (S.number r λ n next. entries_at link t s n next v) (got tt k v)) λ e k₁ v₁. tables_at link ts b s k₁ v₁
    by true (Ok r) = refl
    by true (Err f) = refl
    by false r = refl

module _ (b : ℕ) (s : List ℕ) (i k : ℕ) (v : Vocabulary Located) where
  pub tables_end : 10 ≤ i → i ≤ 10 → tables_at link (drop i ten_tables) b s k v ≡ got tt k v
  unfolding tables_at ten_tables
  tables_end l h = let z : i ≡ 10 = omega arith in rw z

  module _ (h : i < 10) where
    next_table : tables_at link (drop i ten_tables) b s k v ≡ then (present_at (table_at i) (b / 2 ^ (9 - i) % 2) s k v) λ e k₁ v₁. tables_at link (drop (i + 1) ten_tables) b s k₁ v₁
    next_table = rw ((ten_tables_lem i h).0, ← (ten_tables_lem i h).1) (one_table (table_at i) (drop (i + 1) ten_tables) b s k v)

    pub tables_next : (k₁ : ℕ) (v₁ : Vocabulary Located) → got tt k₁ v₁ ≡ present_at (table_at i) (b / 2 ^ (9 - i) % 2) s k v
        → tables_at link (drop (i + 1) ten_tables) b s k₁ v₁ ≡ tables_at link (drop i ten_tables) b s k v
    tables_next k₁ v₁ e = rw (next_table, ← e)

    pub tables_refused : (n p : ℕ) → refused n p ≡ present_at (table_at i) (b / 2 ^ (9 - i) % 2) s k v → refused n p ≡ tables_at link (drop i ten_tables) b s k v
    tables_refused n p e = rw (next_table, ← e)

-- ---- the head
module _ (s : List ℕ) (k : ℕ) (v : Vocabulary Located) where
  pub head_missing : length s ≤ k → refused 2 k ≡ head_at link s k v
  unfolding head_at
  head_missing h = rw (le-ltb k (length s) h)

  module _ (there : k < length s) where
    pub head_padded : 0x20 ≤ get_or s k 0 → refused 6 k ≡ head_at link s k v
    unfolding head_at
    head_padded h = rw (lt-ltb k (length s) there, le-ltb (get_or s k 0) 0x20 h)

    pub head_other : get_or s k 0 < 0x20 → 4 ≤ get_or s k 0 → refused 4 k ≡ head_at link s k v
    unfolding head_at
    head_other h l = rw (lt-ltb k (length s) there, lt-ltb (get_or s k 0) 0x20 h, le-ltb (get_or s k 0) 4 l)

    module _ (low : get_or s k 0 < 4) where
      pub head_short : length s ≤ k + 1 → refused 2 k ≡ head_at link s k v
      unfolding head_at
      head_short h = rw (lt-ltb k (length s) there, lt-ltb (get_or s k 0) 0x20 (omega arith), lt-ltb (get_or s k 0) 4 low, le-ltb (suc k) (length s) (omega arith))

      module _ (more : k + 1 < length s) (b : ℕ) (is : b ≡ 256 * get_or s k 0 + get_or s (k + 1) 0) where
        presence_is : 256 * get_or s k 0 + get_or s (suc k) 0 ≡ b
        presence_is = rw (← add-one k) (sym is)

        pub head_empty : b ≡ 0 → refused 15 k ≡ head_at link s k v
        unfolding head_at
        head_empty h =
            rw (lt-ltb k (length s) there, lt-ltb (get_or s k 0) 0x20 (omega arith), lt-ltb (get_or s k 0) 4 low, lt-ltb (suc k) (length s) (omega arith), presence_is, h)

        pub head_read : (b ≡ 0 → ⊥) → (g : Passed) → g ≡ tables_at link ten_tables b s (k + 2) v → g ≡ head_at link s k v
        unfolding head_at
        head_read h g e =
            let z : k + 2 ≡ suc (suc k) = omega arith in
            rw (lt-ltb k (length s) there, lt-ltb (get_or s k 0) 0x20 (omega arith), lt-ltb (get_or s k 0) 4 low, lt-ltb (suc k) (length s) (omega arith), presence_is, ne_eqb b 0 h, ← z) e
