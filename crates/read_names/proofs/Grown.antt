-- Counts and tables in lent words: an entry more, and what stays when there is one.
-- Assumes nothing.
use mathlib.Core.Path.{◌≡◌, refl, ap, ◌∙◌}
use mathlib.Core.Bool.{true, false}
use mathlib.Core.List.{List, [], ◌∷◌}
use Prim.Native.Nat.{ℕ, zero, suc, ◌+◌, ◌-◌, ◌*◌, ◌≤◌, ◌<◌}
use native.Mathlib.Omega.{arith}
use native.Mathlib.Decide.{ℕ_discrete}
use borrow.Author.Tests.{lt-ltb, le-ltb, le-leb, lt-leb}
use lib.ListN.{length, get_or, set}
use Rattle.std.specs.Prelude.{Result, Ok, Err}
use Rattle.format.specs.declared.refusals.Fault.{Fault}
use Rattle.format.specs.Tables.{StringTable, Triple, names}
use Rattle.fields.specs.declared.Read.{Read}
use Rattle.tables.specs.declared.Counts.{Counts}
use Rattle.tables.specs.Rows.{table_of, string_at, triple_at, vocabulary}
use Rattle.tables.specs.Kept.{name_table_of, triple_of, unlisted, count_of, Counted, row_at, stored}
use Rattle.tables.proofs.Laws.{length-names, name_nth}
use Rattle.index.proofs.Entered.{row_kept, word_kept}
use Rattle.index.proofs.Counted.{count_at, one_more-words}
use Rattle.events.specs.Records.{event_string}
use Rattle.read_names.specs.Names.{no_triple}
use Rattle.read_names.specs.Promises.{Ranged, searched, Tidy, Grown, event_string_at, event_strings_at, name_strings_at, IdLeft}

-- ---- the tables that are searched
pub searched_string : (t : ℕ) → t < 5 → searched t ≡ true
unfolding searched
searched_string t h = rw (lt-ltb _ _ h)

pub searched_name : (t : ℕ) → 8 ≤ t → searched t ≡ true
unfolding searched
searched_name t h = rw (le-ltb t 5 (omega arith), le-leb _ _ h)

pub searched_not : (t : ℕ) → 5 ≤ t → t < 8 → searched t ≡ false
unfolding searched
searched_not t l h = rw (le-ltb _ _ l, lt-leb _ _ h)

-- ---- rows that were there stay
pub grown_none : (c w : List ℕ) → Grown c w c w
grown_none c w = record { counts = λ t. omega arith; rows = λ t i l u. refl }

pub grown_on : (c w d v e u : List ℕ) → Grown c w d v → Grown d v e u → Grown c w e u
grown_on c w d v e u g h =
    record {
      counts = λ t. (let a = g.counts t in let b = h.counts t in omega arith);
      rows = λ t i l k. (let a = g.counts t in h.rows t i l (omega arith) ∙ g.rows t i l k);
    }

pub grown-stored : (c w : List ℕ) (t x y z : ℕ) → length c ≡ 10 → t < 10 → get_or c t 0 < 256 → Counted (unlisted c)
    → Grown c w (set c t (get_or c t 0 + 1)) (stored w t (get_or c t 0) x y z)
unfolding row_at
grown-stored c w t x y z ten h room small =
    let m = one_more-words c ten t h in
    record {
      counts = λ k. elim (ℕ_discrete k t) [
        | yes q ↦ rw (q, m.here, m.was) (omega arith)
        | no q ↦ rw (m.elsewhere k q) (omega arith)
      ];
      rows = λ k i l u.
          let f = small k in
          let ne : k ≡ t → i ≡ get_or c t 0 → ⊥ = λ q p. (let e = rw q at u in let n = count_at c ten t in omega arith) in
          rw (
            word_kept [] w t (get_or c t 0) x y z k i l (omega arith) room ne,
            row_kept [] w t (get_or c t 0) x y z k i l (omega arith) room ne 1 (omega arith),
            row_kept [] w t (get_or c t 0) x y z k i l (omega arith) room ne 2 (omega arith),
          );
    }

-- ---- so are the strings behind the numbers that were there
string_of_row : (t : StringTable) (w v : List ℕ) (at : ℕ) → row_at v at ≡ row_at w at → string_at t v at ≡ string_at t w at
unfolding string_at row_at
string_of_row t w v at e =
    let a : get_or v at 0 ≡ get_or w at 0 = ap (λ r. r.a) e in
    let b : get_or v (at + 1) 0 ≡ get_or w (at + 1) 0 = ap (λ r. r.b) e in
    let c : get_or v (at + 2) 0 ≡ get_or w (at + 2) 0 = ap (λ r. r.c) e in
    rw (a, b, c)

triple_of_row : (w v : List ℕ) (at : ℕ) → row_at v at ≡ row_at w at → triple_at v at ≡ triple_at w at
unfolding triple_at row_at
triple_of_row w v at e = ap triple_of e

-- the triple's numbers are of entries that are there
abbrev pub InRange : Counts → Triple → Type 0
InRange c x = (x.prefix ≤ c.prefix) × (x.namespace ≤ c.namespace) × (1 ≤ x.local) × (x.local ≤ c.local)

ranged_at : (c : Counts) (l : List Triple) (k : ℕ) → Ranged c l → k < length l → InRange c (get_or l k no_triple)
ranged_at c [] k r h = absurd (omega arith)
ranged_at c (x ∷ l) zero r h = (r.0, r.1, r.2, r.3)
ranged_at c (x ∷ l) (suc k) r h = ranged_at c l k r.4 (omega arith)

module _ (c w d v : List ℕ) (g : Grown c w d v) where
  pub string_stays : (t n : ℕ) → t < 8 → n ≤ count_of (unlisted c) t → event_string_at v t n ≡ event_string_at w t n
  unfolding event_string_at
  string_stays t zero h l = refl
  string_stays t (suc k) h l = ap event_string (string_of_row (table_of t) w v (768 * t + 3 * k) (g.rows t k (omega arith) (omega arith)))

  strings_stay : (x : Triple) → InRange (unlisted c) x → event_strings_at v x ≡ event_strings_at w x
  unfolding event_strings_at count_of
  strings_stay x r = rw (string_stays 0 x.prefix (omega arith) r.0, string_stays 1 x.namespace (omega arith) r.1, string_stays 2 x.local (omega arith) r.3)

-- a name's numbers, and its strings
module _ (s c w x : List ℕ) (tidy : Tidy s c w x) (t n : ℕ) (low : 8 ≤ t) (high : t < 10) (from : 1 ≤ n) (to : n ≤ count_of (unlisted c) t) where
  pub name_at : get_or (names (vocabulary (unlisted c) w) (name_table_of t)) (n - 1) no_triple ≡ triple_at w (768 * t + 3 * (n - 1))
  name_at = name_nth (unlisted c) w t (n - 1) no_triple low high (omega arith)

  pub name_ranged : InRange (unlisted c) (triple_at w (768 * t + 3 * (n - 1)))
  name_ranged =
      let l = length-names (unlisted c) w t low high in
      rw name_at at (ranged_at (unlisted c) (names (vocabulary (unlisted c) w) (name_table_of t)) (n - 1) (tidy.more (name_table_of t)) (omega arith))

  pub name_stays : (d v : List ℕ) → Grown c w d v → name_strings_at v t n ≡ name_strings_at w t n
  unfolding name_strings_at
  name_stays d v g =
      rw (triple_of_row w v (768 * t + 3 * (n - 1)) (g.rows t (n - 1) high (omega arith)))
      (strings_stay c w d v g (triple_at w (768 * t + 3 * (n - 1))) name_ranged)

-- ---- what is left behind two fields
pub left_on : (s c w d v e u x : List ℕ) (t : ℕ) (r : Result (Read ℕ) Fault) → Grown c w d v → IdLeft s d v t r e u x → IdLeft s c w t r e u x
left_on s c w d v e u x t (Ok r) g l = (record { tidy = l.0.tidy; within = l.0.within; grown = grown_on c w d v e u g l.0.grown }, l.1)
left_on s c w d v e u x t (Err f) g l = l
