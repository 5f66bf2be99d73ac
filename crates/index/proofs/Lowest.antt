-- The highest row that passes a test, and the lowest number of an entry: what each says, and that each is of the rows alone.
-- Assumes nothing.
use mathlib.Core.Path.{◌≡◌, refl, sym, ap, ◌∙◌}
use mathlib.Core.Bool.{Bool, true, false}
use Prim.Native.Nat.{ℕ, zero, suc, ◌+◌, ◌-◌, ◌*◌, ◌≤◌, ◌<◌}
use native.Mathlib.Omega.{arith}
use native.Mathlib.Decide.{ℕ_discrete}
use Rattle.format.specs.Numbers.{pick}
use Rattle.tables.specs.Rows.{entries}
use Rattle.tables.specs.Search.{lowest}
use Rattle.tables.proofs.EntryLaws.{entry_made, entry_is}
use Rattle.tables.proofs.Entries.{length-entries, entry_nth}
use Rattle.tables.proofs.Found.{clash, lowest_le, lowest_is}
use Rattle.index.specs.Chain.{latest}

-- ---- the highest row
module _ (q : ℕ → Bool) where
  pub latest_le : (n : ℕ) → latest q n ≤ n
  unfolding latest
  latest_le zero = omega arith
  latest_le (suc n) = by (q n) (latest_le n)
    where
      by : (b : Bool) → latest q n ≤ n → pick b (suc n) (latest q n) ≤ suc n
      by true h = omega arith
      by false h = omega arith

  pub latest_passes : (n : ℕ) → 0 < latest q n → q (latest q n - 1) ≡ true
  unfolding latest
  latest_passes zero h = absurd (omega arith)
  latest_passes (suc n) h = by (q n) refl (latest_passes n) h
    where
      by : (b : Bool) → q n ≡ b → (0 < latest q n → q (latest q n - 1) ≡ true) → 0 < pick b (suc n) (latest q n) → q (pick b (suc n) (latest q n) - 1) ≡ true
      by true e r h = let z : suc n - 1 ≡ n = omega arith in rw z e
      by false e r h = r h

  pub latest_max : (n i : ℕ) → i < n → q i ≡ true → i < latest q n
  unfolding latest
  latest_max zero i h e = absurd (omega arith)
  latest_max (suc n) i h e = by (q n) refl (latest_max n i)
    where
      by : (b : Bool) → q n ≡ b → (i < n → q i ≡ true → i < latest q n) → i < pick b (suc n) (latest q n)
      by true f r = omega arith
      by false f r =
          elim (ℕ_discrete i n) [
            | yes z ↦ clash (sym f ∙ ap q (sym z) ∙ e)
            | no z ↦ r (omega arith) e
          ]

  pub latest-more : (n : ℕ) → latest q (n + 1) ≡ pick (q n) (n + 1) (latest q n)
  unfolding latest
  latest-more n = let z : n + 1 ≡ suc n = omega arith in rw z

pub latest_ext : (q r : ℕ → Bool) (n : ℕ) → ((i : ℕ) → i < n → q i ≡ r i) → latest q n ≡ latest r n
unfolding latest
latest_ext q r zero h = refl
latest_ext q r (suc n) h = rw (h n (omega arith), latest_ext q r n (λ i l. h i (omega arith)))

pub latest_none : (q : ℕ → Bool) (n : ℕ) → ((i : ℕ) → i < n → q i ≡ false) → latest q n ≡ 0
unfolding latest
latest_none q zero h = refl
latest_none q (suc n) h = rw (h n (omega arith), latest_none q n (λ i l. h i (omega arith)))

-- ---- the lowest number
module _ {A : Type 0} (f : A → Bool) (g : ℕ → A) where
  pub lowest-within : (at n : ℕ) → lowest f 1 (entries g at n) ≤ n
  lowest-within at n = let e = lowest_le f 0 (entries g at n) in let l = length-entries g at n in omega arith

  pub lowest_passes : (at n i : ℕ) → lowest f 1 (entries g at n) ≡ i + 1 → f (g (at + 3 * i)) ≡ true
  lowest_passes at n i e =
      let r = lowest_is f 0 (entries g at n) (omega arith) in
      let a = r.number in
      let m = entry_made r.here in
      let l = length-entries g at n in
      let z : r.i ≡ i = omega arith in
      let p : r.x ≡ g (at + 3 * r.i) = sym (entry_is (g at) r.here) ∙ entry_nth g at n r.i (g at) (omega arith) in
      rw (p, z) at r.passes

  lowest_at : (k at n i : ℕ) → i < n → f (g (at + 3 * i)) ≡ true → (0 < lowest f (suc k) (entries g at n)) × (lowest f (suc k) (entries g at n) ≤ suc k + i)
  unfolding lowest entries
  lowest_at k at zero i h e = absurd (omega arith)
  lowest_at k at (suc n) zero h e =
      let z : at + 3 * 0 ≡ at = omega arith in
      let q : f (g at) ≡ true = (rw z at e) in
      rw q (omega arith, omega arith)
  lowest_at k at (suc n) (suc i) h e =
      let z : at + 3 * suc i ≡ at + 3 + 3 * i = omega arith in
      by (f (g at)) (lowest_at (suc k) (at + 3) n i (omega arith) (rw z at e))
    where
      by : (b : Bool) → (0 < lowest f (suc (suc k)) (entries g (at + 3) n)) × (lowest f (suc (suc k)) (entries g (at + 3) n) ≤ suc (suc k) + i)
          → (0 < pick b (suc k) (lowest f (suc (suc k)) (entries g (at + 3) n))) × (pick b (suc k) (lowest f (suc (suc k)) (entries g (at + 3) n)) ≤ suc k + suc i)
      by true r = (omega arith, omega arith)
      by false r = (r.0, omega arith)

  pub lowest-first : (at n i : ℕ) → i < n → f (g (at + 3 * i)) ≡ true → (0 < lowest f 1 (entries g at n)) × (lowest f 1 (entries g at n) ≤ i + 1)
  lowest-first at n i h e = let r = lowest_at 0 at n i h e in (r.0, omega arith)

pub entries_ext : {A : Type 0} (g v : ℕ → A) (at n : ℕ) → ((i : ℕ) → i < n → v (at + 3 * i) ≡ g (at + 3 * i)) → entries v at n ≡ entries g at n
unfolding entries
entries_ext g v at zero h = refl
entries_ext g v at (suc n) h =
    let z : at + 3 * 0 ≡ at = omega arith in
    let e : v at ≡ g at = (rw z at (h 0 (omega arith))) in
    rw (e, entries_ext g v (at + 3) n (λ i l. (let y : at + 3 * (i + 1) ≡ at + 3 + 3 * i = omega arith in rw y at (h (i + 1) (omega arith)))))
