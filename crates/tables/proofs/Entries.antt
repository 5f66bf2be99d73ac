-- A table's entries as rows of words, and how they change when the row behind them is stored.
-- Assumes nothing.
use mathlib.Core.Path.{◌≡◌, refl, sym, ap, ◌∙◌}
use mathlib.Core.List.{List, [], ◌∷◌, ◌++◌}
use Prim.Native.Nat.{ℕ, zero, suc, ◌+◌, ◌*◌, ◌≤◌, ◌<◌}
use native.Mathlib.Omega.{arith}
use native.Mathlib.Numerals.{add-one, add-two}
use native.Mathlib.Decide.{ℕ_discrete}
use borrow.Author.Tests.{eq-eqb, ne_eqb}
use lib.Dec.{eqb}
use lib.ListN.{length, get_or, set, length-set}
use lib.Seq.{get_or-set_same, get_or-set_other}
use Rattle.tables.specs.Rows.{entries}
use Rattle.tables.specs.Kept.{stored}
use Rattle.tables.proofs.Adding.{extended}

-- ---- n entries
module _ {A : Type 0} (f : ℕ → A) where
  pub length-entries : (at n : ℕ) → length (entries f at n) ≡ n
  unfolding entries
  length-entries at zero = refl
  length-entries at (suc n) = ap suc (length-entries (at + 3) n)

  pub entry_nth : (at n k : ℕ) (d : A) → k < n → get_or (entries f at n) k d ≡ f (at + 3 * k)
  unfolding entries
  entry_nth at zero k d h = absurd (omega arith)
  entry_nth at (suc n) zero d h = let z : at + 3 * 0 ≡ at = omega arith in rw z
  entry_nth at (suc n) (suc k) d h =
      let z : at + 3 * suc k ≡ at + 3 + 3 * k = omega arith in
      rw z (entry_nth (at + 3) n k d (omega arith))

  pub entries-more : (at n : ℕ) → entries f at (n + 1) ≡ entries f at n ++ (f (at + 3 * n) ∷ [])
  unfolding entries
  entries-more at zero = let z : at + 3 * 0 ≡ at = omega arith in rw z
  entries-more at (suc n) =
      let z : at + 3 * suc n ≡ at + 3 + 3 * n = omega arith in
      let y : suc n + 1 ≡ suc (n + 1) = omega arith in
      rw (z, y, entries-more (at + 3) n)

-- ---- a row stored behind table t's n
module _ (w : List ℕ) (t n a b c : ℕ) where
  pub stored_other : (k : ℕ) → (k ≡ 768 * t + 3 * n → ⊥) → (k ≡ suc (768 * t + 3 * n) → ⊥) → (k ≡ suc (suc (768 * t + 3 * n)) → ⊥)
      → get_or (stored w t n a b c) k 0 ≡ get_or w k 0
  unfolding stored
  stored_other k n0 n1 n2 =
      let j = 768 * t + 3 * n in
      get_or-set_other (set (set w j a) (suc j) b) (suc (suc j)) k c 0 n2 ∙ get_or-set_other (set w j a) (suc j) k b 0 n1 ∙ get_or-set_other w j k a 0 n0

  pub stored_0 : 768 * t + 3 * n + 3 ≤ length w → get_or (stored w t n a b c) (768 * t + 3 * n) 0 ≡ a
  unfolding stored
  stored_0 h =
      let j = 768 * t + 3 * n in
      get_or-set_other (set (set w j a) (suc j) b) (suc (suc j)) j c 0 (omega arith) ∙ get_or-set_other (set w j a) (suc j) j b 0 (omega arith)
      ∙ get_or-set_same w j a 0 (omega arith)

  pub stored_1 : 768 * t + 3 * n + 3 ≤ length w → get_or (stored w t n a b c) (768 * t + 3 * n + 1) 0 ≡ b
  unfolding stored
  stored_1 h =
      let j = 768 * t + 3 * n in
      rw (add-one j)
      (get_or-set_other (set (set w j a) (suc j) b) (suc (suc j)) (suc j) c 0 (omega arith) ∙ get_or-set_same (set w j a) (suc j) b 0 (simp length-set (omega arith)))

  pub stored_2 : 768 * t + 3 * n + 3 ≤ length w → get_or (stored w t n a b c) (768 * t + 3 * n + 2) 0 ≡ c
  unfolding stored
  stored_2 h = let j = 768 * t + 3 * n in rw (add-two j) (get_or-set_same (set (set w j a) (suc j) b) (suc (suc j)) c 0 (simp length-set (omega arith)))

-- ---- the tables, when a row is stored behind table t's entries
-- an entry is made of the three words of its row and of no others
abbrev pub ByRow : {A : Type 0} → (List ℕ → ℕ → A) → Type 0
ByRow f =
    (w v : List ℕ) (at : ℕ) → get_or v at 0 ≡ get_or w at 0 → get_or v (at + 1) 0 ≡ get_or w (at + 1) 0 → get_or v (at + 2) 0 ≡ get_or w (at + 2) 0 → f v at ≡ f w at

module _ {A : Type 0} (f : List ℕ → ℕ → A) (by_Row : ByRow f) where
  same_entries : (w v : List ℕ) (m at : ℕ) → ((k : ℕ) → at ≤ k → k < at + 3 * m → get_or v k 0 ≡ get_or w k 0) → entries (f v) at m ≡ entries (f w) at m
  unfolding entries
  same_entries w v zero at h = refl
  same_entries w v (suc m) at h =
      let e = by_Row w v at (h at (omega arith) (omega arith)) (h (at + 1) (omega arith) (omega arith)) (h (at + 2) (omega arith) (omega arith)) in
      rw (e, same_entries w v m (at + 3) (λ k l u. h k (omega arith) (omega arith)))

  -- the counts are cs; each table has what it had, and table t one entry more
  module _ (cs w : List ℕ) (t a b c : ℕ) (small : (k : ℕ) → get_or cs k 0 ≤ 256) (room : get_or cs t 0 < 256) where
    pub other_table : (k : ℕ) → (k ≡ t → ⊥)
        → entries (f (stored w t (get_or cs t 0) a b c)) (768 * k) (get_or (set cs t (get_or cs t 0 + 1)) k 0) ≡ entries (f w) (768 * k) (get_or cs k 0)
    other_table k ne =
        let s = small k in
        rw (get_or-set_other cs t k (get_or cs t 0 + 1) 0 ne)
        (same_entries w _ (get_or cs k 0) (768 * k) (λ i l u. stored_other w t (get_or cs t 0) a b c i (omega arith) (omega arith) (omega arith)))

    this_table : t < length cs → entries (f (stored w t (get_or cs t 0) a b c)) (768 * t) (get_or (set cs t (get_or cs t 0 + 1)) t 0)
        ≡ entries (f w) (768 * t) (get_or cs t 0) ++ (f (stored w t (get_or cs t 0) a b c) (768 * t + 3 * get_or cs t 0) ∷ [])
    this_table h =
        let v = stored w t (get_or cs t 0) a b c in
        let kept = same_entries w v (get_or cs t 0) (768 * t) (λ i l u. stored_other w t (get_or cs t 0) a b c i (omega arith) (omega arith) (omega arith)) in
        rw (get_or-set_same cs t (get_or cs t 0 + 1) 0 h, entries-more (f v) (768 * t) (get_or cs t 0), kept)

    pub each_table : (x : A) (k : ℕ) → t < length cs → (t ≡ k → f (stored w t (get_or cs t 0) a b c) (768 * t + 3 * get_or cs t 0) ≡ x)
        → entries (f (stored w t (get_or cs t 0) a b c)) (768 * k) (get_or (set cs t (get_or cs t 0 + 1)) k 0)
        ≡ extended (eqb t k) (entries (f w) (768 * k) (get_or cs k 0)) x
    each_table x k h e =
        elim (ℕ_discrete t k) [
          | yes q ↦ rw (eq-eqb t k q, ← q, this_table h, e q)
          | no q ↦ rw (ne_eqb t k q) (other_table k (λ z. q (sym z)))
        ]
