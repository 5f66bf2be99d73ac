-- The search along a chain finds the lowest number, and a row that is put in front of its chain keeps the chains: for any kind of entry whose test is equality.
-- Assumes nothing.
use mathlib.Core.Path.{◌≡◌, refl, sym, ◌∙◌}
use mathlib.Core.Bool.{Bool, true, false}
use mathlib.Core.List.{List}
use Prim.Native.Nat.{ℕ, ◌+◌, ◌-◌, ◌*◌, ◌≤◌, ◌<◌}
use native.Mathlib.Omega.{arith}
use native.Mathlib.Decide.{dec_lt, ℕ_discrete}
use borrow.Author.Tests.{eqb-true, eq-eqb, ne_eqb}
use lib.Dec.{eqb}
use lib.ListN.{length, get_or, set, length-set}
use lib.Seq.{get_or-set_same, get_or-set_other}
use Rattle.format.specs.Numbers.{pick}
use Rattle.tables.proofs.Found.{clash, both_true}
use Rattle.index.specs.Chain.{Kind, numbered, reached, last_row, chained, latest, Chains, pushed}
use Rattle.index.proofs.Lowest.{latest_le, latest_passes, latest_max, latest-more, latest_ext, latest_none, lowest-within, lowest_passes, lowest-first, entries_ext}

-- The test is equality.
pub record Equal {A : Type 0} (k : Kind A) : Type 0 where
  pub exact : (x y : A) → k.alike x y ≡ true → x ≡ y
  pub itself : (x : A) → k.alike x x ≡ true

module _ {A : Type 0} (k : Kind A) (g : ℕ → A) (at : ℕ) where
  -- ---- what it says to be in a chain
  pub record In (h i : ℕ) : Type 0 where
    pub counts : k.indexed (g (at + 3 * i)) ≡ true
    pub here : k.bucket_of (g (at + 3 * i)) ≡ h
    pub new : numbered k g at i (g (at + 3 * i)) ≡ 0

  pub chained_in : (h i : ℕ) → chained k g at h i ≡ true → In h i
  unfolding chained
  chained_in h i e =
      let a = both_true (k.indexed (g (at + 3 * i))) _ e in
      let b = both_true (eqb (k.bucket_of (g (at + 3 * i))) h) _ a.1 in
      record { counts = a.0; here = eqb-true _ h b.0; new = eqb-true _ 0 b.1 }

  pub in_chained : (h i : ℕ) → In h i → chained k g at h i ≡ true
  unfolding chained
  in_chained h i e = rw (e.counts, eq-eqb _ h e.here, eq-eqb _ 0 e.new)

  pub not_in : (h i : ℕ) → (In h i → ⊥) → chained k g at h i ≡ false
  not_in h i out = by (chained k g at h i) refl
    where
      by : (b : Bool) → chained k g at h i ≡ b → b ≡ false
      by true e = absurd (out (chained_in h i e))
      by false e = refl

  -- ---- the search for x among n rows: number j is in x's chain, and x's number is at most j
  pub record Walking (x : A) (n j : ℕ) : Type 0 where
    pub within : j ≤ n
    pub there : 0 < j → chained k g at (k.bucket_of x) (j - 1) ≡ true
    pub above : numbered k g at n x ≤ j

  module _ (eq : Equal k) (x : A) where
    alike_row : (n i : ℕ) → numbered k g at n x ≡ i + 1 → g (at + 3 * i) ≡ x
    unfolding numbered
    alike_row n i e = eq.exact _ x (lowest_passes (λ (y : A). k.alike y x) g at n i e)

    first_row : (n i : ℕ) → i < n → g (at + 3 * i) ≡ x → (0 < numbered k g at n x) × (numbered k g at n x ≤ i + 1)
    unfolding numbered
    first_row n i h e = lowest-first (λ (y : A). k.alike y x) g at n i h (rw e (eq.itself x))

    number-within : (m : ℕ) → numbered k g at m x ≤ m
    unfolding numbered
    number-within m = lowest-within (λ (y : A). k.alike y x) g at m

    none_before : (n i : ℕ) → i ≤ n → numbered k g at n x ≡ i + 1 → numbered k g at i x ≡ 0
    none_before n i h e =
        elim (dec_lt 0 (numbered k g at i x)) [
          | yes p ↦ (
              let j = numbered k g at i x - 1 in
              let z : numbered k g at i x ≡ j + 1 = omega arith in
              let w : numbered k g at i x ≤ i = number-within i in
              let r = first_row n j (omega arith) (alike_row i j z) in
              absurd (omega arith))
          | no p ↦ omega arith
        ]

    -- x's own row is in x's chain
    own : (n i : ℕ) → k.indexed x ≡ true → i < n → numbered k g at n x ≡ i + 1 → chained k g at (k.bucket_of x) i ≡ true
    own n i ix h e =
        let z = alike_row n i e in
        in_chained (k.bucket_of x) i (record { counts = rw z ix; here = rw z; new = rw z (none_before n i (omega arith) e) })

    -- where x's number is at most m, it is at most that of the chain's last row below m
    below : (n m : ℕ) → k.indexed x ≡ true → m ≤ n → numbered k g at n x ≤ m → numbered k g at n x ≤ latest (chained k g at (k.bucket_of x)) m
    below n m ix l h =
        elim (dec_lt 0 (numbered k g at n x)) [
          | yes p ↦ (
              let j = numbered k g at n x - 1 in
              let z : numbered k g at n x ≡ j + 1 = omega arith in
              let r = latest_max (chained k g at (k.bucket_of x)) m j (omega arith) (own n j ix (omega arith) z) in
              omega arith)
          | no p ↦ omega arith
        ]

    step : (n m j : ℕ) → k.indexed x ≡ true → m ≤ n → numbered k g at n x ≤ m → j ≡ latest (chained k g at (k.bucket_of x)) m → Walking x n j
    step n m j ix l h e =
        let q = chained k g at (k.bucket_of x) in
        let b = below n m ix l h in
        let w = latest_le q m in
        rw e (record { within = omega arith; there = latest_passes q m; above = b })

    -- row i is x, and no row before it
    number_here : (n i : ℕ) → i < n → numbered k g at i x ≡ 0 → g (at + 3 * i) ≡ x → i + 1 ≡ numbered k g at n x
    number_here n i h new z =
        let r = first_row n i h z in
        elim (dec_lt (numbered k g at n x) (i + 1)) [
          | yes l ↦ (
              let m = numbered k g at n x - 1 in
              let y : numbered k g at n x ≡ m + 1 = omega arith in
              let f = first_row i m (omega arith) (alike_row n m y) in
              absurd (omega arith))
          | no l ↦ omega arith
        ]

    pub walk_hit : (n j : ℕ) → Walking x n j → 0 < j → k.alike (g (at + 3 * (j - 1))) x ≡ true → (m : ℕ) → n ≤ m → j ≡ numbered k g at m x
    walk_hit n j w p e m l =
        let z : g (at + 3 * (j - 1)) ≡ x = eq.exact _ x e in
        let i = chained_in (k.bucket_of x) (j - 1) (w.there p) in
        let new : numbered k g at (j - 1) x ≡ 0 = (rw z at i.new) in
        let u = w.within in
        let r = number_here m (j - 1) (omega arith) new z in
        omega arith

    none_more : (n : ℕ) → numbered k g at n x ≡ 0 → k.alike (g (at + 3 * n)) x ≡ false → 0 ≡ numbered k g at (n + 1) x
    none_more n new e =
        elim (dec_lt 0 (numbered k g at (n + 1) x)) [
          | yes p ↦ (
              let m = numbered k g at (n + 1) x - 1 in
              let y : numbered k g at (n + 1) x ≡ m + 1 = omega arith in
              let z = alike_row (n + 1) m y in
              let w = number-within (n + 1) in
              elim (ℕ_discrete m n) [
                | yes q ↦ clash (sym e ∙ rw (← q, z) (eq.itself x))
                | no q ↦ (let f = first_row n m (omega arith) z in absurd (omega arith))
              ])
          | no p ↦ omega arith
        ]

    -- where a chain ends, row 255 is left
    full : numbered k g at 255 x ≡ 0 → (b : Bool) → k.alike (g (at + 765)) x ≡ b → pick b 256 0 ≡ numbered k g at 256 x
    full new true e = number_here 256 255 (omega arith) new (eq.exact _ x e)
    full new false e = none_more 255 new e

    pub walk_end : (n j : ℕ) → n ≤ 256 → Walking x (reached n) j → j ≡ 0 → last_row k g at n x ≡ numbered k g at n x
    unfolding last_row
    walk_end n j l w z =
        let a = w.above in
        elim (ℕ_discrete n 256) [
          | yes e ↦ (
              let y : reached n ≡ 255 = omega arith in
              let new : numbered k g at 255 x ≡ 0 = (let b : numbered k g at (reached n) x ≡ 0 = omega arith in rw y at b) in
              rw (eq-eqb n 256 e, e) (full new (k.alike (g (at + 765)) x) refl))
          | no e ↦ (
              let y : reached n ≡ n = omega arith in
              let b : numbered k g at (reached n) x ≡ 0 = omega arith in
              rw (ne_eqb n 256 e) (sym (rw y at b)))
        ]

    module _ (n base : ℕ) (index : List ℕ) (c : Chains k g at n index base) (ix : k.indexed x ≡ true) where
      pub walk_start : k.bucket_of x < 128 → Walking x n (get_or index (base + k.bucket_of x) 0)
      walk_start l = step n n _ ix (omega arith) (number-within n) (c.heads (k.bucket_of x) l)

      module _ (j : ℕ) (w : Walking x n j) (p : 0 < j) where
        link_is : get_or index (base + 128 + (j - 1)) 0 ≡ latest (chained k g at (k.bucket_of x)) (j - 1)
        link_is = let u = w.within in c.links (k.bucket_of x) (j - 1) (omega arith) (w.there p)

        pub walk_falls : get_or index (base + 128 + (j - 1)) 0 < j
        walk_falls = let l = link_is in let m = latest_le (chained k g at (k.bucket_of x)) (j - 1) in omega arith

        pub walk_next : k.alike (g (at + 3 * (j - 1))) x ≡ false → Walking x n (get_or index (base + 128 + (j - 1)) 0)
        walk_next e =
            let u = w.within in
            let a = w.above in
            let ne : numbered k g at n x ≡ j - 1 + 1 → ⊥ = (λ y. clash (sym e ∙ rw (alike_row n (j - 1) y) (eq.itself x))) in
            step n (j - 1) _ ix (omega arith) (omega arith) link_is

-- ---- a chain is of the rows and of the table's part of the index alone
module _ {A : Type 0} (k : Kind A) (g v : ℕ → A) (at : ℕ) where
  chained_ext : (h i : ℕ) → ((j : ℕ) → j ≤ i → v (at + 3 * j) ≡ g (at + 3 * j)) → chained k v at h i ≡ chained k g at h i
  unfolding chained numbered
  chained_ext h i e = rw (e i (omega arith), entries_ext g v at i (λ j l. e j (omega arith)))

  pub chains_ext : (n base : ℕ) (index other : List ℕ) → Chains k g at n index base → ((j : ℕ) → j < n → v (at + 3 * j) ≡ g (at + 3 * j))
      → ((h : ℕ) → h < 128 → get_or other (base + h) 0 ≡ get_or index (base + h) 0) → ((i : ℕ) → i < n → get_or other (base + 128 + i) 0 ≡ get_or index (base + 128 + i) 0)
      → Chains k v at n other base
  chains_ext n base index other c e a b =
      record {
        heads = λ h l. a h l ∙ c.heads h l ∙ sym (latest_ext _ _ n (λ i u. same h i u));
        links = λ h i l t. b i l ∙ c.links h i l (sym (same h i l) ∙ t) ∙ sym (latest_ext _ _ i (λ j u. same h j (omega arith)));
      }
    where
      same : (h i : ℕ) → i < n → chained k v at h i ≡ chained k g at h i
      same h i l = chained_ext h i (λ j u. e j (omega arith))

-- ---- one row more
module _ {A : Type 0} (k : Kind A) (g : ℕ → A) (at n base : ℕ) (index : List ℕ) where
  -- no row is indexed, and no head is set
  pub chains_none : ((i : ℕ) → i < n → k.indexed (g (at + 3 * i)) ≡ false) → ((h : ℕ) → h < 128 → get_or index (base + h) 0 ≡ 0) → Chains k g at n index base
  chains_none e z =
      record {
        heads = λ h l. z h l ∙ sym (latest_none _ n (λ i u. out h i u));
        links = λ h i l t. clash (sym (out h i l) ∙ t);
      }
    where
      out : (h i : ℕ) → i < n → chained k g at h i ≡ false
      out h i l = not_in k g at h i (λ m. clash (sym (e i l) ∙ m.counts))

  module _ (c : Chains k g at n index base) where
    -- it is in no chain
    pub chains_out : ((h : ℕ) → In k g at h n → ⊥) → Chains k g at (n + 1) index base
    chains_out out =
        record {
          heads = λ h l. rw (latest-more (chained k g at h) n, not_in k g at h n (out h)) (c.heads h l);
          links = λ h i l t. elim (ℕ_discrete i n) [
            | yes z ↦ absurd (out h (rw z at (chained_in k g at h i t)))
            | no z ↦ c.links h i (omega arith) t
          ];
        }

    -- it is put in front of its chain
    module _ (h : ℕ) (m : In k g at h n) (l : h < 128) (room : n < 256) (size : base + 384 ≤ length index) where
      head_in : (a : ℕ) → a < 128 → get_or (pushed index base h n) (base + a) 0 ≡ latest (chained k g at a) (n + 1)
      unfolding pushed
      head_in a u =
          let x = set index (base + 128 + n) (get_or index (base + h) 0) in
          elim (ℕ_discrete a h) [
            | yes z ↦ (rw (z, latest-more (chained k g at h) n, in_chained k g at h n m) (get_or-set_same x (base + h) (n + 1) 0 (simp length-set (omega arith))))
            | no z ↦ (
                rw (latest-more (chained k g at a) n, not_in k g at a n (λ p. z (sym p.here ∙ m.here)))
                (get_or-set_other x (base + h) (base + a) (n + 1) 0 (λ e. z (omega arith))
                ∙ get_or-set_other index (base + 128 + n) (base + a) (get_or index (base + h) 0) 0 (λ e. omega arith) ∙ c.heads a u))
          ]

      link_in : (a i : ℕ) → i < n + 1 → chained k g at a i ≡ true → get_or (pushed index base h n) (base + 128 + i) 0 ≡ latest (chained k g at a) i
      unfolding pushed
      link_in a i u t =
          let v = get_or index (base + h) 0 in
          get_or-set_other (set index (base + 128 + n) v) (base + h) (base + 128 + i) (n + 1) 0 (λ e. omega arith)
          ∙ elim (ℕ_discrete i n) [
            | yes z ↦ (
                let p = chained_in k g at a i t in
                let y : a ≡ h = (sym p.here ∙ rw z m.here) in
                rw (z, y) (get_or-set_same index (base + 128 + n) v 0 (omega arith) ∙ c.heads h l))
            | no z ↦ (get_or-set_other index (base + 128 + n) (base + 128 + i) v 0 (λ e. z (omega arith)) ∙ c.links a i (omega arith) t)
          ]

      pub chains_in : Chains k g at (n + 1) (pushed index base h n) base
      chains_in = record { heads = head_in; links = link_in }

-- ---- one row more, of a table v whose n rows are those of g, and whose row n is x
module _ {A : Type 0} (k : Kind A) (g v : ℕ → A) (at n base : ℕ) (index : List ℕ) (x : A) (room : n < 256) (c : Chains k g at (reached n) index base)
    (e : (j : ℕ) → j < n → v (at + 3 * j) ≡ g (at + 3 * j)) (here : v (at + 3 * n) ≡ x) where
  moved : Chains k v at (reached n) index base
  moved = chains_ext k g v at (reached n) base index index c (λ j l. e j (omega arith)) (λ h l. refl) (λ i l. refl)

  moved_all : n < 255 → Chains k v at n index base
  moved_all l = let z : reached n ≡ n = omega arith in rw z at moved

  numbered-moved : (y : A) → numbered k v at n y ≡ numbered k g at n y
  unfolding numbered
  numbered-moved y = rw (entries_ext g v at n e)

  pub entered : n < 255 → k.indexed x ≡ true → numbered k g at n x ≡ 0 → k.bucket_of x < 128 → base + 384 ≤ length index
      → Chains k v at (reached (n + 1)) (pushed index base (k.bucket_of x) n) base
  entered u ix new l size =
      let z : reached (n + 1) ≡ n + 1 = omega arith in
      rw z
      (chains_in k v at n base index (moved_all u) (k.bucket_of x)
      (record { counts = rw here ix; here = rw here; new = rw here (numbered-moved x ∙ new) }) l room size)

  unchained : (n < 255 → (h : ℕ) → In k v at h n → ⊥) → Chains k v at (reached (n + 1)) index base
  unchained out =
      elim (dec_lt n 255) [
        | yes l ↦ (let z : reached (n + 1) ≡ n + 1 = omega arith in rw z (chains_out k v at n base index (moved_all l) (out l)))
        | no l ↦ (let z : reached (n + 1) ≡ reached n = omega arith in rw z moved)
      ]

  pub entered_known : (numbered k g at n x ≡ 0 → ⊥) → Chains k v at (reached (n + 1)) index base
  entered_known old = unchained (λ l h m. old (sym (numbered-moved x) ∙ rw here at m.new))

  pub entered_apart : k.indexed x ≡ false → Chains k v at (reached (n + 1)) index base
  entered_apart ix = unchained (λ l h m. clash (sym ix ∙ rw here at m.counts))

  pub entered_last : 255 ≤ n → Chains k v at (reached (n + 1)) index base
  entered_last u = unchained (λ l h m. absurd (omega arith))
