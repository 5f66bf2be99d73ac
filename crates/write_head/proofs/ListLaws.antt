-- Lists of entries, by loops over their rows: every entry passes, none is repeated, their octets.
-- Assumes nothing.
use mathlib.Core.Path.{◌≡◌, refl, sym, ap, ◌∙◌}
use mathlib.Core.Bool.{Bool, true, false, not, ◌&&◌, ◌||◌}
use mathlib.Core.List.{List, [], ◌∷◌, ◌++◌, map, append_assoc, append-nil}
use Prim.Native.Nat.{ℕ, zero, suc, ◌+◌, ◌*◌, ◌<◌}
use native.Mathlib.Omega.{arith}
use native.Mathlib.Numerals.{add-one}
use Rattle.format.specs.Octets.{Octets}
use Rattle.format.specs.Tables.{Triple, same, holds, same_triple, holds_name}
use Rattle.tables.specs.Rows.{entries}
use Rattle.tables.proofs.Entries.{entries-more}
use Rattle.tables.proofs.Found.{same_eq, same_refl, same-triple_eq, same-triple_refl}
use Rattle.write_head.specs.Head.{every, distinct, distinct_names, joined_by}
use Rattle.write_head.specs.RowContracts.{below, some_below, join_below}

pub and_true : (b : Bool) → (b && true) ≡ b
and_true true = refl
and_true false = refl

and_assoc : (a b c : Bool) → (a && (b && c)) ≡ ((a && b) && c)
and_assoc true b c = refl
and_assoc false b c = refl

or_assoc : (a b c : Bool) → (a || (b || c)) ≡ ((a || b) || c)
or_assoc true b c = refl
or_assoc false b c = refl

pub or_false : (b : Bool) → (b || false) ≡ b
or_false true = refl
or_false false = refl

pub below-same : (f h : ℕ → Bool) (n : ℕ) → ((i : ℕ) → i < n → f i ≡ h i) → below f n ≡ below h n
unfolding below
below-same f h zero e = refl
below-same f h (suc n) e = rw (below-same f h n (λ i l. e i (omega arith)), e n (omega arith))

pub some_same : (f h : ℕ → Bool) (n : ℕ) → ((i : ℕ) → i < n → f i ≡ h i) → some_below f n ≡ some_below h n
unfolding some_below
some_same f h zero e = refl
some_same f h (suc n) e = rw (some_same f h n (λ i l. e i (omega arith)), e n (omega arith))

pub join_same : (f h : ℕ → List ℕ) (n : ℕ) → ((i : ℕ) → i < n → f i ≡ h i) → join_below f n ≡ join_below h n
unfolding join_below
join_same f h zero e = refl
join_same f h (suc n) e = rw (join_same f h n (λ i l. e i (omega arith)), e n (omega arith))

module _ {A : Type 0} where
  entries_suc : (f : ℕ → A) (at n : ℕ) → entries f at (suc n) ≡ entries f at n ++ (f (at + 3 * n) ∷ [])
  entries_suc f at n = rw (← add-one n) (entries-more f at n)

  every_snoc : (p : A → Bool) (l : List A) (x : A) → every p (l ++ (x ∷ [])) ≡ (every p l && p x)
  unfolding every
  every_snoc p [] x = and_true (p x)
  every_snoc p (y ∷ l) x = rw (every_snoc p l x) (and_assoc (p y) (every p l) (p x))

  pub every-rows : (p : A → Bool) (f : ℕ → A) (at n : ℕ) → every p (entries f at n) ≡ below (λ (i : ℕ). p (f (at + 3 * i))) n
  unfolding below every entries
  every-rows p f at zero = refl
  every-rows p f at (suc n) =
      ap (λ (l : List A). every p l) (entries_suc f at n) ∙ every_snoc p (entries f at n) (f (at + 3 * n)) ∙ ap (λ (b : Bool). b && p (f (at + 3 * n))) (every-rows p f at n)

  join_snoc : (h : A → List ℕ) (l : List A) (x : A) → joined_by h (l ++ (x ∷ [])) ≡ joined_by h l ++ h x
  unfolding joined_by
  join_snoc h [] x = append-nil (h x)
  join_snoc h (y ∷ l) x = rw (join_snoc h l x) (sym (append_assoc (h y) (joined_by h l) (h x)))

  pub join_rows : (h : A → List ℕ) (f : ℕ → A) (at n : ℕ) → joined_by h (entries f at n) ≡ join_below (λ (i : ℕ). h (f (at + 3 * i))) n
  unfolding join_below joined_by entries
  join_rows h f at zero = refl
  join_rows h f at (suc n) =
      ap (λ (l : List A). joined_by h l) (entries_suc f at n) ∙ join_snoc h (entries f at n) (f (at + 3 * n)) ∙ ap (λ (o : List ℕ). o ++ h (f (at + 3 * n))) (join_rows h f at n)

  pub map_rows : {B : Type 0} (h : A → B) (f : ℕ → A) (k : ℕ → B) (at n : ℕ) → ((i : ℕ) → i < n → h (f (at + 3 * i)) ≡ k (at + 3 * i)) → map h (entries f at n) ≡ entries k at n
  unfolding entries
  map_rows h f k at zero e = refl
  map_rows h f k at (suc n) e =
      let z : at + 3 * 0 ≡ at = omega arith in
      rw (map_rows h f k (at + 3) n (λ i l. let q : at + 3 + 3 * i ≡ at + 3 * suc i = omega arith in rw q (e (suc i) (omega arith))), rw z at (e 0 (omega arith)))

-- ---- repeats, by a test that is equality
module _ {A : Type 0} (alike : A → A → Bool) where
  unfoldable pub held_by : List A → A → Bool
  held_by [] x = false
  held_by (y ∷ l) x = alike y x || held_by l x

  unfoldable pub distinct_by : List A → Bool
  distinct_by [] = true
  distinct_by (x ∷ l) = not (held_by l x) && distinct_by l

  held_append : (l m : List A) (x : A) → held_by (l ++ m) x ≡ (held_by l x || held_by m x)
  unfolding held_by
  held_append [] m x = refl
  held_append (y ∷ l) m x = rw (held_append l m x) (or_assoc (alike y x) (held_by l x) (held_by m x))

  held_each : (f : ℕ → A) (at n : ℕ) (x : A) → held_by (entries f at n) x ≡ some_below (λ (i : ℕ). alike (f (at + 3 * i)) x) n
  unfolding held_by some_below entries
  held_each f at zero x = refl
  held_each f at (suc n) x =
      ap (λ (l : List A). held_by l x) (entries_suc f at n) ∙ held_append (entries f at n) (f (at + 3 * n) ∷ []) x ∙ rw (held_each f at n x, or_false (alike (f (at + 3 * n)) x))

  pub held_rows : (l : List A) (f : ℕ → A) (at n : ℕ) (x : A) → held_by (l ++ entries f at n) x ≡ (held_by l x || some_below (λ (i : ℕ). alike (f (at + 3 * i)) x) n)
  held_rows l f at n x = rw (held_append l (entries f at n) x, held_each f at n x)

  module _ (symmetric : (x y : A) → alike x y ≡ alike y x) where
    distinct_snoc : (l : List A) (x : A) → distinct_by (l ++ (x ∷ [])) ≡ (distinct_by l && not (held_by l x))
    unfolding distinct_by held_by
    distinct_snoc [] x = refl
    distinct_snoc (y ∷ l) x =
        rw (held_append l (x ∷ []) y, distinct_snoc l x, or_false (alike x y), symmetric x y)
        (swap (held_by l y) (alike y x) (distinct_by l) (held_by l x))
      where
        swap : (a b d e : Bool) → (not (a || b) && (d && not e)) ≡ ((not a && d) && not (b || e))
        swap true b d e = refl
        swap false true true e = refl
        swap false true false e = refl
        swap false false true e = refl
        swap false false false e = refl

    pub distinct-rows : (l : List A) (f : ℕ → A) (at n : ℕ) → distinct_by l ≡ true → distinct_by (l ++ entries f at n) ≡ below (λ (i : ℕ). not (held_by (l ++ entries f at i) (f (at + 3 * i)))) n
    unfolding below entries
    distinct-rows l f at zero e = rw (append-nil l) e
    distinct-rows l f at (suc n) e =
        ap (λ (m : List A). distinct_by (l ++ m)) (entries_suc f at n) ∙ ap distinct_by (sym (append_assoc l (entries f at n) (f (at + 3 * n) ∷ [])))
        ∙ distinct_snoc (l ++ entries f at n) (f (at + 3 * n)) ∙ ap (λ (b : Bool). b && not (held_by (l ++ entries f at n) (f (at + 3 * n)))) (distinct-rows l f at n e)

pub holds_is : (l : List Octets) (x : Octets) → holds l x ≡ held_by same l x
unfolding holds held_by
holds_is [] x = refl
holds_is (y ∷ l) x = rw (holds_is l x)

pub distinct_is : (l : List Octets) → distinct l ≡ distinct_by same l
unfolding distinct distinct_by
distinct_is [] = refl
distinct_is (x ∷ l) = rw (holds_is l x, distinct_is l)

pub holds_name_is : (l : List Triple) (x : Triple) → holds_name l x ≡ held_by same_triple l x
unfolding holds_name held_by
holds_name_is [] x = refl
holds_name_is (y ∷ l) x = rw (holds_name_is l x)

pub distinct-names_is : (l : List Triple) → distinct_names l ≡ distinct_by same_triple l
unfolding distinct_names distinct_by
distinct-names_is [] = refl
distinct-names_is (x ∷ l) = rw (holds_name_is l x, distinct-names_is l)

-- a test that is equality does not mind the order
module _ {A : Type 0} (alike : A → A → Bool) (exact : (x y : A) → alike x y ≡ true → x ≡ y) (itself : (x : A) → alike x x ≡ true) where
  turned : (x y : A) → alike x y ≡ true → alike y x ≡ true
  turned x y e = rw (exact x y e) (itself y)

  pub either : (x y : A) → alike x y ≡ alike y x
  either x y = by (alike x y) (alike y x) refl refl
    where
      by : (a b : Bool) → alike x y ≡ a → alike y x ≡ b → a ≡ b
      by true true e f = refl
      by false false e f = refl
      by true false e f = sym (turned x y e) ∙ f
      by false true e f = sym e ∙ turned y x f

pub same_either : (x y : Octets) → same x y ≡ same y x
same_either = either same same_eq same_refl

pub triple_either : (x y : Triple) → same_triple x y ≡ same_triple y x
triple_either = either same_triple same-triple_eq same-triple_refl
