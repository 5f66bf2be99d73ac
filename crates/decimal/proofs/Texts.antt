-- A text of integers and the integers of a text: each gives the other back.
-- Assumes nothing.
use mathlib.Core.Path.{◌≡◌, refl, sym, ap, ◌∙◌}
use mathlib.Core.Option.{Option, none, some}
use mathlib.Core.List.{List, [], ◌∷◌, ◌++◌, map}
use Prim.Native.Nat.{ℕ, suc, ◌<◌}
use native.Mathlib.Omega.{arith}
use borrow.Author.Tests.{ne_eqb, eqb-true}
use lib.Dec.{eqb}
use lib.IntN.{ℤ, pos, negsuc}
use lib.ListN.{length}
use Rattle.format.specs.Integers.{digits, decimal, spaced, joined, list_text}
use Rattle.fields.proofs.Utf8.{told}
use Rattle.decimal.specs.Words.{parse, longer, words, both, parse_all, parse_list}
use Rattle.decimal.proofs.Figures.{Figures}
use Rattle.decimal.proofs.Decimals.{digits_are, parse-decimal, decimal-parse}

-- ---- words

-- no octet of the word is a space
Spaceless : List ℕ → Type 0
Spaceless [] = Unit {0}
Spaceless (b ∷ bs) = (b ≡ 32 → ⊥) × Spaceless bs

digits_spaceless : (ds : List ℕ) → Figures 10 48 ds → Spaceless ds
unfolding Spaceless Figures
digits_spaceless [] f = tt
digits_spaceless (d ∷ ds) f = ((λ z. let l = f.0 in omega arith), digits_spaceless ds f.2)

decimal_spaceless : (z : ℤ) → Spaceless (decimal z)
unfolding Spaceless decimal
decimal_spaceless (pos n) = digits_spaceless (digits n) (digits_are n)
decimal_spaceless (negsuc n) = ((λ z. omega arith), digits_spaceless (digits (suc n)) (digits_are (suc n)))

-- a word before what starts with a space or is nothing
word_first : (y t : List ℕ) (ys : List (List ℕ)) → Spaceless y → words t ≡ [] ∷ ys → words (y ++ t) ≡ y ∷ ys
unfolding words longer Spaceless
word_first [] t ys s e = e
word_first (b ∷ y) t ys s e = rw (words, ne_eqb b 32 s.0, word_first y t ys s.1 e)

words-spaced : (zs : List ℤ) → words (spaced (map decimal zs)) ≡ [] ∷ map decimal zs
unfolding words spaced
words-spaced [] = refl
words-spaced (z ∷ zs) = ap (λ ys. [] ∷ ys) (word_first (decimal z) _ (map decimal zs) (decimal_spaceless z) (words-spaced zs))

pub words_text : (z : ℤ) (zs : List ℤ) → words (list_text (z ∷ zs)) ≡ map decimal (z ∷ zs)
unfolding list_text joined
words_text z zs = word_first (decimal z) _ (map decimal zs) (decimal_spaceless z) (words-spaced zs)

-- ---- a text is its words with spaces between

pub words_some : (x : List ℕ) → 0 < length (words x)
unfolding words longer
words_some [] = omega arith
words_some (b ∷ bs) = told (eqb b 32) (λ t. rw (words, t) (omega arith)) (λ t. rw (words, t) (some_longer b (words bs)))
  where
    some_longer : (b : ℕ) (ys : List (List ℕ)) → 0 < length (longer b ys)
    some_longer b [] = omega arith
    some_longer b (y ∷ ys) = omega arith

pub spaced-joined : (ys : List (List ℕ)) → 0 < length ys → spaced ys ≡ 32 ∷ joined ys
unfolding spaced joined
spaced-joined [] h = absurd (omega arith)
spaced-joined (y ∷ ys) h = refl

joined-longer : (b : ℕ) (ys : List (List ℕ)) → joined (longer b ys) ≡ b ∷ joined ys
unfolding spaced joined longer
joined-longer b [] = refl
joined-longer b (y ∷ ys) = refl

joined_words : (x : List ℕ) → joined (words x) ≡ x
unfolding joined words spaced
joined_words [] = refl
joined_words (b ∷ bs) =
    told (eqb b 32)
    (λ t. rw (words, t) (spaced-joined (words bs) (words_some bs) ∙ ap (λ y. 32 ∷ y) (joined_words bs) ∙ ap (λ k. k ∷ bs) (sym (eqb-true b 32 t))))
    (λ t. rw (words, t) (joined-longer b (words bs) ∙ ap (λ y. b ∷ y) (joined_words bs)))

-- ---- their integers

parse_decimals : (zs : List ℤ) → parse_all (map decimal zs) ≡ some zs
unfolding parse_all both
parse_decimals [] = refl
parse_decimals (z ∷ zs) = rw (parse-decimal z, parse_decimals zs)

pub both_some : (r : Option ℤ) (rs : Option (List ℤ)) (zs : List ℤ) → both r rs ≡ some zs
    → (z : ℤ) × (ys : List ℤ) × (r ≡ some z) × (rs ≡ some ys) × (zs ≡ z ∷ ys)
unfolding both
both_some none rs zs e = absurd (let k : ◌≡◌ {A = ℕ} 0 1 = cc in omega arith)
both_some (some z) none zs e = absurd (let k : ◌≡◌ {A = ℕ} 0 1 = cc in omega arith)
both_some (some z) (some ys) zs e = (z, ys, refl, refl, cc)

decimals_parse : (ys : List (List ℕ)) (zs : List ℤ) → parse_all ys ≡ some zs → ys ≡ map decimal zs
unfolding parse_all
decimals_parse [] zs e = let f : [] ≡ zs = cc in rw (← f)
decimals_parse (y ∷ ys) zs e =
    let b = both_some (parse y) (parse_all ys) zs e in
    let p = decimal-parse y b.0 b.2 in
    let q = decimals_parse ys b.1 b.3 in
    rw (b.4, p, ← q)

-- ---- the laws

parse_text : (z : ℤ) (zs : List ℤ) → parse_list (list_text (z ∷ zs)) ≡ some (z ∷ zs)
unfolding parse_list
parse_text z zs = rw (words_text z zs) (parse_decimals (z ∷ zs))

pub parse_some : (zs : List ℤ) → 0 < length zs → parse_list (list_text zs) ≡ some zs
parse_some [] h = absurd (omega arith)
parse_some (z ∷ zs) h = parse_text z zs

module _ (x : List ℕ) (zs : List ℤ) (e : parse_list x ≡ some zs) where
  pub text_parse : list_text zs ≡ x
  unfolding parse_list list_text
  text_parse = ap joined (sym (decimals_parse (words x) zs e)) ∙ joined_words x

  pub parse_not_empty : 0 < length zs
  unfolding parse_list
  parse_not_empty = full zs (rw (decimals_parse (words x) zs e) at (words_some x))
    where
      full : (zs : List ℤ) → 0 < length (map decimal zs) → 0 < length zs
      full [] h = h
      full (z ∷ zs) h = omega arith

pub text_injective : (ys zs : List ℤ) → 0 < length ys → 0 < length zs → list_text ys ≡ list_text zs → ys ≡ zs
text_injective ys zs h k e =
    let p = parse_some ys h in
    let q = parse_some zs k in
    let r : parse_list (list_text ys) ≡ parse_list (list_text zs) = ap parse_list e in
    cc
