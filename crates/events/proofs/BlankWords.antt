-- Blank records, as words, are 0; and the last word of each record is its place.
use Prim.Native.Nat.{ℕ, zero, suc, ◌+◌, ◌*◌, ◌/◌, ◌%◌}
use mathlib.Core.Path.{◌≡◌, refl, ap, ◌∙◌}
use mathlib.Core.List.{List, [], ◌∷◌, ◌++◌, append_assoc}
use native.Mathlib.Omega.{arith}
use lib.ListN.{get_or, replicate, replicate-append-replicate}
use lib.Seq.{get_or-append-add}
use Rattle.events.specs.declared.Event.{Event}
use Rattle.events.specs.Records.{blank}
use Rattle.events.specs.Words.{record_words, row_words}

-- a blank record is 14 words of 0
pub blank-words : (n : ℕ) → row_words (replicate n blank) ≡ replicate (14 * n) 0
unfolding row_words
blank-words zero = refl
blank-words (suc n) =
    let z : 14 * suc n ≡ 14 + 14 * n = omega arith in
    rw (z, blank-words n) (replicate-append-replicate {A = ℕ} 14 (14 * n) 0)

pub blank_all : (r : ℕ) → row_words (replicate (r / 14) blank) ++ replicate (r % 14) 0 ≡ replicate r 0
blank_all r =
    let z : 14 * (r / 14) + r % 14 ≡ r = omega arith in
    rw (blank-words (r / 14)) (replicate-append-replicate {A = ℕ} (14 * (r / 14)) (r % 14) 0 ∙ ap (λ (k : ℕ). replicate k 0) z)

pub all_alike : {A : Type 0} (d : A) (n i : ℕ) → get_or (replicate n d) i d ≡ d
all_alike d zero i = refl
all_alike d (suc n) zero = refl
all_alike d (suc n) (suc i) = all_alike d n i

pub row_place : (es : List Event) (n i : ℕ) → get_or (row_words es ++ replicate n 0) (14 * i + 13) 0 ≡ (get_or es i blank).place
unfolding row_words
row_place [] n i = all_alike 0 n (14 * i + 13)
row_place (e ∷ es) n zero = refl
row_place (e ∷ es) n (suc i) =
    let z : 14 * suc i + 13 ≡ 14 + (14 * i + 13) = omega arith in
    rw (z, append_assoc (record_words e) (row_words es) (replicate n 0)) (get_or-append-add (record_words e) (row_words es ++ replicate n 0) (14 * i + 13) 0 ∙ row_place es n i)
