-- The octets of an integer as the library has them are those of the definition, and the integer of octets as well: once for every width.
-- Assumes nothing.
use Rattle.std.proofs.Common.{◌≡◌, ℕ, zero, suc, ◌+◌, ◌-◌, ◌/◌, ◌%◌, ◌^◌, ◌≤◌, ltb, ℤ, pos, negsuc, List, [], ◌∷◌, length, get_or, take, drop, take_all, sym, refl, ap, ◌∙◌, arith, drop-cons}
use mir.Syntax.{Width}
use mir.Val.{to_z, of_z, hbits, bits, SFits}
use mir.ValLaws.{to_z-of_z}
use Rattle.std.specs.Int.{bytes_high_first}
use Rattle.format.specs.Integers.{figures, half, unsigned, octets_of}
use Rattle.fields.proofs.Utf8.{told}
use Rattle.decimal.specs.Reading.{number, signed, integer_of}

-- n octets, read one by one
abbrev pub place : ℕ → ℕ → ℕ
place at zero = at
place at (suc k) = at + suc k

abbrev pub reads : List ℕ → (at k n : ℕ) → List ℕ
reads s at k zero = []
reads s at k (suc n) = get_or s (place at k) 0 ∷ reads s at (suc k) n

place_is : (at k : ℕ) → place at k ≡ at + k
place_is at zero = omega arith
place_is at (suc k) = refl

reads_are : (s : List ℕ) (at k n : ℕ) → at + k + n ≤ length s → take n (drop (at + k) s) ≡ reads s at k n
reads_are s at k zero h = refl
reads_are s at k (suc n) h =
    let e : at + suc k ≡ suc (at + k) = omega arith in
    rw (drop-cons s (at + k) 0 (omega arith), place_is at k) (ap (λ l. get_or s (at + k) 0 ∷ l) (rw e at (reads_are s at (suc k) n (omega arith))))

bytes : (k n : ℕ) → bytes_high_first k n ≡ figures 256 0 k n
unfolding figures
bytes zero n = refl
bytes (suc zero) n = let e : n % 256 ≡ 0 + n / 256 ^ 0 % 256 = omega arith in rw e
bytes (suc (suc k)) n = let e : 0 + n / 256 ^ suc k % 256 ≡ n / 256 ^ suc k % 256 = omega arith in rw e (ap (λ l. (n / 256 ^ suc k % 256) ∷ l) (bytes (suc k) n))

bytes-length : (k n : ℕ) → length (bytes_high_first k n) ≡ k
bytes-length zero n = refl
bytes-length (suc k) n = ap suc (bytes-length k n)

module _ (w : ℕ) (v : Width) (h : half w ≡ 2 ^ hbits v) (b : 256 ^ w ≡ 2 ^ bits v) where
  signed_is : (n : ℕ) → to_z v n ≡ signed w n
  unfolding signed
  signed_is n = rw (h, b) (told (ltb n (2 ^ hbits v)) (λ t. rw t) (λ t. rw t))

  pub integer_is : (s : List ℕ) (at n : ℕ) → at + w ≤ length s → n ≡ number 256 0 0 (reads s at 0 w) → to_z v n ≡ integer_of w (take w (drop at s))
  unfolding integer_of
  integer_is s at n l e =
      let z : at + 0 ≡ at = omega arith in
      signed_is n ∙ ap (signed w) (e ∙ ap (number 256 0 0) (rw z at (sym (reads_are s at 0 w (omega arith)))))

  octets_are : (z : ℤ) → bytes_high_first w (of_z v z) ≡ octets_of w z
  unfolding octets_of unsigned
  octets_are (pos n) = bytes w n
  octets_are (negsuc n) = rw b (bytes w (2 ^ bits v - suc n))

  pub octets_put : {o : List ℕ} (z : ℤ) → SFits v z → o ≡ bytes_high_first w (of_z v (to_z v (of_z v z))) → take w o ≡ octets_of w z
  octets_put z f e =
      let l = bytes-length w (of_z v z) in
      rw (e, to_z-of_z v z f) (take_all w (bytes_high_first w (of_z v z)) (omega arith) ∙ octets_are z)
