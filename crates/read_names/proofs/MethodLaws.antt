-- A law for each answer of the functions that read the number of an alphabet or an algorithm and the length behind it, on plain values. Such a length starts at bit 5, 6 or 7.
-- Assumes nothing.
use mathlib.Core.Path.{◌≡◌, refl, sym, ◌∙◌}
use mathlib.Core.Bool.{Bool, true}
use mathlib.Core.List.{List}
use Prim.Native.Nat.{ℕ, suc, ◌+◌, ◌-◌, ◌*◌, ◌/◌, ◌%◌, ◌^◌, ◌≤◌, ◌<◌}
use native.Mathlib.Omega.{arith}
use native.Mathlib.Numerals.{add-one}
use borrow.Author.Tests.{lt-ltb, le-ltb, leb-true}
use lib.Dec.{ltb, leb, eqb}
use lib.ListN.{length, get_or}
use Rattle.std.specs.Prelude.{Result}
use Rattle.format.specs.declared.refusals.Fault.{Fault}
use Rattle.fields.specs.declared.Read.{Read}
use Rattle.fields.specs.Fields.{bits_of, value_from}
use Rattle.tables.proofs.ByNumber.{by_number_lem}
use Rattle.read_names.specs.Strings.{method_at, is_read, method_behind, method_length}
use Rattle.read_names.specs.StringContracts.{LengthRead}
use Rattle.read_names.proofs.StringLaws.{tests}

-- ---- what stands behind the number's octets: a length n, with `more` octets
module _ (bit f : ℕ) (s : List ℕ) (k more n : ℕ) (clean : Bool) where
  behind-read : 1 ≤ n → LengthRead s (method_behind bit f s k more n clean)
  unfolding method_behind
  behind-read h =
      tests (LengthRead s) (leb (k + 2 + more + n) (length s)) _ _
      (λ e. let l : k + 2 + more + n ≤ length s = leb-true _ _ e in
      tests (LengthRead s) (is_read f (method_at bit s k)) _ _ (λ _. tests (LengthRead s) clean _ _ (λ _. (h, omega arith)) (λ _. tt)) (λ _. tt))
      (λ _. tt)

method_in : (bit f : ℕ) (s : List ℕ) (k b : ℕ) → LengthRead s (method_length bit f s k b)
unfolding method_length
method_in bit f s k b =
    tests (LengthRead s) (ltb b (2 ^ (8 - bit))) _ _ (λ _. behind-read bit f s k 0 _ _ (omega arith))
    (λ _. tests (LengthRead s) (ltb b (3 * 2 ^ (7 - bit))) _ _ (λ _. behind-read bit f s k 1 _ _ (omega arith)) (λ _. behind-read bit f s k 4 _ _ (omega arith)))

pub method_read : (bit f : ℕ) (s : List ℕ) (k b : ℕ) (m : Result (Read ℕ) Fault) → m ≡ method_length bit f s k b → LengthRead s m
method_read bit f s k b m e = rw (← e) at (method_in bit f s k b)

-- ---- the bits of one octet
module _ (bit : ℕ) (from : 5 ≤ bit) (to : bit ≤ 7) where
  by_bit : (P : ℕ → Type 0) → P 5 → P 6 → P 7 → P bit
  by_bit P a b c = by_number_lem P 5 3 (a, (b, (c, tt))) bit from (omega arith)

  -- what an octet has above the length's bits is no more than an octet
  pub low_few : (b : ℕ) → b < 256 → b / 2 ^ (9 - bit) < 256
  low_few b h = by_bit (λ (k : ℕ). b / 2 ^ (9 - k) < 256) (omega arith) (omega arith) (omega arith)

  -- the number, from two octets a and b
  number_is : (a b : ℕ) → b < 256 → (bits_of a bit 8 * 2 ^ (bit - 1) % 4294967296 ≡ a % 2 ^ (9 - bit) * 2 ^ (bit - 1)) × (a % 2 ^ (9 - bit) * 2 ^ (bit - 1) + b / 2 ^ (9 - bit) < 256)
  number_is a b h =
      by_bit (λ (k : ℕ). (bits_of a k 8 * 2 ^ (k - 1) % 4294967296 ≡ a % 2 ^ (9 - k) * 2 ^ (k - 1)) × (a % 2 ^ (9 - k) * 2 ^ (k - 1) + b / 2 ^ (9 - k) < 256))
      (omega arith, omega arith) (omega arith, omega arith) (omega arith, omega arith)

  pub method_is : (s : List ℕ) (k a b x : ℕ) → a ≡ get_or s k 0 → b ≡ get_or s (k + 1) 0 → b < 256 → x ≡ bits_of a bit 8
      → (x * 2 ^ (bit - 1) % 4294967296 + b / 2 ^ (9 - bit) ≡ method_at bit s k) × (x * 2 ^ (bit - 1) % 4294967296 + b / 2 ^ (9 - bit) < 256)
  unfolding method_at
  method_is s k a b x ea eb h ex = rw (ex, (number_is a b h).0, ← add-one k, ← ea, ← eb) (refl, (number_is a b h).1)

  -- how many values the bits behind a code of two bits have: at most four
  pub half_few : (h : ℕ) → h ≡ 1 * 2 ^ (7 - bit) % 18446744073709551616 → (h ≡ 2 ^ (7 - bit)) × (2 ^ (8 - bit) ≡ 2 * h) × (h ≤ 4)
  half_few h = by_bit (λ (k : ℕ). h ≡ 1 * 2 ^ (7 - k) % 18446744073709551616 → (h ≡ 2 ^ (7 - k)) × (2 ^ (8 - k) ≡ 2 * h) × (h ≤ 4))
      (λ e. (omega arith, omega arith, omega arith)) (λ e. (omega arith, omega arith, omega arith)) (λ e. (omega arith, omega arith, omega arith))

  last_bits : (o : ℕ) → bits_of o bit 8 ≡ o % 2 ^ (9 - bit)
  last_bits o = by_bit (λ (k : ℕ). bits_of o k 8 ≡ o % 2 ^ (9 - k)) (omega arith) (omega arith) (omega arith)

  -- b are the length's bits in its first octet o
  module _ (f : ℕ) (s : List ℕ) (k o b h : ℕ) (is : o ≡ get_or s (k + 1) 0) (eb : b ≡ bits_of o bit 8) (eh : h ≡ 1 * 2 ^ (7 - bit) % 18446744073709551616) (r : Result (Read ℕ) Fault) where
    these : get_or s (suc k) 0 % 2 ^ (9 - bit) ≡ b
    these = rw (← add-one k, ← is) (sym (last_bits o) ∙ sym eb)

    pub length_short : b < 2 * h → r ≡ method_behind bit f s k 0 (1 + b + value_from s (k + 2) 0 0) true → r ≡ method_length bit f s k (get_or s (suc k) 0 % 2 ^ (9 - bit))
    unfolding method_length value_from
    length_short l q =
        let z : 1 + b + 0 ≡ 1 + b = omega arith in
        rw (these, (half_few h eh).1, lt-ltb _ _ l, ← z) q

    pub length_middle : 2 * h ≤ b → b < 3 * h → r ≡ method_behind bit f s k 1 (1 + 2 * h + value_from s (k + 2) 0 1) (eqb b (2 * h)) → r ≡ method_length bit f s k (get_or s (suc k) 0 % 2 ^ (9 - bit))
    unfolding method_length
    length_middle l u q = rw (these, (half_few h eh).1, ← (half_few h eh).0, le-ltb _ _ l, lt-ltb _ _ u) q

    pub length_long : 3 * h ≤ b → r ≡ method_behind bit f s k 4 (1 + 2 * h + 256 + value_from s (k + 2) 0 4) (eqb b (3 * h)) → r ≡ method_length bit f s k (get_or s (suc k) 0 % 2 ^ (9 - bit))
    unfolding method_length
    length_long l q =
        let u : 2 * h ≤ b = omega arith in
        rw (these, (half_few h eh).1, ← (half_few h eh).0, le-ltb _ _ u, le-ltb _ _ l) q
