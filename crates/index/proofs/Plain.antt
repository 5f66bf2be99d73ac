-- What one look at a string's octets tells: that each is plain, by the numbers that its bucket is made of; and then it is text.
-- Assumes nothing.
use mathlib.Core.Path.{◌≡◌}
use mathlib.Core.Bool.{true}
use mathlib.Core.List.{List}
use Prim.Native.Nat.{ℕ, ◌+◌, ◌-◌, ◌*◌, ◌/◌, ◌≤◌, ◌<◌}
use native.Mathlib.Decide.{dec_lt}
use native.Mathlib.Omega.{arith}
use lib.Bits.{bit_and, bit_or}
use lib.ListN.{length, get_or, take, drop}
use Rattle.fields.specs.Utf8.{is_text}
use Rattle.fields.specs.WeightContracts.{weight, Small, high_bits, not_plain, Plain}
use Rattle.fields.proofs.Plain.{Eight, neither, three_plain, eight_plain, fours_plain}
use Rattle.fields.proofs.Utf8.{plain_text}
use Rattle.tables.specs.Located.{stretch, octets_of}
use Rattle.format.specs.declared.StringForm.TheVariants.{Utf8}

module _ (s : List ℕ) (place len : ℕ) where
  pub few_plain : (a b c : ℕ) → a ≡ get_or s place 0 → b ≡ get_or s (place + len / 2) 0 → c ≡ get_or s (place + (len - 1)) 0 → a < 256 → b < 256 → c < 256
      → 1 ≤ len → len < 4 → bit_and (not_plain (a + 256 * b + 65536 * c + 0x2020202020000000)) (high_bits 8) ≡ 0 → Plain s place (place + len)
  few_plain a b c ea eb ec ha hb hc g h z j l u =
      let p = three_plain a b c ha hb hc z in
      elim (dec_lt place j) [
        | yes m ↦ elim (dec_lt j (place + (len - 1))) [
          | yes q ↦ let e : place + len / 2 ≡ j = omega arith in (rw (eb, e) at p.1)
          | no q ↦ let e : place + (len - 1) ≡ j = omega arith in (rw (ec, e) at p.2)
        ]
        | no m ↦ let e : place ≡ j = omega arith in (rw (ea, e) at p.0)
      ]

  pub four_plain : (u v : ℕ) → (u ≡ weight (take 4 (drop place s))) × Small (take 4 (drop place s)) × (u < 0x1_0000_0000)
      → (v ≡ weight (take 4 (drop (place + (len - 4)) s))) × Small (take 4 (drop (place + (len - 4)) s)) × (v < 0x1_0000_0000)
      → 4 ≤ len → len ≤ 8 → bit_and (not_plain (u + 4294967296 * v)) (high_bits 8) ≡ 0 → Plain s place (place + len)
  four_plain u v eu ev g h z j l k =
      let p = fours_plain s place (place + (len - 4)) u v eu ev z in
      elim (dec_lt j (place + 4)) [ yes b ↦ p.0 j l b | no b ↦ p.1 j (omega arith) (omega arith) ]

  -- The eights before octet i, and the last: what has been seen of them.
  unfoldable pub EightsSeen : (i other : ℕ) → Type 0
  EightsSeen i other = bit_and other (high_bits 8) ≡ 0 → Plain s place (place + i) × Plain s (place + (len - 8)) (place + len)

  pub eights_start : (x : ℕ) → 9 ≤ len → Eight s (place + (len - 8)) x → EightsSeen 0 (not_plain x)
  unfolding EightsSeen
  eights_start x g e z = (λ j l u. absurd (omega arith), λ j l u. eight_plain s (place + (len - 8)) x e z j l (omega arith))

  pub eights_next : (i other x : ℕ) → Eight s (place + i) x → EightsSeen i other → EightsSeen (i + 8) (bit_or other (not_plain x))
  unfolding EightsSeen
  eights_next i other x e old z =
      let n = neither other (not_plain x) (high_bits 8) z in
      let p = old n.0 in (
        λ j l u. elim (dec_lt j (place + i)) [ yes b ↦ p.0 j l b | no b ↦ eight_plain s (place + i) x e n.1 j (omega arith) (omega arith) ],
        p.1,
      )

  pub eights_end : (i other : ℕ) → EightsSeen i other → len - i ≤ 8 → bit_and other (high_bits 8) ≡ 0 → Plain s place (place + len)
  unfolding EightsSeen
  eights_end i other seen h z j l u =
      let p = seen z in
      elim (dec_lt j (place + i)) [ yes b ↦ p.0 j l b | no b ↦ p.1 j (omega arith) u ]

  pub plain_string : place + len ≤ length s → Plain s place (place + len) → true ≡ is_text (octets_of s (stretch Utf8 place len))
  unfolding octets_of
  plain_string h p = let z : place + len - place ≡ len = omega arith in rw z at (plain_text s place (place + len) h p)
