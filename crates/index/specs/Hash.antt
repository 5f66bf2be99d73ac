-- Contracts of the code, not definitions to be believed. The bucket of a string and of a name: any function of the entry serves, and nothing but speed rests on how it spreads.
use Rattle.std.specs.Prelude.{◌≡◌, ℕ, zero, suc, ◌+◌, ◌-◌, ◌*◌, ◌/◌, ◌%◌, ◌≤◌, ◌<◌, length, get_or, take, drop, ltb}
use Rattle.std.specs.Int.Bits.{bit_and}
use Rattle.format.specs.Octets.{Octets}
use Rattle.format.specs.Numbers.{pick}
use Rattle.format.specs.Tables.{Triple}
use Rattle.format.specs.declared.StringForm.TheVariants.{Utf8}
use Rattle.fields.specs.WeightContracts.{weight, high_bits, Plain}
use Rattle.tables.specs.Located.{stretch, octets_of}

-- A number of 32 bits and one of 64, in one sum that fits 64 bits. Factors and shifts were chosen by trial on names of many shapes.
unfoldable pub summed : ℕ → ℕ → ℕ
summed h x = 559461615 * h + 678962597 * (x % 4294967296) + 655011477 * (x / 4294967296)

-- A number more taken into a number of 32 bits.
unfoldable pub blended : ℕ → ℕ → ℕ
blended h x = summed h x / 256 % 4294967296

-- A bucket, below 128.
unfoldable pub spread : ℕ → ℕ → ℕ
spread h x = summed h x / 16777216 % 128

-- k octets from a place on as one number.
unfoldable pub part : Octets → (at k : ℕ) → ℕ
part l at k = weight (take k (drop at l))

-- n times eight octets, from a place on, taken into a number.
unfoldable pub rolled : Octets → (at n h : ℕ) → ℕ
rolled l at zero h = h
rolled l at (suc n) h = rolled l (at + 8) n (blended h (part l at 8))

-- How many octets of a longer string count.
unfoldable pub counted : Octets → ℕ
counted l = pick (ltb (length l) 66) (length l) 65

-- By the octets that count: of less than four the first, the middle and the last, of up to eight the first and the last four; else, of the first 65, the first ones by eights, and the last eight.
unfoldable pub bucket : Octets → ℕ
bucket l =
    pick (ltb (length l) 4) (spread 0 (get_or l 0 0 + 256 * get_or l (length l / 2) 0 + 65536 * get_or l (length l - 1) 0))
    (pick (ltb (length l) 9) (spread 0 (part l 0 4 + 4294967296 * part l (length l - 4) 4))
    (spread (rolled l 0 ((counted l - 1) / 8) 0) (part l (counted l - 8) 8)))

-- What the code takes of the string at a place: two numbers that its bucket is made of, and one whose high bits tell that each octet is plain.
abbrev pub Takes : Octets → (place len number last other : ℕ) → Type 0
Takes s place len number last other =
    (number < 4294967296) × (spread number last ≡ bucket (octets_of s (stretch Utf8 place len)))
    × (bit_and other (high_bits 8) ≡ 0 → len ≤ 65 → Plain s place (place + len))

unfoldable pub name_bucket : Triple → ℕ
name_bucket x = spread x.prefix (x.local + 4294967296 * x.namespace)
