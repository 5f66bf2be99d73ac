-- Which integers octets are, and which text they say. That these are exact is proofs/Said: `said_spelled` and `spelled_said`.
use Rattle.std.specs.Prelude.{ℕ, zero, suc, ◌+◌, ◌-◌, ◌*◌, ◌/◌, ◌%◌, ◌^◌, Bool, ◌&&◌, List, [], ◌∷◌, ltb, eqb, ℤ, pos, negsuc, length, take, drop}
use Rattle.format.specs.Octets.{Octets}
use Rattle.format.specs.Numbers.{pick}
use Rattle.format.specs.Integers.{half, list_text}

-- The number that v and the figures behind it are, to a base; `low` is the figure 0.
unfoldable pub number : (base low v : ℕ) → List ℕ → ℕ
number base low v [] = v
number base low v (d ∷ ds) = number base low (v * base + (d - low)) ds

-- The integer for which a number of w octets stands; and w octets, the highest first.
unfoldable pub signed : (w v : ℕ) → ℤ
signed w v = pick (ltb v (half w)) (pos v) (negsuc (256 ^ w - suc v))

unfoldable pub integer_of : (w : ℕ) → Octets → ℤ
integer_of w o = signed w (number 256 0 0 o)

-- k integers of w octets each.
unfoldable pub integers_of : (w k : ℕ) → Octets → List ℤ
integers_of w zero o = []
integers_of w (suc k) o = integer_of w (take w o) ∷ integers_of w k (drop w o)

-- There is an octet, and w divides how many there are.
unfoldable pub is_whole : (w : ℕ) → Octets → Bool
is_whole w o = ltb 0 (length o) && eqb (length o % w) 0

-- The text that octets say where they are whole integers.
unfoldable pub said_in : (w : ℕ) → Octets → Octets
said_in w o = list_text (integers_of w (length o / w) o)
