-- What reading a number or a length finds at a place: the value and the place behind it, or a refusal (Truncated, Code, Padding, Range) and its place.
use Rattle.std.specs.Prelude.{ℕ, zero, suc, ◌+◌, ◌-◌, ◌*◌, ◌/◌, ◌%◌, ◌^◌, List, [], ◌∷◌, map, length, nat_le, nat_lt, slice_index, Result, Ok, Err}
use Rattle.format.specs.Octets.{Octets}
use Rattle.format.specs.Numbers.{pick, Form, form, behind_first}
use Rattle.format.specs.declared.refusals.Refusal.{Refusal}
use Rattle.format.specs.declared.refusals.Refusal.TheVariants.{Truncated, Code, Padding, Range}
use Rattle.format.specs.declared.refusals.Fault.{Fault}
use Rattle.fields.specs.declared.Read.{Read}

-- A value was read and the next field starts at `next`; or what stands at `at` is refused.
abbrev pub got : {A : Type 0} → A → (next : ℕ) → Result (Read A) Fault
got x next = Ok (record { value = x; next = record { at = next } })

abbrev pub refused : {A : Type 0} → Refusal → (at : ℕ) → Result A Fault
refused r at = Err (record { refusal = r; at = at })

-- Bits `first` to `last` of the octet o; bit 1 is the highest.
abbrev pub bits_of : (o first last : ℕ) → ℕ
bits_of o first last = o / 2 ^ (8 - last) % 2 ^ (last + 1 - first)

-- The value that x and then the m octets from `at` spell, the higher first.
unfoldable pub value_from : Octets → ℕ → ℕ → ℕ → ℕ
value_from s at x zero = x
value_from s at x (suc m) = value_from s (suc at) (x * 256 + slice_index s at) m

-- The octets behind the first one: missing, padding in them, a number over the top.
unfoldable pub behind : Octets → ℕ → ℕ → ℕ → ℕ → ℕ → ℕ → Result (Read ℕ) Fault
behind s at x more low size top =
    pick (nat_lt (at + more) (length s))
    (pick (nat_lt (value_from s (at + 1) x more) size)
    (pick (nat_le (low + value_from s (at + 1) x more) top)
    (got (low + value_from s (at + 1) x more) (at + 1 + more))
    (refused Range at))
    (refused Padding at))
    (refused Truncated at)

-- What reading needs of a form: of the values that the field's bits of the first octet can have, the next `room` are behind its code; `more` octets follow; it
-- writes `size` numbers.
pub data Share : Type 0 where
  share : (room more size : ℕ) → Share

unfoldable pub share_of : Form → Share
share_of (form code zeros bits low) = share (2 ^ (zeros + bits - 8 * behind_first code zeros bits)) (behind_first code zeros bits) (2 ^ bits)

-- b is what the field's bits of the first octet hold: the form that spells a value with b there reads on; padding in the first octet; no form has it.
-- `low` is the lowest number that the forms left can spell.
unfoldable pub read_in : List Share → ℕ → ℕ → Octets → ℕ → ℕ → Result (Read ℕ) Fault
read_in [] top low s at b = refused Code at
read_in (share room more size ∷ fs) top low s at b =
    pick (nat_lt (b * 256 ^ more) size) (behind s at b more low size top)
    (pick (nat_lt b room) (refused Padding at) (read_in fs top (low + size) s at (b - room)))

-- The number or length that starts at bit `bit` of the octet at `at`: missing, then as its forms say.
unfoldable pub field_at : List Form → ℕ → ℕ → Octets → ℕ → Result (Read ℕ) Fault
field_at fs top bit s at = pick (nat_lt at (length s)) (read_in (map share_of fs) top 1 s at (slice_index s at % 2 ^ (9 - bit))) (refused Truncated at)

-- Above every length: a length has no top.
abbrev pub no_top : ℕ
no_top = 8589934592
