-- How many octets a string's field has in each form but utf-16, which the writer never uses: by the octets that the string has there, behind their length and the bits of the format.
-- Assumes nothing.
use mathlib.Core.Path.{◌≡◌, refl, ap, ◌∙◌}
use mathlib.Core.List.{List, [], ◌∷◌}
use Prim.Native.Nat.{ℕ, suc, ◌+◌, ◌-◌, ◌*◌, ◌/◌, ◌^◌, ◌≤◌, ◌<◌}
use native.Mathlib.Omega.{arith}
use borrow.Author.Tests.{le-ltb, lt-ltb}
use lib.Dec.{ltb}
use lib.ListN.{length, length-append}
use lib.Pow.{pow_mono}
use Rattle.format.specs.Octets.{Octets}
use Rattle.format.specs.Numbers.{Form, form, spell, lengths, behind_first, longest}
use Rattle.format.specs.Forms.{width, numeric, dates, Spelled}
use Rattle.format.specs.Strings.{with_length, in_format}
use Rattle.format.specs.declared.StringForm.{StringForm}
use Rattle.format.specs.declared.StringForm.TheVariants.{Utf8, Utf16, Numeric, Dates, Short, Int, Long}
use Rattle.fields.proofs.Laws.{case, octets-length}
use Rattle.fields.proofs.Utf8.{told}
use Rattle.decimal.specs.Words.{word_count}
use Rattle.forms.proofs.Forms.{packed-length, spelled_letters, spelled_integers, integers_length}

-- ---- the bits before a length are no octets of their own
lead_free : (fs : List Form) (lead n : ℕ) → length (spell fs lead n) ≡ length (spell fs 0 n)
unfolding spell
lead_free [] lead n = refl
lead_free (form code _ bits low ∷ fs) lead n = told (ltb n (low + 2 ^ bits)) (λ t. rw t) (λ t. rw t (lead_free fs lead n))

-- a length and as many octets
abbrev pub size : (bit n : ℕ) → ℕ
size bit n = length (spell (lengths bit) 0 n) + n

-- ---- how many octets a length n has, where the first holds those up to `short`; what is beyond all lengths has none. (There are `more` of them where the length starts before an octet.)
pub data Sized (short more n k : ℕ) : Type 0 where
  one : n ≤ short → k ≡ 1 + more → Sized short more n k
  two : short < n → n ≤ short + 256 → k ≡ 2 + more → Sized short more n k
  five : short + 256 < n → n ≤ short + 256 + 4294967296 → k ≡ 5 + more → Sized short more n k
  none : short + 256 + 4294967296 < n → k ≡ 0 → Sized short more n k

pub sized : (bit n : ℕ) → Sized (2 ^ (8 - bit)) ((8 - bit) / 8) n (length (spell (lengths bit) 0 n))
unfolding lengths spell behind_first
sized bit n =
    let a : ℕ = 1 + 2 ^ (8 - bit) in
    case n a (λ h. rw (lt-ltb n a h) (one (omega arith) (ap suc (octets-length _ _) ∙ omega arith)))
    (λ h. case n (a + 256) (λ i. rw (le-ltb n a h, lt-ltb n (a + 256) i) (two (omega arith) (omega arith) (ap suc (octets-length _ _) ∙ omega arith)))
    (λ i. case n (a + 256 + 4294967296)
    (λ j. rw (le-ltb n a h, le-ltb n (a + 256) i, lt-ltb n (a + 256 + 4294967296) j) (five (omega arith) (omega arith) (ap suc (octets-length _ _) ∙ omega arith)))
    (λ j. rw (le-ltb n a h, le-ltb n (a + 256) i, le-ltb n (a + 256 + 4294967296) j) (none (omega arith) refl))))

short_few : (bit : ℕ) → 2 ^ (8 - bit) ≤ 256
short_few bit = pow_mono {i = 8 - bit} {j = 8} (omega arith)

-- twice the octets are no shorter a field
doubles : {short more n k l : ℕ} → short ≤ 256 → more ≤ 1 → Sized short more n k → Sized short more (2 * n) l → k + n ≤ l + 2 * n
doubles f m (one a p) (one c q) = omega arith
doubles f m (one a p) (two c d q) = omega arith
doubles f m (one a p) (five c d q) = omega arith
doubles f m (one a p) (none c q) = omega arith
doubles f m (two a b p) (one c q) = omega arith
doubles f m (two a b p) (two c d q) = omega arith
doubles f m (two a b p) (five c d q) = omega arith
doubles f m (two a b p) (none c q) = omega arith
doubles f m (five a b p) (one c q) = omega arith
doubles f m (five a b p) (two c d q) = omega arith
doubles f m (five a b p) (five c d q) = omega arith
doubles f m (five a b p) (none c q) = omega arith
doubles f m (none a p) (one c q) = omega arith
doubles f m (none a p) (two c d q) = omega arith
doubles f m (none a p) (five c d q) = omega arith
doubles f m (none a p) (none c q) = omega arith

pub size_doubles : (bit n : ℕ) → size bit n ≤ size bit (2 * n)
size_doubles bit n = doubles (short_few bit) (omega arith) (sized bit n) (sized bit (2 * n))

-- what takes less octets than a length of n or less can be said to have
fits : {short more m n k l : ℕ} → more ≤ 1 → Sized short more m k → Sized short more n l → n ≤ longest → suc (k + m) ≤ l + n → m ≤ longest
fits o (one a p) (one c q) h g = omega arith
fits o (one a p) (two c d q) h g = omega arith
fits o (one a p) (five c d q) h g = omega arith
fits o (one a p) (none c q) h g = omega arith
fits o (two a b p) (one c q) h g = omega arith
fits o (two a b p) (two c d q) h g = omega arith
fits o (two a b p) (five c d q) h g = omega arith
fits o (two a b p) (none c q) h g = omega arith
fits o (five a b p) (one c q) h g = omega arith
fits o (five a b p) (two c d q) h g = omega arith
fits o (five a b p) (five c d q) h g = omega arith
fits o (five a b p) (none c q) h g = omega arith
fits o (none a p) (one c q) h g = omega arith
fits o (none a p) (two c d q) h g = omega arith
fits o (none a p) (five c d q) h g = omega arith
fits o (none a p) (none c q) h g = omega arith

pub less_fits : (bit m n : ℕ) → n ≤ longest → suc (size bit m) ≤ size bit n → m ≤ longest
less_fits bit m n h g = fits (omega arith) (sized bit m) (sized bit n) h g

-- ---- the octets that a string has in a form, and those of its field
module _ (x : Octets) where
  abbrev pub octets_in : StringForm → ℕ
  octets_in Utf8 = length x
  octets_in Utf16 = 0
  octets_in Numeric = (length x + 1) / 2
  octets_in Dates = (length x + 1) / 2
  octets_in Short = width Short * word_count x
  octets_in Int = width Int * word_count x
  octets_in Long = width Long * word_count x

  pub spelled_octets : (form : StringForm) (y : Octets) → (form ≡ Utf16 → ⊥) → Spelled form x y → length y ≡ octets_in form
  spelled_octets Utf8 y n s = ap length s.1
  spelled_octets Utf16 y n s = absurd (n refl)
  spelled_octets Numeric y n s = ap length (spelled_letters Numeric x y tt s).1 ∙ packed-length numeric x
  spelled_octets Dates y n s = ap length (spelled_letters Dates x y tt s).1 ∙ packed-length dates x
  spelled_octets Short y n s = let i = spelled_integers Short x (omega arith) y s in ap length i.1 ∙ integers_length Short x (omega arith) i.0
  spelled_octets Int y n s = let i = spelled_integers Int x (omega arith) y s in ap length i.1 ∙ integers_length Int x (omega arith) i.0
  spelled_octets Long y n s = let i = spelled_integers Long x (omega arith) y s in ap length i.1 ∙ integers_length Long x (omega arith) i.0

  module _ (bit : ℕ) where
    abbrev pub field_size : StringForm → ℕ
    field_size Utf8 = size bit (octets_in Utf8)
    field_size Utf16 = size bit (octets_in Utf16)
    field_size Numeric = suc (size bit (octets_in Numeric))
    field_size Dates = suc (size bit (octets_in Dates))
    field_size Short = suc (size bit (octets_in Short))
    field_size Int = suc (size bit (octets_in Int))
    field_size Long = suc (size bit (octets_in Long))

    with_size : (lead : ℕ) (y : Octets) (n : ℕ) → length y ≡ n → length (with_length (lengths bit) lead y) ≡ size bit n
    with_size lead y n e = length-append (spell (lengths bit) lead (length y)) y ∙ rw (e, lead_free (lengths bit) lead n)

    pub field_size_lem : (form : StringForm) (lead : ℕ) (y : Octets) → length y ≡ octets_in form → length (in_format bit form lead y) ≡ field_size form
    unfolding in_format
    field_size_lem Utf8 lead y e = with_size lead y _ e
    field_size_lem Utf16 lead y e = with_size _ y _ e
    field_size_lem Numeric lead y e = ap suc (with_size _ y _ e)
    field_size_lem Dates lead y e = ap suc (with_size _ y _ e)
    field_size_lem Short lead y e = ap suc (with_size _ y _ e)
    field_size_lem Int lead y e = ap suc (with_size _ y _ e)
    field_size_lem Long lead y e = ap suc (with_size _ y _ e)
