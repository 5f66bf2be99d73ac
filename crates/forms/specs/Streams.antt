-- Contracts of the code, not definitions to be believed. A string of any form, octet by octet in UTF-8: what is still to come.
use Rattle.std.specs.Prelude.{None, ℕ, zero, suc, ◌-◌, ◌/◌, ◌%◌, ◌≤◌, ◌≡◌, Bool, true, ◌⊎◌, List, [], ◌∷◌, ◌++◌, ltb, length, get_or, take, drop}
use Rattle.format.specs.Octets.{Octets}
use Rattle.format.specs.Numbers.{pick}
use Rattle.format.specs.Characters.{utf8s}
use Rattle.format.specs.Integers.{figures}
use Rattle.format.specs.Forms.{numeric, dates, at_places, width}
use Rattle.format.specs.declared.StringForm.{StringForm}
use Rattle.format.specs.declared.StringForm.TheVariants.{Utf8, Utf16, Numeric, Dates, Short, Int, Long}
use Rattle.decimal.specs.Reading.{said_in}
use Rattle.decimal.specs.declared.scanning.Scan.{Scan}
use Rattle.decimal.specs.declared.scanning.Word.TheVariants.{NoWord}
use Rattle.forms.specs.declared.Said.{Said}
use Rattle.forms.specs.Reading.{is_text16, characters16, are_places, places_of, are_integers}

-- The octets from `at` to `to`.
abbrev pub part : Octets → (at to : ℕ) → Octets
part s at to = take (to - at) (drop at s)

-- What octets of a form say where they are a string in it: without the test.
abbrev pub plain : StringForm → Octets → Octets
plain Utf8 o = o
plain Utf16 o = utf8s (characters16 o)
plain Numeric o = utf8s (at_places numeric (places_of o))
plain Dates o = utf8s (at_places dates (places_of o))
plain Short o = said_in (width Short) o
plain Int o = said_in (width Int) o
plain Long o = said_in (width Long) o

-- Octets are characters in a form. (UTF-8 is not looked into: its octets are given as they are.)
abbrev pub Sound : StringForm → Octets → Type 0
Sound Utf8 x = Unit {0}
Sound Utf16 x = is_text16 x ≡ true
Sound Numeric x = are_places x ≡ true
Sound Dates x = are_places x ≡ true
Sound Short x = are_integers (width Short) x ≡ true
Sound Int x = are_integers (width Int) x ≡ true
Sound Long x = are_integers (width Long) x ≡ true

-- And so are those that are not yet read: of integers, there may be none.
abbrev pub Rest : StringForm → Octets → Type 0
Rest Utf8 x = Unit {0}
Rest Utf16 x = is_text16 x ≡ true
Rest Numeric x = are_places x ≡ true
Rest Dates x = are_places x ≡ true
Rest Short x = length x % width Short ≡ 0
Rest Int x = length x % width Int ≡ 0
Rest Long x = length x % width Long ≡ 0

-- The characters of one octet of an alphabet's: two, or one where the lower half only fills up.
unfoldable pub letters : List ℕ → ℕ → Octets
letters as' o = get_or as' (o / 16) 0 ∷ pick (ltb (o % 16) 15) (get_or as' (o % 16) 0 ∷ []) []

-- The digits that are left, and what comes behind them: a space and y where there is more.
unfoldable pub with_digits : (count number : ℕ) → (more : Bool) → Octets → Octets
with_digits zero number more y = y
with_digits (suc k) number more y = figures 10 0x30 (suc k) number ++ pick more (0x20 ∷ y) y

-- What is still to come: what waits, the digits that are left, and what is not yet read.
unfoldable pub ahead : Said → Octets
ahead u = take u.left (u.a ∷ u.b ∷ u.c ∷ []) ++ with_digits u.count u.number (ltb u.at u.to) (plain u.form (part u.s.now u.at u.to))

pub record Fine (u : Said) : Type 0 where
  pub sound : u.at ≤ u.to
  pub there : u.to ≤ length u.s.now
  pub few : u.left ≤ 3
  pub digits : u.count ≤ 20
  pub rest : Rest u.form (part u.s.now u.at u.to)

-- Nothing waits.
abbrev pub Idle : Said → Type 0
Idle u = (u.left ≡ 0) × (u.count ≡ 0)

-- One octet is given.
abbrev pub Gives : Said → (o : ℕ) → Said → Type 0
Gives u o v = (ahead u ≡ o ∷ ahead v) × Fine v

-- Of these octets, at most four, the first is given and the others wait.
abbrev pub Waits : Said → Octets → (o : ℕ) → Said → Type 0
Waits u os o v = (os ≡ o ∷ take v.left (v.a ∷ v.b ∷ v.c ∷ [])) × (v.left ≤ 3) × (v ≡ record u { left = v.left; a = v.a; b = v.b; c = v.c })

-- Integers that follow another one's digits: a space and their text, where there are any.
abbrev pub listed : Said → Octets
listed u = pick (ltb u.at u.to) (0x20 ∷ plain u.form (part u.s.now u.at u.to)) (plain u.form (part u.s.now u.at u.to))

-- No integers will be found in this text, whatever comes behind: a word before is no integer, or the word under way can become none.
abbrev pub Lost : Scan → Type 0
Lost u = (u.word ≡ NoWord) ⊎ (u.before ≡ None)
