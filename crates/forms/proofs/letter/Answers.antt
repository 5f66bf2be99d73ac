-- `letter` meets its contract: the byte strings are the alphabets.
-- Assumes nothing.
use mathlib.Core.Path.{◌≡◌, refl}
use Prim.Native.Nat.{ℕ}
use lib.ListN.{get_or}
use Rattle.format.specs.declared.StringForm.{StringForm}
use Rattle.format.specs.declared.StringForm.TheVariants.{Utf8, Utf16, Numeric, Dates, Short, Int, Long}
use Rattle.format.specs.Forms.{numeric, dates}
use Rattle.forms.specs.Packing.{alphabet}
use Rattle.forms.proofs.letter.Goals as goal

none : (f : StringForm) (k : ℕ) → (f ≡ Numeric → ⊥) → (f ≡ Dates → ⊥) → 0 ≡ get_or (alphabet f) k 0
none Utf8 k n d = refl
none Utf16 k n d = refl
none Numeric k n d = absurd (n refl)
none Dates k n d = absurd (d refl)
none Short k n d = refl
none Int k n d = refl
none Long k n d = refl

pub returns-in-Numeric : goal.returns-in-Numeric
unfolding numeric
returns-in-Numeric c = rw c.in-Numeric.is

pub returns-in-Dates : goal.returns-in-Dates
unfolding dates
returns-in-Dates c = rw c.in-Dates.is

pub returns-in_default : goal.returns-in_default
returns-in_default c = none c.args.form c.args.k c.in_default.not-Numeric c.in_default.not-Dates
