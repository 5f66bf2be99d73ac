-- The form that a row's third word says, in each table of strings.
-- Assumes nothing.
use mathlib.Core.Path.{◌≡◌, refl, sym, ap, ◌∙◌}
use Prim.Native.Nat.{ℕ, ◌≤◌, ◌<◌}
use native.Mathlib.Omega.{arith}
use native.Mathlib.Decide.{dec_lt}
use Rattle.format.specs.declared.StringForm.{StringForm}
use Rattle.format.specs.declared.StringForm.TheVariants.{Utf8, Utf16, Numeric, Dates, Short, Int, Long}
use Rattle.format.specs.Forms.{form_number, form_of}
use Rattle.tables.specs.Rows.{table_of, form_in}
use Rattle.tables.proofs.ByNumber.{by_number_lem}

pub form_back : (f : StringForm) → form_of (form_number f) ≡ f
unfolding form_of
form_back Utf8 = refl
form_back Utf16 = refl
form_back Numeric = refl
form_back Dates = refl
form_back Short = refl
form_back Int = refl
form_back Long = refl

pub form_of_lem : (n : ℕ) (f : StringForm) → n ≡ form_number f → form_of n ≡ f
form_of_lem n f e = ap form_of e ∙ form_back f

pub form_zero : (f : StringForm) → form_number f ≡ 0 → f ≡ Utf8
form_zero f e = sym (form_of_lem 0 f (sym e)) ∙ form_back Utf8

-- A table may hold strings of this form: identifying strings, those of the tables 0 to 4, are in utf-8.
abbrev pub MayHold : (table : ℕ) → StringForm → Type 0
MayHold table f = table < 5 → f ≡ Utf8

pub holds_any : (t : ℕ) (f : StringForm) → 5 ≤ t → MayHold t f
holds_any t f h l = absurd (omega arith)

-- ---- the form of the row that has n as its third word
pub form_identifying : (t n : ℕ) → t < 5 → form_in (table_of t) n ≡ Utf8
unfolding form_in table_of
form_identifying t n h = by_number_lem (λ (t : ℕ). form_in (table_of t) n ≡ Utf8) 0 5 (refl, (refl, (refl, (refl, (refl, tt))))) t (omega arith) (omega arith)

form_other : (t n : ℕ) → 5 ≤ t → t < 8 → form_in (table_of t) n ≡ form_of n
unfolding form_in table_of
form_other t n l h = by_number_lem (λ (t : ℕ). form_in (table_of t) n ≡ form_of n) 5 3 (refl, (refl, (refl, tt))) t l (omega arith)

pub form_in_lem : (t n : ℕ) → t < 8 → (t < 5 → n ≡ 0) → form_in (table_of t) n ≡ form_of n
form_in_lem t n h zero = elim (dec_lt t 5) [ yes l ↦ rw (zero l) (form_identifying t 0 l ∙ sym (form_back Utf8)) | no l ↦ form_other t n (omega arith) h ]

pub form_held : (t : ℕ) (f : StringForm) → t < 8 → MayHold t f → form_in (table_of t) (form_number f) ≡ f
form_held t f h may = form_in_lem t (form_number f) h (λ l. ap form_number (may l)) ∙ form_back f
