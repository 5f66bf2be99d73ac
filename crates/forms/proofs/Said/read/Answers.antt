-- `read` meets its contract: a law for each answer.
-- Assumes nothing.
use native.Mathlib.Omega.{arith}
use Prim.Native.Nat.{◌<◌}
use mathlib.Core.Path.{◌≡◌, sym, subst}
use mathlib.Core.Logic.{◌⊎◌, inl, inr}
use Rattle.format.specs.Forms.{width}
use Rattle.format.specs.declared.StringForm.{StringForm}
use Rattle.format.specs.declared.StringForm.TheVariants.{Numeric, Dates, Short, Int, Long}
use Rattle.forms.proofs.Forms.{IsAlphabet}
use Rattle.forms.proofs.Streams.{text16, in_range16, gives_short, gives_long, letters_there, gives_letters, gives_utf8, integer_there, integer_fine, text_some, gives_text}
use Rattle.forms.proofs.Said.read.Goals as goal
use Rattle.forms.proofs.Said.read.Goals.{then-n-lt65536, else-n-lt65536}

alphabet : (f : StringForm) → (f ≡ Numeric) ⊎ (f ≡ Dates) → IsAlphabet f
alphabet f (inl e) = subst (λ (g : StringForm). IsAlphabet g) (sym e) tt
alphabet f (inr e) = subst (λ (g : StringForm). IsAlphabet g) (sym e) tt

wide : (f : StringForm) → ◌⊎◌ (f ≡ Short) ((f ≡ Int) ⊎ (f ≡ Long)) → 0 < width f
wide f (inl e) = rw e (omega arith)
wide f (inr (inl e)) = rw e (omega arith)
wide f (inr (inr e)) = rw e (omega arith)

pub character16-n-requires : goal.character16-n-requires
character16-n-requires c =
    let p = c.requires in
    (p.2, p.0.there, text16 c.args.self.now p.0 p.1 p.2 c.in-Utf16.is)

pub character-requires : goal.character-requires
character-requires c =
    let p = c.requires in
    (in_range16 c.args.self.now p.0 p.1 p.2 c.in-Utf16.is _ c.character16-n.ensures, p.1.0)

pub letters-requires : goal.letters-requires
letters-requires c =
    let p = c.requires in
    (letters_there c.args.self.now p.0 p.1 p.2 (alphabet _ c.in-Numeric.is), p.1.0)

pub text_at-requires : goal.text_at-requires
text_at-requires c =
    let p = c.requires in
    let w = wide _ c.in-Short.is in
    let h = integer_there c.args.self.now p.0 p.1 p.2 w in
    let l = p.0.there in
    (w, omega arith)

pub integer-requires : goal.integer-requires
integer-requires c =
    let p = c.requires in
    let g = c.text_at.ensures in
    let w = wide _ c.in-Short.is in
    (rw c.width.ensures.0 (integer_fine c.args.self.now p.0 p.1 p.2 w), p.1.0, text_some c.args.self.now p.0 p.1 p.2 w c.text_at.result g.0, g.1)

pub returns-in-Utf8 : goal.returns-in-Utf8
returns-in-Utf8 c = let p = c.requires in gives_utf8 c.args.self.now p.0 p.1 p.2 c.in-Utf8.is

pub returns-after-n-lt65536 : goal.returns-after-n-lt65536
returns-after-n-lt65536 c =
    let p = c.requires in
    elim c.if-n-lt65536.branch [
      | then-n-lt65536 w ↦ gives_short c.args.self.now p.0 p.1 p.2 c.in-Utf16.is _ c.character16-n.ensures _ _ w.if-n-lt65536.true (rw w.self-is at c.character.ensures)
      | else-n-lt65536 w ↦ gives_long c.args.self.now p.0 p.1 p.2 c.in-Utf16.is _ c.character16-n.ensures _ _ w.if-n-lt65536.false (rw w.self-is at c.character.ensures)
    ]

pub returns-in-Numeric : goal.returns-in-Numeric
returns-in-Numeric c = let p = c.requires in gives_letters c.args.self.now p.0 p.1 p.2 (alphabet _ c.in-Numeric.is) _ _ c.letters.ensures

pub returns-in-Short : goal.returns-in-Short
returns-in-Short c =
    let p = c.requires in
    let w = wide _ c.in-Short.is in
    gives_text c.args.self.now p.0 p.1 p.2 w c.text_at.result c.text_at.ensures.0 _ _ (rw c.width.ensures.0 at c.integer.ensures)
