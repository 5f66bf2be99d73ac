-- `fit_octet` meets its contract: what its tests come to, one behind the other, is whether the octet is a letter.
-- Assumes nothing.
use Prim.Native.Nat.{ℕ, ◌<◌}
use mathlib.Core.Path.{◌≡◌, refl, sym, ◌∙◌}
use mathlib.Core.Bool.{Bool, false, ◌||◌, ◌&&◌}
use native.Mathlib.Omega.{arith}
use borrow.Author.Tests.{lt-leb, eq-eqb, ne_eqb}
use lib.Dec.{leb, eqb}
use Rattle.format.specs.Forms.{numeric, dates}
use Rattle.forms.specs.Packing.{is_letter}
use Rattle.forms.proofs.Packs.{or_then, or_else, range_then, range_else, by_tests, numeric-letters, dates-letters, digit_letter}
use Rattle.forms.proofs.packing.fit_octet.Goals as goal
use Rattle.forms.proofs.packing.fit_octet.Goals.{else-o-ge48-via-then-o-ge48+else-o-le57, else-o-ge48-via-else-o-ge48, then-o-eq45, else-o-eq45, then-both, else-both, then-o-eq43, else-o-eq43, then-o-eq46, else-o-eq46, then-both-2, else-both-2, then-o-eq58, else-o-eq58}

pub returns-then-o-le57 : goal.returns-then-o-le57
returns-then-o-le57 c = let h = c.ranges.o in digit_letter _ (omega arith) c.if-o-ge48.true c.if-o-le57.true

-- where all tests are done
letters_by : (o : ℕ) (both p q x u v y : Bool) → o < 256 → false ≡ (leb 0x30 o && leb o 0x39) → both ≡ (eqb o 0x2D || eqb o 0x20)
    → p ≡ (both || eqb o 0x2B) → q ≡ (p || eqb o 0x2E) → x ≡ (q || eqb o 0x65) → u ≡ (both || eqb o 0x3A) → v ≡ (u || eqb o 0x54) → y ≡ (v || eqb o 0x5A)
    → (x ≡ is_letter numeric o) × (y ≡ is_letter dates o)
letters_by o both p q x u v y h digit or3 or4 or5 or6 or7 or8 or9 = (
  by_tests 0x2B 0x2E 0x65 o _ _ _ _ _ _ digit refl or3 or4 or5 or6 ∙ numeric-letters o h,
  by_tests 0x3A 0x54 0x5A o _ _ _ _ _ _ digit refl or3 or7 or8 or9 ∙ dates-letters o h,
)

pub returns-then-o-eq84 : goal.returns-then-o-eq84
returns-then-o-eq84 c =
    let o = c.args.o in
    let h = c.ranges.o in
    letters_by o c.if-o-eq45.both c.if-both.value c.if-o-eq43.value c.if-o-eq46.result c.if-both-2.value c.if-o-eq58.value _ (omega arith)
    (elim c.else-o-ge48.branch [ else-o-ge48-via-then-o-ge48+else-o-le57 w ↦ range_then false 0x30 0x39 o w.if-o-ge48.true (sym (lt-leb o 0x39 w.if-o-le57.false)) | else-o-ge48-via-else-o-ge48 w ↦ range_else false 0x30 0x39 o w.if-o-ge48.false (sym (lt-leb 0x30 o w.if-o-ge48.false)) ])
    (elim c.if-o-eq45.branch [ then-o-eq45 w ↦ or_then _ _ _ (eq-eqb o 0x2D w.if-o-eq45.true) w.both-is | else-o-eq45 w ↦ or_else _ _ _ (ne_eqb o 0x2D w.if-o-eq45.false) w.both-is ])
    (elim c.if-both.branch [ then-both w ↦ or_then _ _ _ w.if-both.true w.value-is | else-both w ↦ or_else _ _ _ w.if-both.false w.value-is ])
    (elim c.if-o-eq43.branch [ then-o-eq43 w ↦ or_then _ _ _ w.if-o-eq43.true w.value-is | else-o-eq43 w ↦ or_else _ _ _ w.if-o-eq43.false w.value-is ])
    (elim c.if-o-eq46.branch [ then-o-eq46 w ↦ or_then _ _ _ w.if-o-eq46.true w.result-is | else-o-eq46 w ↦ or_else _ _ _ w.if-o-eq46.false w.result-is ])
    (elim c.if-both-2.branch [ then-both-2 w ↦ or_then _ _ _ w.if-both-2.true w.value-is | else-both-2 w ↦ or_else _ _ _ w.if-both-2.false w.value-is ])
    (elim c.if-o-eq58.branch [ then-o-eq58 w ↦ or_then _ _ _ w.if-o-eq58.true w.value-is | else-o-eq58 w ↦ or_else _ _ _ w.if-o-eq58.false w.value-is ])
    (or_then _ _ _ c.if-o-eq84.true refl)

pub returns-else-o-eq84 : goal.returns-else-o-eq84
returns-else-o-eq84 c =
    let o = c.args.o in
    let h = c.ranges.o in
    letters_by o c.if-o-eq45.both c.if-both.value c.if-o-eq43.value c.if-o-eq46.result c.if-both-2.value c.if-o-eq58.value _ (omega arith)
    (elim c.else-o-ge48.branch [ else-o-ge48-via-then-o-ge48+else-o-le57 w ↦ range_then false 0x30 0x39 o w.if-o-ge48.true (sym (lt-leb o 0x39 w.if-o-le57.false)) | else-o-ge48-via-else-o-ge48 w ↦ range_else false 0x30 0x39 o w.if-o-ge48.false (sym (lt-leb 0x30 o w.if-o-ge48.false)) ])
    (elim c.if-o-eq45.branch [ then-o-eq45 w ↦ or_then _ _ _ (eq-eqb o 0x2D w.if-o-eq45.true) w.both-is | else-o-eq45 w ↦ or_else _ _ _ (ne_eqb o 0x2D w.if-o-eq45.false) w.both-is ])
    (elim c.if-both.branch [ then-both w ↦ or_then _ _ _ w.if-both.true w.value-is | else-both w ↦ or_else _ _ _ w.if-both.false w.value-is ])
    (elim c.if-o-eq43.branch [ then-o-eq43 w ↦ or_then _ _ _ w.if-o-eq43.true w.value-is | else-o-eq43 w ↦ or_else _ _ _ w.if-o-eq43.false w.value-is ])
    (elim c.if-o-eq46.branch [ then-o-eq46 w ↦ or_then _ _ _ w.if-o-eq46.true w.result-is | else-o-eq46 w ↦ or_else _ _ _ w.if-o-eq46.false w.result-is ])
    (elim c.if-both-2.branch [ then-both-2 w ↦ or_then _ _ _ w.if-both-2.true w.value-is | else-both-2 w ↦ or_else _ _ _ w.if-both-2.false w.value-is ])
    (elim c.if-o-eq58.branch [ then-o-eq58 w ↦ or_then _ _ _ w.if-o-eq58.true w.value-is | else-o-eq58 w ↦ or_else _ _ _ w.if-o-eq58.false w.value-is ])
    (or_else _ _ _ c.if-o-eq84.false refl)
