-- A list of records has one verdict: one refusal at most, and none if the rules write it and it fits.
use mathlib.Core.Path.{◌≡◌, refl, sym, ap, ◌∙◌, subst}
use mathlib.Core.List.{List}
use Prim.Native.Nat.{ℕ, ◌+◌, ◌*◌, ◌/◌, ◌<◌, min}
use native.Mathlib.Omega.{arith}
use lib.ListN.{length}
use Rattle.format.specs.Octets.{Octets}
use Rattle.format.specs.Events.{IsDocument}
use Rattle.format.specs.Tables.{Version}
use Rattle.format.specs.Head.{Head}
use Rattle.format.specs.Document.{aligned}
use Rattle.events.specs.declared.Event.{Event}
use Rattle.theorems.specs.Verdicts.{plains, items_of, WrittenIn, Right, Fault, not_an_event, not_text, too_deep, too_many, no_room, AllRight, Refused, at_event, too_soon, no_room_for_end}
use Rattle.theorems.proofs.Heads.{one_head}
use Rattle.theorems.proofs.Splits.{splits}
use Rattle.theorems.proofs.Begun.{begun_size}

module _ (ver : Version) (h : Head) (text : Octets) (room : ℕ) where
  -- ---- one fault
  fault_one : {before : List Event} {e : Event} {m n : ℕ} → Fault ver h text room before e m → Fault ver h text room before e n → m ≡ n
  fault_one (not_an_event a) (not_an_event b) = refl
  fault_one (not_an_event a) (not_text i b) = absurd (a i)
  fault_one (not_an_event a) (too_deep i t b) = absurd (a i)
  fault_one (not_an_event a) (too_many i t s b) = absurd (a i)
  fault_one (not_an_event a) (no_room i t s f b) = absurd (a i)
  fault_one (not_text i a) (not_an_event b) = absurd (b i)
  fault_one (not_text i a) (not_text j b) = refl
  fault_one (not_text i a) (too_deep j t b) = absurd (a t)
  fault_one (not_text i a) (too_many j t s b) = absurd (a t)
  fault_one (not_text i a) (no_room j t s f b) = absurd (a t)
  fault_one (too_deep i t a) (not_an_event b) = absurd (b i)
  fault_one (too_deep i t a) (not_text j b) = absurd (b t)
  fault_one (too_deep i t a) (too_deep j u b) = refl
  fault_one (too_deep i t a) (too_many j u s b) = absurd (a s)
  fault_one (too_deep i t a) (no_room j u s f b) = absurd (a s)
  fault_one (too_many i t s a) (not_an_event b) = absurd (b i)
  fault_one (too_many i t s a) (not_text j b) = absurd (b t)
  fault_one (too_many i t s a) (too_deep j u b) = absurd (b s)
  fault_one (too_many i t s a) (too_many j u r b) = refl
  fault_one (too_many i t s a) (no_room j u r f b) = absurd (a f)
  fault_one (no_room i t s f a) (not_an_event b) = absurd (b i)
  fault_one (no_room i t s f a) (not_text j b) = absurd (b t)
  fault_one (no_room i t s f a) (too_deep j u b) = absurd (b s)
  fault_one (no_room i t s f a) (too_many j u r b) = absurd (b f)
  fault_one (no_room i t s f a) (no_room j u r g b) = refl

  not_right : {before : List Event} {e : Event} {n : ℕ} → Fault ver h text room before e n → Right ver h text room before e → ⊥
  not_right (not_an_event a) r = a r.is_event
  not_right (not_text i a) r = a r.is_text_lem
  not_right (too_deep i t a) r = a r.is_shallow
  not_right (too_many i t s a) r = a r.has-entries
  not_right (no_room i t s f a) r =
      let fits = r.has_room in
      let o : fits.before ≡ a.before = (one_head fits.opens a.opens).0 in
      let l : length a.halves ≡ length fits.halves = (begun_size a.are (rw o at fits.are)).0 in
      let k : min room ver.octets < aligned (2 * length fits.before + length fits.halves) / 2 = rw (o, ← l) a.over in
      let f = fits.fit in
      omega arith

  -- ---- one refusal
  pub refused_one : {es : List Event} {m n p q : ℕ} → Refused ver h text room es m p → Refused ver h text room es n q → (m ≡ n) × (p ≡ q)
  refused_one (at_event {before = b} {e = x} {n = i} after is all f) (at_event {before = c} {e = y} behind are right g) =
      splits b x after c y behind (sym is ∙ are)
      (λ same e. (fault_one (subst (λ (z : Event). Fault ver h text room c z i) e (subst (λ (l : List Event). Fault ver h text room l x i) same f)) g, ap length same))
      (λ mid k. absurd (not_right f (right b x mid k)))
      (λ mid k. absurd (not_right g (all c y mid k)))
  refused_one (at_event after is all f) (too_soon right nay) = absurd (not_right f (right _ _ after is))
  refused_one (at_event after is all f) (no_room_for_end right d nay) = absurd (not_right f (right _ _ after is))
  refused_one (too_soon right nay) (at_event after is all f) = absurd (not_right f (right _ _ after is))
  refused_one (too_soon right nay) (too_soon right' nay') = (refl, refl)
  refused_one (too_soon right nay) (no_room_for_end right' d nay') = absurd (nay d)
  refused_one (no_room_for_end right d nay) (at_event after is all f) = absurd (not_right f (right _ _ after is))
  refused_one (no_room_for_end right d nay) (too_soon right' nay') = absurd (nay' d)
  refused_one (no_room_for_end right d nay) (no_room_for_end right' d' nay') = (refl, refl)

  -- a list that is written and fits, all its events right, is not refused
  pub not_refused : {es : List Event} {n p : ℕ} → AllRight ver h text room es → WrittenIn ver h room (items_of ver h (plains text es)) → IsDocument (plains text es) → Refused ver h text room es n p → ⊥
  not_refused right w d (at_event after is all f) = not_right f (right _ _ after is)
  not_refused right w d (too_soon all nay) = nay d
  not_refused right w d (no_room_for_end all d' nay) = nay w
