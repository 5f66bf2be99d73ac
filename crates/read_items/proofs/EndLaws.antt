-- Ends, which stand at halves of an octet: a law for each way out of the functions that look for them.
-- Assumes nothing.
use mathlib.Core.Path.{◌≡◌, refl, sym, ap, ◌∙◌}
use mathlib.Core.Bool.{Bool, true, false, ◌&&◌, true≢false}
use mathlib.Core.List.{List}
use Prim.Native.Nat.{ℕ, suc, ◌+◌, ◌-◌, ◌*◌, ◌/◌, ◌%◌, ◌≤◌, ◌<◌}
use native.Mathlib.Numerals.{add-one}
use native.Mathlib.Omega.{arith}
use native.Mathlib.Decide.{dec_lt}
use borrow.Author.Tests.{lt-ltb, le-ltb, eq-eqb, ne_eqb, eqb-true}
use lib.Dec.{eqb, ltb}
use lib.ListN.{length, get_or, drop_of_length-le}
use lib.Seq.{drop-cons}
use Rattle.std.specs.Prelude.{Result, Ok}
use Rattle.format.specs.Octets.{Octets, Words}
use Rattle.format.specs.declared.refusals.Fault.{Fault}
use Rattle.format.specs.declared.refusals.Refusal.TheVariants.{Padding, Structure}
use Rattle.format.specs.Events.{End, for_end, ◌by◌}
use Rattle.format.specs.Document.{halves, aligned}
use Rattle.states.specs.declared.State.{State}
use Rattle.states.specs.States.{mode_of, root_of, coming, after_end}
use Rattle.states.proofs.Modes.{mode_content, mode_listing, mode_listed, by_mode}
use Rattle.events.specs.declared.Event as E
use Rattle.events.specs.Records.{record_of, end_record}
use Rattle.events.specs.Kept.{kept}
use Rattle.read_items.specs.declared.Step.{Step}
use Rattle.read_items.specs.declared.Step.TheVariants.{Event, Quiet, Done}
use Rattle.read_items.specs.Items as I
use Rattle.read_items.specs.Steps.{half_at, ends_at, pads_at, document_end, end_at, by_halves}
use Rattle.read_items.specs.Promises.{Lent, lent, stand_of, Good, Met}
use Rattle.read_items.specs.ItemContracts.{Stopped}
use Rattle.read_items.proofs.StepLaws.{met_by, refuse_here, tell}

-- ---- halves
module _ (s : List ℕ) (at : ℕ) where
  pub half_none : length s ≤ at / 2 → 16 ≡ half_at s at
  unfolding half_at halves
  half_none h = rw (drop_of_length-le s h)

  module _ (h : at / 2 < length s) (r : ℕ) (o : get_or s (at / 2) 0 < 256) where
    pub half_high : at % 2 ≡ 0 → r ≡ get_or s (at / 2) 0 / 16 % 16 → r ≡ half_at s at
    unfolding half_at halves
    half_high m e = rw (drop-cons s (at / 2) 0 h, m) (omega arith)

    pub half_low : (at % 2 ≡ 0 → ⊥) → r ≡ get_or s (at / 2) 0 / 1 % 16 → r ≡ half_at s at
    unfolding half_at halves
    half_low m e = let n : at % 2 ≡ 1 = omega arith in rw (drop-cons s (at / 2) 0 h, n) (omega arith)

  -- where an end stands there is an octet
  pub end_within : ends_at s at ≡ true → at < 2 * length s
  unfolding ends_at
  end_within e =
      let h : half_at s at ≡ 15 = eqb-true _ _ e in
      let n : length s ≤ at / 2 → ⊥ = λ l. let z = half_none l in omega arith in
      omega arith

  pub pads_even : at % 2 ≡ 0 → true ≡ pads_at s at
  unfolding pads_at
  pads_even m = rw (eq-eqb _ _ m)

  pub pads_odd : (at % 2 ≡ 0 → ⊥) → eqb (half_at s at) 0 ≡ pads_at s at
  unfolding pads_at
  pads_odd m = rw (ne_eqb _ _ m)

next_half : (s : List ℕ) (at : ℕ) (t : Bool) → t ≡ pads_at s (at + 1) → pads_at s (suc at) ≡ t
next_half s at t e = ap (pads_at s) (sym (add-one at)) ∙ sym e

-- ---- where an end is looked for
halves_of : (m : ℕ) → by_halves (mode_of m) ≡ ltb m 3
halves_of = by_mode (λ m f. by_halves f ≡ ltb m 3) refl refl refl refl (λ m h. let a : 3 ≤ m = omega arith in rw (le-ltb _ _ a))

module _ (m : ℕ) where
  declares : 3 ≤ m → by_halves (mode_of m) ≡ false
  declares h = halves_of m ∙ le-ltb _ _ h

  by_halves_lem : m < 3 → by_halves (mode_of m) ≡ true
  by_halves_lem h = halves_of m ∙ lt-ltb _ _ h

  pub ends_not : (u : Bool) → 3 ≤ m → false ≡ (by_halves (mode_of m) && u)
  ends_not u h = rw (declares h)

  pub ends_half : (s : List ℕ) (at : ℕ) → m < 3 → eqb (half_at s at) 15 ≡ (by_halves (mode_of m) && ends_at s at)
  unfolding ends_at
  ends_half s at h = rw (by_halves_lem h)

  pub ends_low : (u : Bool) → true ≡ (by_halves (mode_of m) && u) → m < 3
  ends_low u e = elim (dec_lt m 3) [ yes h ↦ h | no h ↦ absurd (true≢false (e ∙ sym (ends_not u (omega arith)))) ]

  pub ends_within : (s : List ℕ) (at : ℕ) → true ≡ (by_halves (mode_of m) && ends_at s at) → at < 2 * length s
  ends_within s at e = end_within s at (sym (e ∙ ap (λ (t : Bool). t && ends_at s at) (by_halves_lem (ends_low (ends_at s at) e))))

-- ---- the document's end
module _ {s : Octets} {st : State} {n : ℕ} {a : Lent} (g : Good s st a) where
  pub document_rootless : st.root ≡ 0 → Met s st n a (Stopped Structure (st.at / 2)) a (document_end s)
  unfolding document_end root_of
  document_rootless h = refuse_here g (rw h)

  module _ (h : st.root ≡ 0 → ⊥) where
    pub document_padding : false ≡ pads_at s (st.at + 1) → Met s st n a (Stopped Padding (st.at / 2)) a (document_end s)
    unfolding document_end root_of
    document_padding e = let q = next_half _ _ _ e in refuse_here g (rw (ne_eqb _ _ h, q))

    module _ (e : true ≡ pads_at s (st.at + 1)) where
      pub document_done : st.at / 2 + 1 ≡ length s → Met s st n a (Ok Done) a (document_end s)
      unfolding document_end aligned root_of
      document_done l =
          let q : suc st.at + suc st.at % 2 ≡ 2 * length s = omega arith in
          let z = next_half _ _ _ e in
          let d : document_end s (stand_of st a) ≡ I.done = rw (ne_eqb _ _ h, z, eq-eqb _ _ q) in
          record { is = rw d; good = (refl, refl); keeps = rw d }

      pub document_behind : (st.at / 2 + 1 ≡ length s → ⊥) → Met s st n a (Stopped Structure (st.at / 2 + 1)) a (document_end s)
      unfolding document_end aligned root_of
      document_behind l =
          let q : suc st.at + suc st.at % 2 ≡ 2 * length s → ⊥ = λ z. l (omega arith) in
          let p : (suc st.at + suc st.at % 2) / 2 ≡ st.at / 2 + 1 = omega arith in
          let z = next_half _ _ _ e in
          refuse_here g (rw (ne_eqb _ _ h, z, ne_eqb _ _ q, p))

  -- ---- an end
  pub end_listing : st.mode ≡ 1 → Met s st n a (Stopped Structure (st.at / 2)) a (λ m. end_at s m m.state.mode)
  unfolding end_at
  end_listing m = refuse_here g (rw (ap mode_of m ∙ mode_listing))

  pub end_listed : st.mode ≡ 2 → st.at < 2 * length s → Met s st n a (Ok (Quiet (after_end st st.level))) a (λ m. end_at s m m.state.mode)
  unfolding end_at coming
  end_listed m l =
      let d : end_at s (stand_of st a) (mode_of st.mode) ≡ I.quiet (stand_of (after_end st st.level) a) = rw (ap mode_of m ∙ mode_listed, mode_content, add-one) in
      record { is = rw d; good = record { tidy = g.tidy; at = omega arith; shallow = let z = g.shallow in omega arith }; keeps = rw d }

  pub end_document : {r : Result Step Fault} → st.mode ≡ 0 → st.level ≡ 0 → Met s st n a r a (document_end s) → Met s st n a r a (λ m. end_at s m m.state.mode)
  unfolding end_at
  end_document m l p = let z : st.level ≤ 0 = omega arith in met_by p (rw (ap mode_of m ∙ mode_content, le-ltb _ _ z))

module _ {s : Octets} {st : State} {n : ℕ} {t c : Words} {x : Octets} {r : Words} (g : Good s st (lent t c x r)) where
  pub end_element : {r' : Words} {e : E.Event} → st.mode ≡ 0 → (st.level ≡ 0 → ⊥) → st.at < 2 * length s → r' ≡ kept r n (st.at / 2) e → e ≡ end_record
      → Met s st n (lent t c x r) (Ok (Event (after_end st (st.level - 1)) (st.at / 2))) (lent t c x r') (λ m. end_at s m m.state.mode)
  unfolding end_at coming record_of
  end_element m l h k q =
      let z : 0 < st.level = omega arith in
      tell (End by for_end) (record { tidy = g.tidy; at = omega arith; shallow = let y = g.shallow in omega arith }) k (sym q)
      (rw (ap mode_of m ∙ mode_content, lt-ltb _ _ z, mode_content, add-one))
