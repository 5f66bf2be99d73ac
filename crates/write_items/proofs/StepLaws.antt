-- A law for each way out of a step, on plain values: what the item, behind the end owed, makes of the definition's verdict, halves and state.
-- Assumes nothing.
use mathlib.Core.Path.{◌≡◌, refl, sym, ◌∙◌}
use mathlib.Core.Bool.{Bool, true, false, not, ◌&&◌}
use mathlib.Core.List.{List}
use Prim.Native.Nat.{ℕ, zero, suc, ◌+◌, ◌/◌, ◌≤◌, ◌<◌, min}
use native.Mathlib.Nat.{min-le_right}
use native.Mathlib.Omega.{arith}
use borrow.Author.Tests.{ltb-true, leb-true}
use lib.ListN.{length, length-append}
use Rattle.format.specs.Numbers.{pick}
use Rattle.format.specs.Events as E
use Rattle.format.specs.Tables.{link}
use Rattle.format.specs.Items as F
use Rattle.format.specs.Refusals.{refusal_number}
use Rattle.format.specs.declared.refusals.Refusal as R
use Rattle.format.specs.declared.refusals.Refusal.{Refusal}
use Rattle.std.specs.Prelude.{Result, Ok, Err}
use Rattle.format.specs.Document.{aligned}
use Rattle.tables.specs.Located.{Located}
use Rattle.states.specs.declared.State.{State}
use Rattle.states.specs.States.{mode_of}
use Rattle.states.proofs.Modes.{mode_content, coming_low}
use Rattle.events.specs.declared.Event.{Event}
use Rattle.write_names.specs.Choices.{within}
use Rattle.write_names.proofs.Order.{within_order}
use Rattle.tables.proofs.Found.{clash, both_true}
use Rattle.write_items.specs.Events.{event_of, goes_on, among_children, is_listing}
use Rattle.write_items.specs.Items.{WroteItem, write_item}
use Rattle.write_items.specs.Steps.{is_attribute, is_end, opens, owed, settled, fits, halves_of}
use Rattle.write_items.specs.OutputContracts.{Holds, Grown}
use Rattle.write_items.specs.Promises.{fault_of}
use Rattle.write_items.specs.StepContracts.{Ready, known, item_of, halves_for, verdict, Went, Steps}
use Rattle.write_items.specs.ItemContracts.{owes, list_ended, end_put, Fit, Laid, Landed, holding}
use Rattle.write_items.proofs.Faults.{Faultless, fault_none, judge_none}
use Rattle.write_items.proofs.OutputLaws.{length-pad, length-halves, end_written, item_written, end_written-behind_list, item_written-behind_list}

-- ---- the halves of an end or an item, behind an end that is owed or not
module _ (text : List ℕ) (room at : ℕ) (v : F.State Located) (e : E.Event Located) (d : WroteItem) (out out' : List ℕ) (next : ℕ) where
  laid_length : (b : Bool) → (is_listing v.mode && not (is_attribute e)) ≡ b → (i : Bool) → is_end e ≡ i → Laid i (end_put b out at) (pick b (at + 1) at) next out' d.octets
      → next ≡ at + length (halves_of link text room at v e d)
  unfolding halves_of owed aligned
  laid_length true o true i l = rw (o, i) (omega arith)
  laid_length true o false i l = let p = l.0.behind in rw (o, i) (simp (length-append, length-pad, length-halves) (omega arith))
  laid_length false o true i l = rw (o, i) (omega arith)
  laid_length false o false i l = let p = l.0.behind in rw (o, i) (simp (length-append, length-pad, length-halves) (omega arith))

  laid_onward : (b i : Bool) → Laid i (end_put b out at) (pick b (at + 1) at) next out' d.octets → at < next
  unfolding aligned
  laid_onward true true l = omega arith
  laid_onward true false l = let p = l.0.behind in omega arith
  laid_onward false true l = omega arith
  laid_onward false false l = let p = l.0.behind in omega arith

  laid_grown : (b : Bool) → (is_listing v.mode && not (is_attribute e)) ≡ b → (i : Bool) → is_end e ≡ i → Laid i (end_put b out at) (pick b (at + 1) at) next out' d.octets
      → (hs : List ℕ) → Holds (length out) hs at out → Grown (length out) hs (halves_of link text room at v e d) at next out'
  laid_grown true o true i l hs h = rw l.0 (end_written-behind_list text room v e d h o refl i l.1)
  laid_grown true o false i l hs h = rw l.1 (item_written-behind_list text room v e d h o refl i l.0)
  laid_grown false o true i l hs h = rw l.0 (end_written text room v e d h o i l.1)
  laid_grown false o false i l hs h = rw l.1 (item_written text room v e d h o i l.0)

-- ---- what the item is written from
end_inside : (v : F.State Located) (e : E.Event Located) → goes_on v e ≡ true → is_end e ≡ true → 0 < v.level
unfolding goes_on
end_inside v (E.Namespace p n) g i = clash i
end_inside v (E.Start x) g i = clash i
end_inside v (E.Attribute x y) g i = clash i
end_inside v (E.Text y) g i = clash i
end_inside v (E.Comment y) g i = clash i
end_inside v (E.Instruction x y) g i = clash i
end_inside v E.End g i = ltb-true _ _ (both_true (among_children v.mode) _ g).1

opens-behind : (m : F.Mode) (e : E.Event Located) → is_listing m ≡ true → opens F.content e ≡ opens m e
opens-behind F.content e l = clash l
opens-behind (F.declaring a) e l = clash l
opens-behind (F.listing any) (E.Namespace p n) l = refl
opens-behind (F.listing any) (E.Start x) l = refl
opens-behind (F.listing any) (E.Attribute x y) l = refl
opens-behind (F.listing any) (E.Text y) l = refl
opens-behind (F.listing any) (E.Comment y) l = refl
opens-behind (F.listing any) (E.Instruction x y) l = refl
opens-behind (F.listing any) E.End l = refl

ended_at : (st : State) (b : Bool) → (list_ended b st).at ≡ pick b (st.at + 1) st.at
ended_at st true = refl
ended_at st false = refl

fits_bound : (text : List ℕ) (room at : ℕ) → fits link text room at ≡ true → at ≤ 32768
unfolding fits link aligned
fits_bound text room at f = let l = leb-true (aligned at / 2) (min room 16384) f in let m = min-le_right room 16384 in omega arith

-- ---- what a step comes to
module _ (text : List ℕ) (st : State) (c w : List ℕ) (e : Event) where
  fit_by : {ix : List ℕ} (b : Bool) → owes st e ≡ b → Ready text st c w ix → Faultless text (known st c w) e → Fit text (list_ended b st) c w ix e.kind e
  unfolding owes
  fit_by true o r f =
      let l = (both_true (is_listing (mode_of st.mode)) _ o).0 in
      let at = r.at in
      let s = r.shallow in
      let k = coming_low 0 (omega arith) in
      record {
        order = r.order;
        at = omega arith;
        shallow = omega arith;
        made = f.made;
        texts = f.texts;
        roomy = rw (mode_content, opens-behind (mode_of st.mode) (event_of e.kind e) l) f.shallow;
        inside = end_inside (known st c w) _ f.goes;
      }
  fit_by false o r f =
      let at = r.at in
      record { order = r.order; at = omega arith; shallow = r.shallow; made = f.made; texts = f.texts; roomy = f.shallow; inside = end_inside (known st c w) _ f.goes }

  pub step_fit : {ix : List ℕ} → Ready text st c w ix → fault_of text (known st c w) e ≡ Ok tt → {next : State} → next ≡ list_ended (owes st e) st → Fit text next c w ix e.kind e
  step_fit r f q = rw q (fit_by (owes st e) refl r (fault_none text (known st c w) e f))

  module _ (a : Bool) where
    item_by : (b : Bool) → owes st e ≡ b → write_item link text a (known (list_ended b st) c w) (event_of e.kind e) ≡ item_of text a (known st c w) e
    unfolding item_of settled owes
    item_by true o = rw (o, mode_content)
    item_by false o = rw o

    module _ (f : fault_of text (known st c w) e ≡ Ok tt) where
      -- a table is full
      full_by : (b : Bool) (o : owes st e ≡ b) (room : ℕ) → within link (write_item link text a (known (list_ended b st) c w) (event_of e.kind e)).state.tables ≡ false
          → verdict text room a st.at (known st c w) e ≡ 12
      unfolding verdict
      full_by b o room h = judge_none text (known st c w) e room st.at _ _ f ∙ rw (← (item_by b o), h)

      -- the item is written
      module _ (b : Bool) (o : owes st e ≡ b) (room : ℕ) (next : State) (out out' c' w' ix' : List ℕ)
          (landed : Landed text a (list_ended b st) c (end_put b out st.at) w (event_of e.kind e) next out' c' w' ix') where
        laid_by_lem : Laid (is_end (event_of e.kind e)) (end_put b out st.at) (pick b (st.at + 1) st.at) next.at out' (item_of text a (known st c w) e).octets
        laid_by_lem = rw (← (item_by b o), ← (ended_at st b)) landed.laid

        reached : next.at ≡ st.at + length (halves_for text room a st.at (known st c w) e)
        unfolding halves_for owes
        reached = laid_length text room st.at (known st c w) (event_of e.kind e) (item_of text a (known st c w) e) out out' next.at b o _ refl laid_by_lem

        fits_by : (b : Bool) → fits link text room next.at ≡ b → verdict text room a st.at (known st c w) e ≡ pick b 0 14
        unfolding verdict
        fits_by d q =
            judge_none text (known st c w) e room st.at _ _ f
            ∙ rw (← (item_by b o), ← landed.state, within_order text c' w' ix' landed.order, ← reached, q)

        went_by : fits link text room next.at ≡ true → Went text room a st c out w e next out' c' w' ix'
        unfolding halves_for owes
        went_by q =
            record {
              judged = fits_by true q;
              state = landed.state ∙ rw (item_by b o);
              grown = laid_grown text room st.at (known st c w) (event_of e.kind e) (item_of text a (known st c w) e) out out' next.at b o _ refl laid_by_lem;
              ready = record { order = landed.order; at = fits_bound text room next.at q; shallow = landed.shallow };
              onward = laid_onward text room st.at (known st c w) (event_of e.kind e) (item_of text a (known st c w) e) out out' next.at b (is_end (event_of e.kind e)) laid_by_lem;
            }

        steps_by : (b : Bool) → fits link text room next.at ≡ b → Steps text room a st c out w e (pick b (Ok next) (Err R.TheVariants.Room)) out' c' w' ix'
        steps_by true q = went_by q
        steps_by false q = fits_by false q

      module _ (room : ℕ) (st₁ : State) (out out₁ : List ℕ) (ended : (st₁ ≡ list_ended (owes st e) st) × (out₁ ≡ end_put (owes st e) out st.at)) where
        pub step_full : (r : Refusal) → (r ≡ R.TheVariants.Full) × (within link (write_item link text a (known st₁ c w) (event_of e.kind e)).state.tables ≡ false)
            → verdict text room a st.at (known st c w) e ≡ refusal_number r
        step_full r h = rw h.0 (full_by (owes st e) refl room (rw ended.0 at h.1))

        pub step_held : {next : State} {out' c' w' ix' : List ℕ} → Landed text a st₁ c out₁ w (event_of e.kind e) next out' c' w' ix' → (r : Result State Refusal) → r ≡ holding text room next
            → Steps text room a st c out w e r out' c' w' ix'
        unfolding holding
        step_held {next} {out'} {c'} {w'} {ix'} landed r h = rw h (steps_by (owes st e) refl room next out out' c' w' ix' (rw (ended.0, ended.1) at landed) _ refl)
