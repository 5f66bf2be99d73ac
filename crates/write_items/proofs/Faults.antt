-- What is wrong with an event before anything is written is what the definition judges of it first; and what holds where nothing is.
-- Assumes nothing.
use mathlib.Core.Path.{◌≡◌, refl, sym, ap}
use mathlib.Core.Bool.{Bool, true, false, not, ◌&&◌}
use mathlib.Core.List.{List}
use Prim.Native.Nat.{ℕ, ◌+◌}
use lib.Dec.{leb}
use lib.ListN.{length}
use Rattle.format.specs.Numbers.{pick}
use Rattle.format.specs.Tables.{link}
use Rattle.format.specs.Items.{State}
use Rattle.format.specs.Refusals.{refusal_number}
use Rattle.format.specs.declared.refusals.Refusal as R
use Rattle.format.specs.declared.refusals.Refusal.{Refusal}
use Rattle.std.specs.Prelude.{Result, Ok, Err}
use Rattle.tables.proofs.Found.{clash}
use Rattle.tables.specs.Located.{Located}
use Rattle.events.specs.declared.Event.{Event}
use Rattle.write_names.specs.Choices.{within}
use Rattle.write_items.specs.Events.{well_made, event_of, goes_on, all_text}
use Rattle.write_items.specs.Items.{WroteItem}
use Rattle.write_items.specs.Steps.{opens, fits, judge}
use Rattle.write_items.specs.Promises.{fault_of}

-- ---- the four tests, and what is judged behind them
abbrev passing : {A : Type 0} → (made goes texts deep : Bool) → (depth rest text event : A) → A
passing made goes texts deep depth rest text event = pick (made && goes) (pick texts (pick deep depth rest) text) event

abbrev judged : (made goes texts deep : Bool) → Result (Unit {0}) Refusal
judged made goes texts deep = passing made goes texts deep (Err R.TheVariants.Depth) (Ok tt) (Err R.TheVariants.Text) (Err R.TheVariants.Event)

abbrev number_in : Result (Unit {0}) Refusal → ℕ
number_in (Ok done) = 0
number_in (Err r) = refusal_number r

abbrev is_passed : Result (Unit {0}) Refusal → Bool
is_passed (Ok done) = true
is_passed (Err r) = false

tests_fault : (made goes texts deep : Bool) (rest : ℕ) (r : Refusal) → judged made goes texts deep ≡ Err r → passing made goes texts deep 13 rest 9 16 ≡ refusal_number r
tests_fault true true true true rest r h = ap number_in h
tests_fault true true true false rest r h = clash (sym (ap is_passed h))
tests_fault true true false deep rest r h = ap number_in h
tests_fault true false texts deep rest r h = ap number_in h
tests_fault false goes texts deep rest r h = ap number_in h

tests_none : (made goes texts deep : Bool) → judged made goes texts deep ≡ Ok tt → (made ≡ true) × (goes ≡ true) × (texts ≡ true) × (deep ≡ false)
tests_none true true true true h = clash (ap is_passed h)
tests_none true true true false h = (refl, refl, refl, refl)
tests_none true true false deep h = clash (ap is_passed h)
tests_none true false texts deep h = clash (ap is_passed h)
tests_none false goes texts deep h = clash (ap is_passed h)

-- ---- an event
pub record Faultless (text : List ℕ) (v : State Located) (e : Event) : Type 0 where
  pub made : well_made text e.kind e ≡ true
  pub goes : goes_on v (event_of e.kind e) ≡ true
  pub texts : all_text text (event_of e.kind e) ≡ true
  pub shallow : (opens v.mode (event_of e.kind e) && leb link.depth v.level) ≡ false

module _ (text : List ℕ) (v : State Located) (e : Event) where
  pub fault_none : fault_of text v e ≡ Ok tt → Faultless text v e
  unfolding fault_of
  fault_none h =
      let t = tests_none (well_made text e.kind e) (goes_on v (event_of e.kind e)) (all_text text (event_of e.kind e)) (opens v.mode (event_of e.kind e) && leb link.depth v.level) h in
      record { made = t.0; goes = t.1; texts = t.2; shallow = t.3 }

  module _ (room at : ℕ) (w : WroteItem) (hs : List ℕ) where
    pub judge_fault : (r : Refusal) → fault_of text v e ≡ Err r → judge link text room at v e w hs ≡ refusal_number r
    unfolding fault_of judge
    judge_fault r h =
        tests_fault (well_made text e.kind e) (goes_on v (event_of e.kind e)) (all_text text (event_of e.kind e)) (opens v.mode (event_of e.kind e) && leb link.depth v.level) _ r h

    pub judge_none : fault_of text v e ≡ Ok tt → judge link text room at v e w hs ≡ pick (within link w.state.tables) (pick (fits link text room (at + length hs)) 0 14) 12
    unfolding judge
    judge_none h = let f = fault_none h in rw (f.made, f.goes, f.texts, f.shallow)

  -- ---- each way out of the code
  pub fault_unmade : well_made text e.kind e ≡ false → Err R.TheVariants.Event ≡ fault_of text v e
  unfolding fault_of
  fault_unmade m = rw m

  module _ (m : well_made text e.kind e ≡ true) where
    pub fault_misplaced : goes_on v (event_of e.kind e) ≡ false → Err R.TheVariants.Event ≡ fault_of text v e
    unfolding fault_of
    fault_misplaced g = rw (m, g)

    module _ (g : goes_on v (event_of e.kind e) ≡ true) where
      pub fault_untext : all_text text (event_of e.kind e) ≡ false → Err R.TheVariants.Text ≡ fault_of text v e
      unfolding fault_of
      fault_untext t = rw (m, g, t)

      module _ (t : all_text text (event_of e.kind e) ≡ true) where
        pub fault_deep : (opens v.mode (event_of e.kind e) && leb link.depth v.level) ≡ true → Err R.TheVariants.Depth ≡ fault_of text v e
        unfolding fault_of
        fault_deep o = rw (m, g, t, o)

        pub fault_free : (opens v.mode (event_of e.kind e) && leb link.depth v.level) ≡ false → Ok tt ≡ fault_of text v e
        unfolding fault_of
        fault_free o = rw (m, g, t, o)
