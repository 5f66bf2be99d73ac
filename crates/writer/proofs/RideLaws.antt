-- The writer over words: a law for each way out of its functions, what a step teaches, and that a ride of the quick lane leaves a run underway.
-- Assumes nothing.
use mathlib.Core.Path.{◌≡◌, refl, sym, ap, subst, ◌∙◌}
use mathlib.Core.Bool.{Bool, true, false}
use mathlib.Core.List.{List, ◌∷◌}
use Prim.Native.Nat.{ℕ, suc, ◌+◌, ◌*◌, ◌/◌, ◌≤◌, ◌<◌}
use native.Mathlib.Omega.{arith}
use borrow.Author.Tests.{ne_eqb}
use lib.Dec.{eqb}
use lib.ListN.{length, get_or, drop, replicate}
use Rattle.format.specs.Numbers.{pick}
use Rattle.format.specs.Tables.{Vocabulary, ELEMENT_NAME, names}
use Rattle.format.specs.Items as F
use Rattle.format.specs.Refusals.{refusal_number}
use Rattle.format.specs.declared.refusals.Refusal.{Refusal}
use Rattle.format.specs.declared.refusals.Refusal.TheVariants.{Event as NoEvent}
use Rattle.std.specs.Prelude as Std
use Rattle.std.specs.Prelude.{Ok, Err}
use Rattle.tables.specs.Located.{Located}
use Rattle.tables.specs.Kept.{name_table_of}
use Rattle.tables.specs.Counts.{table_words}
use Rattle.tables.proofs.Found.{clash}
use Rattle.states.specs.declared.State.{State}
use Rattle.states.specs.States.{mode_of, root_of, coming}
use Rattle.states.proofs.Modes.{mode_content, mode_listing, coming_low}
use Rattle.events.specs.declared.Kind.{Kind}
use Rattle.events.specs.declared.Kind.TheVariants.{Blank, Namespace, Start, Attribute, Chunk, Comment, Instruction, End}
use Rattle.events.specs.declared.Event.{Event}
use Rattle.events.specs.Words.{kind_number}
use Rattle.events.specs.FromWords.{record_at, records_of, begins_with, Misnamed}
use Rattle.events.proofs.FromWords.{records_length, record_nth, records_drop}
use Rattle.write_names.specs.Promises.{tables_in}
use Rattle.write_names.proofs.Order.{triples_count, counted_at, within_order}
use Rattle.write_items.specs.Steps.{announced}
use Rattle.write_items.specs.StepContracts.{Ready, Steps, known, item_of, verdict, Went}
use Rattle.write_items.proofs.Misnamed.{fault_misnamed}
use Rattle.write_items.proofs.Faults.{judge_fault}
use Rattle.writer.specs.declared.lane.Lane.{Lane}
use Rattle.writer.specs.Writing.{Outcome}
use Rattle.writer.specs.RunContracts.{Underway, Going, bit_of}
use Rattle.writer.specs.LaneContracts.{Taught, Remembered, Filed, Kept, Safe, OnWay, standing, Passes, Onward as Further}
use Rattle.writer.specs.RideContracts.{Learns, arrived_at, Rides, Leading, Through}
use Rattle.writer.proofs.RunLaws.{bit-started, underway_number}
use Rattle.writer.proofs.StartLaws.{moved_on, moved_not}
use Rattle.writer.proofs.LaneLaws.{remembered_none, remembered_kept, remembered_more, remembered_filed, extends_event, taught_new}

-- ---- a Start that is remembered
start_kind : (k : Kind) → eqb (kind_number k) 2 ≡ true → k ≡ Start
start_kind Blank h = clash h
start_kind Namespace h = clash h
start_kind Start h = refl
start_kind Attribute h = clash h
start_kind Chunk h = clash h
start_kind Comment h = clash h
start_kind Instruction h = clash h
start_kind End h = clash h

module _ (w : List ℕ) (i : ℕ) (there : i < length w / 14) where
  start_here : begins_with 2 (drop i (records_of w)) ≡ true → (record_at w (14 * i)).kind ≡ Start
  start_here h = start_kind _ (rw (records_drop w i there) at h)

  pub learned : (before n : ℕ) → before < n → begins_with 2 (drop i (records_of w)) ≡ true → {memory memory' : List ℕ} → Kept memory i n memory' → Learns w i before n memory memory'
  learned before n l h {memory} {memory'} k text v t r =
      let e = records_length w in
      let q : i < length (records_of w) = omega arith in
      remembered_more (records_of w) text v memory memory' k q (rw (record_nth w i there) (t l (start_here h))) r

-- ---- what a step teaches
module _ {text : List ℕ} {room : ℕ} {a : Bool} {st : State} {c out w : List ℕ} {e : Event} {next : State} {out' c' w' ix' : List ℕ} (g : Went text room a st c out w e next out' c' w' ix') where
  tables_then : tables_in c' w' ≡ (item_of text a (known st c w) e).state.tables
  tables_then = ap (λ (v : F.State Located). v.tables) g.state

  pub step_keeps : (es : List Event) (memory : List ℕ) → Remembered es text (tables_in c w) memory → Remembered es text (tables_in c' w') memory
  step_keeps es memory r = rw tables_then (remembered_kept es text memory (extends_event text a (known st c w) e) r)

  pub step_teaches : length c ≡ 10 → get_or c 8 0 < get_or c' 8 0 → e.kind ≡ Start → Taught text (tables_in c' w') e (get_or c' 8 0)
  unfolding name_table_of
  step_teaches ten l k =
      let few = counted_at text c' w' ix' 8 g.ready.order in
      let m = triples_count c w ten 8 (omega arith) (omega arith) in
      let n = triples_count c' w' g.ready.order.ten 8 (omega arith) (omega arith) in
      let z = ap (λ (v : Vocabulary Located). length (names v ELEMENT_NAME)) tables_then in
      subst (λ (k : ℕ). Taught text (tables_in c' w') e k) n (rw tables_then (taught_new text a (known st c w) e room st.at g.judged k (omega arith) (omega arith)))

-- ---- a ride
root_so : (r : ℕ) → (r ≡ 0 → ⊥) → root_of r ≡ true
unfolding root_of
root_so r n = rw (ne_eqb r 0 n)

mode_arrived : (b : Bool) (m : ℕ) → m ≡ 0 → mode_of (pick b 1 m) ≡ F.after_start b
mode_arrived true m z = mode_listing
mode_arrived false m z = rw z mode_content

coming_arrived : (b : Bool) (m : ℕ) → m ≡ 0 → coming (pick b 1 m) ≡ 0
coming_arrived true m z = coming_low 1 (omega arith)
coming_arrived false m z = coming_low m (omega arith)

-- where the lane starts
abbrev pub from : State → ℕ → Lane
from st i = record { at = st.at; level = st.level; i = i; listing = false }

module _ (w memory : List ℕ) (room i : ℕ) (st : State) (out : List ℕ) where
  pub rides_not : Rides w memory room i st out (from st i) out
  rides_not = record { onward = record { on = omega arith; inside = λ h. h }; under = λ to text c t ix r u. u }

  module _ (content : st.mode ≡ 0) (root : st.root ≡ 0 → ⊥) where
    on_way : {to : Outcome} {text c t ix : List ℕ} → Underway to text room (records_of w) i st c out t ix → OnWay to text room (records_of w) (tables_in c t) (from st i) out
    on_way {c = c} {t = t} u =
        let z : known st c t ≡ standing (tables_in c t) (from st i) = rw (content, mode_content, root_so st.root root) in
        record { hs = u.hs; holds = u.holds; small = u.small; leads = rw z at u.leads }

    pub rides_on : {l : Lane} {out' : List ℕ} → Safe w memory l → Further i l.i (length w / 14) → Passes w memory room (from st i) out l out' → Rides w memory room i st out l out'
    rides_on {l} {out'} safe on passes =
        record {
          onward = on;
          under = λ to text c t ix r u.
              let o = passes to text (tables_in c t) (within_order text c t ix u.ready.order) r (on_way u) in
              let m = mode_arrived l.listing st.mode content in
              let none = coming_arrived l.listing st.mode content in
              let deep = safe.level in
              let z : known (arrived_at st l) c t ≡ standing (tables_in c t) l = rw (m, root_so st.root root) in
              record {
                hs = o.hs;
                holds = o.holds;
                ready = record { order = u.ready.order; at = safe.at; shallow = omega arith };
                bit-known = rw m (bit-started l.listing _);
                small = o.small;
                leads = rw z o.leads;
              };
        }

-- ---- the loop
-- From o says that before its first record the run leads to o; there is something that it leads to, and it leads to all of that still
module _ (From : Outcome → Type 0) (w text : List ℕ) (room i : ℕ) where
  -- behind i of the records, with what is remembered
  pub record Stepping (st : State) (c out t ix memory : List ℕ) : Type 0 where
    pub to : Outcome
    pub begun : From to
    pub moving : (o : Outcome) → From o → Underway o text room (records_of w) i st c out t ix
    pub remembered : Remembered (records_of w) text (tables_in c t) memory
    pub inside : i ≤ length w / 14

  -- one record further, before anything is learned of it; there were so many names of elements before it
  pub record Stepped (before : ℕ) (st : State) (c out t ix memory : List ℕ) : Type 0 where
    pub to : Outcome
    pub begun : From to
    pub moving : (o : Outcome) → From o → Underway o text room (records_of w) (i + 1) st c out t ix
    pub remembered : Remembered (records_of w) text (tables_in c t) memory
    pub teaches : before < get_or c 8 0 → (record_at w (14 * i)).kind ≡ Start → Taught text (tables_in c t) (record_at w (14 * i)) (get_or c 8 0)

-- before the first record
module _ (w text : List ℕ) (room : ℕ) (st : State) (c out t ix : List ℕ) where
  abbrev pub Begins : Outcome → Type 0
  Begins o = Underway o text room (records_of w) 0 st c out t ix

  pub stepping_start : (n : ℕ) → Leading (records_of w) text room st c out t ix → Stepping Begins w text room 0 st c out t ix (replicate n 0)
  stepping_start n l = record { to = l.to; begun = l.under; moving = λ o m. m; remembered = remembered_none (records_of w) text (tables_in c t) n; inside = omega arith }

module _ {From : Outcome → Type 0} {w text : List ℕ} {room i : ℕ} {st : State} {c out t ix memory : List ℕ} (s : Stepping From w text room i st c out t ix memory) where
  abbrev under : Underway s.to text room (records_of w) i st c out t ix
  under = s.moving s.to s.begun

  pub stepping_ready : Ready text st c t ix
  stepping_ready = under.ready

  pub stepping_ten : length c ≡ 10
  stepping_ten = stepping_ready.order.ten

  pub stepping_small : i ≤ 32768
  stepping_small = underway_number under

  module _ (there : i < length w / 14) {e : Event} (is : e ≡ record_at w (14 * i)) {a : Bool} (bit : a ≡ bit_of (mode_of st.mode) (announced (drop i (records_of w)))) (r : Std.Result State Refusal)
      (out' c' t' ix' : List ℕ) (step : Steps text room a st c out t e r out' c' t' ix') where
    next_is : drop i (records_of w) ≡ e ∷ drop (suc i) (records_of w)
    next_is = rw is (records_drop w i there)

    pub stepped : {next : State} → r ≡ Ok next → Stepped From w text room i (get_or c 8 0) next c' out' t' ix' memory
    stepped q =
        let g = rw q at step in
        record {
          to = s.to;
          begun = s.begun;
          moving = λ o m. moved_on (s.moving o m) next_is bit r out' c' t' ix' step q;
          remembered = step_keeps g (records_of w) memory s.remembered;
          teaches = λ l k. rw is at (step_teaches g stepping_ten l (rw is k));
        }

    pub step_stopped : {k : Refusal} → r ≡ Err k → length out' ≡ length out → (o : Outcome) → From o
        → Going o (records_of w) text room table_words (length (records_of w)) (Err (record { refusal = k; at = i })) c' out' t' ix'
    step_stopped q kept o m = moved_not (s.moving o m) next_is bit r out' c' t' ix' step q kept

  -- a record that is told apart before it is made, since the step would refuse it
  pub misnamed_stopped : i < length w / 14 → Misnamed (record_at w (14 * i)) → (o : Outcome) → From o
      → Going o (records_of w) text room table_words (length (records_of w)) (Err (record { refusal = NoEvent; at = i })) c out t ix
  unfolding verdict
  misnamed_stopped there m =
      let e = record_at w (14 * i) in
      step_stopped there {e = e} refl refl (Err NoEvent) out c t ix (judge_fault text (known st c t) e room st.at _ _ NoEvent (sym (fault_misnamed text e (known st c t) m))) refl refl

-- the quick lane behind it
module _ {From : Outcome → Type 0} {w text : List ℕ} {room i before : ℕ} {st : State} {c out t ix memory : List ℕ} (s : Stepped From w text room i before st c out t ix memory) where
  abbrev ready_then : Ready text st c t ix
  ready_then = (s.moving s.to s.begun).ready

  pub stepped_few : get_or c 8 0 ≤ 256
  stepped_few = counted_at text c t ix 8 ready_then.order

  pub stepped_safe : (st.at ≤ 32768) × (st.level ≤ 32)
  stepped_safe = let l = ready_then.shallow in (ready_then.at, omega arith)

  pub stepped_learned : (memory' : List ℕ) → Learns w i before (get_or c 8 0) memory memory' → Remembered (records_of w) text (tables_in c t) memory'
  stepped_learned memory' l = l text (tables_in c t) s.teaches s.remembered

  pub stepped_filed : (memory' : List ℕ) → Remembered (records_of w) text (tables_in c t) memory' → Filed memory' (length w / 14)
  stepped_filed memory' r = remembered_filed (records_of w) text (tables_in c t) memory' (length w / 14) (records_length w) r

  pub stepping_on : (memory' : List ℕ) → Remembered (records_of w) text (tables_in c t) memory' → i < length w / 14 → {l : Lane} {out' : List ℕ}
      → Rides w memory' room (i + 1) st out l out' → {st' : State} → st' ≡ arrived_at st l → Stepping From w text room l.i st' c out' t ix memory'
  stepping_on memory' r h d z =
      rw z
      (record {
        to = s.to;
        begun = s.begun;
        moving = λ o m. d.under o text c t ix r (s.moving o m);
        remembered = r;
        inside = d.onward.inside (omega arith);
      })

-- ---- behind the last record
pub stepped_through : {From : Outcome → Type 0} {w text : List ℕ} {room i : ℕ} {st : State} {c out t ix memory : List ℕ} → Stepping From w text room i st c out t ix memory → length w / 14 ≤ i
    → (o : Outcome) → From o → Going o (records_of w) text room table_words (length (records_of w)) (Ok st) c out t ix
stepped_through {w = w} {i = i} s h o m =
    let b = s.inside in
    let n = records_length w in
    let z : i ≡ length (records_of w) = omega arith in
    (refl, rw z at (s.moving o m))
