-- The row of records that a run fills, and reading into lent room: laws on plain values.
-- Assumes nothing.
use mathlib.Core.Path.{◌≡◌, refl, sym, ap, ◌∙◌}
use mathlib.Core.Bool.{true, false}
use mathlib.Core.List.{List, [], ◌∷◌, ◌++◌, map, append_assoc, append-nil}
use Prim.Native.Nat.{ℕ, zero, suc, ◌+◌, ◌-◌, ◌*◌, ◌/◌, ◌≤◌, ◌<◌}
use native.Mathlib.Omega.{arith}
use native.Mathlib.Numerals.{add-one}
use borrow.Author.Tests.{eq-eqb, ne_eqb}
use lib.ListN.{length, set, replicate, length-append}
use lib.Seq.{set_at}
use Rattle.std.specs.Prelude.{Result as Answered, Ok, Err}
use Rattle.format.specs.Refusals.{refusal_number}
use Rattle.format.specs.declared.refusals.Fault.{Fault}
use Rattle.format.specs.declared.refusals.Refusal.TheVariants.{Size, Truncated, Room}
use Rattle.format.specs.Events as F
use Rattle.format.specs.Tables.{link}
use Rattle.tables.specs.Located.{Located}
use Rattle.tables.specs.Told.{told_accepted}
use Rattle.tables.specs.Counts.{table_words}
use Rattle.tables.specs.Rows.{vocabulary}
use Rattle.tables.specs.declared.Counts.{Counts}
use Rattle.tables.specs.Kept.{listed, unlisted, Clean}
use Rattle.tables.proofs.Laws.{entries_are, counts_are}
use Rattle.states.specs.declared.State.{State}
use Rattle.states.specs.States.{fresh}
use Rattle.events.specs.declared.Event.{Event}
use Rattle.events.specs.declared.Kind.TheVariants.{Blank}
use Rattle.events.specs.Records as R
use Rattle.events.specs.Records.{blank, record_of}
use Rattle.events.specs.FromWords.{record_at}
use Rattle.events.specs.Kept.{kept}
use Rattle.events.proofs.FromWords.{record_back}
use Rattle.read_names.specs.Promises.{Tidy}
use Rattle.read_items.specs.declared.Step.{Step}
use Rattle.read_items.specs.declared.Step.TheVariants.{Event as Found, Quiet, Done}
use Rattle.read_items.specs.Items as I
use Rattle.read_items.specs.Items.{Stand}
use Rattle.read_items.specs.Steps.{step}
use Rattle.read_items.specs.Promises.{Lent, lent, stand_of, SeenStep, more, quiet, done, stop, seen_step, step_seen, kept_by, Good, Met}
use Rattle.reader.specs.Reading.{sized, EventRead, record_read, Result, accepted, refusal, plus, turn, run, origin, Outcome, refusing, accepting, outcome, reading, read_of}
use Rattle.reader.specs.LaneContracts.{whole}
use Rattle.reader.specs.RunContracts.{Starts}
use Rattle.reader.proofs.RunLaws.{stand_start, good_start, run_one}
use Rattle.read_rows.specs.Promises.{left_by, counted, Filled}

-- ---- an event that is kept in a record of its own is found there again, with its place
kinded : (e : F.Event Located) → (record_of e).kind ≡ Blank → ⊥
unfolding record_of
kinded (F.Namespace p n) h = cc
kinded (F.Start x) h = cc
kinded (F.Attribute x y) h = cc
kinded (F.Text y) h = cc
kinded (F.Comment y) h = cc
kinded (F.Instruction x y) h = cc
kinded F.End h = cc

kept_back : (place : ℕ) (e : F.Event Located) → record_at (kept (replicate 14 0) 0 place (record_of e)) 0 ≡ R.record_at place e
unfolding kept
kept_back place e = record_back (R.record_at place e) [] (kinded e)

-- ---- a run, by what it leaves in `room` records, with the events acc before it
module _ (room : ℕ) where
  abbrev laid : List Event → Result → Outcome
  laid acc (accepted es m) = accepting (acc ++ map record_read es) m.state.tables room
  laid acc (refusal k p) = refusing k p room table_words

  laid_none : (x : Result) → laid [] x ≡ outcome x room
  laid_none (accepted es m) = refl
  laid_none (refusal k p) = refl

  laid_plus : (acc : List Event) (e : EventRead) (x : Result) → laid acc (plus e x) ≡ laid (acc ++ (record_read e ∷ [])) x
  laid_plus acc e (accepted es m) = ap (λ (l : List Event). accepting l m.state.tables room) (sym (append_assoc acc (record_read e ∷ []) (map record_read es)))
  laid_plus acc e (refusal k p) = refl

  -- a turn, by what is seen of its step and what is in the record w then
  module _ (go : ℕ → Stand → Result) (m : Stand) (acc : List Event) where
    abbrev laid_by : List ℕ → (left : ℕ) → SeenStep → Outcome
    laid_by w zero (more p k) = refusing 14 p room table_words
    laid_by w (suc left) (more p k) = laid (acc ++ (record_at w 0 ∷ [])) (go left k)
    laid_by w left (quiet k) = laid acc (go left k)
    laid_by w left done = accepting acc m.state.tables room
    laid_by w left (stop k p) = refusing k p room table_words

    turn_laid : (left : ℕ) (x : I.Step) → laid acc (turn go left m x) ≡ laid_by (kept_by (replicate 14 0) 0 x) left (step_seen x)
    turn_laid zero (I.more p i k) = refl
    turn_laid (suc left) (I.more p i k) = laid_plus acc _ (go left k) ∙ ap (λ (e : Event). laid (acc ++ (e ∷ [])) (go left k)) (sym (kept_back p i.event))
    turn_laid left (I.quiet k) = refl
    turn_laid left I.done = ap (λ (es : List Event). accepting es m.state.tables room) (append-nil acc)
    turn_laid left (I.stop k p) = refl

-- n events are in the row zs of `room` records, and blanks after them; what is left to do leads to the same as a run
-- from the first item on
pub record Filling (s : List ℕ) (room : ℕ) (from : Stand) (st : State) (c t x : List ℕ) (zs : List Event) (n left : ℕ) : Type 0 where
  pub events : List Event
  pub counted : length events ≡ n
  pub row : zs ≡ events ++ replicate (room - n) blank
  pub few : n ≤ room
  pub good : Good s st (lent t c x [])
  pub spent : n + left ≤ 2 * length s + 1
  pub leads : laid room events (run link s left (room - n) (stand_of st (lent t c x []))) ≡ outcome (whole s room from) room

pub filling_start : {s : List ℕ} {body : ℕ} {c t x : List ℕ} → body ≤ length s → Tidy s c t x → {room : ℕ} {zs : List Event} → zs ≡ replicate room blank → {st : State} → st ≡ fresh body
    → {left : ℕ} → left ≡ 2 * length s + 1 → Filling s room (origin body (vocabulary (unlisted c) t)) st c t x zs 0 left
filling_start {s} {body} {c} {t} {x} l tidy {room} z e i =
    let k : room - 0 ≡ room = omega arith in
    rw (e, z, i)
    (record {
      events = [];
      counted = refl;
      row = rw k refl;
      few = omega arith;
      good = good_start (lent t c x []) l tidy;
      spent = omega arith;
      leads = rw (k, stand_start body (lent t c x []), add-one) (laid_none room (whole s room (origin body (vocabulary (unlisted c) t))));
    })

module _ {s : List ℕ} {room : ℕ} {from : Stand} {st : State} {c t x : List ℕ} {zs : List Event} {n left : ℕ} (u : Filling s room from st c t x zs n left) where
  pub good_lent : (r : List ℕ) → Good s st (lent t c x r)
  good_lent r = record { tidy = u.good.tidy; at = u.good.at; shallow = u.good.shallow }

  pub filled_spent : left ≤ 0 → {f : Fault} → f ≡ record { refusal = Truncated; at = st.at / 2 } → Filled (Err f) (unlisted c) zs t (whole s room from) room
  unfolding run
  filled_spent h e = let z : left ≡ 0 = omega arith in rw e (record { is = rw z at u.leads })

  -- a step, whose record was of zeros, and what is seen of its answer
  module _ (h : 0 < left) {z : List ℕ} (zeros : z ≡ replicate 14 0) {r : Answered Step Fault} {b : Lent} (p : Met s st 0 (lent t c x z) r b (step link s)) where
    abbrev onward : ℕ → Stand → Result
    onward k m = run link s (left - 1) k m

    abbrev stand : Stand
    stand = stand_of st (lent t c x [])

    here : laid_by room onward stand u.events b.records (room - n) (seen_step r b) ≡ outcome (whole s room from) room
    here =
        rw (p.is, rw zeros at p.keeps)
        (sym (ap (laid room u.events) (run_one s left (room - n) stand h) ∙ turn_laid room onward stand u.events (room - n) (step link s stand)) ∙ u.leads)

    pub filling_more : {place : ℕ} {st' : State} → r ≡ Ok (Found st' place) → n < room → {event : Event} → event ≡ record_at b.records 0 → {left' : ℕ} → left' ≡ left - 1
        → Filling s room from st' b.counts b.tables b.index (set zs n event) (n + 1) left'
    filling_more q l i j =
        let k : room - n ≡ suc (room - (n + 1)) = omega arith in
        let f = u.spent in
        let g = rw q at p.good in
        let e = record_at b.records 0 in
        rw (i, j)
        (record {
          events = u.events ++ (e ∷ []);
          counted = length-append u.events (e ∷ []) ∙ ap (λ (j : ℕ). j + 1) u.counted;
          row = rw (u.row, k) (set_at u.events blank (replicate (room - (n + 1)) blank) e n u.counted ∙ sym (append_assoc u.events (e ∷ []) (replicate (room - (n + 1)) blank)));
          few = omega arith;
          good = record { tidy = g.tidy; at = g.at; shallow = g.shallow };
          spent = omega arith;
          leads = rw (q, k) at here;
        })

    pub filling_quiet : {st' : State} → r ≡ Ok (Quiet st') → {left' : ℕ} → left' ≡ left - 1 → Filling s room from st' b.counts b.tables b.index zs n left'
    filling_quiet q j =
        let f = u.spent in
        let g = rw q at p.good in
        rw j
        (record {
          events = u.events;
          counted = u.counted;
          row = u.row;
          few = u.few;
          good = record { tidy = g.tidy; at = g.at; shallow = g.shallow };
          spent = omega arith;
          leads = rw q at here;
        })

    pub filled_full : {place : ℕ} {st' : State} → r ≡ Ok (Found st' place) → n ≡ room → {f : Fault} → f ≡ record { refusal = Room; at = place } → Filled (Err f) (unlisted b.counts) zs b.tables (whole s room from) room
    filled_full q l e = let k : room - n ≡ 0 = omega arith in rw e (record { is = rw (q, k) at here })

    pub filled_fault : {f g : Fault} → r ≡ Err f → g ≡ f → Filled (Err g) (unlisted b.counts) zs b.tables (whole s room from) room
    filled_fault q e = rw e (record { is = rw q at here })

    pub filled_done : r ≡ Ok Done → Filled (Ok n) (unlisted b.counts) zs b.tables (whole s room from) room
    unfolding Clean
    filled_done q =
        let same : (b.counts ≡ c) × (b.tables ≡ t) = rw q at p.good in
        rw (same.0, same.1, u.row) (record { is = accepting_is ∙ (rw q at here) })
      where
        accepting_is : ◌≡◌ {A = Outcome} (record { told = told_accepted n (listed (unlisted c)); row = u.events ++ replicate (room - n) blank; tables = t }) (accepting u.events (vocabulary (unlisted c) t) room)
        accepting_is = rw (entries_are (vocabulary (unlisted c) t), counts_are (unlisted c) t, u.good.tidy.clean, u.counted)

-- ---- what reading into lent room comes to
module _ (s : List ℕ) (n m : ℕ) where
  pub reads_size : {f : Fault} → f ≡ record { refusal = Size; at = 0 } → false ≡ sized link s → refusing (refusal_number f.refusal) f.at n m ≡ read_of link s n m
  unfolding read_of
  reads_size q e = rw (q, ← e)

  module _ (size : true ≡ sized link s) where
    pub reads_room : {f : Fault} → f ≡ record { refusal = Room; at = 0 } → (m ≡ table_words → ⊥) → refusing (refusal_number f.refusal) f.at n m ≡ read_of link s n m
    unfolding read_of
    reads_room q e = rw (q, ← size, ne_eqb _ _ e)

    module _ (a : m ≡ table_words) where
      read_is : outcome (reading link s n) n ≡ read_of link s n m
      unfolding read_of
      read_is = rw (← size, eq-eqb _ _ a)

      pub reads_fault : {f g : Fault} {c t x : List ℕ} → Starts s (Err f) c t x → g ≡ f → refusing (refusal_number g.refusal) g.at n m ≡ read_of link s n m
      unfolding reading
      reads_fault o e = rw (e, a) (rw (← o.is) at (rw a at read_is))

      -- the row was filled from the body on
      pub reads_filled : {body : ℕ} {c t x : List ℕ} → Starts s (Ok body) c t x → (r : Answered ℕ Fault) {d : Counts} {row : List Event} {w : List ℕ} {n' : ℕ} → n' ≡ n
          → Filled r d row w (whole s n' (origin body (vocabulary (unlisted c) t))) n' → left_by (counted r d) n m row w ≡ read_of link s n m
      unfolding reading
      reads_filled o r e p = rw a (rw e at p.is) ∙ rw (← o.is) at read_is
