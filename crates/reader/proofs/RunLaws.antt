-- A law for each way out of the functions of a run, on plain values; and what holds while a run is underway.
-- Assumes nothing.
use mathlib.Core.Path.{◌≡◌, refl, sym, ap, ◌∙◌}
use mathlib.Core.Bool.{Bool, true, false, ◌&&◌}
use mathlib.Core.List.{List, [], ◌∷◌, ◌++◌}
use Prim.Native.Nat.{ℕ, zero, suc, ◌+◌, ◌-◌, ◌*◌, ◌/◌, ◌≤◌, ◌<◌}
use native.Mathlib.Omega.{arith}
use native.Mathlib.Numerals.{add-one}
use native.Mathlib.Decide.{ℕ_discrete}
use borrow.Author.Tests.{lt-ltb, le-ltb, le-leb, lt-leb, eq-eqb, ne_eqb, leb-true}
use lib.Dec.{eqb, leb, lit<}
use lib.ListN.{length, get_or, take, drop, set, replicate, get_or-replicate, length-replicate}
use lib.Seq.{drop-cons, sets}
use Rattle.std.specs.Prelude.{Result as Answered, Ok, Err}
use Rattle.std.specs.List.{starts_with}
use Rattle.std.specs.Cmp.Lexicographic.{pointwise}
use Rattle.format.specs.declared.refusals.Fault.{Fault}
use Rattle.format.specs.declared.refusals.Refusal.TheVariants.{Truncated, Header, OptionalPart, Padding, Room}
use Rattle.format.specs.Tables.{NameTable, ELEMENT_NAME, ATTRIBUTE_NAME, names, starting, same, link}
use Rattle.format.specs.Document.{beginning}
use Rattle.tables.specs.Located.{start}
use Rattle.tables.specs.Counts.{table_words, counts_of}
use Rattle.tables.specs.Rows.{vocabulary}
use Rattle.tables.specs.Kept.{listed, unlisted, Ends}
use Rattle.tables.proofs.Laws.{vocabulary-start, counted_start, clean_start, all_start}
use Rattle.tables.proofs.Found.{both_true}
use Rattle.index.specs.Indexed.{slots}
use Rattle.index.proofs.Counted.{indexed_start}
use Rattle.states.specs.declared.State.{State}
use Rattle.states.specs.States.{mode_of, root_of, coming, fresh}
use Rattle.events.specs.Records.{record_of}
use Rattle.events.specs.Words.{record_words}
use Rattle.events.specs.Kept.{kept}
use Rattle.read_items.specs.declared.Step.{Step}
use Rattle.read_items.specs.declared.Step.TheVariants.{Event, Quiet, Done}
use Rattle.read_items.specs.Items as I
use Rattle.read_items.specs.Items.{Stand}
use Rattle.read_items.specs.Steps.{step}
use Rattle.read_names.specs.Promises.{Ranged, searched, Tidy}
use Rattle.read_head.specs.Head.{head_at}
use Rattle.read_head.specs.Promises.{PassedLeft, Passes}
use Rattle.read_items.specs.Promises.{Lent, lent, stand_of, SeenStep, more, quiet, done, stop, seen_step, step_seen, kept_by, Good, Met}
use Rattle.reader.specs.declared.run.Front.TheVariants.{Head, Body}
use Rattle.reader.specs.Reading.{onward, halt, behind_head, sized, opening, EventRead, record_read, Result, accepted, refusal, plus, turn, run, origin, reading, number_of, check_of}
use Rattle.reader.specs.LaneContracts.{whole, Underway}
use Rattle.reader.specs.RunContracts.{Opened, StartsIn, Starts, Ending, ended, faulty, ending_of, seen_ending, event_words, kept_from, fault_number, Ran}
use Rattle.read_items.proofs.Places.{Placed, step_placed}

-- ---- the header
eqb-sym : (a b : ℕ) → eqb a b ≡ eqb b a
eqb-sym a b = elim (ℕ_discrete a b) [ yes e ↦ eq-eqb a b e ∙ sym (eq-eqb b a (sym e)) | no n ↦ ne_eqb a b n ∙ sym (ne_eqb b a (λ e. n (sym e))) ]

same_pointwise : (x y : List ℕ) → pointwise eqb y x ≡ same x y
unfolding same
same_pointwise [] [] = refl
same_pointwise [] (b ∷ y) = refl
same_pointwise (a ∷ x) [] = refl
same_pointwise (a ∷ x) (b ∷ y) = rw (eqb-sym b a, same_pointwise x y)

abbrev identified : List ℕ → Bool
identified s = starts_with eqb s (0xE0 ∷ 0x00 ∷ 0x00 ∷ 0x01 ∷ [])

module _ (s : List ℕ) where
  identified_is : identified s ≡ same (take 4 s) link.identification
  unfolding link
  identified_is = same_pointwise (take 4 s) (0xE0 ∷ 0x00 ∷ 0x00 ∷ 0x01 ∷ [])

  size_most : true ≡ sized link s → length s ≤ 16384
  unfolding sized link
  size_most e = leb-true (length s) 16384 (both_true (leb 1 (length s)) (leb (length s) 16384) (sym e)).1

  -- the size is is_right, and the identification is there, or other octets
  module _ {b w : Bool} (size : b ≡ sized link s) (yes : b ≡ true) (l : 4 ≤ length s) (starts : w ≡ identified s) where
    is_right : true ≡ sized link s
    is_right = sym yes ∙ size

    pub open_other : w ≡ false → {f : Fault} → f ≡ record { refusal = Header; at = 0 } → Opened s (Err f) (opening link s)
    unfolding opening link
    open_other h e = rw e (record { is = rw (← is_right, le-leb _ _ l, ← identified_is, ← starts, h); within = omega arith })

    module _ (h : w ≡ true) where
      first : true ≡ same (take 4 s) link.identification
      first = sym h ∙ starts ∙ identified_is

      pub open_short : length s ≡ 4 → {f : Fault} → f ≡ record { refusal = Truncated; at = 4 } → Opened s (Err f) (opening link s)
      unfolding opening link
      open_short k e = let n : length s < 5 = omega arith in rw e (record { is = rw (← is_right, le-leb _ _ l, ← first, lt-leb _ _ n); within = omega arith })

      module _ (k : length s ≡ 4 → ⊥) where
        long : 5 ≤ length s
        long = omega arith

        pub open_body : get_or s 4 0 ≡ 0 → Opened s (Ok (Body 5)) (opening link s)
        unfolding opening link
        open_body z = record { is = rw (← is_right, le-leb _ _ l, ← first, le-leb _ _ long, z); within = (long, size_most is_right) }

        pub open_head : get_or s 4 0 ≡ 0x20 → Opened s (Ok (Head 5)) (opening link s)
        unfolding opening link
        open_head z = record { is = rw (← is_right, le-leb _ _ l, ← first, le-leb _ _ long, z); within = (long, size_most is_right) }

        pub open_padding : 0x80 ≤ get_or s 4 0 → {f : Fault} → f ≡ record { refusal = Padding; at = 4 } → Opened s (Err f) (opening link s)
        unfolding opening link
        open_padding b e = rw e (record { is = rw (← is_right, le-leb _ _ l, ← first, le-leb _ _ long, le-ltb _ _ b); within = omega arith })

        pub open_optional : (get_or s 4 0 ≡ 0 → ⊥) → (get_or s 4 0 ≡ 0x20 → ⊥) → get_or s 4 0 < 0x80 → {f : Fault} → f ≡ record { refusal = OptionalPart; at = 4 } → Opened s (Err f) (opening link s)
        unfolding opening link
        open_optional n m b e = rw e (record { is = rw (← is_right, le-leb _ _ l, ← first, le-leb _ _ long, lt-ltb _ _ b, ne_eqb _ _ n, ne_eqb _ _ m); within = omega arith })

-- ---- what a turn comes to, by what is seen of its step and what it kept
module _ (go : ℕ → Stand → Result) (m : Stand) (n : ℕ) where
  abbrev ends_by : ℕ → SeenStep → Ending
  ends_by zero (more p k) = faulty 14 p
  ends_by (suc room) (more p k) = ending_of (n + 1) (go room k)
  ends_by room (quiet k) = ending_of n (go room k)
  ends_by room done = ended n m.state.tables
  ends_by room (stop j p) = faulty j p

  -- w are the words of records behind the step
  abbrev left_by : List ℕ → ℕ → SeenStep → List ℕ
  left_by w zero (more p k) = []
  left_by w (suc room) (more p k) = kept_from w (n + 1) (go room k)
  left_by w room (quiet k) = kept_from w n (go room k)
  left_by w room done = w
  left_by w room (stop j p) = []

  plus_ends : (e : EventRead) (x : Result) → ending_of n (plus e x) ≡ ending_of (n + 1) x
  plus_ends e (accepted es k) = ap (λ (j : ℕ). ended j k.state.tables) (omega arith)
  plus_ends e (refusal j p) = refl

  sets_append : (w : List ℕ) (at : ℕ) (a b : List ℕ) → sets w at (a ++ b) ≡ sets (sets w at a) (at + length a) b
  sets_append w at [] b = let z : at + 0 ≡ at = omega arith in rw z
  sets_append w at (x ∷ a) b = let z : at + suc (length a) ≡ suc at + length a = omega arith in rw z (sets_append (set w at x) (suc at) a b)

  plus-kept : (w : List ℕ) (e : EventRead) (x : Result) → n < length w / 14 → kept_from w n (plus e x) ≡ kept_from (kept w n e.place (record_of e.item.event)) (n + 1) x
  unfolding event_words kept
  plus-kept w e (accepted es k) h =
      let z : 14 * (n + 1) ≡ 14 * n + 14 = omega arith in
      rw (lt-ltb _ _ h, z) (sets_append w (14 * n) (record_words (record_read e)) (event_words es))
  plus-kept w e (refusal j p) h = refl

  turn_ends : (room : ℕ) (x : I.Step) → ending_of n (turn go room m x) ≡ ends_by room (step_seen x)
  turn_ends zero (I.more p i k) = refl
  turn_ends (suc room) (I.more p i k) = plus_ends _ (go room k)
  turn_ends room (I.quiet k) = refl
  turn_ends room I.done = let z : n + 0 ≡ n = omega arith in rw z
  turn_ends room (I.stop j p) = refl

  turn-kept : (w : List ℕ) (room : ℕ) (x : I.Step) → 14 * (n + room) ≤ length w → kept_from w n (turn go room m x) ≡ left_by (kept_by w n x) room (step_seen x)
  unfolding event_words
  turn-kept w zero (I.more p i k) h = refl
  turn-kept w (suc room) (I.more p i k) h = plus-kept w _ (go room k) (omega arith)
  turn-kept w room (I.quiet k) h = refl
  turn-kept w room I.done h = refl
  turn-kept w room (I.stop j p) h = refl

-- the place of an event, or of a refusal, as it is seen
abbrev pub PlacedSeen : List ℕ → SeenStep → Type 0
PlacedSeen s (more p k) = p ≤ length s
PlacedSeen s (quiet k) = Unit {0}
PlacedSeen s done = Unit {0}
PlacedSeen s (stop j p) = p ≤ length s

pub placed_seen : (s : List ℕ) (x : I.Step) → Placed s x → PlacedSeen s (step_seen x)
placed_seen s (I.more p i k) h = h
placed_seen s (I.quiet k) h = tt
placed_seen s I.done h = tt
placed_seen s (I.stop j p) h = h.1

-- ---- before the head: tables of zeros, the counts of the start, an index of zeros
module _ (s : List ℕ) (t c x : List ℕ) (zeros : t ≡ replicate table_words 0) (counts : c ≡ listed (counts_of (start link))) (clear : x ≡ replicate slots 0) where
  pub tables_start : vocabulary (unlisted c) t ≡ start link
  tables_start = rw (counts, zeros) (vocabulary-start (replicate table_words 0) (get_or-replicate {A = ℕ} table_words 1 0 0 (lit< tt)) (get_or-replicate {A = ℕ} table_words 769 0 0 (lit< tt)))

  ranged_start : (n : NameTable) → Ranged (counts_of (start link)) (names (start link) n)
  unfolding names start starting link
  ranged_start ELEMENT_NAME = tt
  ranged_start ATTRIBUTE_NAME = tt

  pub tidy_start : length s ≤ 16384 → Tidy s c t x
  tidy_start h =
      let start_is : vocabulary (counts_of (start link)) t ≡ start link = rw counts at tables_start in
      rw counts
      (record {
        size = h;
        ten = refl;
        room = ap length zeros ∙ length-replicate {A = ℕ} table_words 0;
        counted = counted_start;
        clean = rw zeros clean_start;
        inside = rw start_is (all_start (Ends s) tt tt);
        more = rw start_is ranged_start;
        indexed = rw zeros (indexed_start searched s (replicate table_words 0) x (get_or-replicate {A = ℕ} table_words 1 0 0 (lit< tt)) (get_or-replicate {A = ℕ} table_words 769 0 0 (lit< tt)) clear);
      })

  -- what the header says
  pub starts_fault : {f g : Fault} → Opened s (Err f) (opening link s) → g ≡ f → Starts s (Err g) c t x
  starts_fault o e = rw e (record { is = o.is; within = o.within })

  pub starts_body : {at : ℕ} → Opened s (Ok (Body at)) (opening link s) → Starts s (Ok at) c t x
  starts_body o = record { is = rw tables_start o.is; within = (o.within.0, tidy_start o.within.1) }

  pub starts_head : {at : ℕ} → Opened s (Ok (Head at)) (opening link s) → {r : Answered ℕ Fault} {d v y : List ℕ} → Passes s c t r d v y (head_at link s at) → Starts s r d v y
  starts_head {at} o {r = r} {d} {v} {y} p = record { is = ap behind_head (p.0 ∙ ap (head_at link s at) tables_start) ∙ o.is; within = by_answer r p.1 }
    where
      by_answer : (r : Answered ℕ Fault) → PassedLeft s c t r d v y → StartsIn s r d v y
      by_answer (Ok body) l = (l.within, l.tidy)
      by_answer (Err f) l = let z = o.within.1 in let k = l.1 in omega arith

-- ---- before the first item
pub stand_start : (body : ℕ) (a : Lent) → stand_of (fresh body) a ≡ origin body (vocabulary (unlisted a.counts) a.tables)
unfolding beginning mode_of root_of
stand_start body a = refl

pub good_start : {s : List ℕ} {body : ℕ} (a : Lent) → body ≤ length s → Tidy s a.counts a.tables a.index → Good s (fresh body) a
unfolding coming
good_start a l h = record { tidy = h; at = omega arith; shallow = omega arith }

pub underway_start : {s : List ℕ} {body : ℕ} {t c x : List ℕ} → body ≤ length s → Tidy s c t x → (v : List ℕ) (room : ℕ) {st : State} → st ≡ fresh body
    → Underway s v room (origin body (vocabulary (unlisted c) t)) (2 * length s + 1) 0 st (lent t c x v)
underway_start {body = body} {t} {c} {x} l h v room e =
    let z : room - 0 ≡ room = omega arith in
    rw e
    (record {
      good = good_start (lent t c x v) l h;
      fits = omega arith;
      fuel = omega arith;
      ends = rw (z, stand_start body (lent t c x v), add-one);
      keeps = λ _. rw (z, stand_start body (lent t c x v), add-one);
      same_length = refl;
    })

pub run_one : (s : List ℕ) (left room : ℕ) (m : Stand) → 0 < left → run link s left room m ≡ turn (λ k j. run link s (left - 1) k j) room m (step link s m)
unfolding run
run_one s left room m h = let z : left ≡ suc (left - 1) = omega arith in ap (λ (k : ℕ). run link s k room m) z

module _ {s v : List ℕ} {room : ℕ} {from : Stand} {left n : ℕ} {st : State} {a : Lent} (u : Underway s v room from left n st a) where
  pub ran_spent : left ≤ 0 → {f : Fault} → f ≡ record { refusal = Truncated; at = st.at / 2 } → Ran room v (Err f) a.counts a.tables a.records (whole s room from)
  unfolding run
  ran_spent h e =
      let z : left ≡ 0 = omega arith in
      let g = u.good in
      rw e (record { is = rw z at u.ends; small = omega arith; settled = tt; keeps = λ _. tt })

  -- a step, and what is seen of its answer
  module _ (h : 0 < left) {r : Answered Step Fault} {b : Lent} (p : Met s st n a r b (step link s)) where
    abbrev onward_from : ℕ → Stand → Result
    onward_from k m = run link s (left - 1) k m

    one : run link s left (room - n) (stand_of st a) ≡ turn onward_from (room - n) (stand_of st a) (step link s (stand_of st a))
    one = run_one s left (room - n) (stand_of st a) h

    ends_here : ends_by onward_from (stand_of st a) n (room - n) (seen_step r b) ≡ ending_of 0 (whole s room from)
    ends_here = rw p.is (sym (ap (ending_of n) one ∙ turn_ends onward_from (stand_of st a) n (room - n) (step link s (stand_of st a))) ∙ u.ends)

    kept_here : 14 * room ≤ length v → left_by onward_from (stand_of st a) n b.records (room - n) (seen_step r b) ≡ kept_from v 0 (whole s room from)
    kept_here k =
        let f = u.fits in
        let l = u.same_length in
        rw (p.is, p.keeps) (sym (ap (kept_from a.records n) one ∙ turn-kept onward_from (stand_of st a) n a.records (room - n) (step link s (stand_of st a)) (omega arith)) ∙ u.keeps k)

    placed_here : PlacedSeen s (seen_step r b)
    placed_here = rw p.is (placed_seen s (step link s (stand_of st a)) (step_placed s link (stand_of st a) u.good.at))

    module _ {st' : State} (q : r ≡ Ok (Quiet st')) (same : length b.records ≡ length a.records) where
      pub underway_quiet : Underway s v room from (left - 1) n st' b
      underway_quiet =
          let f = u.fuel in
          record {
            good = rw q at p.good;
            fits = u.fits;
            fuel = omega arith;
            ends = rw q at ends_here;
            keeps = λ k. rw q at (kept_here k);
            same_length = same ∙ u.same_length;
          }

    module _ {place : ℕ} {st' : State} (q : r ≡ Ok (Event st' place)) where
      more-place : place ≤ 16384
      more-place = let l : place ≤ length s = rw q at placed_here in let g = u.good.tidy.size in omega arith

      pub underway_more : (n ≡ room → ⊥) → length b.records ≡ length a.records → Underway s v room from (left - 1) (n + 1) st' b
      underway_more l same =
          let f = u.fuel in
          let i = u.fits in
          let z : room - n ≡ suc (room - (n + 1)) = omega arith in
          record {
            good = rw q at p.good;
            fits = omega arith;
            fuel = omega arith;
            ends = rw (q, z) at ends_here;
            keeps = λ k. rw (q, z) at (kept_here k);
            same_length = same ∙ u.same_length;
          }

      pub ran_full : n ≡ room → {f : Fault} → f ≡ record { refusal = Room; at = place } → Ran room v (Err f) b.counts b.tables b.records (whole s room from)
      ran_full l e =
          let z : room - n ≡ 0 = omega arith in
          rw e (record { is = rw (q, z) at ends_here; small = more-place; settled = tt; keeps = λ _. tt })

    module _ (q : r ≡ Ok Done) where
      pub ran_done : Ran room v (Ok n) b.counts b.tables b.records (whole s room from)
      ran_done =
          let same : (b.counts ≡ a.counts) × (b.tables ≡ a.tables) = rw q at p.good in
          let g = u.good.tidy.size in
          let f = u.fuel in
          record {
            is = rw (same.0, same.1) (rw q at ends_here);
            small = omega arith;
            settled = rw (same.0, same.1) (u.fits, u.good.tidy.ten, u.good.tidy.clean);
            keeps = λ k. rw q at (kept_here k);
          }

    module _ {f : Fault} (q : r ≡ Err f) where
      stop_place : f.at ≤ 16384
      stop_place = let l : f.at ≤ length s = rw q at placed_here in let g = u.good.tidy.size in omega arith

      pub ran_stop : {g : Fault} → g ≡ f → Ran room v (Err g) b.counts b.tables b.records (whole s room from)
      ran_stop e = rw e (record { is = rw q at ends_here; small = stop_place; settled = tt; keeps = λ _. tt })

-- ---- a document
module _ {s : List ℕ} {c t x : List ℕ} {v : List ℕ} {room : ℕ} {d w u : List ℕ} where
  pub ran_fault : {f g : Fault} → Starts s (Err f) c t x → g ≡ f → Ran room v (Err g) d w u (reading link s room)
  unfolding reading
  ran_fault o e = rw (← o.is, e) (record { is = refl; small = o.within; settled = tt; keeps = λ _. tt })

  pub ran_onward : {body : ℕ} {r : Answered ℕ Fault} → Starts s (Ok body) c t x → Ran room v r d w u (whole s room (origin body (vocabulary (unlisted c) t))) → Ran room v r d w u (reading link s room)
  unfolding reading
  ran_onward o p = rw (← o.is) p

abbrev ending_number : Ending → ℕ
ending_number (ended n x) = 0
ending_number (faulty k p) = p * 32 + k

number_ending : (n : ℕ) (x : Result) → ending_number (ending_of n x) ≡ number_of x
number_ending n (accepted es m) = refl
number_ending n (refusal k p) = refl

module _ (s : List ℕ) {v c t w : List ℕ} where
  pub check_fault : {f : Fault} → Ran 32768 v (Err f) c t w (reading link s 32768) → fault_number f ≡ check_of link s
  unfolding check_of link
  check_fault p = ap ending_number p.is ∙ number_ending 0 (reading link s 32768)

  pub check_passed : {n : ℕ} → Ran 32768 v (Ok n) c t w (reading link s 32768) → 0 ≡ check_of link s
  unfolding check_of link
  check_passed p = ap ending_number p.is ∙ number_ending 0 (reading link s 32768)
