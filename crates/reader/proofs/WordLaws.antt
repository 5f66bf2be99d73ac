-- What a reading into words leaves, by each way out.
-- Assumes nothing.
use mathlib.Core.Path.{◌≡◌, refl, sym, ap, ◌∙◌}
use mathlib.Core.Bool.{true, false}
use mathlib.Core.List.{List, [], ◌∷◌, ◌++◌, map, append_assoc}
use Prim.Native.Nat.{ℕ, ◌+◌, ◌-◌, ◌*◌, ◌/◌, ◌%◌, ◌^◌, ◌≤◌}
use native.Mathlib.Omega.{arith}
use native.Mathlib.Decide.{ℕ_discrete}
use borrow.Author.Tests.{eq-eqb, ne_eqb}
use lib.ListN.{length, drop, replicate, length-append, length-map, length-replicate, replicate-append-replicate}
use lib.Seq.{drop_at, sets-eq}
use Rattle.std.specs.Prelude.{Result as Answered, Ok, Err}
use Rattle.format.specs.Tables.{link}
use Rattle.format.specs.declared.refusals.Fault.{Fault}
use Rattle.format.specs.declared.refusals.Refusal.TheVariants.{Size, Room}
use Rattle.tables.specs.declared.Counts.{Counts}
use Rattle.tables.specs.Counts.{table_words, counts_of, entry_words, words_of}
use Rattle.tables.specs.Rows.{vocabulary}
use Rattle.tables.specs.Kept.{listed, unlisted, Clean}
use Rattle.tables.specs.Told.{entries_of}
use Rattle.tables.proofs.Laws.{counts_are, entries_are}
use Rattle.index.proofs.Counted.{words-listed}
use Rattle.events.specs.declared.Event.{Event}
use Rattle.events.specs.Records.{blank}
use Rattle.events.specs.Words.{record_words, row_words}
use Rattle.events.proofs.BlankWords.{blank-words, blank_all}
use Rattle.reader.specs.Reading.{EventRead, record_read, Result, accepted, refusal, sized, reading, outcome, read_of}
use Rattle.reader.specs.Words.{leaving, nothing, in_words, read_words}
use Rattle.reader.specs.RunContracts.{ended, faulty, ending_of, event_words, kept_from, fault_number, left_by, Small, Ran}

-- ---- what a run's end comes to in words
drop_zeros : (r k : ℕ) → k ≤ r → drop k (replicate {A = ℕ} r 0) ≡ replicate (r - k) 0
drop_zeros r k h =
    let y : r ≡ k + (r - k) = omega arith in
    let z : replicate {A = ℕ} r 0 ≡ replicate k 0 ++ replicate (r - k) 0 = ap (λ (n : ℕ). replicate n 0) y ∙ sym (replicate-append-replicate {A = ℕ} k (r - k) 0) in
    ap (drop k) z ∙ drop_at (replicate k 0) (replicate (r - k) 0) k (length-replicate {A = ℕ} k 0)

event_length : (es : List EventRead) → length (event_words es) ≡ 14 * length es
unfolding event_words
event_length [] = refl
event_length (e ∷ es) = let l = event_length es in length-append (record_words (record_read e)) (event_words es) ∙ omega arith

row_words_lem : (es : List EventRead) (behind : List Event) → row_words (map record_read es ++ behind) ≡ event_words es ++ row_words behind
unfolding row_words event_words
row_words_lem [] behind = refl
row_words_lem (e ∷ es) behind = rw (row_words_lem es behind, append_assoc)

-- the events, blank records behind them, and what is no record
filled : (es : List EventRead) (r : ℕ) → length es ≤ r / 14
    → row_words (map record_read es ++ replicate (r / 14 - length (map record_read es)) blank) ++ replicate (r % 14) 0
    ≡ event_words es ++ replicate (r - 14 * length es) 0
filled es r h =
    let n = length-map es record_read in
    let z : 14 * (r / 14 - length es) + r % 14 ≡ r - 14 * length es = omega arith in
    rw (n, row_words_lem es (replicate (r / 14 - length es) blank), blank-words (r / 14 - length es), append_assoc)
    (ap (λ (q : List ℕ). event_words es ++ q) (replicate-append-replicate {A = ℕ} (14 * (r / 14 - length es)) (r % 14) 0 ∙ ap (λ (k : ℕ). replicate k 0) z))

refused_words : (r k place : ℕ) (x : Result) → faulty k place ≡ ending_of 0 x → nothing (place * 32 + k) r table_words 10 ≡ in_words r (outcome x (r / 14))
unfolding in_words
refused_words r k place (accepted es m) e = let z : ◌≡◌ {A = ℕ} 0 1 = cc in absurd (omega arith)
refused_words r k place (refusal j p) e =
    let a : k ≡ j = cc in
    let b : place ≡ p = cc in
    let z : 0 + (p * 32 + j) ≡ p * 32 + j = omega arith in
    rw (a, b, blank_all r, z)

accepted_words : (r n : ℕ) (d : Counts) (w v : List ℕ) (x : Result) → ended n (vocabulary d w) ≡ ending_of 0 x → n ≤ r / 14 → Clean d w → v ≡ kept_from (replicate r 0) 0 x
    → leaving (n * 2 ^ 32) v w (listed d) ≡ in_words r (outcome x (r / 14))
unfolding Clean in_words
accepted_words r n d w v (refusal j p) e h g k = let z : ◌≡◌ {A = ℕ} 0 1 = cc in absurd (omega arith)
accepted_words r n d w v (accepted es m) e h g k = λ i. leaving (word i) (record_words_lem i) (table_words_lem i) (count_words i)
  where
    events_are : length (map record_read es) ≡ length es
    events_are = length-map es record_read

    count₀ : n ≡ 0 + length es
    count₀ = cc

    count : n ≡ length (map record_read es)
    count = omega (arith, count₀, events_are)

    word : n * 2 ^ 32 ≡ length (map record_read es) * 2 ^ 32 + 0
    word = omega (arith, count)

    known : vocabulary d w ≡ m.state.tables
    known = cc

    table_words_lem : w ≡ words_of entry_words m.state.tables
    table_words_lem = sym g ∙ ap (words_of entry_words) known

    count_words : listed d ≡ entries_of m.state.tables
    count_words = ap listed (sym (counts_are d w) ∙ ap counts_of known) ∙ sym (entries_are m.state.tables)

    record_words_lem : v ≡ row_words (map record_read es ++ replicate (r / 14 - length (map record_read es)) blank) ++ replicate (r % 14) 0
    record_words_lem =
        let l = event_length es in
        let f : 14 * length es ≤ r = omega (arith, count₀) in
        let y : 0 + length (event_words es) ≡ 14 * length es = omega arith in
        k ∙ sets-eq (event_words es) (replicate r 0) 0 (rw (length-replicate {A = ℕ} r 0) (omega arith)) ∙ ap (λ (q : List ℕ). event_words es ++ q) (rw y (drop_zeros r (14 * length es) f))
        ∙ sym (filled es r (omega (arith, count₀)))

-- ---- by cases
module _ (s : List ℕ) (r t c : ℕ) where
  abbrev Left : Answered ℕ Fault → (v w d : List ℕ) → Type 0
  Left y v w d = (left_by y r t c v w d ≡ read_words link s r t c) × Small y

  pub words_size : {f : Fault} → f ≡ record { refusal = Size; at = 0 } → false ≡ sized link s → Left (Err f) [] [] []
  unfolding read_words
  words_size q e = rw (q, ← e) (refl, omega arith)

  module _ (size : true ≡ sized link s) where
    words_room : (t ≡ table_words → c ≡ 10 → ⊥) → nothing 14 r t c ≡ read_words link s r t c
    unfolding read_words read_of in_words
    words_room n =
        elim (ℕ_discrete c 10) [
          | yes b ↦ let m : t ≡ table_words → ⊥ = λ a. n a b in rw (b, ← size, ne_eqb _ _ m, blank_all r)
          | no b ↦ rw (← size, ne_eqb _ _ b)
        ]

    pub room_refused : {f : Fault} → f ≡ record { refusal = Room; at = 0 } → (t ≡ table_words → c ≡ 10 → ⊥) → Left (Err f) [] [] []
    room_refused q n = rw q (words_room n, omega arith)

    module _ (a : t ≡ table_words) (b : c ≡ 10) where
      fields_first : in_words r (outcome (reading link s (r / 14)) (r / 14)) ≡ read_words link s r t c
      unfolding read_words read_of
      fields_first = rw (← size, eq-eqb _ _ a, eq-eqb _ _ b)

      -- a run that came out as y
      pub words_left : {v : List ℕ} (y : Answered ℕ Fault) {c' w' v' : List ℕ} → Ran (r / 14) v y c' w' v' (reading link s (r / 14)) → v ≡ replicate r 0 → Left y v' w' c'
      words_left (Err f) p z = (rw (a, b) (refused_words r _ f.at (reading link s (r / 14)) p.is) ∙ fields_first, p.small)
      words_left (Ok n) {c'} {w'} {v'} p z =
          let g = p.settled in
          let k : v' ≡ kept_from (replicate r 0) 0 (reading link s (r / 14)) = rw z at (p.keeps (rw (z, length-replicate {A = ℕ} r 0) (omega arith))) in
          (ap (leaving (n * 2 ^ 32) v' w') (sym (words-listed c' g.1)) ∙ accepted_words r n (unlisted c') w' v' (reading link s (r / 14)) p.is g.0 g.2 k ∙ fields_first, p.small)

-- in words whose numbers have other names
module _ (s : List ℕ) (r t c : ℕ) {r' t' c' : ℕ} (er : r' ≡ r) (et : t' ≡ t) (ec : c' ≡ c) {n : ℕ} {v w d : List ℕ} where
  pub words_accepted : {k : ℕ} → Left s r' t' c' (Ok k) v w d → n ≡ k → leaving (n * 2 ^ 32 % 2 ^ 64) v w d ≡ read_words link s r t c
  words_accepted p e =
      let l = p.1 in
      let x : n * 2 ^ 32 % 2 ^ 64 ≡ n * 2 ^ 32 = omega arith in
      rw (x, e, ← er, ← et, ← ec) p.0

  pub words_refused : (f : Fault) → Left s r' t' c' (Err f) [] [] [] → n ≡ fault_number f → v ≡ replicate r 0 → w ≡ replicate t 0 → d ≡ replicate c 0 → leaving n v w d ≡ read_words link s r t c
  words_refused f p e a b q = rw (e, a, b, q, ← er, ← et, ← ec) p.0
