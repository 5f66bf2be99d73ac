-- A whole document: an accepted one is what the rules write, and what they write is accepted; and what room does to it.
use Prim.Native.Nat.{ℕ, ◌+◌, ◌-◌, ◌*◌, ◌/◌, ◌%◌, ◌≤◌, ◌<◌}
use mathlib.Core.Path.{◌≡◌, refl, sym, ap, ◌∙◌, subst}
use mathlib.Core.List.{List, ◌++◌, map}
use native.Mathlib.Omega.{arith}
use lib.ListN.{length, get_or, drop, length-drop}
use Rattle.format.specs.Octets.{Octets, AreOctets}
use Rattle.format.specs.Numbers.{longest}
use Rattle.format.specs.Events.{Item}
use Rattle.format.specs.Tables.{Vocabulary, vocabulary_map, Version, link}
use Rattle.format.specs.Head.{Head}
use Rattle.format.specs.Items.{State}
use Rattle.format.specs.Document.{halves, Written, known_after, beginning, header, Document}
use Rattle.tables.specs.Located.{Located, listed_as, plain, plain_tables, plain_state, start}
use Rattle.read_items.specs.Items.{Stand}
use Rattle.reader.specs.Reading.{EventRead, items_read, Result, accepted, refusal, Mark, run, Opening, onward, halt, opening, origin, fuel_of, result_from, reading, marks_from, marks, number_of, Accepts}
use Rattle.theorems.specs.Bounded.{Bounded}
use Rattle.theorems.specs.Places.{all_spelled, spelled_in, places_in}
use Rattle.theorems.proofs.Lists.{Refusal, halves_append, halves-length, halves-drop, halves_complete, drop_past}
use Rattle.theorems.proofs.Run.{Inside, Right, run_right, fuel_free, NotShort, run_not_short, trace_few, places_of, AtMarks, ByRoom, by_room, Reads, run_complete}
use Rattle.theorems.proofs.Heads.{opened_ranged}
use Rattle.theorems.proofs.TenTables.{followed_one}
use Rattle.theorems.proofs.Opening.{Begins, Opened, opening_sound, OpensAt, opening_complete}

pub link_bounded : Bounded link
unfolding link
link_bounded = record { some_entries = omega arith; few_entries = omega arith; few_octets = omega arith }

-- behind what lets the reader go on it stands within the octets, and all that the tables hold is in range
inside : {ver : Version} {s : Octets} {body : ℕ} {tables : Vocabulary Located} → Begins ver s body tables → Inside s (origin body tables)
unfolding beginning
inside b = let h = b.within in record { at = omega arith; ranged = opened_ranged b.opens }

module _ (ver : Version) (ok : Bounded ver) (s : Octets) (bytes : AreOctets s) where
  brief : length s ≤ ver.octets → length s ≤ longest
  brief h = omega arith

  -- what a result means
  abbrev pub Means : Result → Type 0
  Means (accepted es m) = (h : Head) × Document ver h (map (plain s) (items_read es)) (plain_state s m.state) s
  Means (refusal n p) = Refusal s n p

  from_run : {body : ℕ} {tables : Vocabulary Located} (b : Begins ver s body tables) (a : Result) → Right ver s bytes (brief b.short) (origin body tables) a → Means a
  unfolding beginning
  from_run {body} {tables} b (accepted es m) r = (
    b.h,
    record {
      before = b.before;
      listed = plain_tables s tables;
      opens = b.opens;
      body = drop (2 * body) (halves s);
      here = ap halves b.splits ∙ halves_append b.before (drop body s) ∙ ap (λ (l : Octets). halves b.before ++ l) (sym (halves-drop body s));
      rule = subst (λ (k : ℕ). Written ver (2 * k) (beginning (plain_tables s tables)) (map (plain s) (items_read es)) (drop (2 * body) (halves s)) (plain_state s m.state)) b.body_is r;
      short = b.short;
    },
  )
  from_run b (refusal n p) r = r

  -- by what the opening answers
  opened : (P : Opening → Type 0) → ((body : ℕ) (tables : Vocabulary Located) → Begins ver s body tables → P (onward body tables)) → ((n p : ℕ) → Refusal s n p × (n ≡ 14 → ⊥) → P (halt n p)) → P (opening ver s)
  opened P f g = from (opening ver s) (opening_sound ver ok s bytes)
    where
      from : (o : Opening) → Opened ver s o → P o
      from (onward body tables) b = f body tables b
      from (halt n p) k = g n p k

  module _ (room : ℕ) where
    pub means : Means (reading ver s room)
    unfolding reading
    means =
        opened (λ (o : Opening). Means (result_from ver s room o))
        (λ body tables b. from_run b (run ver s (fuel_of s) room (origin body tables)) (run_right ver s bytes (brief b.short) (fuel_of s) room (origin body tables) (inside b))) (λ n p k. k.0)

    not_short : length (marks ver s) ≤ room → NotShort (reading ver s room)
    unfolding reading marks
    not_short =
        opened (λ (o : Opening). length (marks_from ver s o) ≤ room → NotShort (result_from ver s room o))
        (λ body tables b few. run_not_short ver s bytes (brief b.short) (fuel_of s) room (origin body tables) (inside b) few) (λ n p k few. k.1)

    -- the number that comes back then
    never_14 : (a : Result) → Means a → NotShort a → number_of a % 32 ≡ 14 → ⊥
    never_14 (accepted es m) g h e = omega arith
    never_14 (refusal n p) g h e = h (omega arith)

    pub number_never_14 : length (marks ver s) ≤ room → number_of (reading ver s room) % 32 ≡ 14 → ⊥
    number_never_14 h = never_14 (reading ver s room) means (not_short h)

  -- an event takes three quarters of an octet at least
  pub marks_few : length (marks ver s) ≤ 4 * (ver.octets - length (header ver)) / 3
  unfolding marks beginning
  marks_few =
      opened (λ (o : Opening). length (marks_from ver s o) ≤ 4 * (ver.octets - length (header ver)) / 3)
      (λ body tables b.
      let t = trace_few ver s bytes (brief b.short) (fuel_of s) (origin body tables) (inside b) in
      let h = b.behind-header in
      let l = b.short in
      omega arith)
      (λ n p k. omega arith)

  pub more_fuel : (more room body : ℕ) (tables : Vocabulary Located) → opening ver s ≡ onward body tables → run ver s (more + fuel_of s) room (origin body tables) ≡ run ver s (fuel_of s) room (origin body tables)
  unfolding beginning
  more_fuel more room body tables e =
      let b : Begins ver s body tables = subst (Opened ver s) e (opening_sound ver ok s bytes) in
      fuel_free ver s bytes (brief b.short) (fuel_of s) more room (origin body tables) (inside b) (omega arith)

module _ (ver : Version) (s : Octets) where
  -- what the rules write is read, with a record for every event; the tables after every event are theirs
  module _ (h : Head) (items : List (Item Octets)) (z : State Octets) (w : Document ver h items z s) where
    abbrev pub from : ℕ
    from = length w.before

    pub whole : s ≡ w.before ++ drop from s
    whole = let z : 0 + from ≡ from = omega arith in rw z at (halves_complete s 0 w.before w.body w.here)

    pub opens : OpensAt ver s w.opens
    opens = opening_complete ver s w.opens (drop from s) whole w.short

    reads_all : (room : ℕ) → length items ≤ room → Reads ver s (fuel_of s) room (origin from opens.tables) items z (known_after ver w.rule) (spelled_in w.rule) (places_in w.rule)
    unfolding beginning
    reads_all room h =
        let lead = halves-length w.before in
        let z : 0 + length (halves w.before) ≡ 2 * from = omega arith in
        let e : drop (2 * from) (halves s) ≡ w.body = rw z at (drop_past (halves s) 0 (halves w.before) w.body w.here) in
        let lh = ap length e in
        let ld = length-drop (2 * from) (halves s) in
        let hl = halves-length s in
        run_complete ver s w.rule (origin from opens.tables) (fuel_of s) room refl (ap beginning opens.are) e (omega arith) h

    pub accepts : (room : ℕ) → length items ≤ room → Accepts ver s room items z
    unfolding reading
    accepts room h =
        let r = reads_all room h in
        record { events = r.events; last = r.last; reads = rw opens.answers r.runs; are = r.are; end_is = r.end_is }

    -- the strings that are handed out as spelled have the places where the rules spell them
    pub spelled_is : (room : ℕ) → length items ≤ room → (events : List EventRead) (last : Stand) → reading ver s room ≡ accepted events last → all_spelled (items_read events) ≡ spelled_in w.rule
    unfolding accepts
    spelled_is room h events last e =
        let a = accepts room h in
        let both : accepted a.events a.last ≡ accepted events last = sym a.reads ∙ e in
        let same : events ≡ a.events = cc in
        ap (λ (l : List EventRead). all_spelled (items_read l)) same ∙ (reads_all room h).spells

    -- and the events stand where the rules write them
    pub placed_is : (room : ℕ) → length items ≤ room → (events : List EventRead) (last : Stand) → reading ver s room ≡ accepted events last → map (λ (e : EventRead). e.place) events ≡ places_in w.rule
    unfolding accepts
    placed_is room h events last e =
        let a = accepts room h in
        let both : accepted a.events a.last ≡ accepted events last = sym a.reads ∙ e in
        let same : events ≡ a.events = cc in
        ap (map (λ (e : EventRead). e.place)) same ∙ (reads_all room h).places

    pub known_is : map (λ (k : Mark). plain_state s k.stand.state) (marks ver s) ≡ known_after ver w.rule
    unfolding marks
    known_is = rw opens.answers (reads_all (length items) (omega arith)).known

  -- what the rules write as the same octets has the same head
  pub one_head_read : {g h : Head} {items others : List (Item Octets)} {y z : State Octets} → Document ver g items y s → Document ver h others z s → g ≡ h
  one_head_read {g} {h} {items} {others} {y} {z} w u =
      let a = opens g items y w in
      let b = opens h others z u in
      let e : onward (length w.before) a.tables ≡ onward (length u.before) b.tables = sym a.answers ∙ b.answers in
      let t : a.tables ≡ b.tables = cc in
      let same : a.head ≡ b.head = followed_one (start ver) (sym a.tables_are ∙ t ∙ b.tables_are) in
      sym a.head_is ∙ ap (vocabulary_map (listed_as s)) same ∙ b.head_is

  -- room
  from_by_room : (room : ℕ) (o : Opening) → ByRoom (marks_from ver s o) (λ r. result_from ver s r o) room
  from_by_room room (onward body tables) = by_room ver s (fuel_of s) room (origin body tables)
  from_by_room room (halt n p) = record { short = λ h. absurd (omega arith); enough = λ h. refl; at_marks = tt }

  reading_by_room : (room : ℕ) → ByRoom (marks ver s) (λ r. reading ver s r) room
  unfolding reading marks
  reading_by_room room = from_by_room room (opening ver s)

  pub too_short : (room : ℕ) → room < length (marks ver s) → reading ver s room ≡ refusal 14 (get_or (places_of (marks ver s)) room 0)
  too_short room h = (reading_by_room room).short h

  pub long_enough : (room : ℕ) → length (marks ver s) ≤ room → reading ver s room ≡ reading ver s (length (marks ver s))
  long_enough room h = (reading_by_room room).enough h

  -- the events that are handed out have the places of the marks
  pub places_are : (room : ℕ) (events : List EventRead) (last : Stand) → reading ver s room ≡ accepted events last → map (λ (e : EventRead). e.place) events ≡ places_of (marks ver s)
  places_are room events last e = subst (AtMarks (marks ver s)) e (reading_by_room room).at_marks
