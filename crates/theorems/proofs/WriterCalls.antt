-- DEMANDS 1 AND 2 OF THE WRITER'S CODE. The contract of `write_rows::write` equates what a call answers and leaves with `write_of`, that of `lomphachit_write`
-- with `write_words`, which is `write_of` in words: so what it accepts is written by the rules, from the very tables and records that were given, and reading it gives back the same events and tables, whatever stood in the room.
use Prim.Native.Nat.{ℕ, zero, suc, ◌+◌, ◌*◌, ◌^◌, ◌≤◌, ◌<◌, min}
use mathlib.Core.Path.{◌≡◌, refl, sym, ap, ◌∙◌, subst}
use mathlib.Core.Bool.{Bool, true, false, ◌&&◌, ◌||◌}
use mathlib.Core.List.{List, [], ◌∷◌, ◌++◌, map}
use native.Mathlib.Omega.{arith}
use lib.ListN.{length, length-map}
use lib.Dec.{eqb, leb}
use Rattle.std.specs.Prelude as Std
use Rattle.format.specs.Octets.{Octets, Halves, Words}
use Rattle.format.specs.declared.refusals.Fault.{Fault as CallFault}
use Rattle.format.specs.Numbers.{pick}
use Rattle.format.specs.Events.{Item, ◌by◌}
use Rattle.format.specs.Tables.{Version}
use Rattle.format.specs.Items.{State}
use Rattle.format.specs.Document.{pad, beginning, Document}
use Rattle.tables.specs.Counts.{table_words}
use Rattle.tables.specs.Told.{Told, told_accepted, whole_word}
use Rattle.tables.specs.Located.{Located, plain, plain_state}
use Rattle.events.specs.declared.Event.{Event}
use Rattle.events.specs.Records.{record_of, unplaced}
use Rattle.events.specs.FromWords.{records_of}
use Rattle.reader.specs.Reading.{EventRead, items_read, record_read, accepting as reading, read_of}
use Rattle.write_names.specs.Choices.{within}
use Rattle.write_head.specs.Given.{Given, given_of}
use Rattle.write_head.specs.Head.{is_none, tables_of, well_given, text_given, new_given, few_given, head_octets, fault_of_head}
use Rattle.write_items.specs.Events.{well_made, event_of, is_content, goes_on, all_text}
use Rattle.write_items.specs.Items.{WroteItem, write_item}
use Rattle.write_items.specs.Steps.{announced, opens, settled, fits, halves_of, judge, joined}
use Rattle.writer.specs.declared.Accepted.{Accepted}
use Rattle.writer.specs.Writing.{Result, written, refusal, plus, finish, run, Outcome, Leaves, accepting, outcome, writing, write_of}
use Rattle.theorems.specs.Bounded.{Bounded}
use Rattle.theorems.specs.Verdicts.{head_of}
use Rattle.theorems.proofs.Document as Whole
use Rattle.theorems.proofs.Demands.{written_by_the_rules, the_events_given}
use Rattle.writer.specs.Words.{leaving, nothing, in_words, write_words, measured, measure_words}
use Rattle.theorems.proofs.Alike.{write_alike}
use Rattle.theorems.proofs.Fits.{accepted_sized}
use Rattle.theorems.proofs.Turns.{by_head}
use Rattle.theorems.proofs.Asked.{by_asked}

-- A call with this output room left these octets, 0 behind them, and these tables; the rules write the octets from the head that was given and the items, whose records are those given.
pub record Wrote (ver : Version) (g : Given) (text : Octets) (es : List Event) (room : ℕ) (o : Outcome) : Type 0 where
  pub items : List (Item Located)
  pub last : State Located
  pub octets : Octets
  pub is : o ≡ accepting octets last.tables room
  pub given : map (λ (i : Item Located). record_of i.event) items ≡ map unplaced es
  pub writes : Document ver (head_of ver text g) (map (plain text) items) (plain_state text last) octets
  pub fits : length octets ≤ room

-- 19. REFUSED: a refusal is one of the requirements' numbers for a writer, at an event of the list or its end; 11 is the head's alone.
abbrev pub Numbered : (number place : ℕ) → Type 0
Numbered n p = (9 ≤ n) × (n ≤ 16) × (n ≡ 10 → ⊥) × (n ≡ 11 → p ≡ 0) × (n ≡ 15 → ⊥)

-- of an event
abbrev OfEvent : ℕ → Type 0
OfEvent n = (9 ≤ n) × (n ≤ 16) × (n ≡ 10 → ⊥) × (n ≡ 11 → ⊥) × (n ≡ 15 → ⊥)

module _ (ver : Version) (text : Octets) (room : ℕ) where
  abbrev Faulty : (low high : ℕ) → Result → Type 0
  Faulty low high (written items hs z) = Unit {0}
  Faulty low high (refusal n p) = OfEvent n × (low ≤ p) × (p ≤ high)

  verdicts : (at : ℕ) (v : State Located) (e : Event) (w : WroteItem) (hs : Halves) → (judge ver text room at v e w hs ≡ 0 → ⊥) → OfEvent (judge ver text room at v e w hs)
  unfolding judge
  verdicts at v e w hs =
      cases (well_made text e.kind e && goes_on v (event_of e.kind e)) (all_text text (event_of e.kind e)) (opens v.mode (event_of e.kind e) && leb ver.depth v.level)
      (within ver w.state.tables) (fits ver text room (at + length hs))
    where
      cases : (a b c d f : Bool) → (◌≡◌ {A = ℕ} (pick a (pick b (pick c 13 (pick d (pick f 0 14) 12)) 9) 16) 0 → ⊥) → OfEvent (pick a (pick b (pick c 13 (pick d (pick f 0 14) 12)) 9) 16)
      cases false b c d f h = omega arith
      cases true false c d f h = omega arith
      cases true true true d f h = omega arith
      cases true true false false f h = omega arith
      cases true true false true false h = omega arith
      cases true true false true true h = absurd (h refl)

  finish_faulty : (at : ℕ) (v : State Located) (i : ℕ) → Faulty i i (finish ver text room at v i)
  unfolding finish
  finish_faulty at v i = cases (is_content v.mode && (eqb v.level 0 && v.root)) (fits ver text room (suc at))
    where
      cases : (a b : Bool) → Faulty i i (pick a (pick b (written [] (15 ∷ pad (suc at)) v) (refusal 14 i)) (refusal 16 i))
      cases true true = tt
      cases true false = omega arith
      cases false b = omega arith

  later : (i n : ℕ) (j : Item Located) (hs : Halves) (r : Result) → Faulty (suc i) (suc i + n) r → Faulty i (i + suc n) (plus j hs r)
  later i n j hs (written items ks z) h = tt
  later i n j hs (refusal k p) h = (h.0, omega arith, omega arith)

  turned : (i m : ℕ) (j : Item Located) (hs : Halves) (r : Result) (n : ℕ) → ((n ≡ 0 → ⊥) → OfEvent n) → Faulty (suc i) (suc i + m) r
      → Faulty i (i + suc m) (elim n [ zero ↦ plus j hs r | suc k ↦ refusal (suc k) i ])
  turned i m j hs r zero f h = later i m j hs r h
  turned i m j hs r (suc k) f h = (f (omega arith), omega arith, omega arith)

  run_faulty : (es : List Event) (at : ℕ) (v : State Located) (i : ℕ) → Faulty i (i + length es) (run ver text room at v i es)
  unfolding run
  run_faulty [] at v i = let z : i + 0 ≡ i = omega arith in rw z (finish_faulty at v i)
  run_faulty (e ∷ es) at v i =
      let ev = event_of e.kind e in
      let w = write_item ver text (announced (e ∷ es)) (settled v ev) ev in
      let hs = halves_of ver text room at v ev w in
      turned i (length es) (ev by w.choice) hs (run ver text room (at + length hs) w.state (suc i) es) (judge ver text room at v e w hs) (verdicts at v e w hs) (run_faulty es (at + length hs) w.state (suc i))

head_numbered : (ver : Version) (text : Octets) (g : Given) (room n : ℕ) → fault_of_head ver text g room ≡ suc n → Numbered (suc n) 0
unfolding fault_of_head
head_numbered ver text g room n = cases (well_given ver text g) (text_given ver text g) (new_given ver text g) (few_given ver text g) (is_none g || leb (length (head_octets ver text g)) (min room ver.octets))
  where
    cases : (a b c d f : Bool) → pick a (pick b (pick c (pick d (pick f 0 14) 12) 11) 9) 16 ≡ suc n → Numbered (suc n) 0
    cases false b c d f e = (omega arith, omega arith, λ h. omega arith, λ h. refl, λ h. omega arith)
    cases true false c d f e = (omega arith, omega arith, λ h. omega arith, λ h. refl, λ h. omega arith)
    cases true true false d f e = (omega arith, omega arith, λ h. omega arith, λ h. refl, λ h. omega arith)
    cases true true true false f e = (omega arith, omega arith, λ h. omega arith, λ h. refl, λ h. omega arith)
    cases true true true true false e = (omega arith, omega arith, λ h. omega arith, λ h. refl, λ h. omega arith)
    cases true true true true true e = absurd (omega arith)

module _ (ver : Version) (text : Octets) (room : ℕ) (g : Given) (es : List Event) where
  abbrev Found : Result → Type 0
  Found (written items hs z) = Unit {0}
  Found (refusal n p) = Numbered n p × (p ≤ length es)

  ran : (r : Result) → Faulty ver text room 0 (0 + length es) r → Found r
  ran (written items hs z) f = tt
  ran (refusal n p) f = ((f.0.0, f.0.1, f.0.2, λ h. absurd (f.0.3 h), f.0.4), omega arith)

  pub write_refused : (n p : ℕ) → writing ver g text room es ≡ refusal n p → Numbered n p × (p ≤ length es)
  write_refused n p e =
      let at = 2 * length (head_octets ver text g) in
      let v = beginning (tables_of ver g) in
      subst Found e (by_head ver text room g es Found (λ z. ran (run ver text room at v 0 es) (run_faulty ver text room es at v 0)) (λ k q. (head_numbered ver text g room k q, omega arith)))

module _ (ver : Version) (ok : Bounded ver) (text : Octets) (room : ℕ) (es : List Event) where
  from_result : length text ≤ ver.octets → (g : Given) (r : Result) → writing ver g text room es ≡ r → (outcome ver (head_octets ver text g) r room).told.number ≡ 0
      → Wrote ver g text es room (outcome ver (head_octets ver text g) r room)
  from_result short g (written items hs z) e q =
      let w = written_by_the_rules ver text room g es items hs z e ok short in
      record { items = items; last = z; octets = head_octets ver text g ++ joined hs; is = refl; given = the_events_given ver text room g es items hs z e; writes = w.0; fits = w.1 }
  from_result short g (refusal k p) e q = let f = (write_refused ver text room g es k p e).0 in absurd (omega arith)

  pub by_number : (given : Words) (table : ℕ) → (write_of ver given es text room table).told.number ≡ 0 → Wrote ver (given_of given) text es room (write_of ver given es text room table)
  by_number given table =
      by_asked ver given es text room table (λ (o : Outcome). o.told.number ≡ 0 → Wrote ver (given_of given) text es room o)
      (λ short right e. from_result short (given_of given) (writing ver (given_of given) text room es) refl)
      (λ l e. absurd (omega arith)) (λ l m e. absurd (omega arith)) (λ l m g e. absurd (omega arith))

  -- 17. WRITE ACCEPTS only what the rules write, from the head and the records given.
  pub write_accepts : (given : Words) (table n : ℕ) (counts : Words) → (write_of ver given es text room table).told ≡ told_accepted n counts
      → Wrote ver (given_of given) text es room (write_of ver given es text room table)
  write_accepts given table n counts e = by_number given table (ap (λ (t : Told). t.number) e)

-- What reading octets leaves: the records of events whose plain forms are these items', blank records behind them, and tables that are these, as octets.
pub record ReadBack (ver : Version) (s : Octets) (records : ℕ) (items : List (Item Octets)) (z : State Octets) : Type 0 where
  pub events : List EventRead
  pub last : State Located
  pub is : read_of ver s records table_words ≡ reading (map record_read events) last.tables records
  pub same : map (plain s) (items_read events) ≡ items
  pub tables : plain_state s last ≡ z

-- 18. READ BACK: what a call wrote is read, with a record for each event, and gives the same events and tables.
pub read_back : (ver : Version) (g : Given) (text : Octets) (room : ℕ) (es : List Event) (o : Outcome) (w : Wrote ver g text es room o) (records : ℕ) → length es ≤ records
    → ReadBack ver w.octets records (map (plain text) w.items) (plain_state text w.last)
unfolding read_of
read_back ver g text room es o w records h =
    let l = length-map w.items (λ (i : Item Located). record_of i.event) in
    let k = length-map w.items (plain text) in
    let n = ap length w.given in
    let m = length-map es unplaced in
    let a = Whole.accepts ver w.octets (head_of ver text g) (map (plain text) w.items) (plain_state text w.last) w.writes records (omega arith) in
    let y = accepted_sized ver w.octets records a.events a.last a.reads in
    record { events = a.events; last = a.last.state; is = rw (y, a.reads); same = a.are; tables = a.end_is }

-- 20. WRITE FROM WORDS: what is accepted is left as the words of what `write` leaves, from the head and the records of the words (17).
small : (ver : Version) (given records : Words) (text : Octets) (r t : ℕ) → (write_of ver given (records_of records) text r t).told.number < 32
small ver given records text r t =
    by_asked ver given (records_of records) text r t (λ (o : Outcome). o.told.number < 32)
    (λ short right e. from (writing ver (given_of given) text r (records_of records)) refl)
    (λ l. omega arith) (λ l m. omega arith) (λ l m g. omega arith)
  where
    from : (a : Result) → writing ver (given_of given) text r (records_of records) ≡ a → (outcome ver (head_octets ver text (given_of given)) a r).told.number < 32
    from (written items hs z) q = omega arith
    from (refusal n place) q = let f = (write_refused ver text r (given_of given) (records_of records) n place q).0 in omega arith

module _ (ver : Version) (ok : Bounded ver) (given records : Words) (text : Octets) (r t : ℕ) where
  abbrev left : Outcome
  left = write_of ver given (records_of records) text r t

  by_answer : (n : ℕ) → whole_word left.told ≡ n * 2 ^ 32 → Wrote ver (given_of given) text (records_of records) r left
  by_answer n e = let l = small ver given records text r t in by_number ver ok text r (records_of records) given t (omega arith)

  by_words_lem : (c n : ℕ) (b d : Bool) → (pick b (pick d (in_words left) (nothing 14 r t c)) (nothing 1 r t c)).answer ≡ n * 2 ^ 32
      → Wrote ver (given_of given) text (records_of records) r left × (pick b (pick d (in_words left) (nothing 14 r t c)) (nothing 1 r t c) ≡ in_words left)
  unfolding in_words
  by_words_lem c n true true e = (by_answer n e, refl)
  by_words_lem c n true false e = absurd (omega arith)
  by_words_lem c n false d e = absurd (omega arith)

  pub words-written : (c n : ℕ) → (write_words ver given records text r t c).answer ≡ n * 2 ^ 32 → Wrote ver (given_of given) text (records_of records) r left × (write_words ver given records text r t c ≡ in_words left)
  unfolding write_words
  words-written c n e = by_words_lem c n (leb (length text) ver.octets) (eqb c 10) e

-- 21. DEMAND 1: what a call answers and leaves depends on the words for the head, the records and the text, and on how much room is lent, but not on what stood in it.
module _ (ver : Version) (given : Words) (es : List Event) (text o p : Octets) (t u : Words) (a b : Std.Result Accepted CallFault) (o' p' : Octets) (t' u' : Words) where
  pub write_whatever_stood : length o ≡ length p → length t ≡ length u → Leaves a o' t' (write_of ver given es text (length o) (length t)) → Leaves b p' u' (write_of ver given es text (length p) (length u))
      → (a ≡ b) × (o' ≡ p') × (t' ≡ u')
  write_whatever_stood l m x y = let y' = rw (← l, ← m) at y in (write_alike a b (x.0 ∙ sym y'.0), x.1 ∙ sym y'.1, x.2 ∙ sym y'.2)

--     The same of writing from words.
pub written_whatever_stood : (ver : Version) (given records : Words) (text o p : Octets) (t u c d : Words) (a b : ℕ) (o' p' : Octets) (t' u' c' d' : Words) → length o ≡ length p → length t ≡ length u → length c ≡ length d
    → leaving a o' t' c' ≡ write_words ver given records text (length o) (length t) (length c) → leaving b p' u' d' ≡ write_words ver given records text (length p) (length u) (length d)
    → leaving a o' t' c' ≡ leaving b p' u' d'
written_whatever_stood ver given records text o p t u c d a b o' p' t' u' c' d' l m n x y = x ∙ rw (l, m, n) (sym y)

--     The same of measuring.
pub measured_whatever_stood : (ver : Version) (given records : Words) (text : Octets) (t u c d : Words) (a b : ℕ) (t' u' c' d' : Words) → length t ≡ length u → length c ≡ length d
    → measured a t' c' ≡ measure_words ver given records text (length t) (length c) → measured b u' d' ≡ measure_words ver given records text (length u) (length d) → measured a t' c' ≡ measured b u' d'
measured_whatever_stood ver given records text t u c d a b t' u' c' d' m n x y = x ∙ rw (m, n) (sym y)
