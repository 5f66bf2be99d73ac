-- MEASURING: what is answered with room for the longest document says what is answered with any room. A run in less room goes as that one does, up to the
-- first event behind which more is taken than is lent.
use Prim.Native.Nat.{ℕ, zero, suc, ◌+◌, ◌-◌, ◌*◌, ◌/◌, ◌%◌, ◌^◌, ◌≤◌, ◌<◌, min}
use mathlib.Core.Path.{◌≡◌, refl, sym, ap, ◌∙◌}
use mathlib.Core.Bool.{Bool, true, false, ◌&&◌, ◌||◌}
use mathlib.Core.List.{List, [], ◌∷◌, ◌++◌}
use native.Mathlib.Omega.{arith}
use borrow.Author.Tests.{leb-true, leb-false, eqb-true, lt-ltb, le-ltb}
use lib.Dec.{eqb, leb, ltb}
use lib.ListN.{length, replicate, length-append}
use Rattle.format.specs.Octets.{Octets, Halves, Words}
use Rattle.format.specs.Numbers.{pick}
use Rattle.format.specs.Events.{Item, ◌by◌}
use Rattle.format.specs.Tables.{Version}
use Rattle.format.specs.Items.{State}
use Rattle.format.specs.Document.{pad, aligned, beginning}
use Rattle.tables.specs.Located.{Located}
use Rattle.tables.specs.Counts.{table_words}
use Rattle.events.specs.declared.Event.{Event}
use Rattle.events.specs.FromWords.{records_of}
use Rattle.write_names.specs.Choices.{within}
use Rattle.write_head.specs.Given.{Given, is_given, given_of}
use Rattle.write_head.specs.Head.{is_none, tables_of, well_given, text_given, new_given, few_given, head_octets, fault_of_head}
use Rattle.write_items.specs.Events.{well_made, event_of, is_content, goes_on, all_text}
use Rattle.write_items.specs.Items.{WroteItem, write_item}
use Rattle.write_items.specs.Steps.{announced, settled, opens, fits, halves_of, judge, joined}
use Rattle.writer.specs.Writing.{Result, written, refusal, plus, finish, run}
use Rattle.writer.specs.Writing.{outcome, writing, write_of}
use Rattle.writer.specs.Words.{WordsLeft, WordsMeasured, leaving, nothing, in_words, write_words, measured, measure_words}
use Rattle.theorems.specs.Measures.{taken, taken_by, first_above, RefusesToo, Measures}
use Rattle.theorems.proofs.Lists.{align_is, aligned_ge, pad-length}

-- ---- lengths
-- (the writer has this law, too, among those for its code; no theorem rests on these)
joined_length : (hs : Halves) → length (joined hs) ≡ (length hs + 1) / 2
unfolding joined
joined_length [] = refl
joined_length (h ∷ []) = refl
joined_length (h ∷ l ∷ hs) = let i = joined_length hs in omega arith

-- a document that ends with a whole octet has half as many octets as halves
whole_length : (lead : Octets) (hs : Halves) → (2 * length lead + length hs) % 2 ≡ 0 → (2 * length lead + length hs) / 2 ≡ length (lead ++ joined hs)
whole_length lead hs even = let l = length-append lead (joined hs) in let j = joined_length hs in omega arith

-- ---- the longest room, and a room of r octets
module _ (ver : Version) (text : Octets) (r : ℕ) where
  -- m octets, in the one and in the other
  data Room (m : ℕ) : (big small : Bool) → Type 0 where
    both : m ≤ r → m ≤ ver.octets → Room m true true
    first : r < m → m ≤ ver.octets → Room m true false
    none : ver.octets < m → Room m false false

  abbrev most : ℕ
  most = min ver.octets ver.octets

  abbrev lent : ℕ
  lent = min r ver.octets

  room : (m : ℕ) → Room m (leb m most) (leb m lent)
  room m = from _ _ refl refl
    where
      from : (a b : Bool) → leb m most ≡ a → leb m lent ≡ b → Room m a b
      from true true p q = let h = leb-true m most p in let k = leb-true m lent q in both (omega arith) (omega arith)
      from true false p q = let h = leb-true m most p in let k = leb-false m lent q in first (omega arith) (omega arith)
      from false true p q = let h = leb-false m most p in let k = leb-true m lent q in absurd (omega arith)
      from false false p q = let h = leb-false m most p in none (omega arith)

  -- one event that takes m octets: right in both; right, but too long for r; refused by the same number
  data Verdicts (m : ℕ) : (big small : ℕ) → Type 0 where
    right : m ≤ r → m ≤ ver.octets → Verdicts m 0 0
    full : r < m → m ≤ ver.octets → Verdicts m 0 14
    wrong : (n : ℕ) → n < 31 → Verdicts m (suc n) (suc n)

  room_verdicts : {m : ℕ} {a b : Bool} → Room m a b → Verdicts m (pick a 0 14) (pick b 0 14)
  room_verdicts (both h k) = right h k
  room_verdicts (first h k) = full h k
  room_verdicts (none h) = wrong 13 (omega arith)

  verdicts : (at : ℕ) (v : State Located) (e : Event) (w : WroteItem) (hs : Halves)
      → Verdicts (aligned (at + length hs) / 2) (judge ver text ver.octets at v e w hs) (judge ver text r at v e w hs)
  unfolding judge fits
  verdicts at v e w hs =
      from (well_made text e.kind e && goes_on v (event_of e.kind e)) (all_text text (event_of e.kind e))
      (opens v.mode (event_of e.kind e) && leb ver.depth v.level) (within ver w.state.tables) (room (aligned (at + length hs) / 2))
    where
      from : {m : ℕ} {a b : Bool} (b1 b2 b3 b4 : Bool) → Room m a b
          → Verdicts m (pick b1 (pick b2 (pick b3 13 (pick b4 (pick a 0 14) 12)) 9) 16) (pick b1 (pick b2 (pick b3 13 (pick b4 (pick b 0 14) 12)) 9) 16)
      from false b2 b3 b4 h = wrong 15 (omega arith)
      from true false b3 b4 h = wrong 8 (omega arith)
      from true true true b4 h = wrong 12 (omega arith)
      from true true false false h = wrong 11 (omega arith)
      from true true false true h = room_verdicts h

  -- the halves hs, from the half `at` to the document's end, within the longest room
  abbrev Ends : (at : ℕ) → Halves → Type 0
  Ends at hs = ((at + length hs) % 2 ≡ 0) × (1 ≤ length hs) × ((at + length hs) / 2 ≤ ver.octets)

  -- Two results from the half `at` and the event i on, where event i + f is the first behind which more than r octets are taken.
  data Runs (at i f : ℕ) : (big small : Result) → Type 0 where
    fits_too : (is : List (Item Located)) (hs : Halves) (z : State Located) → Ends at hs → (at + length hs) / 2 ≤ r
        → Runs at i f (written is hs z) (written is hs z)
    too_long : (is : List (Item Located)) (hs : Halves) (z : State Located) (q : ℕ) → Ends at hs → r < (at + length hs) / 2 → q ≡ i + f
        → Runs at i f (written is hs z) (refusal 14 q)
    alike : (n p : ℕ) → n < 31 → i ≤ p → p ≤ i + f → Runs at i f (refusal (suc n) p) (refusal (suc n) p)
    sooner : (n p q : ℕ) → n < 31 → r < ver.octets → q ≡ i + f → q < p → Runs at i f (refusal (suc n) p) (refusal 14 q)

  -- the document's end
  finishes : (at : ℕ) (v : State Located) (i : ℕ)
      → Runs at i (first_above r ((aligned (suc at) / 2) ∷ [])) (finish ver text ver.octets at v i) (finish ver text r at v i)
  unfolding finish fits first_above
  finishes at v i = from (is_content v.mode && (eqb v.level 0 && v.root)) (room (aligned (suc at) / 2))
    where
      end : Halves
      end = 15 ∷ pad (suc at)

      -- what is answered, by whether the end may stand here and whether it fits
      result : (t a : Bool) → Result
      result t a = pick t (pick a (written [] end v) (refusal 14 i)) (refusal 16 i)

      from : {a b : Bool} (t : Bool) → Room (aligned (suc at) / 2) a b → Runs at i (pick (ltb r (aligned (suc at) / 2)) 0 1) (result t a) (result t b)
      from false h = alike 15 i (omega arith) (omega arith) (omega arith)
      from true (both h k) = let p = pad-length (suc at) in let a = align_is (suc at) in fits_too [] end v (omega arith) (omega arith)
      from true (first h k) =
          let p = pad-length (suc at) in
          let a = align_is (suc at) in
          rw (lt-ltb _ _ h) (too_long [] end v i (omega arith) (omega arith) (omega arith))
      from true (none h) = alike 13 i (omega arith) (omega arith) (omega arith)

  module _ (item : Item Located) (own : Halves) (at i f : ℕ) where
    -- an event in front of the rest
    in_front : {x y : Result} → aligned (at + length own) / 2 ≤ r → Runs (at + length own) (suc i) f x y
        → Runs at i (suc f) (plus item own x) (plus item own y)
    in_front h (fits_too is hs z k l) = let a = length-append own hs in fits_too (item ∷ is) (own ++ hs) z (omega arith) (omega arith)
    in_front h (too_long is hs z q k l e) = let a = length-append own hs in too_long (item ∷ is) (own ++ hs) z q (omega arith) (omega arith) (omega arith)
    in_front h (alike n p small k l) = alike n p small (omega arith) (omega arith)
    in_front h (sooner n p q small k e l) = sooner n p q small k (omega arith) l

    -- the first event behind which more than r octets are taken: the whole takes no less
    too_much : {x y : Result} → r < aligned (at + length own) / 2 → aligned (at + length own) / 2 ≤ ver.octets → Runs (at + length own) (suc i) f x y
        → Runs at i 0 (plus item own x) (refusal 14 i)
    unfolding aligned
    too_much h o (fits_too is hs z k l) = let a = length-append own hs in too_long (item ∷ is) (own ++ hs) z i (omega arith) (omega arith) (omega arith)
    too_much h o (too_long is hs z q k l e) = let a = length-append own hs in too_long (item ∷ is) (own ++ hs) z i (omega arith) (omega arith) (omega arith)
    too_much h o (alike n p small k l) = sooner n p i small (omega arith) (omega arith) (omega arith)
    too_much h o (sooner n p q small k e l) = sooner n p i small (omega arith) (omega arith) (omega arith)

    -- what is answered, by the verdict on the event and the result of the rest
    abbrev by_verdict : ℕ → Result → Result
    by_verdict n x = elim n [ zero ↦ plus item own x | suc k ↦ refusal (suc k) i ]

    turned : {x y : Result} {a b : ℕ} → Verdicts (aligned (at + length own) / 2) a b → Runs (at + length own) (suc i) f x y
        → Runs at i (pick (ltb r (aligned (at + length own) / 2)) 0 (suc f)) (by_verdict a x) (by_verdict b y)
    turned (right h k) u = rw (le-ltb _ _ h) (in_front h u)
    turned (full h k) u = rw (lt-ltb _ _ h) (too_much h k u)
    turned (wrong n l) u = alike n i l (omega arith) (omega arith)

  -- (halves_of is opened so that its halves are seen to be the same in every room)
  runs : (es : List Event) (at : ℕ) (v : State Located) (i : ℕ)
      → Runs at i (first_above r (taken ver text at v es)) (run ver text ver.octets at v i es) (run ver text r at v i es)
  unfolding run taken first_above halves_of
  runs [] at v i = finishes at v i
  runs (e ∷ es) at v i =
      let w : WroteItem = write_item ver text (announced (e ∷ es)) (settled v (event_of e.kind e)) (event_of e.kind e) in
      let hs : Halves = halves_of ver text ver.octets at v (event_of e.kind e) w in
      turned (event_of e.kind e by w.choice) hs at i _ (verdicts at v e w hs) (runs es (at + length hs) w.state (suc i))

  -- ---- behind a head
  module _ (g : Given) where
    abbrev lead : Octets
    lead = head_octets ver text g

    data Heads : (big small : ℕ) → Type 0 where
      right_head : Heads 0 0
      long_head : is_none g ≡ false → r < length lead → length lead ≤ ver.octets → Heads 0 14
      wrong_head : (n : ℕ) → n < 31 → Heads (suc n) (suc n)

    heads : Heads (fault_of_head ver text g ver.octets) (fault_of_head ver text g r)
    unfolding fault_of_head
    heads = from (well_given ver text g) (text_given ver text g) (new_given ver text g) (few_given ver text g) (is_none g) refl (room (length lead))
      where
        from : {a b : Bool} (b1 b2 b3 b4 n : Bool) → is_none g ≡ n → Room (length lead) a b
            → Heads (pick b1 (pick b2 (pick b3 (pick b4 (pick (n || a) 0 14) 12) 11) 9) 16)
            (pick b1 (pick b2 (pick b3 (pick b4 (pick (n || b) 0 14) 12) 11) 9) 16)
        from false b2 b3 b4 n q h = wrong_head 15 (omega arith)
        from true false b3 b4 n q h = wrong_head 8 (omega arith)
        from true true false b4 n q h = wrong_head 10 (omega arith)
        from true true true false n q h = wrong_head 11 (omega arith)
        from true true true true true q h = right_head
        from true true true true false q (both h k) = right_head
        from true true true true false q (first h k) = long_head q h k
        from true true true true false q (none h) = wrong_head 13 (omega arith)

    module _ (es : List Event) where
      abbrev f : ℕ
      f = first_above r (taken_by ver text g es)

      -- Two results of the whole.
      data Writes : (big small : Result) → Type 0 where
        body : {x y : Result} → Runs (2 * length lead) 0 f x y → Writes x y
        no_head : (n p : ℕ) → n < 31 → p ≡ 0 → is_none g ≡ false → r < length lead → r < ver.octets → Writes (refusal (suc n) p) (refusal 14 0)

      -- behind the first event the head is taken, too
      none_before : (l : ℕ) (v : State Located) (es : List Event) → r < l → first_above r (taken ver text (2 * l) v es) ≡ 0
      unfolding taken first_above
      none_before l v [] h = let a = aligned_ge (suc (2 * l)) in let k : r < aligned (suc (2 * l)) / 2 = omega arith in rw (lt-ltb _ _ k)
      none_before l v (e ∷ es) h =
          let w : WroteItem = write_item ver text (announced (e ∷ es)) (settled v (event_of e.kind e)) (event_of e.kind e) in
          let hs : Halves = halves_of ver text ver.octets (2 * l) v (event_of e.kind e) w in
          let a = aligned_ge (2 * l + length hs) in
          let k : r < aligned (2 * l + length hs) / 2 = omega arith in
          rw (lt-ltb _ _ k)

      headless : {x y : Result} → is_none g ≡ false → r < length lead → length lead ≤ ver.octets → f ≡ 0 → Runs (2 * length lead) 0 f x y
          → Writes x (refusal 14 0)
      headless some h k e (fits_too is hs z ends l) = absurd (omega arith)
      headless some h k e (too_long is hs z q ends l o) = body (too_long is hs z 0 ends l (omega arith))
      headless some h k e (alike n p small o l) = no_head n p small (omega arith) some h (omega arith)
      headless some h k e (sooner n p q small o i l) = body (sooner n p 0 small o (omega arith) (omega arith))

      writes : Writes (writing ver g text ver.octets es) (writing ver g text r es)
      unfolding writing taken_by
      writes = from heads (runs es (2 * length lead) (beginning (tables_of ver g)) 0)
        where
          from : {a b : ℕ} {x y : Result} → Heads a b → Runs (2 * length lead) 0 f x y
              → Writes (elim a [ zero ↦ x | suc n ↦ refusal (suc n) 0 ]) (elim b [ zero ↦ y | suc n ↦ refusal (suc n) 0 ])
          from right_head u = body u
          from (long_head some h k) u = headless some h k (none_before (length lead) (beginning (tables_of ver g)) es h) u
          from (wrong_head n l) u = body (alike n 0 l (omega arith) (omega arith))

-- ---- in words
module _ (ver : Version) (given records : Words) (text : Octets) (t c : ℕ) where
  abbrev before : Octets
  before = head_octets ver text (given_of given)

  abbrev small : ℕ → Result
  small r = writing ver (given_of given) text r (records_of records)

  abbrev left : ℕ → WordsLeft
  left r = write_words ver given records text r t c

  abbrev worded : Result → ℕ → WordsLeft
  worded x r = in_words (outcome ver before x r)

  -- What is asked before the head is the same in every room.
  data Asked : Type 0 where
    asked : (k : ℕ) → 0 < k → k < 32 → ((r : ℕ) → left r ≡ nothing k r t c) → Asked
    goes : t ≡ table_words → c ≡ 10 → ((r : ℕ) → left r ≡ worded (small r) r) → Asked

  asks : Asked
  unfolding write_words write_of in_words
  asks = from (leb (length text) ver.octets) (eqb c 10) (eqb t table_words) (is_given given) refl refl refl refl
    where
      from : (b1 b2 b3 b4 : Bool) → leb (length text) ver.octets ≡ b1 → eqb c 10 ≡ b2 → eqb t table_words ≡ b3 → is_given given ≡ b4 → Asked
      from false b2 b3 b4 e1 e2 e3 e4 = asked 1 (omega arith) (omega arith) (λ r. rw e1)
      from true false b3 b4 e1 e2 e3 e4 = asked 14 (omega arith) (omega arith) (λ r. rw (e1, e2))
      from true true false b4 e1 e2 e3 e4 = asked 14 (omega arith) (omega arith) (λ r. rw (e1, eqb-true c 10 e2, e3))
      from true true true false e1 e2 e3 e4 = asked 16 (omega arith) (omega arith) (λ r. rw (e1, eqb-true c 10 e2, e3, e4))
      from true true true true e1 e2 e3 e4 = goes (eqb-true t table_words e3) (eqb-true c 10 e2) (λ r. rw (e1, e2, e3, e4))

  abbrev Promise : Type 0
  Promise = Measures ver given records text t c

  abbrev beside : WordsLeft → WordsMeasured
  beside w = measured w.answer w.tables w.counts

  abbrev Both : ℕ → Result → Result → Type 0
  Both r x y = Writes ver text r (given_of given) (records_of records) x y

  same_beside : (r : ℕ) (x y : Result) → Both r x y → ver.octets ≤ r → beside (worded y r) ≡ beside (worded x ver.octets)
  unfolding in_words
  same_beside r x y (body (fits_too is hs z ends l)) h = refl
  same_beside r x y (body (too_long is hs z q ends l e)) h = absurd (omega arith)
  same_beside r x y (body (alike n p l o k)) h = refl
  same_beside r x y (body (sooner n p q l o e k)) h = absurd (omega arith)
  same_beside r x y (no_head n p l e some k o) h = absurd (omega arith)

  module _ (a : t ≡ table_words) (b : c ≡ 10) (e : (r : ℕ) → left r ≡ worded (small r) r) where
    -- a refusal leaves nothing
    refused_words : (n p r k : ℕ) → p * 32 + n ≡ k → worded (refusal n p) r ≡ nothing k r t c
    unfolding in_words
    refused_words n p r k q = let whole : 0 * 2 ^ 32 + (p * 32 + n) ≡ k = omega arith in rw (a, b) (ap (λ (m : ℕ). nothing m r table_words 10) whole)

    -- what is written in the longest room
    module _ (is : List (Item Located)) (hs : Halves) (z : State Located) where
      abbrev document : Octets
      document = before ++ joined hs

      abbrev longest : WordsLeft
      longest = worded (written is hs z) ver.octets

      short : (r : ℕ) (y : Result) → Both r (written is hs z) y → length document ≤ ver.octets
      short r y (body (fits_too _ _ _ ends l)) = let w = whole_length before hs ends.0 in omega arith
      short r y (body (too_long _ _ _ q ends l o)) = let w = whole_length before hs ends.0 in omega arith

      left-whole : (r : ℕ) (y : Result) → Both r (written is hs z) y → length document ≤ r
          → worded y r ≡ leaving longest.answer (document ++ replicate (r - length document) 0) longest.tables longest.counts
      unfolding in_words
      left-whole r y (body (fits_too _ _ _ ends l)) h = refl
      left-whole r y (body (too_long _ _ _ q ends l o)) h = let w = whole_length before hs ends.0 in absurd (omega arith)

      left-nothing : (r : ℕ) (y : Result) → Both r (written is hs z) y → r < length document
          → worded y r ≡ nothing (first_above r (taken_by ver text (given_of given) (records_of records)) * 32 + 14) r t c
      left-nothing r y (body (fits_too _ _ _ ends l)) h = let w = whole_length before hs ends.0 in absurd (omega arith)
      left-nothing r y (body (too_long _ _ _ q ends l o)) h = refused_words 14 q r _ (omega arith)

      if_written : ((r : ℕ) → Both r (written is hs z) (small r)) → left ver.octets ≡ longest → Promise
      unfolding measure_words in_words
      if_written each here =
          let answer : (left ver.octets).answer ≡ length document * 2 ^ 32 + 0 = ap (λ (w : WordsLeft). w.answer) here in
          let l = short _ _ (each 0) in
          record {
            same = λ r h. ap beside (e r) ∙ same_beside r _ _ (each r) h ∙ sym (ap beside here);
            enough = λ n q.
                let m : length document ≡ n = omega arith in
                (document, m, omega arith, λ r h. rw (← q, ← m, here) (e r ∙ left-whole r _ (each r) (omega arith)));
            less = λ n q r h. e r ∙ left-nothing r _ (each r) (omega arith);
            refuses = λ k q h r. absurd (omega arith);
          }

    -- what is refused in the longest room
    numbered : (n p r : ℕ) (y : Result) → Both r (refusal n p) y → (1 ≤ n) × (n < 32)
    numbered n p r y (body (alike m _ l o h)) = omega arith
    numbered n p r y (body (sooner m _ i l o j h)) = omega arith
    numbered n p r y (no_head m _ l z some h o) = omega arith

    refused_too : (n p r k : ℕ) (y : Result) → Both r (refusal n p) y → left r ≡ worded y r → p * 32 + n ≡ k → RefusesToo ver given records text t c k r
    refused_too n p r k y (body (alike m _ l o h)) w q = RefusesToo.alike (omega arith) (w ∙ refused_words n p r k q)
    refused_too n p r k y (body (sooner m _ i l o j h)) w q = RefusesToo.sooner (omega arith) (w ∙ refused_words 14 i r _ (omega arith))
    refused_too n p r k y (no_head m _ l z some h o) w q = RefusesToo.head (omega arith) some h (w ∙ refused_words 14 0 r 14 refl)

    if_refused : (n p : ℕ) → ((r : ℕ) → Both r (refusal n p) (small r)) → left ver.octets ≡ worded (refusal n p) ver.octets → Promise
    unfolding measure_words
    if_refused n p each here =
        let answer : (left ver.octets).answer ≡ p * 32 + n = ap (λ (w : WordsLeft). w.answer) (here ∙ refused_words n p ver.octets _ refl) in
        let l = numbered n p _ _ (each 0) in
        record {
          same = λ r h. ap beside (e r) ∙ same_beside r _ _ (each r) h ∙ sym (ap beside here);
          enough = λ m q. absurd (omega arith);
          less = λ m q. absurd (omega arith);
          refuses = λ k q h r. refused_too n p r k _ (each r) (e r) (sym answer ∙ q);
        }

    if_asked : (x : Result) → ((r : ℕ) → Both r x (small r)) → left ver.octets ≡ worded x ver.octets → Promise
    if_asked (written is hs z) each here = if_written is hs z each here
    if_asked (refusal n p) each here = if_refused n p each here

  pub measures : Measures ver given records text t c
  unfolding measure_words
  measures = from asks
    where
      from : Asked → Measures ver given records text t c
      from (asked k some low e) =
          let answer : (left ver.octets).answer ≡ k = ap (λ (w : WordsLeft). w.answer) (e ver.octets) in
          record {
            same = λ r h. ap beside (e r) ∙ sym (ap beside (e ver.octets));
            enough = λ n q. absurd (omega arith);
            less = λ n q. absurd (omega arith);
            refuses = λ j q h r. RefusesToo.alike (omega arith) (e r ∙ ap (λ (m : ℕ). nothing m r t c) (sym answer ∙ q));
          }
      from (goes a b e) = if_asked a b e (small ver.octets) (λ r. writes ver text r (given_of given) (records_of records)) (e ver.octets)
