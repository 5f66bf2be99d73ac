-- The quick lane: what words say of a record that is an End or the same as another, that a record it takes is an event of the run, and what it remembers.
-- Assumes nothing.
use mathlib.Core.Path.{◌≡◌, refl, sym, ap, subst, ◌∙◌}
use mathlib.Core.Bool.{Bool, true, false, not, ◌&&◌}
use mathlib.Core.List.{List, [], ◌∷◌, ◌++◌}
use Prim.Native.Nat.{ℕ, zero, suc, ◌+◌, ◌*◌, ◌/◌, ◌%◌, ◌≤◌, ◌<◌}
use native.Mathlib.Nat.{le-min}
use native.Mathlib.Numerals.{add-one}
use native.Mathlib.Omega.{arith}
use borrow.Author.Tests.{le-leb, lt-leb, lt-ltb}
use lib.ListN.{length, get_or, drop, set, replicate}
use Rattle.format.specs.Numbers.{pick, spell, numbers, sizes}
use Rattle.format.specs.Events as E
use Rattle.format.specs.Tables.{Vocabulary, ELEMENT_NAME, names, link}
use Rattle.format.specs.Strings.{bit}
use Rattle.format.specs.Items as F
use Rattle.format.specs.declared.refusals.Refusal.{Refusal}
use Rattle.std.specs.Prelude as Std
use Rattle.std.specs.Prelude.{Ok, Err}
use Rattle.format.specs.Document.{aligned}
use Rattle.fields.specs.PutContracts.{Puts}
use Rattle.fields.proofs.Numbers.{numbers_ordered}
use Rattle.fields.proofs.RoundTrip.{some_first}
use Rattle.tables.specs.Located.{Located}
use Rattle.events.specs.declared.Kind.{Kind}
use Rattle.events.specs.declared.Kind.TheVariants.{Start}
use Rattle.events.specs.declared.Event.{Event}
use Rattle.events.specs.Records.{blank, placed, unplaced, end_record}
use Rattle.events.specs.FromWords.{kind_of, told_by_tag, told_by, told_at, record_at, records_of, begins_with}
use Rattle.events.proofs.FromWords.{records_length, record_nth, records_drop}
use Rattle.events.proofs.WordLaws.{same_event}
use Rattle.events.proofs.BlankWords.{all_alike}
use Rattle.write_names.specs.Choices.{within}
use Rattle.write_items.specs.Events.{is_name, no_name, well_made, event_of, is_listing, goes_on, all_text, name_of}
use Rattle.write_items.specs.Promises.{fault_of}
use Rattle.write_items.specs.Items.{write_item}
use Rattle.write_items.specs.Steps.{announced, is_attribute, is_end, settled, fits}
use Rattle.write_items.specs.OutputContracts.{Grown}
use Rattle.write_items.specs.StepContracts.{item_of, halves_for, verdict}
use Rattle.write_items.proofs.Faults.{Faultless, fault_free, fault_none, judge_fault, judge_none}
use Rattle.write_items.proofs.OutputLaws.{held_size, end_written, item_written}
use Rattle.writer.specs.declared.lane.Lane.{Lane}
use Rattle.writer.specs.declared.lane.Taken.{Taken}
use Rattle.writer.specs.declared.lane.Taken.TheVariants as T
use Rattle.writer.specs.Writing.{Outcome}
use Rattle.writer.specs.RunContracts.{behind}
use Rattle.writer.specs.LaneContracts.{SameWords, Known, Taught, Remembered, Filed, Kept, standing, OnWay, Recalled, Passes, Ahead, Takes, listed, Started, Ended, Named, Passable, Passed, Safe}
use Rattle.writer.proofs.AheadLaws.{attribute_first}
use Rattle.writer.proofs.RunLaws.{behind_on, refusal_some}
use Rattle.writer.proofs.KnownLaws.{Extends, extends_item, known_kept, known_written, known_new}

-- ---- records by their words
module _ (w : List ℕ) (at : ℕ) where
  pub end_words : get_or w at 0 ≡ 7 → SameWords w (at + 1) (replicate 3 0) 0 → SameWords w (at + 4) (replicate 3 0) 0 → SameWords w (at + 7) (replicate 3 0) 0
      → SameWords w (at + 10) (replicate 3 0) 0 → record_at w at ≡ placed (get_or w (at + 13) 0) end_record
  unfolding record_at told_by told_by_tag kind_of
  end_words k p n l v =
      rw (k, p.first, p.second, p.third, n.first, n.second, n.third, l.first, l.second, l.third, v.first, v.second, v.third)

same-told : (w : List ℕ) (a b : ℕ) → SameWords w a w b → told_at w a ≡ told_at w b
same-told w a b s = rw (s.first, s.second, s.third)

pub same-words : (w : List ℕ) (a b : ℕ) → get_or w a 0 ≡ get_or w b 0 → SameWords w (a + 1) w (b + 1) → SameWords w (a + 4) w (b + 4) → SameWords w (a + 7) w (b + 7) → SameWords w (a + 10) w (b + 10)
    → unplaced (record_at w a) ≡ unplaced (record_at w b)
same-words w a b k p n l v =
    same_event w w a b k (same-told w (a + 1) (b + 1) p) (same-told w (a + 4) (b + 4) n) (same-told w (a + 7) (b + 7) l) (same-told w (a + 10) (b + 10) v)

-- ---- an event of the run
-- the attribute bit at the lane's next record e
abbrev bit_ahead : List Event → Lane → Event → Bool
bit_ahead es l e = announced (e ∷ drop (suc l.i) es)

bit-listed : (es : List Event) (i : ℕ) (e : Event) → e.kind ≡ Start → announced (e ∷ drop (suc i) es) ≡ begins_with 3 (drop (i + 1) es)
unfolding announced
bit-listed es i e k = rw (k, add-one i) (attribute_first (drop (suc i) es))

pub near_fits : (text : List ℕ) (room n : ℕ) → (n + 1) / 2 ≤ room → (n + 1) / 2 ≤ 16384 → fits link text room n ≡ true
unfolding fits link aligned
near_fits text room n r m = let a : (n + n % 2) / 2 ≤ room = omega arith in let b : (n + n % 2) / 2 ≤ 16384 = omega arith in le-leb _ _ (le-min a b)

start_no_end : (k : Kind) (e : Event) → k ≡ Start → is_end (event_of k e) ≡ false
unfolding event_of
start_no_end k e q = rw q

module _ (to : Outcome) (text : List ℕ) (room : ℕ) (es : List Event) (v : Vocabulary Located) (in_tables : within link v ≡ true) where
  taken : {l l' : Lane} {out out' : List ℕ} {e : Event} (o : OnWay to text room es v l out) → drop l.i es ≡ e ∷ drop (suc l.i) es
      → Faultless text (standing v l) e → (item_of text (bit_ahead es l e) (standing v l) e).state ≡ standing v l'
      → Grown (length out) o.hs (halves_for text room (bit_ahead es l e) l.at (standing v l) e) l.at l'.at out' → fits link text room l'.at ≡ true → l'.i ≡ l.i + 1 → l.at < l'.at
      → OnWay to text room es v l' out'
  unfolding verdict
  taken {l} {l'} {out} {e = e} o d f s g t n m =
      let j : verdict text room (bit_ahead es l e) l.at (standing v l) e ≡ 0 =
      judge_none text (standing v l) e room l.at _ _ (sym (fault_free text (standing v l) e f.made f.goes f.texts f.shallow)) ∙ rw (s, in_tables, ← g.place, t) in
      let b = o.small in
      record {
        hs = o.hs ++ halves_for text room (bit_ahead es l e) l.at (standing v l) e;
        holds = rw (g.place, held_size g.holds) g.holds;
        small = omega arith;
        leads = rw (← s, g.place, n, add-one l.i, held_size g.holds) (sym (behind_on text room l.at (standing v l) e (drop (suc l.i) es) l.i o.hs (length out) j) ∙ (rw d at o.leads));
      }

  module _ {l : Lane} {out : List ℕ} (among : l.listing ≡ false) (inside : 0 < l.level) (room-left : l.at / 2 + 5 ≤ room) (limit : l.at / 2 + 5 ≤ 16384) (o : OnWay to text room es v l out) where
    pub end_taken : {l' : Lane} {out' : List ℕ} (place : ℕ) → drop l.i es ≡ placed place end_record ∷ drop (suc l.i) es → Ended l out l' out' → OnWay to text room es v l' out'
    unfolding well_made no_name goes_on all_text event_of item_of settled write_item halves_for
    end_taken place d p =
        rw p.is
        (taken o d
        (record { made = refl; goes = rw (among, lt-ltb 0 l.level inside); texts = refl; shallow = refl })
        (rw among)
        (end_written text room (standing v l) E.End _ o.holds (rw among) refl p.puts)
        (near_fits text room (l.at + 1) (omega arith) (omega arith))
        refl
        (omega arith))

    module _ {e : Event} {k : ℕ} (t : Taught text v e k) where
      start_faultless : l.level < 32 → Faultless text (standing v l) e
      unfolding goes_on F.may_start all_text event_of link
      start_faultless h =
          record {
            made = ap (λ (x : Kind). well_made text x e) t.kind ∙ t.made;
            goes = rw (t.kind, among, lt-ltb 0 l.level inside);
            texts = rw t.kind t.texts;
            shallow = rw (t.kind, among, lt-leb 32 l.level h);
          }

      module _ (b : Bool) where
        start_state : (item_of text b (standing v l) e).state ≡ record { tables = v; level = l.level + 1; root = true; mode = F.after_start b }
        unfolding event_of item_of settled write_item
        start_state = rw (t.kind, among, (known_written (64 * bit b) t.known).1, add-one l.level)

        start-octets : (item_of text b (standing v l) e).octets ≡ spell (numbers 3) (64 * bit b) k
        unfolding event_of item_of settled write_item
        start-octets = rw (t.kind, among) (known_written (64 * bit b) t.known).0

        start-grown : {octet : ℕ} {out' : List ℕ} → Puts out (aligned l.at / 2) octet out' (spell (numbers 3) (64 * bit b) k)
            → Grown (length out) o.hs (halves_for text room b l.at (standing v l) e) l.at (2 * octet) out'
        unfolding halves_for
        start-grown p = item_written text room (standing v l) (event_of e.kind e) (item_of text b (standing v l) e) o.holds (rw among) (start_no_end e.kind e t.kind) (rw start-octets p)

        start_some : 1 ≤ length (spell (numbers 3) (64 * bit b) k)
        unfolding sizes numbers
        start_some = let h = t.known.held in let f = t.few in some_first (numbers 3) (64 * bit b) k (numbers_ordered 3 (omega arith) (omega arith)) (omega arith) (omega arith)

      pub start_taken : {l' : Lane} {out' : List ℕ} → l.level < 32 → drop l.i es ≡ e ∷ drop (suc l.i) es → (b : Bool) → b ≡ bit_ahead es l e → (octet : ℕ)
          → Puts out (aligned l.at / 2) octet out' (spell (numbers 3) (64 * bit b) k) → octet ≤ aligned l.at / 2 + 4
          → l' ≡ record { at = 2 * octet; level = l.level + 1; i = l.i + 1; listing = b } → OnWay to text room es v l' out'
      unfolding aligned
      start_taken h d b q octet p few is =
          let n = start_some b in
          let behind = p.behind in
          rw is
          (taken o d (start_faultless h) (rw (← q) (start_state b)) (rw (← q) (start-grown b p)) (near_fits text room (2 * octet) (omega arith) (omega arith)) refl (omega arith))

-- ---- what is next is passed
-- what is taught of a record does not look at its place
module _ (text : List ℕ) (v : Vocabulary Located) (k : ℕ) where
  taught_unplaced : (e : Event) → Taught text v e k → Taught text v (unplaced e) k
  unfolding well_made is_name
  taught_unplaced e t = record { kind = t.kind; made = t.made; texts = t.texts; few = t.few; known = t.known }

  taught_placed : (e : Event) → Taught text v (unplaced e) k → Taught text v e k
  unfolding well_made is_name
  taught_placed e t = record { kind = t.kind; made = t.made; texts = t.texts; few = t.few; known = t.known }

  taught_same : (e f : Event) → unplaced e ≡ unplaced f → Taught text v f k → Taught text v e k
  taught_same e f q t = taught_placed e (rw q (taught_unplaced f t))

module _ (w memory : List ℕ) (i : ℕ) {k : ℕ} (c : Recalled w memory i k) where
  taught_here : (text : List ℕ) (v : Vocabulary Located) → Remembered (records_of w) text v memory → Taught text v (record_at w (14 * i)) k
  unfolding Remembered
  taught_here text v r =
      let m = r c.slot c.filled in
      let h = m.0 in
      let e = records_length w in
      let q = record_nth w (get_or memory c.slot 0 / 512) (omega arith) in
      taught_same text v k (record_at w (14 * i)) (record_at w (14 * (get_or memory c.slot 0 / 512))) c.same (rw (← c.number, ← q) m.1)

module _ (w memory : List ℕ) (room : ℕ) {l l' : Lane} {out out' : List ℕ} (a : Ahead w l room) where
  pub end_passes : Takes w memory l T.End → Ended l out l' out' → Passes w memory room l out l' out'
  end_passes t p to text v in_tables r o =
      end_taken to text room (records_of w) v in_tables a.among a.inside a.fits a.limit o (get_or w (14 * l.i + 13) 0) (records_drop w l.i a.there ∙ rw t) p

  pub start_passes : {k : ℕ} → Takes w memory l (T.Start k) → Started w l out k l' out' → Passes w memory room l out l' out'
  start_passes n p to text v in_tables r o =
      let t = taught_here w memory l.i n.0 text v r in
      start_taken to text room (records_of w) v in_tables a.among a.inside a.fits a.limit o t n.1 (records_drop w l.i a.there) _
      (sym (bit-listed (records_of w) l.i (record_at w (14 * l.i)) t.kind)) p.octet p.puts p.few p.is

-- ---- each way out of the code
module _ (w : List ℕ) {l : Lane} {out : List ℕ} (k : ℕ) where
  pub started : {l' : Lane} {out' : List ℕ} {a : Bool} {lead octet : ℕ} → a ≡ listed w l.i → lead ≡ 64 * bit a → Puts out ((l.at + 1) / 2) octet out' (spell (numbers 3) lead k)
      → octet ≤ (l.at + 1) / 2 + 4 → l' ≡ record { at = 2 * octet; level = l.level + 1; i = l.i + 1; listing = a } → Started w l out k l' out'
  unfolding aligned
  started {octet = octet} b q p few is =
      let z : (l.at + 1) / 2 ≡ aligned l.at / 2 = omega arith in
      record { octet = octet; puts = rw (← b, ← q, ← z) p; few = omega arith; is = rw (← b) is }

  module _ {l' : Lane} {out' : List ℕ} where
    pub passed_end : Passable w l T.End → Ended l out l' out' → Passed w l out T.End l' out'
    passed_end m p =
        let limit = m.limit in
        let level = m.level in
        record {
          at = rw p.is (omega arith);
          level = rw p.is (omega arith);
          next = rw p.is;
          passes = λ memory room a t. end_passes w memory room a t p;
        }

    pub passed_start : Passable w l (T.Start k) → Started w l out k l' out' → Passed w l out (T.Start k) l' out'
    unfolding aligned
    passed_start m p =
        let limit = m.limit in
        let level = m.name.2 in
        let few = p.few in
        record {
          at = rw p.is (omega arith);
          level = rw p.is (omega arith);
          next = rw p.is;
          passes = λ memory room a t. start_passes w memory room a t p;
        }

-- what is next may be passed
module _ {w memory : List ℕ} {l : Lane} (s : Safe w memory l) where
  named : (x : Taken) → Takes w memory l x → Named l x
  unfolding Filed
  named T.End t = tt
  named (T.Start k) t = let r = t.0 in let f = s.filed r.slot r.filled in let q = r.number in (omega arith, omega arith, t.1)

  pub ahead_passable : {room : ℕ} {x : Taken} → Ahead w l room → Takes w memory l x → Passable w l x
  ahead_passable {x = x} a t = record { limit = a.limit; inside = a.inside; level = s.level; there = a.there; name = named x t }

-- ---- what is remembered
set_cases : (P : ℕ → Type 0) (m : List ℕ) (i x s : ℕ) → P x → P (get_or m s 0) → P (get_or (set m i x) s 0)
set_cases P [] i x s p q = q
set_cases P (y ∷ m) zero x zero p q = p
set_cases P (y ∷ m) zero x (suc s) p q = q
set_cases P (y ∷ m) (suc i) x zero p q = q
set_cases P (y ∷ m) (suc i) x (suc s) p q = set_cases P m i x s p q

module _ (es : List Event) (text : List ℕ) where
  pub remembered_none : (v : Vocabulary Located) (n : ℕ) → Remembered es text v (replicate n 0)
  unfolding Remembered
  remembered_none v n s h = let z = all_alike {A = ℕ} 0 n s in absurd (omega arith)

  pub remembered_kept : {u v : Vocabulary Located} (memory : List ℕ) → Extends u v → Remembered es text u memory → Remembered es text v memory
  unfolding Remembered
  remembered_kept memory g r s h =
      let t = (r s h).1 in
      ((r s h).0, record { kind = t.kind; made = t.made; texts = t.texts; few = t.few; known = known_kept g t.known })

  module _ (v : Vocabulary Located) where
    pub remembered_more : (memory memory' : List ℕ) {i k : ℕ} → Kept memory i k memory' → i < length es → Taught text v (get_or es i blank) k → Remembered es text v memory
        → Remembered es text v memory'
    unfolding Remembered
    remembered_more memory memory' {i} {k} m h t r s =
        let f = t.few in
        let a : (i * 512 + k) / 512 ≡ i = omega arith in
        let b : (i * 512 + k) % 512 ≡ k = omega arith in
        rw m.is
        (set_cases (λ (n : ℕ). 0 < n → (n / 512 < length es) × Taught text v (get_or es (n / 512) blank) (n % 512)) memory m.slot (i * 512 + k) s (λ z. rw (a, b) (h, t)) (r s))

    pub remembered_filed : (memory : List ℕ) (n : ℕ) → length es ≡ n → Remembered es text v memory → Filed memory n
    unfolding Remembered Filed
    remembered_filed memory n e r s h = let t = (r s h).1 in let l = (r s h).0 in (omega arith, t.known.held, t.few)

-- ---- by an event of the run
settled-tables : (v : F.State Located) (e : E.Event Located) → (settled v e).tables ≡ v.tables
unfolding settled
settled-tables v e = by (is_listing v.mode && not (is_attribute e))
  where
    by : (b : Bool) → (pick b (F.moved v v.tables F.content) v).tables ≡ v.tables
    by true = refl
    by false = refl

module _ (text : List ℕ) (a : Bool) (v : F.State Located) (e : Event) where
  pub extends_event : Extends v.tables (item_of text a v e).state.tables
  unfolding item_of
  extends_event =
      let x = event_of e.kind e in
      subst (λ (u : Vocabulary Located). Extends u (write_item link text a (settled v x) x).state.tables) (settled-tables v x) (extends_item text a (settled v x) x)

  known_start : (k : Kind) → k ≡ Start
      → length (names v.tables ELEMENT_NAME) < length (names (write_item link text a (settled v (event_of k e)) (event_of k e)).state.tables ELEMENT_NAME)
      → Known text (write_item link text a (settled v (event_of k e)) (event_of k e)).state.tables (name_of e)
      (length (names (write_item link text a (settled v (event_of k e)) (event_of k e)).state.tables ELEMENT_NAME))
  unfolding write_item event_of
  known_start k q l =
      let m = rw q at l in
      let z = ap (λ (u : Vocabulary Located). length (names u ELEMENT_NAME)) (settled-tables v (E.Start (name_of e))) in
      rw q (known_new text (settled v (E.Start (name_of e))).tables (name_of e) _ (omega arith))

  module _ (room at : ℕ) (j : verdict text room a at v e ≡ 0) where
    faultless_by : (r : Std.Result (Unit {0}) Refusal) → fault_of text v e ≡ r → Faultless text v e
    unfolding verdict
    faultless_by (Ok done) q = fault_none text v e q
    faultless_by (Err r) q =
        let z = judge_fault text v e room at (item_of text a v e) (halves_for text room a at v e) r q in
        let l = refusal_some r in
        absurd (omega arith)

    -- a name more among those of elements is that of a Start
    pub taught_new : e.kind ≡ Start → length (names v.tables ELEMENT_NAME) < length (names (item_of text a v e).state.tables ELEMENT_NAME)
        → length (names (item_of text a v e).state.tables ELEMENT_NAME) ≤ 256
        → Taught text (item_of text a v e).state.tables e (length (names (item_of text a v e).state.tables ELEMENT_NAME))
    unfolding item_of event_of all_text
    taught_new k l few =
        let f = faultless_by (fault_of text v e) refl in
        record {
          kind = k;
          made = ap (λ (x : Kind). well_made text x e) (sym k) ∙ f.made;
          texts = rw k at f.texts;
          few = few;
          known = known_start e.kind k l;
        }
