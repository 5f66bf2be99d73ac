-- Steps and runs: an accepted run is what the rules write, and what they write is an accepted run, with room enough.
use mathlib.Core.Path.{◌≡◌, refl, sym, ap, ap₂, ◌∙◌, subst}
use mathlib.Core.Bool.{Bool, true, false, ◌&&◌}
use mathlib.Core.Option.{Option}
use mathlib.Core.List.{List, [], ◌∷◌, ◌++◌, append-nil, map}
use Prim.Native.Nat.{ℕ, zero, suc, ◌+◌, ◌-◌, ◌*◌, ◌/◌, ◌%◌, ◌≤◌, ◌<◌}
use native.Mathlib.Omega.{arith}
use borrow.Author.Tests.{lt-ltb, le-ltb, eq-eqb, eqb-true}
use lib.Dec.{eqb}
use lib.ListN.{length, get_or, drop, length-append, length-drop, replicate}
use lib.Seq.{drop-cons, drop-length}
use Rattle.format.specs.Octets.{Octets, Halves}
use Rattle.format.specs.Numbers.{longest}
use Rattle.format.specs.Events.{Name, How, NameHow, End, for_end, Item, ◌by◌, event_map}
use Rattle.format.specs.Tables.{StringTable, Vocabulary, Version}
use Rattle.format.specs.Strings.{bit, Layout, Literal, literal_spelled, literal_numbered}
use Rattle.format.specs.Names.{NameLayout, Named, in_parts_lem, by_number_lem, Declared, declared}
use Rattle.format.specs.Items.{Mode, content, declaring, listing, State, moved, ItemWrittenAs, o_start, o_first_namespace, o_namespace, o_named_start, o_attribute, o_text, o_comment, o_instruction}
use Rattle.format.specs.Document.{halves, pad, aligned, closed, Written, document_end_lem, attributes_end, element_end, item, known_after}
use Rattle.fields.proofs.RoundTrip.{some_first}
use Rattle.tables.specs.Located.{Located, plain, plain_tables, plain_state}
use Rattle.read_items.specs.Items.{Stand, Step, more, quiet, done, stop, octet, item_at}
use Rattle.read_items.specs.Steps.{ends_at, pads_at, document_end, end_at, by_halves, step}
use Rattle.reader.specs.Reading.{EventRead, items_read, Result, accepted, refusal, plus, turn, Mark, marked, run, trace}
use Rattle.tables.proofs.Found.{both_true}
use Rattle.theorems.specs.Places.{item_spelled, all_spelled, in_item, spelled_in, event_at, places_in}
use Rattle.theorems.proofs.Lists.{Refusal, Fault, fault, test, either, either_lt, not_true, drop_head, drop_past, ends_sound, ends_complete, pads_sound, pads_complete, halves-drop, halves-length, halves_sound, halves_complete, align_is, aligned_ge, aligned_in, pad-length}
use Rattle.theorems.proofs.Formats.{field_longer}
use Rattle.theorems.proofs.Strings.{Shape, shape15}
use Rattle.theorems.proofs.Names.{NameShape, element_shape, attribute_shape}
use Rattle.theorems.proofs.Chosen.{Ranged}
use Rattle.theorems.proofs.Produced.{permits_ranged}
use Rattle.theorems.proofs.Permitted.{octets_may}
use Rattle.theorems.proofs.Items.{Took, item_sound, item_complete}

-- ---- an item has octets, and opens one element at most
-- A result is not the refusal of an event without a record.
abbrev pub NotShort : Result → Type 0
NotShort (accepted es m) = Unit {0}
NotShort (refusal c p) = c ≡ 14 → ⊥

module _ {ver : Version} where
  pub named_some : {q : NameLayout} (g : NameShape q) {lead : ℕ} {v w : Vocabulary Octets} {x : Name Octets} {h : NameHow} {o : Octets} → Named ver q lead v x h o w → 0 < length o
  named_some g (in_parts_lem paired up un ul new room) = omega arith
  named_some {q} g {lead} (by_number_lem {k = k} small fits en m) = some_first q.number_forms lead (suc k) g.numbers_ok (omega arith) fits

  pub declared_some : {v w : Vocabulary Octets} {p n : Option Octets} {hp hn : Option How} {o : Octets} → Declared ver v p n hp hn o w → 0 < length o
  declared_some (declared up un) = omega arith

  pub literal_some : {q : Layout} (g : Shape q) {t : StringTable} {v w : Vocabulary Octets} {x : Octets} {h : How} {o : Octets} → Literal ver q t v x h o w → 0 < length o
  literal_some {q} g (literal_spelled {y = y} {form = form} {added = a} sp room) = let l = field_longer q.length_bit form (q.spelled_bits + q.add_bit * bit a) y in let p = sp.some in omega arith
  literal_some {q} g (literal_numbered {k = k} small fits en) = some_first q.number_forms q.numbered_bits (suc k) g.numbers_ok (omega arith) fits

  octets_some : {v w : State Octets} {i : Item Octets} {o : Octets} → ItemWrittenAs ver v i o w → (0 < length o) × (w.level ≤ suc v.level)
  octets_some (o_start a md may deep u) = (named_some element_shape u, omega arith)
  octets_some (o_first_namespace md may deep u) = omega arith
  octets_some (o_namespace md u) = (declared_some u, omega arith)
  octets_some (o_named_start md u) = omega arith
  octets_some (o_attribute {o₁ = o1} {o₂ = o2} md u1 u2) = let p = named_some attribute_shape u1 in let l = length-append o1 o2 in omega arith
  octets_some (o_text md lev u) = (literal_some shape15 u, omega arith)
  octets_some (o_comment md u) = omega arith
  octets_some (o_instruction md u1 u2) = omega arith

-- ---- what is read is what the rules write
-- where a reader can stand: not behind the end, with the numbers of triples in range
pub record Inside (s : Octets) (m : Stand) : Type 0 where
  pub at : m.at ≤ 2 * length s
  pub ranged : Ranged (plain_tables s m.state.tables)

module _ (ver : Version) (s : Octets) (bytes : (i : ℕ) → get_or s i 0 < 256) (short : length s ≤ longest) where
  -- from where the reader stands, the items and the document's end are written as the halves left
  abbrev pub Rest : Stand → List (Item Octets) → State Octets → Type 0
  Rest m items z = Written ver m.at (plain_state s m.state) items (drop m.at (halves s)) z

  -- what is left to read, where an element that is open counts half of an octet's half: 3 for each event that can still come
  abbrev pub left : Stand → ℕ
  left m = 2 * (2 * length s - m.at) + m.state.level

  -- if the rest is what the rules write, so is this step and the rest; the reader stays inside, and there is less left to read
  abbrev pub Fine : Stand → Step → Type 0
  Fine m (more p i n) =
      ((items : List (Item Octets)) (z : State Octets) → Rest n items z → Rest m (plain s i ∷ items) z) × Inside s n × (3 + left n ≤ left m) × (p ≤ length s)
  Fine m (quiet n) = ((items : List (Item Octets)) (z : State Octets) → Rest n items z → Rest m items z) × Inside s n × (2 + left n ≤ left m)
  Fine m done = Rest m [] (plain_state s m.state)
  Fine m (stop c p) = Fault s c p

  item_fine : (m : Stand) → Inside s m → pads_at s m.at ≡ true → (a : Step) → Took ver s bytes short (aligned m.at / 2) m.state a → Fine m a
  item_fine m ml t (more p i n) w =
      let k : ℕ = aligned m.at / 2 in
      let o = w.octets in
      let a = align_is m.at in
      let z : n.at ≡ aligned m.at + 2 * length o = omega arith in
      let d : drop m.at (halves s) ≡ pad m.at ++ (halves o ++ drop n.at (halves s)) =
      pads_sound s m.at t
      ∙ ap (λ (x : ℕ). pad m.at ++ drop x (halves s)) (sym a)
      ∙ ap (λ (l : Octets). pad m.at ++ l) (halves_sound s k o (k + length o) w.here ∙ ap (λ (x : ℕ). halves o ++ drop x (halves s)) (sym w.next)) in
      let e = octets_some w.rule in
      let al = aligned_ge m.at in (
        λ items y u.
            subst (λ (l : Octets). Written ver m.at (plain_state s m.state) (plain s i ∷ items) l y) (sym d)
            (item w.rule (subst (λ (x : ℕ). Written ver x (plain_state s n.state) items (drop n.at (halves s)) y) z u)),
        record { at = omega arith; ranged = permits_ranged (octets_may w.rule) ml.ranged },
        omega arith,
        w.place,
      )
  item_fine m ml t (quiet n) w = absurd w
  item_fine m ml t done w = absurd w
  item_fine m ml t (stop c p) w = w

  document_end_fine : (m : Stand) → Inside s m → m.state.mode ≡ content → m.state.level ≡ 0 → ends_at s m.at ≡ true → Fine m (document_end s m)
  unfolding document_end
  document_end_fine m ml q l t =
      let d : drop m.at (halves s) ≡ 15 ∷ drop (suc m.at) (halves s) = ends_sound s m.at t in
      let ah = (drop_head (halves s) m.at 15 (drop (suc m.at) (halves s)) d).0 in
      let hl = halves-length s in
      let k2 : m.at / 2 ≤ length s = omega arith in
      let k3 : aligned (suc m.at) / 2 ≤ length s = aligned_in (suc m.at) (length s) (omega arith) in
      test (Fine m) (stop 15 (m.at / 2)) (fault s 15 (m.at / 2) refl k2) m.state.root _
      λ t2. test (Fine m) (stop 6 (m.at / 2)) (fault s 6 (m.at / 2) refl k2) (pads_at s (suc m.at)) _
      λ t3. test (Fine m) (stop 15 (aligned (suc m.at) / 2)) (fault s 15 (aligned (suc m.at) / 2) refl k3) (eqb (aligned (suc m.at)) (2 * length s)) _
      λ t4.
      let over : aligned (suc m.at) ≡ length (halves s) = eqb-true _ _ t4 ∙ sym (halves-length s) in
      subst (λ (l : Octets). Written ver m.at (plain_state s m.state) [] l (plain_state s m.state))
      (sym (d ∙ ap (λ (l : Octets). 15 ∷ l) (pads_sound s (suc m.at) t3
      ∙ ap (λ (x : ℕ). pad (suc m.at) ++ drop x (halves s)) over
      ∙ ap (λ (l : Octets). pad (suc m.at) ++ l) (drop-length (halves s))
      ∙ append-nil (pad (suc m.at)))))
      (document_end_lem q l t2)

  end_fine : (m : Stand) (md : Mode) → Inside s m → m.state.mode ≡ md → ends_at s m.at ≡ true → Fine m (end_at s m md)
  unfolding end_at event_map
  end_fine m (declaring a) ml q t = fault s 5 (m.at / 2) refl (omega arith)
  end_fine m (listing false) ml q t = fault s 15 (m.at / 2) refl (omega arith)
  end_fine m (listing true) ml q t =
      let d = ends_sound s m.at t in
      let ah = (drop_head (halves s) m.at 15 (drop (suc m.at) (halves s)) d).0 in
      let hl = halves-length s in (
        λ items y u. subst (λ (l : Octets). Written ver m.at (plain_state s m.state) items l y) (sym d) (attributes_end q u),
        record { at = omega arith; ranged = ml.ranged },
        omega arith,
      )
  end_fine m content ml q t =
      let d = ends_sound s m.at t in
      let ah = (drop_head (halves s) m.at 15 (drop (suc m.at) (halves s)) d).0 in
      let hl = halves-length s in
      either_lt (Fine m) 0 m.state.level _ _
      (λ t1. (
        λ items y u. subst (λ (l : Octets). Written ver m.at (plain_state s m.state) ((End by for_end) ∷ items) l y) (sym d) (element_end q t1 u),
        record { at = omega arith; ranged = ml.ranged },
        omega arith,
        omega arith,
      ))
      λ t1. document_end_fine m ml q (omega arith) t

  pub step_fine : (m : Stand) → Inside s m → Fine m (step ver s m)
  unfolding step
  step_fine m ml =
      let md : Mode = m.state.mode in
      let k : ℕ = aligned m.at / 2 in
      either (Fine m) (by_halves md && ends_at s m.at) _ _
      (λ t. end_fine m md ml refl (both_true (by_halves md) (ends_at s m.at) t).1)
      (λ t. test (Fine m) (stop 6 (m.at / 2)) (fault s 6 (m.at / 2) refl (omega arith)) (pads_at s m.at) _
      λ t1. item_fine m ml t1 (item_at ver s k m.state md) (item_sound ver s bytes short k m.state md ml.ranged (aligned_in m.at (length s) ml.at) refl))

  abbrev pub Right : Stand → Result → Type 0
  Right m (accepted es n) = Rest m (map (plain s) (items_read es)) (plain_state s n.state)
  Right m (refusal c p) = Refusal s c p

  plus_right : (m n : Stand) (p : ℕ) (e : EventRead) → Fine m (more p e.item n) → (a : Result) → Right n a → Right m (plus e a)
  plus_right m n p e g (accepted es l) r = g.0 (map (plain s) (items_read es)) (plain_state s l.state) r
  plus_right m n p e g (refusal c q) r = r

  quiet_right : (m n : Stand) → Fine m (quiet n) → (a : Result) → Right n a → Right m a
  quiet_right m n g (accepted es l) r = g.0 (map (plain s) (items_read es)) (plain_state s l.state) r
  quiet_right m n g (refusal c p) r = r

  -- an accepted run is written by the rules; a refusal is one of the requirements'
  turn_right : (go : ℕ → Stand → Result) → ((r : ℕ) (n : Stand) → Inside s n → Right n (go r n)) → (room : ℕ) (m : Stand) (a : Step) → Fine m a → Right m (turn go room m a)
  turn_right go rec zero m (more p i n) g = (omega arith, omega arith, g.3)
  turn_right go rec (suc r) m (more p i n) g = plus_right m n p _ g (go r n) (rec r n g.1)
  turn_right go rec room m (quiet n) g = quiet_right m n g (go room n) (rec room n g.1)
  turn_right go rec room m done w = w
  turn_right go rec room m (stop c p) w = w.0

  pub run_right : (fuel room : ℕ) (m : Stand) → Inside s m → Right m (run ver s fuel room m)
  unfolding run
  run_right zero room m ml = (fault s 2 (m.at / 2) refl (omega arith)).0
  run_right (suc fuel) room m ml = turn_right (λ r n. run ver s fuel r n) (λ r n h. run_right fuel r n h) room m (step ver s m) (step_fine m ml)

  -- each step takes a half at least, so that more fuel than halves left changes nothing
  turn_free : (go go' : ℕ → Stand → Result) (k : ℕ) → ((r : ℕ) (n : Stand) → Inside s n → left n < 2 * k → go r n ≡ go' r n)
      → (room : ℕ) (m : Stand) → left m < 2 * suc k → (a : Step) → Fine m a → turn go room m a ≡ turn go' room m a
  turn_free go go' k rec zero m h (more p i n) g = refl
  turn_free go go' k rec (suc r) m h (more p i n) g = ap (plus _) (rec r n g.1 (omega arith))
  turn_free go go' k rec room m h (quiet n) g = rec room n g.1 (omega arith)
  turn_free go go' k rec room m h done w = refl
  turn_free go go' k rec room m h (stop c p) w = refl

  pub fuel_free : (fuel extra room : ℕ) (m : Stand) → Inside s m → left m < 2 * fuel → run ver s (extra + fuel) room m ≡ run ver s fuel room m
  unfolding run
  fuel_free zero extra room m ml h = absurd (omega arith)
  fuel_free (suc fuel) extra room m ml h =
      let e : extra + suc fuel ≡ suc (extra + fuel) = omega arith in
      rw e (turn_free (λ r n. run ver s (extra + fuel) r n) (λ r n. run ver s fuel r n) fuel (λ r n l k. fuel_free fuel extra r n l k) room m h (step ver s m) (step_fine m ml))

  -- the events are few
  marked_few : (go : Stand → List Mark) → ((n : Stand) → Inside s n → 3 * length (go n) ≤ left n) → (m : Stand) (a : Step) → Fine m a → 3 * length (marked go a) ≤ left m
  marked_few go rec m (more p i n) g = let r = rec n g.1 in omega arith
  marked_few go rec m (quiet n) g = let r = rec n g.1 in omega arith
  marked_few go rec m done w = omega arith
  marked_few go rec m (stop c p) w = omega arith

  pub trace_few : (fuel : ℕ) (m : Stand) → Inside s m → 3 * length (trace ver s fuel m) ≤ left m
  unfolding trace
  trace_few zero m ml = omega arith
  trace_few (suc fuel) m ml = marked_few (λ n. trace ver s fuel n) (λ n h. trace_few fuel n h) m (step ver s m) (step_fine m ml)

  -- with a record for every event, nothing is refused for want of room
  plus_not_short : (e : EventRead) (a : Result) → NotShort a → NotShort (plus e a)
  plus_not_short e (accepted es m) h = tt
  plus_not_short e (refusal c p) h = h

  turn_not_short : (go : ℕ → Stand → Result) (marks : Stand → List Mark) → ((r : ℕ) (n : Stand) → Inside s n → length (marks n) ≤ r → NotShort (go r n))
      → (room : ℕ) (m : Stand) (a : Step) → Fine m a → length (marked marks a) ≤ room → NotShort (turn go room m a)
  turn_not_short go marks rec zero m (more p i n) g h = absurd (omega arith)
  turn_not_short go marks rec (suc r) m (more p i n) g h = plus_not_short _ (go r n) (rec r n g.1 (omega arith))
  turn_not_short go marks rec room m (quiet n) g h = rec room n g.1 h
  turn_not_short go marks rec room m done g h = tt
  turn_not_short go marks rec room m (stop c p) g h = g.1

  pub run_not_short : (fuel room : ℕ) (m : Stand) → Inside s m → length (trace ver s fuel m) ≤ room → NotShort (run ver s fuel room m)
  unfolding run trace
  run_not_short zero room m ml h = λ e. omega arith
  run_not_short (suc fuel) room m ml h =
      turn_not_short (λ r n. run ver s fuel r n) (λ n. trace ver s fuel n) (λ r n l k. run_not_short fuel r n l k) room m (step ver s m) (step_fine m ml) h

-- ---- room
abbrev pub places_of : List Mark → Octets
places_of = map (λ (k : Mark). k.place)

-- the events of an accepted run have the places of its marks, in order
abbrev pub AtMarks : List Mark → Result → Type 0
AtMarks ks (accepted es m) = map (λ (e : EventRead). e.place) es ≡ places_of ks
AtMarks ks (refusal c p) = Unit {0}

plus_at_marks : (e : EventRead) (n : Stand) (ks : List Mark) (a : Result) → AtMarks ks a → AtMarks (record { place = e.place; stand = n } ∷ ks) (plus e a)
plus_at_marks e n ks (accepted es m) h = ap (λ (l : Octets). e.place ∷ l) h
plus_at_marks e n ks (refusal c p) h = tt

-- A run by its room, where ks are its marks: the first event without a record is refused at its place; with a record for every event, more room changes nothing.
pub record ByRoom (ks : List Mark) (go : ℕ → Result) (room : ℕ) : Type 0 where
  pub short : room < length ks → go room ≡ refusal 14 (get_or (places_of ks) room 0)
  pub enough : length ks ≤ room → go room ≡ go (length ks)
  pub at_marks : AtMarks ks (go room)

module _ (run₁ : ℕ → Stand → Result) (trace₁ : Stand → List Mark) (rec : (r : ℕ) (n : Stand) → ByRoom (trace₁ n) (λ k. run₁ k n) r) where
  turn_by_room : (room : ℕ) (m : Stand) (a : Step) → ByRoom (marked trace₁ a) (λ k. turn run₁ k m a) room
  turn_by_room zero m (more p i n) = record { short = λ h. refl; enough = λ h. absurd (omega arith); at_marks = tt }
  turn_by_room (suc r) m (more p i n) =
      let f = rec r n in
      record { short = λ h. rw (f.short (omega arith)); enough = λ h. ap (plus _) (f.enough (omega arith)); at_marks = plus_at_marks _ n (trace₁ n) (run₁ r n) f.at_marks }
  turn_by_room room m (quiet n) = let f = rec room n in record { short = f.short; enough = f.enough; at_marks = f.at_marks }
  turn_by_room room m done = record { short = λ h. absurd (omega arith); enough = λ h. refl; at_marks = refl }
  turn_by_room room m (stop c p) = record { short = λ h. absurd (omega arith); enough = λ h. refl; at_marks = tt }

pub by_room : (ver : Version) (s : Octets) (fuel room : ℕ) (m : Stand) → ByRoom (trace ver s fuel m) (λ k. run ver s fuel k m) room
unfolding run trace
by_room ver s zero room m = record { short = λ h. absurd (omega arith); enough = λ h. refl; at_marks = tt }
by_room ver s (suc fuel) room m = turn_by_room (λ r n. run ver s fuel r n) (λ n. trace ver s fuel n) (by_room ver s fuel) room m (step ver s m)

-- ---- what the rules write is read
no_end : (n h : ℕ) (t u : Octets) → h < 15 → replicate n 0 ++ (h ∷ t) ≡ 15 ∷ u → ⊥
no_end zero h t u l e = let z : h ≡ 15 = cc in omega arith
no_end (suc n) h t u l e = let z : ◌≡◌ {A = ℕ} 0 15 = cc in omega arith

and_false : (a b : Bool) → (a ≡ true → b ≡ false) → (a && b) ≡ false
and_false true b f = f refl
and_false false b f = refl

module _ (ver : Version) (s : Octets) where
  -- an item's first half is no end, where an end could stand
  not_end : (at k : ℕ) → 2 * k ≡ aligned at → k < length s → get_or s k 0 < 0xF0 → pads_at s at ≡ true → ends_at s at ≡ false
  unfolding halves pad
  not_end at k z h l t =
      not_true (ends_at s at)
      λ u.
      let d : drop at (halves s) ≡ pad at ++ (get_or s k 0 / 16 ∷ (get_or s k 0 % 16 ∷ halves (drop (suc k) s))) =
      pads_sound s at t
      ∙ ap (λ (x : ℕ). pad at ++ drop x (halves s)) (sym z)
      ∙ ap (λ (x : Octets). pad at ++ x) (halves-drop k s ∙ ap halves (drop-cons s k 0 h)) in
      no_end (at % 2) (get_or s k 0 / 16) (get_or s k 0 % 16 ∷ halves (drop (suc k) s)) (drop (suc at) (halves s)) (omega arith) (sym d ∙ ends_sound s at u)

  -- l is where the item's strings are spelled, place where its event stands
  record Next (m : Stand) (i : Item Octets) (at : ℕ) (w : State Octets) (l : List Located) (place : ℕ) : Type 0 where
    found : Item Located
    n : Stand
    goes : step ver s m ≡ more place found n
    what : plain s found ≡ i
    spells : item_spelled found ≡ l
    stands : n.at ≡ at
    state : plain_state s n.state ≡ w

  abbrev NextIf : Stand → Item Octets → Octets → State Octets → Octets → State Octets → Type 0
  NextIf m i o w hs v =
      (u : ItemWrittenAs ver v i o w) → drop m.at (halves s) ≡ pad m.at ++ (halves o ++ hs)
      → Next m i (aligned m.at + 2 * length o) w (in_item (aligned m.at / 2) u) (event_at (aligned m.at / 2) u) × (drop (aligned m.at + 2 * length o) (halves s) ≡ hs) × (0 < length o)

  item_next : (m : Stand) (i : Item Octets) (o : Octets) (w : State Octets) (hs : Halves) → NextIf m i o w hs (plain_state s m.state)
  unfolding step
  item_next m i o w hs u d =
      let at : ℕ = m.at in
      let k : ℕ = aligned at / 2 in
      let p = pads_complete s at (halves o ++ hs) d in
      let al = align_is at in
      let d1 : drop (2 * k) (halves s) ≡ halves o ++ hs = ap (λ (x : ℕ). drop x (halves s)) al ∙ p.1 in
      let c = item_complete ver s k m.state (drop (k + length o) s) u (halves_complete s k o hs d1) in
      let ends : (by_halves m.state.mode && ends_at s at) ≡ false = and_false (by_halves m.state.mode) _ λ y. not_end at k al c.here (c.first y) p.0 in
      let l = halves-length o in
      let y : aligned at + 2 * length o ≡ 2 * k + length (halves o) = omega arith in
      let z : 2 * (k + length o) ≡ aligned at + 2 * length o = omega arith in (
        record { found = c.found; n = octet (k + length o) c.n; goes = rw (ends, p.0) c.goes; what = c.what; spells = c.spells; stands = z; state = c.state },
        ap (λ (x : ℕ). drop x (halves s)) y ∙ drop_past (halves s) (2 * k) (halves o) hs d1,
        c.some,
      )

  module _ (m : Stand) (hs : Halves) (d : drop m.at (halves s) ≡ 15 ∷ hs) where
    at_end : ends_at s m.at ≡ true
    at_end = ends_complete s m.at hs d

    past_end : drop (suc m.at) (halves s) ≡ hs
    past_end = (drop_head (halves s) m.at 15 hs d).2

    quiet_next : m.state.mode ≡ listing true → step ver s m ≡ quiet (record { at = suc m.at; state = moved m.state m.state.tables content })
    unfolding step end_at
    quiet_next md = rw (md, at_end)

    abbrev ended : Stand
    ended = record { at = suc m.at; state = closed m.state }

    end_next : m.state.mode ≡ content → 0 < m.state.level → step ver s m ≡ more (m.at / 2) (End by for_end) ended
    unfolding step end_at
    end_next md l = rw (md, at_end, lt-ltb 0 m.state.level l)

  done_next : (m : Stand) → m.state.mode ≡ content → m.state.level ≡ 0 → m.state.root ≡ true → drop m.at (halves s) ≡ 15 ∷ pad (suc m.at) → step ver s m ≡ done
  unfolding step end_at document_end
  done_next m md l r d =
      let at : ℕ = m.at in
      let a = drop_head (halves s) at 15 (pad (suc at)) d in
      let q = pads_complete s (suc at) [] (a.2 ∙ sym (append-nil (pad (suc at)))) in
      let x = pad-length (suc at) in
      let b = ap length d in
      let c = length-drop at (halves s) in
      let hl = halves-length s in
      let over : aligned (suc at) ≡ 2 * length s = omega arith in
      rw (md, at_end m (pad (suc at)) d, le-ltb 0 m.state.level (omega arith), r, q.0, eq-eqb (aligned (suc at)) (2 * length s) over)

  -- a run with room for every event; what is known after each, where the strings are spelled, and where the events stand
  pub record Reads (fuel room : ℕ) (m : Stand) (items : List (Item Octets)) (z : State Octets) (after : List (State Octets)) (l : List Located) (ps : List ℕ) : Type 0 where
    pub events : List EventRead
    pub last : Stand
    pub runs : run ver s fuel room m ≡ accepted events last
    pub are : map (plain s) (items_read events) ≡ items
    pub end_is : plain_state s last.state ≡ z
    pub known : map (λ (k : Mark). plain_state s k.stand.state) (trace ver s fuel m) ≡ after
    pub spells : all_spelled (items_read events) ≡ l
    pub places : map (λ (e : EventRead). e.place) events ≡ ps

  go_on : (fuel room : ℕ) (m n : Stand) (p : ℕ) (f : Item Located) (i : Item Octets) (items : List (Item Octets)) (z w : State Octets) (after : List (State Octets)) (l r : List Located) (ps : List ℕ) → step ver s m ≡ more p f n → plain s f ≡ i → item_spelled f ≡ l → plain_state s n.state ≡ w
      → Reads fuel room n items z after r ps → Reads (suc fuel) (suc room) m (i ∷ items) z (w ∷ after) (l ++ r) (p ∷ ps)
  unfolding run trace all_spelled
  go_on fuel room m n p f i items z w after l l' ps e q sp st r =
      record {
        events = record { place = p; item = f } ∷ r.events;
        last = r.last;
        runs = rw (e, r.runs);
        are = ap₂ (λ (a : Item Octets) (l : List (Item Octets)). a ∷ l) q r.are;
        end_is = r.end_is;
        known = rw e (ap₂ (λ (a : State Octets) (l : List (State Octets)). a ∷ l) st r.known);
        spells = ap₂ (λ (a b : List Located). a ++ b) sp r.spells;
        places = ap (λ (l : List ℕ). p ∷ l) r.places;
      }

  go_over : (fuel room : ℕ) (m n : Stand) (items : List (Item Octets)) (z : State Octets) (after : List (State Octets)) (l : List Located) (ps : List ℕ) → step ver s m ≡ quiet n → Reads fuel room n items z after l ps
      → Reads (suc fuel) room m items z after l ps
  unfolding run trace
  go_over fuel room m n items z after l ps e r = record { events = r.events; last = r.last; runs = rw e r.runs; are = r.are; end_is = r.end_is; known = rw e r.known; spells = r.spells; places = r.places }

  pub run_complete : {at : ℕ} {v z : State Octets} {items : List (Item Octets)} {hs : Halves} (written : Written ver at v items hs z) (m : Stand) (fuel room : ℕ) → m.at ≡ at → plain_state s m.state ≡ v
      → drop at (halves s) ≡ hs → length hs ≤ fuel → length items ≤ room → Reads fuel room m items z (known_after ver written) (spelled_in written) (places_in written)
  unfolding run trace event_map known_after spelled_in all_spelled places_in
  run_complete (document_end_lem md lv rt) m zero room a k d f g = absurd (omega arith)
  run_complete (document_end_lem md lv rt) m (suc fuel) room a k d f g =
      record {
        events = [];
        last = m;
        runs = rw (done_next m (ap (λ (x : State Octets). x.mode) k ∙ md) (ap (λ (x : State Octets). x.level) k ∙ lv) (ap (λ (x : State Octets). x.root) k ∙ rt) (rw a d));
        are = refl;
        end_is = k;
        known = rw (done_next m (ap (λ (x : State Octets). x.mode) k ∙ md) (ap (λ (x : State Octets). x.level) k ∙ lv) (ap (λ (x : State Octets). x.root) k ∙ rt) (rw a d));
        spells = refl;
        places = refl;
      }
  run_complete (attributes_end md w) m zero room a k d f g = absurd (omega arith)
  run_complete (attributes_end {z = y} {items = items} {hs = hs} md w) m (suc fuel) room a k d f g =
      go_over fuel room m _ items y _ _ _ (quiet_next m hs (rw a d) (ap (λ (x : State Octets). x.mode) k ∙ md))
      (run_complete w (record { at = suc m.at; state = moved m.state m.state.tables content }) fuel room (ap suc a) (ap (λ (x : State Octets). moved x x.tables content) k) (rw a at (past_end m hs (rw a d))) (omega arith) g)
  run_complete (element_end md lv w) m zero room a k d f g = absurd (omega arith)
  run_complete (element_end md lv w) m (suc fuel) zero a k d f g = absurd (omega arith)
  run_complete (element_end {at = at} {z = y} {items = items} {hs = hs} md lv w) m (suc fuel) (suc room) a k d f g =
      let z = ap (λ (x : State Octets). x.level) k in
      go_on fuel room m (ended m hs (rw a d)) (at / 2) (End by for_end) (End by for_end) items y _ _ [] _ _
      (end_next m hs (rw a d) (ap (λ (x : State Octets). x.mode) k ∙ md) (omega arith) ∙ ap (λ (x : ℕ). more (x / 2) (End by for_end) (ended m hs (rw a d))) a) refl refl (ap (λ (x : State Octets). closed x) k)
      (run_complete w (ended m hs (rw a d)) fuel room (ap suc a) (ap (λ (x : State Octets). closed x) k) (rw a at (past_end m hs (rw a d))) (omega arith) (omega arith))
  run_complete (item {at = at} {w = v} {i = i} {o = o} {hs = hs} u w) m zero room a k d f g =
      let t = subst (NextIf m i o v hs) k (item_next m i o v hs) u (rw a d) in
      let l1 = length-append (pad at) (halves o ++ hs) in
      let l2 = length-append (halves o) hs in
      let l3 = halves-length o in
      absurd (omega arith)
  run_complete (item u w) m (suc fuel) zero a k d f g = absurd (omega arith)
  run_complete (item {at = at} {w = v} {z = y} {i = i} {o = o} {items = items} {hs = hs} u w) m (suc fuel) (suc room) a k d f g =
      let t = subst (NextIf m i o v hs) k (item_next m i o v hs) u (rw a d) in
      let l1 = length-append (pad at) (halves o ++ hs) in
      let l2 = length-append (halves o) hs in
      let l3 = halves-length o in
      go_on fuel room m t.0.n (event_at (aligned at / 2) u) t.0.found i items y _ _ _ _ _ (t.0.goes ∙ ap (λ (x : ℕ). more (event_at (aligned x / 2) u) t.0.found t.0.n) a) t.0.what (t.0.spells ∙ ap (λ (x : ℕ). in_item (aligned x / 2) u) a) t.0.state
      (run_complete w t.0.n fuel room (t.0.stands ∙ ap (λ (x : ℕ). aligned x + 2 * length o) a) t.0.state (rw a at t.1) (omega arith) (omega arith))
