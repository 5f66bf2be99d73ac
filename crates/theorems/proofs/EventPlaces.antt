-- Places of events: those at which the rules write them never fall, two that are the same are of Ends, and each is an octet of the document; and so of the records that are read.
use Prim.Native.Nat.{ℕ, zero, suc, ◌+◌, ◌*◌, ◌/◌, ◌≤◌, ◌<◌}
use mathlib.Core.Path.{◌≡◌, refl, sym, ap, ap₂, ◌∙◌, subst}
use mathlib.Core.Bool.{true}
use mathlib.Core.List.{List, [], ◌∷◌, ◌++◌, map}
use native.Mathlib.Omega.{arith}
use native.Mathlib.Decide.{dec_lt}
use lib.ListN.{length, get_or, take, replicate, length-append, length-map}
use Rattle.format.specs.Octets.{Octets, Halves}
use Rattle.format.specs.Events as F
use Rattle.format.specs.Events.{Item, event_map}
use Rattle.format.specs.Tables.{Version}
use Rattle.format.specs.Head.{Head}
use Rattle.format.specs.Items.{State, ItemWrittenAs, o_start, o_first_namespace, o_namespace, o_named_start, o_attribute, o_text, o_comment, o_instruction}
use Rattle.format.specs.Document.{halves, pad, aligned, Written, document_end_lem, attributes_end, element_end, item, Document}
use Rattle.tables.specs.Located.{Located, plain, octets_of}
use Rattle.tables.specs.Counts.{table_words}
use Rattle.tables.specs.Told.{told_refused}
use Rattle.tables.proofs.Found.{clash}
use Rattle.events.specs.declared.Kind.TheVariants.{End}
use Rattle.events.specs.declared.Event.{Event}
use Rattle.events.specs.Records.{blank, record_of, unplaced}
use Rattle.events.proofs.BlankWords.{all_alike}
use Rattle.read_items.specs.Items.{Stand}
use Rattle.reader.specs.Reading.{EventRead, items_read, record_read, accepted, Mark, reading, marks, read_of}
use Rattle.write_items.specs.Steps.{is_end}
use Rattle.theorems.specs.Places.{event_at, places_in}
use Rattle.theorems.specs.Demands.{EventPlaces}
use Rattle.theorems.proofs.Lists.{halves-length, aligned_ge, align_is, pad-length}
use Rattle.theorems.proofs.Strings.{shape15}
use Rattle.theorems.proofs.Names.{element_shape, attribute_shape}
use Rattle.theorems.proofs.Run.{named_some, declared_some, literal_some}
use Rattle.theorems.proofs.Fits.{accepted_sized}
use Rattle.theorems.proofs.Document as Whole

-- the item number i, where there is one, is an End
abbrev Ends : List (Item Octets) → ℕ → Type 0
Ends [] i = Unit {0}
Ends (x ∷ xs) zero = is_end x.event ≡ true
Ends (x ∷ xs) (suc i) = Ends xs i

module _ {ver : Version} where
  -- an item's event stands in its octets
  event_in : (k : ℕ) {v w : State Octets} {i : Item Octets} {o : Octets} (u : ItemWrittenAs ver v i o w) → (k ≤ event_at k u) × (event_at k u < k + length o)
  event_in k (o_start a md may deep u) = let h = named_some element_shape u in omega arith
  event_in k (o_first_namespace md may deep u) = let h = declared_some u in omega arith
  event_in k (o_namespace md u) = let h = declared_some u in omega arith
  event_in k (o_named_start md u) = let h = named_some element_shape u in omega arith
  event_in k (o_attribute {o₁ = o₁} {o₂ = o₂} md u₁ u₂) = let h = named_some attribute_shape u₁ in let l = length-append o₁ o₂ in omega arith
  event_in k (o_text md lv u) = let h = literal_some shape15 u in omega arith
  event_in k (o_comment md u) = omega arith
  event_in k (o_instruction md u₁ u₂) = omega arith

  module _ {z : State Octets} where
    -- from the half `at`: a place is not before it, and one whose first half is before it is of an End
    behind : {at : ℕ} {v : State Octets} {items : List (Item Octets)} {hs : Halves} (w : Written ver at v items hs z) (i : ℕ) → i < length items
        → (at ≤ 2 * get_or (places_in w) i 0 + 1) × (2 * get_or (places_in w) i 0 < at → Ends items i)
    unfolding places_in
    behind (document_end_lem md lv rt) i h = absurd (omega arith)
    behind (attributes_end md rest) i h = let r = behind rest i h in (omega arith, λ l. r.1 (omega arith))
    behind (element_end md lv rest) zero h = (omega arith, λ l. refl)
    behind (element_end md lv rest) (suc i) h = let r = behind rest i (omega arith) in (omega arith, λ l. r.1 (omega arith))
    behind (item {at = at} u rest) zero h = let e = event_in (aligned at / 2) u in let a = aligned_ge at in let b = align_is at in (omega arith, λ l. absurd (omega arith))
    behind (item {at = at} u rest) (suc i) h = let r = behind rest i (omega arith) in let a = aligned_ge at in (omega arith, λ l. r.1 (omega arith))

    in_turn_lem : {at : ℕ} {v : State Octets} {items : List (Item Octets)} {hs : Halves} (w : Written ver at v items hs z) (i j : ℕ) → i < j → j < length items
        → (get_or (places_in w) i 0 ≤ get_or (places_in w) j 0) × (get_or (places_in w) i 0 ≡ get_or (places_in w) j 0 → Ends items i × Ends items j)
    unfolding places_in
    in_turn_lem (document_end_lem md lv rt) i j l h = absurd (omega arith)
    in_turn_lem (attributes_end md rest) i j l h = in_turn_lem rest i j l h
    in_turn_lem (element_end md lv rest) zero zero l h = absurd (omega arith)
    in_turn_lem (element_end md lv rest) zero (suc j) l h = let r = behind rest j (omega arith) in (omega arith, λ e. (refl, r.1 (omega arith)))
    in_turn_lem (element_end md lv rest) (suc i) zero l h = absurd (omega arith)
    in_turn_lem (element_end md lv rest) (suc i) (suc j) l h = in_turn_lem rest i j (omega arith) (omega arith)
    in_turn_lem (item u rest) zero zero l h = absurd (omega arith)
    in_turn_lem (item {at = at} u rest) zero (suc j) l h =
        let r = behind rest j (omega arith) in let e = event_in (aligned at / 2) u in let b = align_is at in (omega arith, λ q. absurd (omega arith))
    in_turn_lem (item u rest) (suc i) zero l h = absurd (omega arith)
    in_turn_lem (item u rest) (suc i) (suc j) l h = in_turn_lem rest i j (omega arith) (omega arith)

    within : {at : ℕ} {v : State Octets} {items : List (Item Octets)} {hs : Halves} (w : Written ver at v items hs z) (i : ℕ) → i < length items → 2 * get_or (places_in w) i 0 < at + length hs
    unfolding places_in
    within (document_end_lem md lv rt) i h = absurd (omega arith)
    within (attributes_end md rest) i h = let r = within rest i h in omega arith
    within (element_end md lv rest) zero h = omega arith
    within (element_end md lv rest) (suc i) h = let r = within rest i (omega arith) in omega arith
    within (item {at = at} {o = o} {hs = hs} u rest) zero h =
        let e = event_in (aligned at / 2) u in
        let b = align_is at in
        let l1 = length-append (pad at) (halves o ++ hs) in
        let l2 = length-append (halves o) hs in
        let l3 = halves-length o in
        let l4 = pad-length at in
        omega arith
    within (item {at = at} {o = o} {hs = hs} u rest) (suc i) h =
        let r = within rest i (omega arith) in
        let l1 = length-append (pad at) (halves o ++ hs) in
        let l2 = length-append (halves o) hs in
        let l3 = halves-length o in
        let l4 = pad-length at in
        omega arith

-- ---- in records
-- the records of events, without their places, and the places alone; blank ones behind them
blanks : {A : Type 0} (f : Event → A) (n : ℕ) → map f (replicate n blank) ≡ replicate n (f blank)
blanks f zero = refl
blanks {A} f (suc n) = ap (λ (l : List A). f blank ∷ l) (blanks f n)

unplaced_record : (e : F.Event Located) → unplaced (record_of e) ≡ record_of e
unfolding record_of
unplaced_record (F.Namespace p n) = refl
unplaced_record (F.Start x) = refl
unplaced_record (F.Attribute x y) = refl
unplaced_record (F.Text y) = refl
unplaced_record (F.Comment y) = refl
unplaced_record (F.Instruction x y) = refl
unplaced_record F.End = refl

pub row_events : (es : List EventRead) (n : ℕ) → map unplaced (map record_read es ++ replicate n blank) ≡ map (λ (i : Item Located). record_of i.event) (items_read es) ++ replicate n blank
row_events [] n = blanks unplaced n
row_events (e ∷ es) n = ap₂ ◌∷◌ (unplaced_record e.item.event) (row_events es n)

pub row_places : (es : List EventRead) (n : ℕ) → map (λ (e : Event). e.place) (map record_read es ++ replicate n blank) ≡ map (λ (e : EventRead). e.place) es ++ replicate n 0
row_places [] n = blanks (λ (e : Event). e.place) n
row_places (e ∷ es) n = ap (λ (l : List ℕ). e.place ∷ l) (row_places es n)

pub row_front : (es rest : List Event) (n : ℕ) → length es ≡ n → take n (es ++ rest) ≡ es
row_front [] rest zero q = refl
row_front [] rest (suc n) q = absurd (omega arith)
row_front (e ∷ es) rest zero q = absurd (omega arith)
row_front (e ∷ es) rest (suc n) q = ap (λ (l : List Event). e ∷ l) (row_front es rest n (omega arith))

module _ (s : Octets) (rest : List Event) where
  place_nth : (es : List EventRead) (i : ℕ) → i < length es → (get_or (map record_read es ++ rest) i blank).place ≡ get_or (map (λ (e : EventRead). e.place) es) i 0
  place_nth [] i h = absurd (omega arith)
  place_nth (e ∷ es) zero h = refl
  place_nth (e ∷ es) (suc i) h = place_nth es i (omega arith)

  end_kind : (e : F.Event Located) → is_end (event_map (octets_of s) e) ≡ true → (record_of e).kind ≡ End
  unfolding event_map record_of
  end_kind (F.Namespace p n) q = clash q
  end_kind (F.Start x) q = clash q
  end_kind (F.Attribute x y) q = clash q
  end_kind (F.Text y) q = clash q
  end_kind (F.Comment y) q = clash q
  end_kind (F.Instruction x y) q = clash q
  end_kind F.End q = refl

  kind_nth : (es : List EventRead) (i : ℕ) → i < length es → Ends (map (plain s) (items_read es)) i → (get_or (map record_read es ++ rest) i blank).kind ≡ End
  kind_nth [] i h q = absurd (omega arith)
  kind_nth (e ∷ es) zero h q = end_kind e.item.event q
  kind_nth (e ∷ es) (suc i) h q = kind_nth es i (omega arith) q

place-behind : (es : List Event) (n i : ℕ) → length es ≤ i → (get_or (es ++ replicate n blank) i blank).place ≡ 0
place-behind [] n i h = ap (λ (e : Event). e.place) (all_alike blank n i)
place-behind (e ∷ es) n zero h = absurd (omega arith)
place-behind (e ∷ es) n (suc i) h = place-behind es n i (omega arith)

module _ (ver : Version) (s : Octets) (h : Head) (items : List (Item Octets)) (z : State Octets) (w : Document ver h items z s) (room : ℕ) (es : List EventRead) (last : Stand)
    (reads : reading ver s room ≡ accepted es last) (are : map (plain s) (items_read es) ≡ items) (at-rules : map (λ (e : EventRead). e.place) es ≡ places_in w.rule) (more : ℕ) where
  abbrev row : List Event
  row = map record_read es ++ replicate more blank

  as_many : length es ≡ length items
  as_many = sym (length-map (items_read es) (plain s) ∙ length-map es (λ (e : EventRead). e.item)) ∙ ap length are

  place_at : (i : ℕ) → i < length items → (get_or row i blank).place ≡ get_or (places_in w.rule) i 0
  place_at i l = let m = as_many in place_nth s (replicate more blank) es i (omega arith) ∙ ap (λ (ps : List ℕ). get_or ps i 0) at-rules

  kind_at : (i : ℕ) → i < length items → Ends items i → (get_or row i blank).kind ≡ End
  kind_at i l q = let m = as_many in kind_nth s (replicate more blank) es i (omega arith) (subst (λ (is : List (Item Octets)). Ends is i) (sym are) q)

  room_at : (i : ℕ) → i < length items → (read_of ver s i table_words).told ≡ told_refused 14 (get_or row i blank).place
  unfolding read_of
  room_at i l =
      let m = as_many in
      let at_marks = Whole.places_are ver s room es last reads in
      let n = ap length at_marks in
      let n₁ = length-map es (λ (e : EventRead). e.place) in
      let n₂ = length-map (marks ver s) (λ (k : Mark). k.place) in
      rw (accepted_sized ver s room es last reads, Whole.too_short ver s i (omega arith), ← at_marks, place_nth s (replicate more blank) es i (omega arith))

  pub event_places : EventPlaces ver s (length items) row
  event_places =
      record {
        of_room = room_at;
        never_fall = λ i j l b. elim (dec_lt i j) [ yes k ↦ (let t = (in_turn_lem w.rule i j k b).0 in let p = place_at i (omega arith) in let q = place_at j b in omega arith) | no k ↦ (let e : i ≡ j = omega arith in rw e (omega arith)) ];
        shared_by_ends = λ i j l b e.
            let t = (in_turn_lem w.rule i j l b).1 (sym (place_at i (omega arith)) ∙ e ∙ place_at j b) in
            (kind_at i (omega arith) t.0, kind_at j b t.1);
        inside = λ i l.
            let p = place_at i l in
            let d = within w.rule i l in
            let a = ap length w.here in
            let b = length-append (halves w.before) w.body in
            let c = halves-length w.before in
            let f = halves-length s in
            omega arith;
        none_behind = λ i l. let m = as_many in let k = length-map es record_read in place-behind (map record_read es) more i (omega arith);
      }
