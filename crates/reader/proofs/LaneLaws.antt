-- The quick lane: what each of its items is as a step, and steps one behind the other.
-- Assumes nothing.
use mathlib.Core.Path.{◌≡◌, refl, sym, ap, ◌∙◌}
use mathlib.Core.Bool.{Bool, true, false, ◌&&◌}
use mathlib.Core.List.{List}
use Prim.Native.Nat.{ℕ, zero, suc, ◌+◌, ◌-◌, ◌*◌, ◌/◌, ◌%◌, ◌^◌, ◌≤◌, ◌<◌}
use native.Mathlib.Omega.{arith}
use native.Mathlib.Decide.{ℕ_discrete}
use borrow.Author.Tests.{lt-ltb, eq-eqb, ne_eqb, eqb-true, ltb-true, leb-true}
use lib.Dec.{eqb, ltb, leb}
use lib.ListN.{length, get_or, take, drop}
use Rattle.std.proofs.lemmas.List.{take_all}
use Rattle.std.specs.Prelude.{Result as Answered, Ok, Err, Option, Some, None}
use Rattle.std.specs.Result.{result_ok}
use Rattle.format.specs.declared.refusals.Fault.{Fault}
use Rattle.format.specs.Octets.{Octets, Words}
use Rattle.format.specs.Numbers.{lengths, numbers, top}
use Rattle.format.specs.Tables.{Triple, link}
use Rattle.format.specs.Strings.{c15}
use Rattle.format.specs.Forms.{form_of}
use Rattle.format.specs.declared.StringForm.TheVariants.{Utf8}
use Rattle.fields.specs.declared.Read.{Read}
use Rattle.fields.specs.Fields.{value_from, field_at, no_top, got}
use Rattle.fields.specs.Utf8.{is_text}
use Rattle.fields.proofs.Laws.{sizes_in, rooms_in}
use Rattle.fields.proofs.Cases.{behind_got, field_form}
use Rattle.fields.proofs.Utf8.{plain_text}
use Rattle.fields.proofs.Numbers.{number_shares, number_values, numbers_are}
use Rattle.tables.specs.declared.Row.{Row}
use Rattle.tables.specs.Counts.{table_words}
use Rattle.tables.specs.Located.{stretch, octets_of}
use Rattle.tables.specs.Rows.{table_of, string_at, triple_at, vocabulary}
use Rattle.tables.specs.Kept.{count_of, unlisted, layout_of, row_at}
use Rattle.tables.proofs.Found.{both_true}
use Rattle.tables.proofs.Search.{octets_stretch}
use Rattle.states.specs.declared.State.{State}
use Rattle.states.specs.States.{mode_of, after_end}
use Rattle.events.specs.declared.EventString.{EventString}
use Rattle.events.specs.declared.EventString.TheVariants.{Absent, Stretch}
use Rattle.events.specs.declared.Kind.TheVariants.{Start}
use Rattle.events.specs.declared.Event.{Event}
use Rattle.events.specs.Records.{event_string, start_record, chunk_record, end_record}
use Rattle.events.specs.Kept.{kept}
use Rattle.read_names.specs.declared.Parts.{Parts}
use Rattle.read_names.specs.Strings.{literal_at}
use Rattle.read_names.specs.Names.{numbered_at}
use Rattle.read_names.specs.Promises.{Tidy, IdLeft, seen_name, name_seen, string_seen, event_string_at, name_strings_at, NameThere}
use Rattle.index.proofs.Counted.{count_at}
use Rattle.read_names.proofs.Grown.{name_ranged}
use Rattle.read_names.proofs.StringLaws.{length-read, judged_text, entry_octets, entry_formed, string_none, string_there, held_entry, said_entry, FieldAnswers, table_small, formed_added, spelled_utf8, chunk_held, chunk_spelled}
use Rattle.read_names.proofs.NameLaws.{element_number, row_is, strings_are_lem, number_held}
use Rattle.read_items.specs.declared.Step.TheVariants.{Event as Found}
use Rattle.read_items.specs.Items as I
use Rattle.read_items.specs.Items.{Stand, child_at, item_at}
use Rattle.read_items.specs.Steps.{half_at, pads_at, step}
use Rattle.read_items.specs.Promises.{Lent, lent, stand_of, Good, Met}
use Rattle.read_items.specs.ItemContracts.{named_record}
use Rattle.read_items.proofs.StepLaws.{met_by, start-opened}
use Rattle.read_items.proofs.Fields.{name_there}
use Rattle.read_items.proofs.EndLaws.{half_high, half_low, pads_even, pads_odd, ends_half, end_element}
use Rattle.read_items.proofs.ItemLaws.{padding_none, chunk_more, start_met, element_numbered, child_element, child_text, item_child, step_end, step_item}
use Rattle.reader.specs.declared.lane.Lane.{Lane}
use Rattle.reader.specs.Reading.{Result, turn, run}
use Rattle.reader.specs.RunContracts.{ending_of, kept_from}
use Rattle.reader.specs.LaneContracts.{Underway, Tidied, Onward, in_lane, enters_lane, Stands, Skims, Takes, Advances, ReadsShort, AddsChunk}
use Rattle.reader.proofs.RunLaws.{run_one, underway_more}

-- ---- one behind the other
module _ {s : Octets} {n : ℕ} {st : State} {t c r : Words} where
  pub onward-same : {full : ℕ} → n ≤ full → Tidied s c t → Onward s full st n t c r st n t c r
  onward-same h d = record { less = omega arith; most = h; tidied = d; goes = λ {v} {room} {from} {left} f l u. let z : n + left - n ≡ left = omega arith in rw z u }

  onward_then : {full m k : ℕ} {st₁ st₂ : State} {t₁ c₁ r₁ t₂ c₂ r₂ : Words} → Onward s full st n t c r st₁ m t₁ c₁ r₁ → Onward s full st₁ m t₁ c₁ r₁ st₂ k t₂ c₂ r₂ → Onward s full st n t c r st₂ k t₂ c₂ r₂
  onward_then {m = m} {k = k} a b =
      let al = a.less in
      let am = a.most in
      let bl = b.less in
      record {
        less = omega arith;
        most = b.most;
        tidied = b.tidied;
        goes = λ {v} {room} {from} {left} f l u.
            let z : m + (n + left - m) - k ≡ n + left - k = omega arith in
            rw z at (b.goes f (omega arith) (a.goes f l u));
      }

  -- one step
  onward_one : {st' : State} {p : ℕ} {t' c' r' : Words} → Tidied s c' t' → length r' ≡ length r
      → ((x : Octets) → Good s st (lent t c x r) → Met s st n (lent t c x r) (Ok (Found st' p)) (lent t' c' x r') (step link s))
      → Onward s (n + 1) st n t c r st' (n + 1) t' c' r'
  onward_one d same m =
      record {
        less = omega arith;
        most = omega arith;
        tidied = d;
        goes = λ {v} {room} {from} {left} {x} f l u.
            let z : left - 1 ≡ n + left - (n + 1) = omega arith in
            rw z at (underway_more u (omega arith) (m x u.good) refl (λ q. omega arith) same);
      }

-- ---- places that are one: the next step is the same from both, and so is all behind it
module _ (go : ℕ → Stand → Result) (m m' : Stand) (q : m.state ≡ m'.state) (n : ℕ) where
  turn_ends : (room : ℕ) (x : I.Step) → ending_of n (turn go room m x) ≡ ending_of n (turn go room m' x)
  turn_ends zero (I.more p i k) = refl
  turn_ends (suc room) (I.more p i k) = refl
  turn_ends room (I.quiet k) = refl
  turn_ends room I.done = rw q
  turn_ends room (I.stop j p) = refl

  turn-kept : (w : List ℕ) (room : ℕ) (x : I.Step) → kept_from w n (turn go room m x) ≡ kept_from w n (turn go room m' x)
  turn-kept w zero (I.more p i k) = refl
  turn-kept w (suc room) (I.more p i k) = refl
  turn-kept w room (I.quiet k) = refl
  turn-kept w room I.done = refl
  turn-kept w room (I.stop j p) = refl

module _ {s v : Words} {room : ℕ} {from : Stand} {left n : ℕ} {st st' : State} {a : Lent} (u : Underway s v room from left n st a) (h : 0 < left) (g : Good s st' a)
    (q : (stand_of st a).state ≡ (stand_of st' a).state) (e : step link s (stand_of st a) ≡ step link s (stand_of st' a)) where
  abbrev go : ℕ → Stand → Result
  go k m = run link s (left - 1) k m

  turned : run link s left (room - n) (stand_of st a) ≡ turn go (room - n) (stand_of st a) (step link s (stand_of st' a))
  turned = run_one s left (room - n) (stand_of st a) h ∙ ap (turn go (room - n) (stand_of st a)) e

  underway_over : Underway s v room from left n st' a
  underway_over =
      record {
        good = g;
        fits = u.fits;
        fuel = u.fuel;
        ends = ap (ending_of n) (run_one s left (room - n) (stand_of st' a) h)
            ∙ sym (turn_ends go (stand_of st a) (stand_of st' a) q n (room - n) (step link s (stand_of st' a)))
            ∙ sym (ap (ending_of n) turned) ∙ u.ends;
        keeps = λ k. ap (kept_from a.records n) (run_one s left (room - n) (stand_of st' a) h)
            ∙ sym (turn-kept go (stand_of st a) (stand_of st' a) q n a.records (room - n) (step link s (stand_of st' a)))
            ∙ sym (ap (kept_from a.records n) turned) ∙ u.keeps k;
        same_length = u.same_length;
      }

-- where the lane comes to a place from which the next step is that from another
onward_over : {s : Octets} {full n m : ℕ} {st st₁ st₂ : State} {t c r t₁ c₁ r₁ : Words} → Onward s full st n t c r st₁ m t₁ c₁ r₁
    → ((x : Octets) → Good s st₁ (lent t₁ c₁ x r₁)
    → Good s st₂ (lent t₁ c₁ x r₁) × ((stand_of st₁ (lent t₁ c₁ x r₁)).state ≡ (stand_of st₂ (lent t₁ c₁ x r₁)).state) × (step link s (stand_of st₁ (lent t₁ c₁ x r₁)) ≡ step link s (stand_of st₂ (lent t₁ c₁ x r₁))))
    → Onward s full st n t c r st₂ m t₁ c₁ r₁
onward_over a f =
    let most = a.most in
    record {
      less = a.less;
      most = a.most;
      tidied = a.tidied;
      goes = λ {v} {room} {from} {left} {x} k l u. let w = a.goes k l u in let g = f x w.good in underway_over w (omega arith) g.0 g.1 g.2;
    }

-- ---- a step among children
module _ (s : Octets) (st : State) (a : Lent) (k : ℕ) (m : st.mode ≡ 0) where
  -- No end stands there, and the padding that is due is right: it is the child at the next octet.
  step_child : (half_at s st.at ≡ 15 → ⊥) → true ≡ pads_at s st.at → (st.at + 1) / 2 ≡ k → step link s (stand_of st a) ≡ child_at link s k (stand_of st a).state
  step_child not15 pads e =
      step_item s (stand_of st a) (sym (ne_eqb _ _ not15) ∙ ends_half st.mode s st.at (omega arith)) pads
      ∙ ap (λ (i : ℕ). item_at link s i (stand_of st a).state (mode_of st.mode)) e
      ∙ item_child s k (stand_of st a).state st.mode m

  -- at the start of an octet
  step_here : st.at ≡ 2 * k → k < length s → get_or s k 0 < 0xF0 → step link s (stand_of st a) ≡ child_at link s k (stand_of st a).state
  step_here e h l =
      let z : st.at / 2 ≡ k = omega arith in
      let y : get_or s k 0 / 16 % 16 ≡ half_at s st.at = half_high s st.at (omega arith) (get_or s k 0 / 16 % 16) (rw z (omega arith)) (omega arith) (rw z refl) in
      step_child (λ q. omega arith) (pads_even s st.at (omega arith)) (omega arith)

  -- behind an end in the first half of an octet whose other half is padding
  step_behind : (j : ℕ) → st.at ≡ 2 * j + 1 → j + 1 ≡ k → k < length s → get_or s j 0 ≡ 0xF0 → step link s (stand_of st a) ≡ child_at link s k (stand_of st a).state
  step_behind j e n h l =
      let z : st.at / 2 ≡ j = omega arith in
      let odd : st.at % 2 ≡ 0 → ⊥ = λ q. omega arith in
      let y : 0 ≡ half_at s st.at = half_low s st.at (omega arith) 0 (rw z (omega arith)) odd (rw (z, l) refl) in
      step_child (λ q. omega arith) (sym (eq-eqb _ _ (sym y)) ∙ pads_odd s st.at odd) (omega arith)

-- ---- numbers of one octet or two
module _ (s : Octets) (at b ones : ℕ) (h : at + 1 < length s) (small : ones ≤ 64) where
  pub row_one : {value : ℕ} → b < ones → value ≡ b → ReadsShort s at b ones (record { value = value; next = record { at = at + 1 } })
  unfolding value_from sizes_in rooms_in
  row_one l e bit f u o q =
      let n : 1 + b ≡ b + 1 = omega arith in
      let p : at + 1 + 0 ≡ at + 1 = omega arith in
      rw e
      (rw (n, p) at (field_form top bit s at (numbers bit) (number_shares bit) (numbers_are bit f u) (omega arith) 0 tt _ _ _ _ refl b (omega arith) 1 _ refl refl (omega arith)
      ∙ behind_got s at b 0 1 (2 ^ (8 - bit)) top b (omega arith) refl (omega arith) (omega arith)))

  pub row_two : {value : ℕ} → ones ≤ b → b < ones + ones / 4 → get_or s (at + 1) 0 < 256 → value ≡ 256 * (b - ones) + get_or s (at + 1) 0 + ones
      → ReadsShort s at b ones (record { value = value; next = record { at = at + 2 } })
  unfolding value_from sizes_in rooms_in
  row_two l g o e bit f u z q =
      let w = number_values bit u in
      let n : 1 + 2 ^ (8 - bit) + ((b - ones) * 256 + get_or s (at + 1) 0) ≡ 256 * (b - ones) + get_or s (at + 1) 0 + ones + 1 = omega arith in
      let p : at + 1 + 1 ≡ at + 2 = omega arith in
      rw e
      (rw (n, p) at (field_form top bit s at (numbers bit) (number_shares bit) (numbers_are bit f u) (omega arith) 1 (omega arith) _ _ _ _ refl (b - ones) (omega arith) _ _ (omega arith) refl (omega arith)
      ∙ behind_got s at (b - ones) 1 (1 + 2 ^ (8 - bit)) (2 ^ (14 - bit)) top ((b - ones) * 256 + get_or s (at + 1) 0) (omega arith) refl (omega arith) (omega arith)))

-- ---- what is read there, with any index
module _ (s c t : List ℕ) (at o : ℕ) where
  read-start : (x : Read ℕ) → o ≡ get_or s at 0 % 2 ^ (9 - 3) → ReadsShort s at o 0x20 x → x.value < get_or c 8 0 → (i : Octets) → Tidy s c t i
      → (seen_name 8 (got (x.value + 1) x.next.at) c t ≡ name_seen (numbered_at link (layout_of 8) s at (vocabulary (unlisted c) t))) × IdLeft s c t 8 (got (x.value + 1) x.next.at) c t i
  read-start x b q h i tidy =
      number_held s c t i 8 at tidy (omega arith) (omega arith) _ (sym (q 3 (omega arith) (omega arith) refl b) ∙ element_number 8 refl s at) _
      (held_entry _ at (record { value = x.value + 1; next = x.next }) (rw (count_at c tidy.ten 8) (omega arith)))

-- A chunk's string v, and the octet behind it.
abbrev ReadsText : (s c t : List ℕ) → ℕ → EventString → ℕ → (c' t' x : List ℕ) → Type 0
ReadsText s c t at v next c' t' x = FieldAnswers s c t (got v next) c' t' x (string_seen (literal_at link c15 s (table_of 6) at (vocabulary (unlisted c) t)))

module _ (s c t : List ℕ) (at o : ℕ) (e : o ≡ get_or s at 0) where
  read_chunk : (x : Read ℕ) → 0xA0 ≤ o → o < 0xB4 → ReadsShort s at (o - 0xA0) 0x10 x → x.value < get_or c 6 0 → (i : Octets) → Tidy s c t i
      → ReadsText s c t at (event_string (string_at (table_of 6) t (768 * 6 + 3 * (x.value + 1 - 1)))) x.next.at c t i
  read_chunk x a l q h i tidy =
      let b : o - 0xA0 ≡ get_or s at 0 % 2 ^ (9 - 4) = omega arith in
      chunk_held s c t i 6 at tidy (omega arith) o e (omega arith) (omega arith) 1 (omega arith) refl _ (sym (q 4 (omega arith) (omega arith) refl b)) _
      (said_entry t 6 _ at (record { value = x.value + 1; next = x.next }) _ (rw (count_at c tidy.ten 6) (omega arith)) refl)

  -- bit 3 is 0
  spelled_bit : 0x80 ≤ o → o < 0xA0 → o / 32 % 2 ≡ 1 → ⊥
  spelled_bit l h z = omega arith

  -- b is its bits 5 and 6, a its add bit; its length is read, r, and its octets are text
  read_spelled : {c' t' : Words} → 0x80 ≤ o → o < 0xA0 → {b : ℕ} → b ≡ o / 4 % 4 → b ≡ 0 → (r : Read ℕ) → Ok r ≡ field_at (lengths 7) no_top 7 s at → r.next.at + r.value ≤ length s
      → is_text (take (r.next.at + r.value - r.next.at) (drop r.next.at s)) ≡ true → {a : ℕ} → a ≡ o / 16 % 2 → AddsChunk (Some tt) c t r.next.at r.value (eqb a 1) c' t' → (x : Octets) → Tidy s c t x
      → ReadsText s c t at (Stretch Utf8 r.next.at r.value) (r.next.at + r.value) c' t' x
  read_spelled {c' = c'} {t' = t'} l h {b = b} eb zb r em to text {a = a} ea adds x tidy =
      let z : r.next.at + r.value - r.next.at ≡ r.value = omega arith in
      let text' : is_text (octets_of s (stretch Utf8 r.next.at r.value)) ≡ true = rw (octets_stretch s Utf8 r.next.at r.value) (rw z at text) in
      let read = got (Stretch Utf8 r.next.at r.value) (r.next.at + r.value) in
      chunk_spelled s c t x 6 at tidy (omega arith) o e l (omega arith) (o / 32 % 2) refl (spelled_bit l h) a ea read c' t'
      (spelled_utf8 s c t x 6 at tidy (omega arith) 7 (eqb a 1) (omega arith) o b e eb (Ok r) read c' t' zb em
      (formed_added s c t x 6 at tidy (omega arith) Utf8 (eqb a 1) r (length-read s at 7 r em) (omega arith) (judged_text Utf8 s at r to text') read c' t' (adds at)))

-- ---- each item as a step
module _ {s : Octets} {t c r : Words} {y : Lane} (w : Stands s c t y) {r' : Words} (same : length r' ≡ length r) where
  pub takes_start : (o : ℕ) → o ≡ get_or s y.at 0 → (x : Read ℕ) → o < 0x28 → ReadsShort s y.at o 0x20 x → x.value < get_or c 8 0 → y.level < 32
      → r' ≡ kept r y.n y.at (named_record Start (name_strings_at t 8 (x.value + 1)) Absent)
      → Takes s (y.n + 1) y t c r (Some (record { at = x.next.at; level = y.level + 1; n = y.n + 1 })) t c r'
  unfolding layout_of
  takes_start o e x l q h d k =
      let m = w.more in
      let inside = w.inside in
      let z = w.tidied.tidy.size in
      let b : o ≡ get_or s y.at 0 % 2 ^ (9 - 3) = omega arith in
      let near = (read-start s c t y.at o x b q h w.tidied.index w.tidied.tidy).1.0.within in (
        record {
          onward = onward_one w.tidied same λ i good.
              let v = (stand_of (in_lane y) (lent t c i r)).state in
              let read = read-start s c t y.at o x b q h i good.tidy in
              start_met y.at false _ (record { value = x.value + 1; next = x.next }) read.0 read.1 (start-opened (in_lane y) y.at false t r y.n d refl k)
              (step_here s (in_lane y) (lent t c i r) y.at refl refl (omega arith) (omega arith)
              ∙ child_element s y.at v (omega arith) 0 o (omega arith) (omega arith) (omega arith) (omega arith)
              ∙ element_numbered s y.at o false v (padding_none o (omega arith) (λ a. omega arith) (λ a. omega arith)) (rw (lt-ltb 0 y.level (omega arith)) refl) (omega arith));
          inside = omega arith;
          near = omega arith;
        },
        omega arith,
      )

  -- a chunk whose string is read
  takes_text : {t' c' : Words} {v : EventString} {next : ℕ} {f : Event} → 0x80 ≤ get_or s y.at 0 → get_or s y.at 0 < 0xC0 → ((x : Octets) → Tidy s c t x → ReadsText s c t y.at v next c' t' x)
      → r' ≡ kept r y.n y.at f → f ≡ chunk_record v → Takes s (y.n + 1) y t c r (Some (record { at = next; level = y.level; n = y.n + 1 })) t' c' r'
  unfolding table_of
  takes_text {v = v} {next} l h read k q =
      let m = w.more in
      let inside = w.inside in
      let z = w.tidied.tidy.size in
      let left = (read w.tidied.index w.tidied.tidy).1 in
      let within = left.within in (
        record {
          onward = onward_one (record { index = w.tidied.index; tidy = left.tidy }) same λ x good.
              met_by (chunk_more y.at (record { value = v; next = record { at = next } }) good k q (read x good.tidy))
              (step_here s (in_lane y) (lent t c x r) y.at refl refl (omega arith) (omega arith)
              ∙ child_text s y.at (stand_of (in_lane y) (lent t c x r)).state (omega arith) (omega arith) (omega arith) (λ a. omega arith));
          inside = w.inside;
          near = omega arith;
        },
        omega arith,
      )

  pub takes_chunk : (o : ℕ) → o ≡ get_or s y.at 0 → (x : Read ℕ) → 0xA0 ≤ o → o < 0xB4 → ReadsShort s y.at (o - 0xA0) 0x10 x → x.value < get_or c 6 0 → r' ≡ kept r y.n y.at (chunk_record (event_string_at t 6 (x.value + 1)))
      → Takes s (y.n + 1) y t c r (Some (record { at = x.next.at; level = y.level; n = y.n + 1 })) t c r'
  takes_chunk o e x a l q h k =
      takes_text (omega arith) (omega arith) (read_chunk s c t y.at o e x a l q h) k (ap chunk_record (sym (string_there t 6 (x.value + 1) _ (omega arith) refl)))

  pub takes_spelled : {t' c' : Words} (o : ℕ) → o ≡ get_or s y.at 0 → 0x80 ≤ o → o < 0xA0 → {b : ℕ} → b ≡ o / 4 % 4 → b ≡ 0 → (i : Read ℕ) → Ok i ≡ field_at (lengths 7) no_top 7 s y.at
      → i.next.at + i.value ≤ length s → is_text (take (i.next.at + i.value - i.next.at) (drop i.next.at s)) ≡ true → {a : ℕ} → a ≡ o / 16 % 2 → AddsChunk (Some tt) c t i.next.at i.value (eqb a 1) c' t'
      → {f : Event} → r' ≡ kept r y.n y.at f → f ≡ chunk_record (Stretch Utf8 i.next.at i.value) → Takes s (y.n + 1) y t c r (Some (record { at = i.next.at + i.value; level = y.level; n = y.n + 1 })) t' c' r'
  takes_spelled o e l h eb zb i em to text ea adds k z = takes_text (omega arith) (omega arith) (read_spelled s c t y.at o e l h eb zb i em to text ea adds) k z

  pub takes_end : {e : Event} → get_or s y.at 0 ≡ 0xF0 → 2 ≤ y.level → get_or s (y.at + 1) 0 < 0xF0 → r' ≡ kept r y.n y.at e → e ≡ end_record
      → Takes s (y.n + 1) y t c r (Some (record { at = y.at + 1; level = y.level - 1; n = y.n + 1 })) t c r'
  takes_end o l b k q =
      let m = w.more in
      let z = w.tidied.tidy.size in
      let e : 2 * y.at / 2 ≡ y.at = omega arith in
      let h : 15 ≡ half_at s (2 * y.at) = half_high s (2 * y.at) (omega arith) 15 (rw e (omega arith)) (omega arith) (rw (e, o) refl) in
      let behind : State = after_end (in_lane y) (y.level - 1) in
      let next : State = record { at = 2 * (y.at + 1); level = y.level - 1; root = 1; mode = 0 } in (
        record {
          onward = onward_over
              (onward_one w.tidied same λ i good.
              met_by (end_element good refl (λ a. omega arith) (omega arith) (rw e k) q) (step_end s (stand_of (in_lane y) (lent t c i r)) (sym (eq-eqb _ _ (sym h)) ∙ ends_half 0 s (2 * y.at) (omega arith))))
              λ i good.
              let g = good.shallow in (
                record { tidy = good.tidy; at = omega arith; shallow = g },
                refl,
                step_behind s behind (lent t c i r') (y.at + 1) refl y.at refl refl (omega arith) o ∙ sym (step_here s next (lent t c i r') (y.at + 1) refl refl (omega arith) b),
              );
          inside = omega arith;
          near = omega arith;
        },
        omega arith,
      )

-- ---- one or two octets that are plain
abbrev plain : ℕ → Bool
plain x = leb 0x20 x && leb x 0x7F

plain_is : (x : ℕ) → plain x ≡ true → (0x20 ≤ x) × (x ≤ 0x7F)
plain_is x t = let p = both_true (leb 0x20 x) (leb x 0x7F) t in (leb-true 0x20 x p.0, leb-true x 0x7F p.1)

module _ (s : List ℕ) where
  plain_all : {n : ℕ} → length s ≡ n → ((j : ℕ) → j < n → plain (get_or s j 0) ≡ true) → true ≡ is_text s
  plain_all {n} e f =
      let z : take (n - 0) (drop 0 s) ≡ s = take_all (n - 0) s (omega arith) in
      rw z at (plain_text s 0 n (omega arith) (λ j p q. plain_is (get_or s j 0) (f j q)))

  pub one_text : length s ≡ 1 → plain (get_or s 0 0) ≡ true → true ≡ is_text s
  one_text l t = plain_all l λ j p. let z : j ≡ 0 = omega arith in rw z t

  pub two_text : length s ≡ 2 → plain (get_or s 0 0) ≡ true → plain (get_or s 1 0) ≡ true → true ≡ is_text s
  two_text l t u = plain_all l λ j p. elim (ℕ_discrete j 0) [ yes z ↦ rw z t | no n ↦ let z : j ≡ 1 = omega arith in rw z u ]

-- a length that was read
pub length_there : (s : List ℕ) (k : ℕ) {r : Answered (Read ℕ) Fault} {x : Read ℕ} → r ≡ field_at (lengths 7) no_top 7 s k → Some x ≡ result_ok r
    → (Ok x ≡ field_at (lengths 7) no_top 7 s k) × (1 ≤ x.value) × (x.next.at ≤ length s)
length_there s k {r} {x} e q = let i = of r q ∙ e in let l = length-read s k 7 x i in (i, l.0, l.1)
  where
    of : (r : Answered (Read ℕ) Fault) → Some x ≡ result_ok r → Ok x ≡ r
    of (Ok y) q = cc
    of (Err f) q = cc

-- what is taken below `full` events
pub takes_below : (s : Octets) (full : ℕ) (y : Lane) (t c r : Words) (o : Option Lane) (t' c' r' : Words) → y.n < full → Takes s (y.n + 1) y t c r o t' c' r' → Takes s full y t c r o t' c' r'
takes_below s full y t c r None t' c' r' h k = k
takes_below s full y t c r (Some z) t' c' r' h k =
    let g = k.0.onward in
    let most = g.most in
    (record { onward = record { less = g.less; most = omega arith; tidied = g.tidied; goes = λ f l u. g.goes (omega arith) (omega arith) u }; inside = k.0.inside; near = k.0.near }, k.1)

module _ {s : Octets} {full : ℕ} {x y : Lane} {t c r t₁ c₁ r₁ t₂ c₂ r₂ : Words} (a : Skims s full x t c r y t₁ c₁ r₁) where
  pub skims_then : {z : Lane} → Takes s full y t₁ c₁ r₁ (Some z) t₂ c₂ r₂ → Skims s full x t c r z t₂ c₂ r₂
  skims_then b = record { onward = onward_then a.onward b.0.onward; inside = b.0.inside; near = b.0.near }

  pub skims_end : Takes s full y t₁ c₁ r₁ None t₂ c₂ r₂ → Skims s full x t c r y t₂ c₂ r₂
  skims_end q = rw (q.0, q.1, q.2) a

-- ---- the records of elements and chunks by number
module _ (t : Words) (i : ℕ) (x : Row) (e : x ≡ row_at t (768 * 8 + 3 * i)) where
  there : x ≡ row_at t (768 * 8 + 3 * (i + 1 - 1))
  there = let z : i + 1 - 1 ≡ i = omega arith in rw z e

  pub local_there : NameThere t 8 (i + 1) → 1 ≤ (triple_at t (768 * 8 + 3 * (i + 1 - 1))).local → (1 ≤ x.c) × (x.c ≤ 256)
  local_there p l = let z : x.c ≡ (triple_at t (768 * 8 + 3 * (i + 1 - 1))).local = ap (λ (y : Triple). y.local) (row_is t 8 (i + 1) x there) in let h = p.7 in omega arith

  -- a local name alone
  pub local-alone : (y : Row) → x.a ≡ 0 → x.b ≡ 0 → 1 ≤ x.c → y ≡ row_at t (768 * 2 + 3 * (x.c - 1)) → (y.b ≡ 0 → ⊥)
      → start_record Absent Absent (Stretch Utf8 y.a y.b) ≡ named_record Start (name_strings_at t 8 (i + 1)) Absent
  local-alone y a b l q h =
      ap (λ (z : Parts). named_record Start z Absent)
      (strings_are_lem t 8 (i + 1) x there Absent Absent (Stretch Utf8 y.a y.b) (string_none t 0 x.a a) (string_none t 1 x.b b) (string_there t 2 x.c _ l (entry_octets 2 (768 * 2 + 3 * (x.c - 1)) t y q (omega arith) h)))

-- a chunk in utf-8
pub chunk_plain : (t : Words) (i : ℕ) (x : Row) → x ≡ row_at t (768 * 6 + 3 * i) → x.c ≡ 0 → (x.b ≡ 0 → ⊥) → Stretch Utf8 x.a x.b ≡ event_string_at t 6 (i + 1)
unfolding form_of
chunk_plain t i x e z h =
    let k : i + 1 - 1 ≡ i = omega arith in
    string_there t 6 (i + 1) _ (omega arith) (rw k (entry_formed 6 (768 * 6 + 3 * i) t x e Utf8 (rw z refl) (omega arith) (omega arith) h))

module _ {s : Octets} {t c : Words} {y : Lane} (w : Stands s c t y) where
  tidy : Tidy s c t w.tidied.index
  tidy = w.tidied.tidy

  -- the lane's octet is a place that a record can have
  pub place-fits : y.at < 0x1_0000_0000
  place-fits = let z = tidy.size in let m = w.more in omega arith

  pub name_in_row : (i : ℕ) → i < get_or c 8 0 → (y.at < 0x1_0000_0000) × NameThere t 8 (i + 1) × (1 ≤ (triple_at t (768 * 8 + 3 * (i + 1 - 1))).local)
  name_in_row i h =
      let l : i + 1 ≤ count_of (unlisted c) 8 = rw (count_at c tidy.ten 8) (omega arith) in
      (place-fits, name_there tidy 8 (i + 1) (omega arith) (omega arith) (omega arith) l, (name_ranged s c t w.tidied.index tidy 8 (i + 1) (omega arith) (omega arith) (omega arith) l).2)

  pub chunk_in_row : (i : ℕ) → i < get_or c 6 0 → (y.at < 0x1_0000_0000) × (length t ≡ table_words) × (i < 256)
  chunk_in_row i h = let l = table_small s c t w.tidied.index 6 tidy in (place-fits, tidy.room, omega arith)

-- ---- where the lane is entered
abbrev state : (at level root mode : ℕ) → State
state i j p q = record { at = i; level = j; root = p; mode = q }

module _ (st : State) where
  pub enters_is : true ≡ enters_lane st → (1 ≤ st.level) × (st ≡ in_lane (record { at = st.at / 2; level = st.level; n = 0 }))
  unfolding enters_lane
  enters_is e =
      let a = both_true (eqb st.mode 0) (eqb st.root 1 && (ltb 0 st.level && eqb (st.at % 2) 0)) (sym e) in
      let b = both_true (eqb st.root 1) (ltb 0 st.level && eqb (st.at % 2) 0) a.1 in
      let d = both_true (ltb 0 st.level) (eqb (st.at % 2) 0) b.1 in
      let m : st.mode ≡ 0 = eqb-true _ _ a.0 in
      let r : st.root ≡ 1 = eqb-true _ _ b.0 in
      let l : 0 < st.level = ltb-true _ _ d.0 in
      let h : st.at % 2 ≡ 0 = eqb-true _ _ d.1 in
      let k : st.at ≡ 2 * (st.at / 2) = omega arith in
      (omega arith, ap (λ (i : ℕ). state i st.level st.root st.mode) k ∙ rw (m, r) refl)

-- ---- the lane from any state
module _ {s : Octets} (room left : ℕ) {st : State} {n : ℕ} {t c r : Words} where
  pub advances_none : 0 < left → Advances s room left st n t c r st n t c r
  advances_none h = record { less = omega arith; short = omega arith; goes = λ u. let z : n + left - n ≡ left = omega arith in rw z u }

  pub advances_lane : {full : ℕ} {z : Lane} {t' c' r' : Words} → true ≡ enters_lane st → full ≤ room → full < n + left
      → Skims s full (record { at = st.at / 2; level = st.level; n = n }) t c r z t' c' r' → Advances s room left st n t c r (in_lane z) z.n t' c' r'
  advances_lane e f l k =
      let m = k.onward.most in
      record { less = k.onward.less; short = omega arith; goes = λ u. k.onward.goes f l (rw (enters_is st e).1 at u) }
