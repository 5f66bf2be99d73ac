-- The writer does not look at the places of records: it answers and leaves the same for events that are the same but for these.
use Prim.Native.Nat.{ℕ, zero, suc, ◌+◌, ◌*◌, ◌/◌, ◌%◌, ◌<◌}
use mathlib.Core.Path.{◌≡◌, refl, sym, ap, ap₂, ◌∙◌}
use mathlib.Core.Bool.{Bool, false}
use mathlib.Core.List.{List, [], ◌∷◌, map}
use native.Mathlib.Omega.{arith}
use lib.ListN.{length, get_or}
use Rattle.format.specs.Octets.{Octets, Halves, Words}
use Rattle.format.specs.Events as E
use Rattle.format.specs.Events.{◌by◌}
use Rattle.format.specs.Tables.{Version}
use Rattle.format.specs.Items.{State}
use Rattle.format.specs.Document.{beginning}
use Rattle.tables.specs.Located.{Located}
use Rattle.events.specs.declared.Kind.{Kind}
use Rattle.events.specs.declared.Kind.TheVariants.{Blank, Namespace, Start, Attribute, Chunk, Comment, Instruction, End}
use Rattle.events.specs.declared.Event.{Event}
use Rattle.events.specs.Records.{unplaced}
use Rattle.events.specs.FromWords.{told_at, record_at, records_from, records_of}
use Rattle.events.proofs.WordLaws.{same_event}
use Rattle.write_items.specs.Events.{is_name, no_name, well_made, event_of}
use Rattle.write_head.specs.Given.{Given, given_of}
use Rattle.write_head.specs.Head.{tables_of, head_octets, fault_of_head}
use Rattle.write_items.specs.Items.{WroteItem, write_item}
use Rattle.write_items.specs.Steps.{attribute_next, announced, settled, halves_of, judge}
use Rattle.writer.specs.Writing.{Result, refusal, plus, run, writing, write_of}
use Rattle.writer.specs.Words.{write_words, measure_words}
use Rattle.theorems.specs.Demands.{SameButPlaces}

-- ---- an event
made_alike : (text : Octets) (k : Kind) (e : Event) → well_made text k (unplaced e) ≡ well_made text k e
unfolding well_made is_name no_name
made_alike text Blank e = refl
made_alike text Namespace e = refl
made_alike text Start e = refl
made_alike text Attribute e = refl
made_alike text Chunk e = refl
made_alike text Comment e = refl
made_alike text Instruction e = refl
made_alike text End e = refl

event_alike : (k : Kind) (e : Event) → event_of k (unplaced e) ≡ event_of k e
unfolding event_of
event_alike Blank e = refl
event_alike Namespace e = refl
event_alike Start e = refl
event_alike Attribute e = refl
event_alike Chunk e = refl
event_alike Comment e = refl
event_alike Instruction e = refl
event_alike End e = refl

-- ---- what follows it
next_alike : (es : List Event) → attribute_next (map unplaced es) ≡ attribute_next es
next_alike [] = refl
next_alike (e ∷ es) = refl

announced_alike : (es : List Event) → announced (map unplaced es) ≡ announced es
unfolding announced
announced_alike [] = refl
announced_alike (e ∷ es) =
    λ j. elim e.kind [ Blank ↦ false | Namespace ↦ announced_alike es j | Start ↦ next_alike es j | Attribute ↦ false | Chunk ↦ false | Comment ↦ false | Instruction ↦ false | End ↦ false ]

-- ---- a run
module _ (ver : Version) (text : Octets) (room : ℕ) where
  judge_alike : (e : Event) (at : ℕ) (v : State Located) (w : WroteItem) (hs : Halves) → judge ver text room at v (unplaced e) w hs ≡ judge ver text room at v e w hs
  unfolding judge
  judge_alike e at v w hs = rw (event_alike e.kind e, made_alike text e.kind e)

  -- a run, from what it asks of its first event x
  abbrev from : (at : ℕ) (v : State Located) (i : ℕ) → Bool → E.Event Located → (WroteItem → Halves → ℕ) → (ℕ → State Located → Result) → Result
  from at v i announces x judges go =
      let w : WroteItem = write_item ver text announces (settled v x) x in
      let hs : Halves = halves_of ver text room at v x w in
      elim (judges w hs) [
        | zero ↦ plus (x by w.choice) hs (go (at + length hs) w.state)
        | suc n ↦ refusal (suc n) i
      ]

  run_alike : (es : List Event) (at : ℕ) (v : State Located) (i : ℕ) → run ver text room at v i (map unplaced es) ≡ run ver text room at v i es
  unfolding run
  run_alike [] at v i = refl
  run_alike (e ∷ es) at v i =
      λ j. from at v i (announced_alike (e ∷ es) j) (event_alike e.kind e j) (λ w hs. judge_alike e at v w hs j) (λ at₁ v₁. run_alike es at₁ v₁ (suc i) j)

  write_from : (es : List Event) (g : Given) → writing ver g text room (map unplaced es) ≡ writing ver g text room es
  unfolding writing
  write_from es g = λ j. elim (fault_of_head ver text g room) [ zero ↦ run_alike es (2 * length (head_octets ver text g)) (beginning (tables_of ver g)) 0 j | suc n ↦ refusal (suc n) 0 ]

module _ (ver : Version) (given : Words) (text : Octets) (room table : ℕ) where
  write_alike : (es : List Event) → write_of ver given (map unplaced es) text room table ≡ write_of ver given es text room table
  unfolding write_of
  write_alike es = rw (write_from ver text room es (given_of given))

  pub places_ignored : (es fs : List Event) → map unplaced es ≡ map unplaced fs → write_of ver given es text room table ≡ write_of ver given fs text room table
  places_ignored es fs q = sym (write_alike es) ∙ ap (λ (l : List Event). write_of ver given l text room table) q ∙ write_alike fs

-- ---- from words
module _ (a b : Words) (same : (i : ℕ) → (i % 14 ≡ 13 → ⊥) → get_or a i 0 ≡ get_or b i 0) where
  -- the string of three words of a record, none of which is the last
  told_alike : (at k : ℕ) → at % 14 ≡ 0 → k < 11 → told_at a (at + k) ≡ told_at b (at + k)
  told_alike at k z l =
      rw (same (at + k) (λ q. omega arith), same (at + k + 1) (λ q. omega arith), same (at + k + 2) (λ q. omega arith))

  record_alike : (at : ℕ) → at % 14 ≡ 0 → unplaced (record_at a at) ≡ unplaced (record_at b at)
  record_alike at z =
      same_event a b at at (same at (λ q. omega arith)) (told_alike at 1 z (omega arith)) (told_alike at 4 z (omega arith)) (told_alike at 7 z (omega arith)) (told_alike at 10 z (omega arith))

  records_alike : (n at : ℕ) → at % 14 ≡ 0 → map unplaced (records_from a at n) ≡ map unplaced (records_from b at n)
  unfolding records_from
  records_alike zero at z = refl
  records_alike (suc n) at z = ap₂ ◌∷◌ (record_alike at z) (records_alike n (at + 14) (omega arith))

module _ (ver : Version) (given records others : Words) (text : Octets) (r t c : ℕ) (same : SameButPlaces records others) where
  records_of_alike : map unplaced (records_of records) ≡ map unplaced (records_of others)
  unfolding records_of
  records_of_alike = rw same.0 (records_alike records others same.1 (length others / 14) 0 refl)

  words_alike : (room : ℕ) → write_words ver given records text room t c ≡ write_words ver given others text room t c
  unfolding write_words
  words_alike room = rw (places_ignored ver given text room t (records_of records) (records_of others) records_of_alike)

  pub places_ignored_in_words : (write_words ver given records text r t c ≡ write_words ver given others text r t c) × (measure_words ver given records text t c ≡ measure_words ver given others text t c)
  unfolding measure_words
  places_ignored_in_words = (words_alike r, rw (words_alike ver.octets))
