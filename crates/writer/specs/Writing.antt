-- The writer's definition: what it answers and leaves in the lent room, for every input.
use Rattle.std.specs.Prelude as Std
use Rattle.std.specs.Prelude.{ℕ, zero, suc, ◌+◌, ◌-◌, ◌*◌, ◌≡◌, ◌&&◌, List, [], ◌∷◌, ◌++◌, length, replicate, eqb, leb, Ok, Err}
use Rattle.format.specs.Octets.{Octets, Halves, Words}
use Rattle.format.specs.Numbers.{pick}
use Rattle.format.specs.Events.{Item, ◌by◌}
use Rattle.format.specs.Tables.{Vocabulary, Version}
use Rattle.format.specs.Items.{State}
use Rattle.format.specs.Document.{pad, beginning}
use Rattle.format.specs.Refusals.{SIZE, ROOM, EVENT, refusal_number}
use Rattle.format.specs.declared.refusals.Fault.{Fault}
use Rattle.tables.specs.Counts.{table_words, entry_words, words_of}
use Rattle.tables.specs.Kept.{listed}
use Rattle.tables.specs.Told.{Told, told_accepted, told_refused, entries_of}
use Rattle.events.specs.declared.Event.{Event}
use Rattle.tables.specs.Located.{Located}
use Rattle.write_head.specs.Given.{Given, is_given, given_of}
use Rattle.write_head.specs.Head.{tables_of, head_octets, fault_of_head}
use Rattle.write_items.specs.Events.{event_of, is_content}
use Rattle.write_items.specs.Items.{WroteItem, write_item}
use Rattle.write_items.specs.Steps.{announced, settled, fits, halves_of, judge, joined}
use Rattle.writer.specs.declared.Accepted.{Accepted}

-- Items with their choices, the halves they are written as, and what is known at the end; or the refusal and the event's number.
pub data Result : Type 0 where
  written : List (Item Located) → Halves → State Located → Result
  refusal : (number place : ℕ) → Result

abbrev pub plus : Item Located → Halves → Result → Result
plus i hs (written is rest z) = written (i ∷ is) (hs ++ rest) z
plus i hs (refusal n p) = refusal n p

module _ (ver : Version) (text : Octets) (room : ℕ) where
  -- The document's end behind the last event, number i: owed too soon (16), no room (14).
  unfoldable pub finish : ℕ → State Located → ℕ → Result
  finish at v i =
      pick (is_content v.mode && (eqb v.level 0 && v.root))
      (pick (fits ver text room (suc at)) (written [] (15 ∷ pad (suc at)) v) (refusal ROOM i))
      (refusal EVENT i)

  -- The events from number i on, from the half `at`.
  unfoldable pub run : ℕ → State Located → ℕ → List Event → Result
  run at v i [] = finish at v i
  run at v i (e ∷ es) =
      let w : WroteItem = write_item ver text (announced (e ∷ es)) (settled v (event_of e.kind e)) (event_of e.kind e) in
      let hs : Halves = halves_of ver text room at v (event_of e.kind e) w in
      elim (judge ver text room at v e w hs) [
        | zero ↦ plus (event_of e.kind e by w.choice) hs (run (at + length hs) w.state (suc i) es)
        | suc n ↦ refusal (suc n) i
      ]

  -- What is known after each event, up to the document's end or the first refusal.
  unfoldable pub trace : ℕ → State Located → List Event → List (State Located)
  trace at v [] = []
  trace at v (e ∷ es) =
      let w : WroteItem = write_item ver text (announced (e ∷ es)) (settled v (event_of e.kind e)) (event_of e.kind e) in
      let hs : Halves = halves_of ver text room at v (event_of e.kind e) w in
      elim (judge ver text room at v e w hs) [
        | zero ↦ w.state ∷ trace (at + length hs) w.state es
        | suc n ↦ []
      ]

-- What the requirements' table says of each answer.
abbrev pub told : Std.Result Accepted Fault → Told
told (Ok a) = told_accepted a.octets (listed a.counts)
told (Err f) = told_refused (refusal_number f.refusal) f.at

-- What a call answers, in the requirements' numbers, and what it leaves: every octet of the output, every table word.
pub record Outcome : Type 0 where
  pub told : Told
  pub out : Octets
  pub tables : Words

-- A call answered and left this. No two answers are told alike.
abbrev pub Leaves : Std.Result Accepted Fault → (out : Octets) (tables : Words) → Outcome → Type 0
Leaves r out tables o = (told r ≡ o.told) × (out ≡ o.out) × (tables ≡ o.tables)

-- A refusal blanks all the room that was lent.
abbrev pub refusing : ℕ → ℕ → ℕ → ℕ → Outcome
refusing n p room table = record { told = told_refused n p; out = replicate room 0; tables = replicate table 0 }

abbrev pub accepting : Octets → Vocabulary Located → ℕ → Outcome
accepting s v room =
    record {
      told = told_accepted (length s) (entries_of v);
      out = s ++ replicate (room - length s) 0;
      tables = words_of entry_words v;
    }

module _ (ver : Version) where
  -- The document is the octets before its body, and then those of the halves.
  abbrev pub outcome : (before : Octets) → Result → ℕ → Outcome
  outcome before (written is hs z) room = accepting (before ++ joined hs) z.tables room
  outcome before (refusal n p) room = refusing n p room table_words

  -- From the tables g that are given for the head, and these events, over this text area, with so much output lent: what is wrong with the head is refused at place 0; then
  -- the events, behind it and from its tables. Without a head, the header is event 0's.
  unfoldable pub writing : Given → Octets → ℕ → List Event → Result
  writing g text room es =
      elim (fault_of_head ver text g room) [
        | zero ↦ run ver text room (2 * length (head_octets ver text g)) (beginning (tables_of ver g)) 0 es
        | suc n ↦ refusal (suc n) 0
      ]

  -- And what is known after each of them, if the head is right.
  unfoldable pub known_writing : Given → Octets → ℕ → List Event → List (State Located)
  known_writing g text room es = trace ver text room (2 * length (head_octets ver text g)) (beginning (tables_of ver g)) es

  -- Writing, with the words `given` for the head, `room` octets of output and `table` table words lent: SIZE (1), since a text area is no longer than a document; then the table
  -- room (14); then more or fewer given words than their counts say (16), all at place 0; then the head and the events.
  unfoldable pub write_of : (given : Words) → List Event → Octets → (room table : ℕ) → Outcome
  write_of given es text room table =
      pick (leb (length text) ver.octets)
      (pick (eqb table table_words)
      (pick (is_given given) (outcome (head_octets ver text (given_of given)) (writing (given_of given) text room es) room) (refusing EVENT 0 room table))
      (refusing ROOM 0 room table))
      (refusing SIZE 0 room table)
