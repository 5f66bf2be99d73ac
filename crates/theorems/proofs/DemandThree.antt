-- DEMAND 3: octets are accepted exactly when the rules write them, from one head and one pair of events and choices, and its events are the ones handed out.
use Prim.Native.Nat.{ℕ, ◌+◌, ◌-◌, ◌≤◌}
use mathlib.Core.Path.{◌≡◌, refl, sym, ap, ◌∙◌, subst}
use mathlib.Core.Bool.{Bool, true, false}
use mathlib.Core.List.{List, ◌++◌, map}
use native.Mathlib.Omega.{arith}
use borrow.Author.Tests.{eqb-true, eq-eqb}
use lib.Dec.{eqb}
use lib.ListN.{length, replicate, length-map}
use Rattle.format.specs.Octets.{Octets, AreOctets}
use Rattle.format.specs.Numbers.{pick}
use Rattle.format.specs.Events.{Name, Item}
use Rattle.format.specs.Tables.{Tables, Vocabulary, Version}
use Rattle.format.specs.Head.{Head}
use Rattle.format.specs.Items.{State}
use Rattle.format.specs.Document.{Document}
use Rattle.format.specs.Uses.{Holds}
use Rattle.tables.specs.Located.{Located, empty, plain, plain_state, start}
use Rattle.tables.specs.Counts.{table_words}
use Rattle.tables.specs.Told.{told_accepted, entries_of}
use Rattle.events.specs.Records.{blank, record_of}
use Rattle.reader.specs.Reading.{EventRead, items_read, record_read, Result, accepted, refusal, sized, reading, refusing, outcome, read_of, Accepts}
use Rattle.theorems.specs.Bounded.{Bounded}
use Rattle.theorems.specs.Demands.{HandsOut, ReadsExactly}
use Rattle.theorems.proofs.Words.{entries-map}
use Rattle.theorems.proofs.Heads.{opened_named, named_ranged, named_listed, begins, holds_begins}
use Rattle.theorems.proofs.ReadRecords.{named_there}
use Rattle.theorems.proofs.Document as Whole
use Rattle.theorems.proofs.EventPlaces as Placed
use Rattle.theorems.proofs.Fits.{accepted_fits, accepted_sized}
use Rattle.theorems.proofs.Demands.{accepted_is_written, one_pair, refused, standing_places, records_well_made, listed_places, made_earlier_places, spelled_places, tables_made_places}

module _ (ver : Version) (s : Octets) (room table : ℕ) where
  pub accepts : (h : Head) (items : List (Item Octets)) (z : State Octets) (w : Document ver h items z s) → length items ≤ room → table ≡ table_words
      → HandsOut ver s room h items z w (read_of ver s room table)
  unfolding read_of
  accepts h items z w few right =
      let a = Whole.accepts ver s h items z w room few in
      let o = listed_places ver h items z s w in
      let names : Tables Located (Name Located) = begins empty o.tables in
      let named = named_there ver s o.tables (λ t. rw o.are (opened_named w.opens t)) in
      let held : Holds o.tables names = holds_begins empty o.tables (named_ranged named) in
      let known : plain_state s a.last.state ≡ z = a.end_is in
      let is : length a.events ≡ length items = sym (length-map (items_read a.events) (plain s) ∙ length-map a.events (λ (e : EventRead). e.item)) ∙ ap length a.are in
      let placed = standing_places ver h items z s w room few a.events a.last a.reads in
      let as_many : length (map record_read a.events) ≡ length items = length-map a.events record_read ∙ is in
      rw (accepted_sized ver s room a.events a.last a.reads, eq-eqb table table_words right, a.reads)
      (record {
        events = items_read a.events;
        tables = a.last.state.tables;
        answer = λ i. told_accepted (as_many i) ((sym (entries-map _ a.last.state.tables) ∙ ap (λ (u : State Octets). entries_of u.tables) known) i);
        row = Placed.row_events a.events (room - length (map record_read a.events)) ∙ ap (λ (n : ℕ). map (λ (i : Item Located). record_of i.event) (items_read a.events) ++ replicate (room - n) blank) as_many;
        places = Placed.row_places a.events (room - length (map record_read a.events)) ∙ (λ i. placed i ++ replicate (room - as_many i) 0);
        event_places = Placed.event_places ver s h items z w room a.events a.last a.reads a.are placed (room - length (map record_read a.events));
        table_words_lem = refl;
        events_are = a.are;
        tables_are = ap (λ (u : State Octets). u.tables) known;
        well_made = rw (Placed.row_front (map record_read a.events) (replicate (room - length (map record_read a.events)) blank) (length items) as_many) (records_well_made ver h items z s w room a.events a.last a.reads);
        spelled = spelled_places ver h items z s w room few a.events a.last a.reads;
        head = o.head;
        begins = names;
        head_is = o.head_is;
        listed = o.listed_are;
        begins_with = subst (λ (v : Vocabulary Located). Holds v names) o.tables_are held;
        named = named_listed (start ver) o.head o.tables_are named;
        earlier = made_earlier_places ver s room (length w.before) o.tables names o.answers held a.events a.last a.reads;
        tables_made = tables_made_places ver s room (length w.before) o.tables names o.answers held a.events a.last a.reads;
      })

module _ (ver : Version) (ok : Bounded ver) (s : Octets) (bytes : AreOctets s) (room table : ℕ) where
  abbrev Stands : Type 0
  Stands = (h : Head) × (items : List (Item Octets)) × (z : State Octets) × Document ver h items z s × (length items ≤ room) × (table ≡ table_words)

  only_from : table ≡ table_words → (r : Result) → reading ver s room ≡ r → (outcome r room).told.number ≡ 0 → Stands
  only_from right (accepted es m) q e =
      let a : Accepts ver s room (map (plain s) (items_read es)) (plain_state s m.state) = record { events = es; last = m; reads = q; are = refl; end_is = refl } in
      let w = accepted_is_written ver ok s bytes room _ _ a in
      (w.0, map (plain s) (items_read es), plain_state s m.state, w.1, accepted_fits ver s room _ _ a, right)
  only_from right (refusal n p) q e = absurd (let k = (refused ver ok s bytes room n p q).0 in omega arith)

  only : (b d : Bool) → eqb table table_words ≡ d → (pick b (pick d (outcome (reading ver s room) room) (refusing 14 0 room table)) (refusing 1 0 room table)).told.number ≡ 0 → Stands
  only true true q e = only_from (eqb-true table table_words q) (reading ver s room) refl e
  only true false q e = absurd (omega arith)
  only false d q e = absurd (omega arith)

  pub read_exactly : ReadsExactly ver s room table (read_of ver s room table)
  unfolding read_of
  read_exactly = record { accepts = accepts ver s room table; only = only (sized ver s) (eqb table table_words) refl; one_pair = one_pair ver ok s bytes }
