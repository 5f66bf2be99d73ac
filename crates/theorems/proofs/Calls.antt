-- DEMANDS 1 AND 3 OF THE CODE. The contract of `reader::read::read` equates what a call answers and leaves with `read_of`, that of `lomphachit_read` with
-- `read_words`, and that of the check its answer with `check_of`: so a call accepts exactly what the rules write, and hands out those events, whatever stood in
-- the room. That there is one such pair only is `one_pair`, beside this file.
use Prim.Native.Nat.{ℕ, ◌+◌, ◌*◌, ◌/◌, ◌^◌, ◌≤◌, ◌<◌}
use mathlib.Core.Path.{◌≡◌, refl, sym, ap, ◌∙◌}
use mathlib.Core.Bool.{Bool, true, false}
use mathlib.Core.List.{List, map}
use native.Mathlib.Omega.{arith}
use lib.ListN.{length}
use lib.Dec.{eqb}
use Rattle.std.specs.Prelude as Std
use Rattle.format.specs.Octets.{Octets, Words, AreOctets}
use Rattle.format.specs.declared.refusals.Fault.{Fault}
use Rattle.format.specs.Numbers.{pick}
use Rattle.format.specs.Events.{Item}
use Rattle.format.specs.Tables.{Version}
use Rattle.format.specs.Head.{Head}
use Rattle.format.specs.Items.{State}
use Rattle.format.specs.Document.{Document}
use Rattle.tables.specs.Counts.{table_words}
use Rattle.tables.specs.Told.{Told, told_accepted, whole_word}
use Rattle.tables.specs.Located.{Located, plain, plain_state}
use Rattle.events.specs.declared.Event.{Event}
use Rattle.reader.specs.declared.Accepted.{Accepted}
use Rattle.reader.specs.Reading.{EventRead, items_read, record_read, Result, accepted, refusal, sized, reading, Outcome, Leaves, refusing, accepting, outcome, read_of, number_of, check_of}
use Rattle.reader.specs.Words.{leaving, nothing, in_words, read_words}
use Rattle.theorems.specs.Bounded.{Bounded}
use Rattle.theorems.proofs.Alike.{read_alike}
use Rattle.theorems.proofs.Fits.{accepted_sized}
use Rattle.theorems.proofs.Document as Whole
use Rattle.theorems.proofs.Demands.{check_needs_none}

-- The octets are what the rules write, from some head and items.
pub record Written (ver : Version) (s : Octets) : Type 0 where
  pub head : Head
  pub items : List (Item Octets)
  pub last : State Octets
  pub writes : Document ver head items last s

-- A call with this room left the records of these events, blank records behind them, and these tables; and the rules write s from some head and the events.
pub record Handed (ver : Version) (s : Octets) (room : ℕ) (o : Outcome) : Type 0 where
  pub head : Head
  pub events : List EventRead
  pub last : State Located
  pub is : o ≡ accepting (map record_read events) last.tables room
  pub writes : Document ver head (map (plain s) (items_read events)) (plain_state s last) s

module _ (ver : Version) (ok : Bounded ver) (s : Octets) (bytes : AreOctets s) where
  module _ (room : ℕ) where
    from_result : (a : Result) → Whole.Means ver ok s bytes a → (outcome a room).told.number ≡ 0 → Handed ver s room (outcome a room)
    from_result (accepted es m) w e = record { head = w.0; events = es; last = m.state; is = refl; writes = w.1 }
    from_result (refusal k p) w e = absurd (omega arith)

    by_room : (table : ℕ) (b d : Bool)
        → (pick b (pick d (outcome (reading ver s room) room) (refusing 14 0 room table)) (refusing 1 0 room table)).told.number ≡ 0
        → Handed ver s room (pick b (pick d (outcome (reading ver s room) room) (refusing 14 0 room table)) (refusing 1 0 room table))
    by_room table true true e = from_result (reading ver s room) (Whole.means ver ok s bytes room) e
    by_room table true false e = absurd (omega arith)
    by_room table false d e = absurd (omega arith)

    -- 13. READ ACCEPTS what the rules write, and the events in the row are those.
    pub read_accepts : (table n : ℕ) (counts : Words) → (read_of ver s room table).told ≡ told_accepted n counts → Handed ver s room (read_of ver s room table)
    unfolding read_of
    read_accepts table n counts e = by_room table (sized ver s) (eqb table table_words) (ap (λ (t : Told). t.number) e)

    --     And all that the rules write, if there is a record for each event and the table room is right; the events in the row are those of the items, and the
    --     tables in the words those that the rules know at the end.
    pub written-is_read : (h : Head) (items : List (Item Octets)) (z : State Octets) → Document ver h items z s → length items ≤ room
        → (r : Handed ver s room (read_of ver s room table_words)) × (r.head ≡ h) × (map (plain s) (items_read r.events) ≡ items) × (plain_state s r.last ≡ z)
    unfolding read_of
    written-is_read h items z w few =
        let a = Whole.accepts ver s h items z w room few in
        let y = accepted_sized ver s room a.events a.last a.reads in (
          record {
            head = h;
            events = a.events;
            last = a.last.state;
            is = rw (y, a.reads);
            writes = rw (a.are, a.end_is) w;
          },
          refl,
          a.are,
          a.end_is,
        )

  from_number : (a : Result) → Whole.Means ver ok s bytes a → number_of a ≡ 0 → Written ver s
  from_number (accepted es m) w e = record { head = w.0; items = map (plain s) (items_read es); last = plain_state s m.state; writes = w.1 }
  from_number (refusal n p) w e = absurd (omega arith)

  -- 14. THE CHECK answers 0 for what the rules write, and for nothing else.
  pub check_accepts : check_of ver s ≡ 0 → Written ver s
  unfolding check_of
  check_accepts e = from_number (reading ver s (2 * ver.octets)) (Whole.means ver ok s bytes (2 * ver.octets)) e

  pub written_is_checked : (h : Head) (items : List (Item Octets)) (z : State Octets) → Document ver h items z s → check_of ver s ≡ 0
  written_is_checked h items z w =
      let a = Whole.accepts ver s h items z w (2 * ver.octets + length items) (omega arith) in
      check_needs_none ver ok s bytes (2 * ver.octets + length items) (omega arith) ∙ ap number_of a.reads

  -- 15. READ INTO WORDS: what is accepted is left as the words of what `read` leaves; so the rules write s from the events in these words (13).
  module _ (r t : ℕ) where
    abbrev left : Outcome
    left = read_of ver s (r / 14) t

    small : (a : Result) → Whole.Means ver ok s bytes a → (outcome a (r / 14)).told.number < 32
    small (accepted es m) w = omega arith
    small (refusal k p) w = omega arith

    small_room : (b d : Bool) → (pick b (pick d (outcome (reading ver s (r / 14)) (r / 14)) (refusing 14 0 (r / 14) t)) (refusing 1 0 (r / 14) t)).told.number < 32
    small_room true true = small (reading ver s (r / 14)) (Whole.means ver ok s bytes (r / 14))
    small_room true false = omega arith
    small_room false d = omega arith

    by_answer : (n : ℕ) → whole_word left.told ≡ n * 2 ^ 32 → Handed ver s (r / 14) left
    unfolding read_of
    by_answer n e = let l = small_room (sized ver s) (eqb t table_words) in by_room (r / 14) t (sized ver s) (eqb t table_words) (omega arith)

    by_words_lem : (c n : ℕ) (b d : Bool) → (pick b (pick d (in_words r left) (nothing 14 r t c)) (nothing 1 r t c)).answer ≡ n * 2 ^ 32
        → Handed ver s (r / 14) left × (pick b (pick d (in_words r left) (nothing 14 r t c)) (nothing 1 r t c) ≡ in_words r left)
    unfolding in_words
    by_words_lem c n true true e = (by_answer n e, refl)
    by_words_lem c n true false e = absurd (omega arith)
    by_words_lem c n false d e = absurd (omega arith)

    pub words_accept : (c n : ℕ) → (read_words ver s r t c).answer ≡ n * 2 ^ 32 → Handed ver s (r / 14) left × (read_words ver s r t c ≡ in_words r left)
    unfolding read_words
    words_accept c n e = by_words_lem c n (sized ver s) (eqb c 10) e

  --     And all that the rules write is, if there are words for each event and the tables' room is right.
  pub written_is_worded : (h : Head) (items : List (Item Octets)) (z : State Octets) → Document ver h items z s → (r : ℕ) → length items ≤ r / 14
      → Handed ver s (r / 14) (read_of ver s (r / 14) table_words) × (read_words ver s r table_words 10 ≡ in_words r (read_of ver s (r / 14) table_words))
  unfolding read_words
  written_is_worded h items z w r few =
      let a = Whole.accepts ver s h items z w (r / 14) few in
      ((written-is_read (r / 14) h items z w few).0, rw (accepted_sized ver s (r / 14) a.events a.last a.reads))

-- 16. DEMAND 1: what a call answers and leaves depends on the octets, and on how much room is lent, but not on what stood in it: e and t before one call, f and u
--     before another.
module _ (ver : Version) (s : Octets) (e f : List Event) (t u : Words) (a b : Std.Result Accepted Fault) (e' f' : List Event) (t' u' : Words) where
  pub whatever_stood : length e ≡ length f → length t ≡ length u → Leaves a e' t' (read_of ver s (length e) (length t)) → Leaves b f' u' (read_of ver s (length f) (length u))
      → (a ≡ b) × (e' ≡ f') × (t' ≡ u')
  whatever_stood l m x y = let y' = rw (← l, ← m) at y in (read_alike a b (x.0 ∙ sym y'.0), x.1 ∙ sym y'.1, x.2 ∙ sym y'.2)

--     And a second call on what the first left, whose lengths are what they were, answers and leaves the same.
pub read_twice : (ver : Version) (s : Octets) (e e' e'' : List Event) (t t' t'' : Words) (a b : Std.Result Accepted Fault) → length e' ≡ length e → length t' ≡ length t
    → Leaves a e' t' (read_of ver s (length e) (length t)) → Leaves b e'' t'' (read_of ver s (length e') (length t')) → (b ≡ a) × (e'' ≡ e') × (t'' ≡ t')
read_twice ver s e e' e'' t t' t'' a b l m x y = whatever_stood ver s e' e t' t b a e'' e' t'' t' l m y x

--     The same of reading into words.
pub words_whatever_stood : (ver : Version) (s : Octets) (r q t u c d : Words) (a b : ℕ) (r' q' t' u' c' d' : Words) → length r ≡ length q → length t ≡ length u → length c ≡ length d
    → leaving a r' t' c' ≡ read_words ver s (length r) (length t) (length c) → leaving b q' u' d' ≡ read_words ver s (length q) (length u) (length d)
    → leaving a r' t' c' ≡ leaving b q' u' d'
words_whatever_stood ver s r q t u c d a b r' q' t' u' c' d' l m n x y = x ∙ rw (l, m, n) (sym y)
