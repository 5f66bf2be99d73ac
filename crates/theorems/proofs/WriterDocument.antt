-- A whole document that the writer wrote: it is what the rules write, within the limits and the room, and what was known after each event is what the rules know; a
-- list that it refuses is refused by the requirements.
use mathlib.Core.Path.{◌≡◌, refl, sym, ap, ◌∙◌, subst}
use mathlib.Core.Bool.{false}
use mathlib.Core.List.{List, [], ◌∷◌, ◌++◌, map}
use Prim.Native.Nat.{ℕ, suc, ◌+◌, ◌*◌, ◌/◌, ◌≤◌, min}
use native.Mathlib.Omega.{arith}
use borrow.Author.Tests.{leb-true}
use lib.ListN.{length, length-append, length-map}
use Rattle.format.specs.Octets.{Octets, Halves}
use Rattle.format.specs.Events.{Item}
use Rattle.format.specs.Tables.{Version}
use Rattle.format.specs.Head.{Head, Opens}
use Rattle.format.specs.Items.{content, State}
use Rattle.format.specs.Document.{halves, aligned, Written, document_end_lem, attributes_end, element_end, item, known_after, begun, beginning, Document}
use Rattle.events.specs.declared.Event.{Event}
use Rattle.tables.specs.Located.{Located, plain, plain_state}
use Rattle.write_names.specs.Chosen.{chosen, tables_after}
use Rattle.write_head.specs.Given.{Given}
use Rattle.write_head.specs.Head.{tables_of, head_octets}
use Rattle.write_items.specs.Steps.{fits, joined}
use Rattle.writer.specs.Writing.{Result, written, refusal, run, writing, known_writing}
use Rattle.theorems.specs.Bounded.{Bounded}
use Rattle.theorems.specs.Heads.{headed}
use Rattle.theorems.specs.Verdicts.{plains, items_of, head_of, HeadRight, HeadFault, AllRight, Refused}
use Rattle.theorems.proofs.Lists.{align_is, halves-length, pad-length}
use Rattle.theorems.proofs.Heads.{head_allowed, opened_ranged}
use Rattle.theorems.proofs.GivenHeads.{tables-headed, right_is, fault_is, right_opens}
use Rattle.theorems.proofs.Structure.{all_left, sane_first}
use Rattle.theorems.proofs.Joined.{joins, document_of}
use Rattle.theorems.proofs.Turns as Turns
use Rattle.theorems.proofs.Turns.{own_of, IfWritten, all_written}
use Rattle.theorems.proofs.WriterRun.{Stands, Judged, run_judged}

-- ---- after each item something is known
as_many : {ver : Version} {at : ℕ} {v z : State Octets} {items : List (Item Octets)} {hs : Halves} (w : Written ver at v items hs z) → length (known_after ver w) ≡ length items
unfolding known_after
as_many (document_end_lem md lv rt) = refl
as_many (attributes_end md w) = as_many w
as_many (element_end md lv w) = ap suc (as_many w)
as_many (item u w) = ap suc (as_many w)

-- ---- the room
module _ (ver : Version) (text : Octets) (room : ℕ) where
  abbrev InRoom : List Event → ℕ → State Located → List (Item Located) → Halves → State Located → Type 0
  InRoom es at v items hs z = at + length hs ≤ 2 * min room ver.octets

  in_room : (es : List Event) (at : ℕ) (v : State Located) (i : ℕ) → IfWritten ver text room InRoom es at v (run ver text room at v i es)
  unfolding fits
  in_room =
      all_written ver text room InRoom (λ at v f. omega (arith, leb-true (aligned (suc at) / 2) (min room ver.octets) f, pad-length (suc at), align_is (suc at)))
      (λ e es at v items rest z q h. omega (arith, length-append (own_of ver text room e es at v) rest))

-- ---- from the start, behind a head that is right
plain-beginning : (ver : Version) (text : Octets) (g : Given) → plain_state text (beginning (tables_of ver g)) ≡ beginning (headed ver (head_of ver text g))
unfolding beginning
plain-beginning ver text g = λ i. record { tables = tables-headed ver text g i; level = 0; root = false; mode = content }

module _ (ver : Version) (ok : Bounded ver) (text : Octets) (short : length text ≤ ver.octets) (room : ℕ) (g : Given) where
  abbrev head : Head
  head = head_of ver text g

  abbrev lead : Octets
  lead = head_octets ver text g

  -- the requirements refuse the head, or the events behind it
  pub data RefusedWith (es : List Event) : (number place : ℕ) → Type 0 where
    by_head : {n : ℕ} → HeadFault ver text g room n → RefusedWith es n 0
    by_event : {n p : ℕ} → HeadRight ver text g room → Refused ver head text room es n p → RefusedWith es n p

  -- what a result means, where ks are known after the events: the head is right, the octets are the rules', they fit the output, and the rules know as much after each item; each
  -- event is right, and the items are the requirements'; or the head or the list is refused
  pub record Means (es : List Event) (ks : List (State Located)) (items : List (Item Located)) (hs : Halves) (z : State Located) : Type 0 where
    pub right : HeadRight ver text g room
    pub writes : Document ver head (map (plain text) items) (plain_state text z) (lead ++ joined hs)
    pub fits : length (lead ++ joined hs) ≤ room
    pub known : known_after ver writes.rule ≡ map (plain_state text) ks
    pub chosen_by : map (plain text) items ≡ items_of ver head (plains text es)
    pub all_right : AllRight ver head text room es

  abbrev Meaning : List Event → List (State Located) → Result → Type 0
  Meaning es ks (written items hs z) = Means es ks items hs z
  Meaning es ks (refusal n p) = RefusedWith es n p

  module _ (right : HeadRight ver text g room) where
    abbrev op : Opens ver head lead (headed ver head)
    op = right_opens ver text g room right

    first_stands : (es : List Event) → Stands ver ok text head lead op [] (2 * length lead) (beginning (tables_of ver g)) es
    unfolding beginning chosen tables_after
    first_stands es =
        let s = plain-beginning ver text g in
        let w = ap (λ (u : State Octets). u.tables) s in
        record {
          halves = [];
          begun = rw s begun;
          at_is = omega arith;
          tables = w;
          order = rw w (record { fit = (head_allowed ok op).0.in_limits; ranged = opened_ranged op });
          ahead = tt;
          sane = sane_first (headed ver head);
          forth = λ tail f d. (all_left (headed ver head) tail).0 d;
          back = λ tail r. (all_left (headed ver head) tail).1 r;
        }

    from_run : (es : List Event) (ks : List (State Located)) (r : Result) → Judged ver ok text head lead op short room [] (2 * length lead) (beginning (tables_of ver g)) es ks r
        → IfWritten ver text room (InRoom ver text room) es (2 * length lead) (beginning (tables_of ver g)) r → Meaning es ks r
    unfolding beginning
    from_run es ks (written items hs z) u h =
        let w = rw (plain-beginning ver text g) at u.0 in
        let j = joins (length lead) w.0 in
        let l = halves-length (joined hs) in
        let k = ap length j in
        let la = length-append lead (joined hs) in
        record {
          right = right;
          writes = document_of op w.0 (omega arith);
          fits = omega arith;
          known = w.1;
          chosen_by = u.1 ∙ ap (λ (v : State Octets). chosen ver v.tables (plains text es)) (plain-beginning ver text g);
          all_right = u.2;
        }
    from_run es ks (refusal n p) u h = by_event right u

  means : (es : List Event) → Meaning es (known_writing ver g text room es) (writing ver g text room es)
  unfolding known_writing
  means es =
      Turns.by_head ver text room g es (Meaning es (known_writing ver g text room es))
      (λ e.
      let right = right_is ver text g ok short room e in
      from_run right es (known_writing ver g text room es) (run ver text room (2 * length lead) (beginning (tables_of ver g)) 0 es)
      (run_judged ver ok text head lead (op right) short room es [] (2 * length lead) (beginning (tables_of ver g)) 0 refl (first_stands right es) (λ b e after q. absurd (let l = ap length q in let k = length-append b (e ∷ after) in omega arith)))
      (in_room ver text room es (2 * length lead) (beginning (tables_of ver g)) 0))
      (λ n e. by_head (fault_is ver text g ok short room n e))

  pub meant : (es : List Event) (items : List (Item Located)) (hs : Halves) (z : State Located) → writing ver g text room es ≡ written items hs z → Means es (known_writing ver g text room es) items hs z
  meant es items hs z e = subst (Meaning es (known_writing ver g text room es)) e (means es)

  pub refused_by : (es : List Event) (n p : ℕ) → writing ver g text room es ≡ refusal n p → RefusedWith es n p
  refused_by es n p e = subst (Meaning es (known_writing ver g text room es)) e (means es)

  pub each-known : (es : List Event) (items : List (Item Located)) (hs : Halves) (z : State Located) → writing ver g text room es ≡ written items hs z → length (known_writing ver g text room es) ≡ length items
  each-known es items hs z e =
      let m = meant es items hs z e in
      sym (length-map (known_writing ver g text room es) (plain_state text)) ∙ sym (ap length m.known) ∙ as_many m.writes.rule ∙ length-map items (plain text)
