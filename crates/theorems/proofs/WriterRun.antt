-- A writer's run: it judges each event as the requirements do, in the words of the rules; what it accepts is what the rules write from the plain events with the required choices, and
-- what it knows after each is what they know.
use mathlib.Core.Path.{◌≡◌, refl, sym, ap, ap₂, ◌∙◌, subst}
use mathlib.Core.Bool.{Bool, true, false, not, ◌&&◌, ◌||◌}
use mathlib.Core.Option.{none}
use mathlib.Core.List.{List, [], ◌∷◌, ◌++◌, append_assoc, append-nil, map}
use Prim.Native.Nat.{ℕ, zero, suc, ◌+◌, ◌*◌, ◌/◌, ◌≤◌, min}
use native.Mathlib.Omega.{arith}
use borrow.Author.Tests.{leb-true, leb-false, le-leb, lt-leb, eqb-true}
use lib.Dec.{eqb, leb}
use lib.ListN.{length, length-append}
use Rattle.format.specs.Octets.{Octets, Halves}
use Rattle.format.specs.Numbers.{pick}
use Rattle.format.specs.Characters.{IsText}
use Rattle.format.specs.Events as E
use Rattle.format.specs.Events.{Item, ◌by◌, IsDocument, BeginsDocument, open_after, declares_last, is_declaration, is_start, opens_element}
use Rattle.format.specs.Tables.{Vocabulary, InLimits, Version}
use Rattle.format.specs.Items.{Mode, content, declaring, listing, State, knowing}
use Rattle.format.specs.Document.{halves, pad, aligned, Written, document_end_lem, known_after, beginning, Begun}
use Rattle.format.specs.Head.{Head, Opens}
use Rattle.events.specs.declared.Event.{Event}
use Rattle.events.specs.WellMade.{WellMade}
use Rattle.tables.specs.Located.{Located, octets_of, plain, plain_tables, plain_state}
use Rattle.write_names.specs.Choices.{within}
use Rattle.write_names.specs.Chosen.{choose_for, chosen, tables_after}
use Rattle.write_items.specs.Events.{well_made, event_of, is_content, is_declaring, goes_on, all_text}
use Rattle.write_items.specs.Items.{WroteItem, write_item}
use Rattle.write_items.specs.Steps.{attribute_next, announced, opens, settled, fits, halves_of, judge}
use Rattle.writer.specs.Writing.{Result, written, refusal, plus, finish, run, trace}
use Rattle.tables.proofs.Found.{clash, both_true}
use Rattle.theorems.specs.Bounded.{Bounded}
use Rattle.theorems.specs.Heads.{headed}
use Rattle.theorems.specs.Verdicts.{plain_of, plains, items_of, Overflows, WrittenIn, up_to, IsEvent, IsShallow, HasEntries, HasRoom, Right, Fault, not_an_event, not_text, too_deep, too_many, no_room, AllRight, Refused, at_event, too_soon, no_room_for_end}
use Rattle.theorems.proofs.Lists.{halves-length, pad-length, align_is}
use Rattle.theorems.proofs.Splits.{splits_last}
use Rattle.theorems.proofs.Words.{map_append}
use Rattle.theorems.proofs.OneWriting.{one_writing}
use Rattle.theorems.proofs.Heads.{one_head}
use Rattle.theorems.proofs.Headed.{rule_headed}
use Rattle.theorems.proofs.Structure as Tree
use Rattle.theorems.proofs.Structure.{Sane, attribute_first, stepped}
use Rattle.theorems.proofs.Begun as Begun
use Rattle.theorems.proofs.Produced.{Order, Said, rest_for, ranged_for}
use Rattle.theorems.proofs.Sayable.{made_is, is_made, by_kind, in_order, Each, all_text_lem, text_all, said, all_short, made_allowed}
use Rattle.theorems.proofs.Step.{Ahead, front_by, next_by_lem, ahead_next}
use Rattle.theorems.proofs.PlainStep.{opens_is, next_is, announced-start, announced_on, next_plain, choice_plain, halves-plain, next_words, within-plain, fits_of, of_fits}
use Rattle.theorems.proofs.Append.{chosen_append, tables_append}
use Rattle.theorems.proofs.Entries.{chosen_events}

-- what the rules write, and what they know after each item
abbrev pub Knows : Version → ℕ → State Octets → List (Item Octets) → Octets → State Octets → List (State Octets) → Type 0
Knows ver at v items hs z ks = (w : Written ver at v items hs z) × (known_after ver w ≡ ks)

-- Behind these octets, with which a document opens that has the head h.
module _ (ver : Version) (ok : Bounded ver) (text : Octets) (h : Head) (lead : Octets) (op : Opens ver h lead (headed ver h)) where
  -- Where the writer stands behind the plain events ps, with es ahead.
  pub record Stands (ps : List (E.Event Octets)) (at : ℕ) (v : State Located) (es : List Event) : Type 0 where
    pub halves : Halves
    pub begun : Begun ver (2 * length lead) (beginning (headed ver h)) (items_of ver h ps) halves (plain_state text v)
    pub at_is : at ≡ 2 * length lead + length halves
    pub tables : plain_tables text v.tables ≡ tables_after ver (headed ver h) ps
    pub order : Order ver (plain_tables text v.tables)
    pub ahead : Ahead v.mode (announced es)
    pub sane : Sane (plain_state text v)
    pub forth : (tail : List (E.Event Octets)) → attribute_first tail ≡ attribute_next es → IsDocument (ps ++ tail) → Tree.Rest (plain_state text v) tail
    pub back : (tail : List (E.Event Octets)) → Tree.Rest (plain_state text v) tail → IsDocument (ps ++ tail)

  module _ (short : length text ≤ ver.octets) (room : ℕ) (before : List Event) (e : Event) (es : List Event) (at : ℕ) (v : State Located) (st : Stands (plains text before) at v (e ∷ es)) where
    abbrev ps : List (E.Event Octets)
    ps = plains text before

    abbrev ev : E.Event Located
    ev = event_of e.kind e

    abbrev pe : E.Event Octets
    pe = plain_of text e

    abbrev pv : State Octets
    pv = plain_state text v

    abbrev a : Bool
    a = announced (e ∷ es)

    abbrev wi : WroteItem
    wi = write_item ver text a (settled v ev) ev

    abbrev hs : Halves
    hs = halves_of ver text room at v ev wi

    -- 16: the structure
    goes_if : BeginsDocument (up_to ver h text room before e) → goes_on v ev ≡ true
    goes_if b =
        let d : IsDocument (ps ++ (pe ∷ b.rest)) = rw append_assoc at b.whole in
        sym ((Tree.same_kind (octets_of text) ev).goes_too (plain_tables text v.tables) v) ∙ Tree.goes pv pe b.rest st.sane (st.forth (pe ∷ b.rest) (sym (next_is text e es)) d)

    begins : goes_on v ev ≡ true → BeginsDocument (up_to ver h text room before e)
    begins go =
        let c = Tree.completes (record { prefix = none; namespace = none; local = [] }) (stepped a pv pe) in
        let d = st.back (pe ∷ c.0) (Tree.back a pv pe c.0 ((Tree.same_kind (octets_of text) ev).goes_too (plain_tables text v.tables) v ∙ go) c.1) in
        record { rest = c.0; whole = rw append_assoc d }

    is_event : well_made text e.kind e ≡ true → goes_on v ev ≡ true → IsEvent ver h text room before e
    is_event m go = (made_is text e e.kind refl m, begins go)

    event_is : IsEvent ver h text room before e → (well_made text e.kind e && goes_on v ev) ≡ true
    event_is i = ap₂ (λ (x y : Bool). x && y) (is_made text i.0) (goes_if i.1)

    -- 13: the open elements
    level_is : v.level ≡ open_after 0 ps
    unfolding beginning
    level_is = Begun.level_is st.begun ∙ ap (open_after 0) (chosen_events ver (headed ver h) ps)

    declaring_is : is_declaring v.mode ≡ declares_last false ps
    unfolding beginning
    declaring_is = Begun.declaring_is st.begun ∙ ap (declares_last false) (chosen_events ver (headed ver h) ps)

    opens_element_lem : opens v.mode ev ≡ opens_element ps pe
    unfolding opens_element
    opens_element_lem = sym ((Tree.same_kind (octets_of text) ev).opens_too v.mode) ∙ opens_is v.mode pe ∙ ap (λ (b : Bool). (is_declaration pe || is_start pe) && not b) declaring_is

    shallow_from : (b : Bool) → opens v.mode ev ≡ b → (b && leb ver.depth v.level) ≡ false → IsShallow ver h text room before e
    shallow_from true q f o = let l = leb-false ver.depth v.level f in let k = level_is in omega arith
    shallow_from false q f o = clash (sym q ∙ opens_element_lem ∙ o)

    from_shallow : (b : Bool) → opens v.mode ev ≡ b → IsShallow ver h text room before e → (b && leb ver.depth v.level) ≡ false
    from_shallow true q f = let l = f (sym opens_element_lem ∙ q) in let k = level_is in lt-leb ver.depth v.level (omega arith)
    from_shallow false q f = refl

    -- 12: the tables
    tables_are : tables_after ver (headed ver h) (up_to ver h text room before e) ≡ (choose_for ver pv.tables pe).tables
    unfolding tables_after
    tables_are = tables_append ver (headed ver h) ps (pe ∷ []) ∙ ap (λ (w : Vocabulary Octets). (choose_for ver w pe).tables) (sym st.tables)

    words_next : plain_tables text wi.state.tables ≡ (choose_for ver pv.tables pe).tables
    words_next = ap (λ (u : State Octets). u.tables) (next_plain ver text a v ev) ∙ next_words ver a pv pe

    within_is : within ver (choose_for ver pv.tables pe).tables ≡ within ver wi.state.tables
    within_is = ap (within ver) (sym words_next) ∙ within-plain ver text wi.state.tables

    entries_if : within ver wi.state.tables ≡ true → InLimits ver (choose_for ver pv.tables pe).tables
    entries_if i = fits_of ver _ (within_is ∙ i) (rest_for ver pv.tables pe st.order)

    if_entries : HasEntries ver h text room before e → within ver wi.state.tables ≡ true
    if_entries i = sym within_is ∙ of_fits ver _ (subst (InLimits ver) tables_are i)

    -- 14: the room
    items_are : items_of ver h (up_to ver h text room before e) ≡ items_of ver h ps ++ ((pe by (choose_for ver pv.tables pe).how) ∷ [])
    unfolding chosen
    items_are = chosen_append ver (headed ver h) ps (pe ∷ []) ∙ ap (λ (w : Vocabulary Octets). items_of ver h ps ++ ((pe by (choose_for ver w pe).how) ∷ [])) (sym st.tables)

    -- an event whose other tests are passed
    module _ (go : goes_on v ev ≡ true) (sd : Said pe) (deep : (opens v.mode ev && leb ver.depth v.level) ≡ false) (few : InLimits ver (choose_for ver pv.tables pe).tables) where
      one : Begun ver at pv ((pe by (choose_for ver pv.tables pe).how) ∷ []) hs (plain_state text wi.state)
      one =
          rw (halves-plain ver text a v ev room at, next_plain ver text a v ev)
          (front_by ver ok.few_entries ver at a pv pe st.ahead st.order.ranged sd ((Tree.same_kind (octets_of text) ev).goes_too (plain_tables text v.tables) v ∙ go) (rw ((Tree.same_kind (octets_of text) ev).opens_too v.mode) deep) few)

      so_far : Begun ver (2 * length lead) (beginning (headed ver h)) (items_of ver h (up_to ver h text room before e)) (st.halves ++ hs) (plain_state text wi.state)
      so_far = rw items_are (Begun.begun_more st.begun (subst (λ (k : ℕ). Begun ver k pv ((pe by (choose_for ver pv.tables pe).how) ∷ []) hs (plain_state text wi.state)) st.at_is one))

      at_then : at + length hs ≡ 2 * length lead + length (st.halves ++ hs)
      at_then = let l = length-append st.halves hs in omega arith

      room_if : fits ver text room (at + length hs) ≡ true → HasRoom ver h text room before e
      unfolding fits
      room_if f = record { before = lead; opens = op; halves = st.halves ++ hs; last = plain_state text wi.state; are = so_far; fit = leb-true _ _ (rw at_then at f) }

      over_if : fits ver text room (at + length hs) ≡ false → Overflows ver h room (items_of ver h (up_to ver h text room before e))
      unfolding fits
      over_if f = record { before = lead; opens = op; halves = st.halves ++ hs; last = plain_state text wi.state; are = so_far; over = leb-false _ _ (rw at_then at f) }

      -- and so the writer stands behind it
      goes_plain : goes_on pv pe ≡ true
      goes_plain = (Tree.same_kind (octets_of text) ev).goes_too (plain_tables text v.tables) v ∙ go

      state_then : plain_state text wi.state ≡ knowing (stepped a pv pe) (choose_for ver pv.tables pe).tables
      state_then = next_plain ver text a v ev ∙ next_by_lem a pv ver pe goes_plain sd st.order.ranged

      next_stands : Stands (plains text (before ++ (e ∷ []))) (at + length hs) wi.state es
      next_stands =
          rw (map_append (plain_of text) before (e ∷ []))
          (record {
            halves = st.halves ++ hs;
            begun = so_far;
            at_is = at_then;
            tables = words_next ∙ sym tables_are;
            order = rw words_next (record { fit = few; ranged = ranged_for ver pv.tables pe st.order.ranged });
            ahead = subst (λ (u : State Octets). Ahead u.mode (announced es)) (sym state_then) (ahead_next a (announced es) pv pe (announced_on text e es));
            sane = subst Sane (sym state_then) (Tree.sane_on a pv pe st.sane goes_plain);
            forth = λ tail f d.
                subst (λ (u : State Octets). Tree.Rest u tail) (sym state_then)
                (Tree.on a pv pe tail st.sane (st.forth (pe ∷ tail) (sym (next_is text e es)) (rw append_assoc at d)) (λ s. f ∙ sym (announced-start text e es s)));
            back = λ tail r. rw append_assoc (st.back (pe ∷ tail) (Tree.back a pv pe tail goes_plain (subst (λ (u : State Octets). Tree.Rest u tail) state_then r)));
          })

    -- the verdict: the event is right, and the writer goes on behind it; or its first fault
    abbrev Verdict : ℕ → Type 0
    Verdict n = elim n [
      | zero ↦ Right ver h text room before e × Stands (plains text (before ++ (e ∷ []))) (at + length hs) wi.state es × Begun ver at pv ((pe by (choose_for ver pv.tables pe).how) ∷ []) hs (plain_state text wi.state)
      | suc k ↦ Fault ver h text room before e (suc k)
    ]

    can_say : WellMade text e → Each IsText pe → Said pe
    can_say m t = said pe (made_allowed text m t) (all_short text (omega arith) ev)

    verdict_from : (b1 b2 b3 b4 b5 : Bool) → (well_made text e.kind e && goes_on v ev) ≡ b1 → all_text text ev ≡ b2 → (opens v.mode ev && leb ver.depth v.level) ≡ b3 → within ver wi.state.tables ≡ b4
        → fits ver text room (at + length hs) ≡ b5 → Verdict (pick b1 (pick b2 (pick b3 13 (pick b4 (pick b5 0 14) 12)) 9) 16)
    verdict_from false b2 b3 b4 b5 e1 e2 e3 e4 e5 = not_an_event (λ i. clash (sym e1 ∙ event_is i))
    verdict_from true b2 b3 b4 b5 e1 e2 e3 e4 e5 = said_from b2 b3 b4 b5 e2 e3 e4 e5
      where
        m : (well_made text e.kind e ≡ true) × (goes_on v ev ≡ true)
        m = both_true (well_made text e.kind e) (goes_on v ev) e1

        i : IsEvent ver h text room before e
        i = is_event m.0 m.1

        said_from : (b2 b3 b4 b5 : Bool) → all_text text ev ≡ b2 → (opens v.mode ev && leb ver.depth v.level) ≡ b3 → within ver wi.state.tables ≡ b4 → fits ver text room (at + length hs) ≡ b5
            → Verdict (pick b2 (pick b3 13 (pick b4 (pick b5 0 14) 12)) 9)
        said_from false b3 b4 b5 e2 e3 e4 e5 = not_text i (λ t. clash (sym e2 ∙ text_all text ev (by_kind IsText pe t)))
        said_from true true b4 b5 e2 e3 e4 e5 = too_deep i (in_order IsText pe (all_text_lem text ev e2)) (λ s. clash (sym (from_shallow (opens v.mode ev) refl s) ∙ e3))
        said_from true false false b5 e2 e3 e4 e5 =
            too_many i (in_order IsText pe (all_text_lem text ev e2)) (shallow_from (opens v.mode ev) refl e3) (λ f. clash (sym e4 ∙ if_entries f))
        said_from true false true b5 e2 e3 e4 e5 = room_from b5 e5
          where
            t : Each IsText pe
            t = all_text_lem text ev e2

            few : InLimits ver (choose_for ver pv.tables pe).tables
            few = entries_if e4

            room_from : (b5 : Bool) → fits ver text room (at + length hs) ≡ b5 → Verdict (pick b5 0 14)
            room_from false e5 =
                no_room i (in_order IsText pe t) (shallow_from (opens v.mode ev) refl e3) (subst (InLimits ver) (sym tables_are) few)
                (over_if m.1 (can_say i.0 t) e3 few e5)
            room_from true e5 = (
              record {
                is_event = i;
                is_text_lem = in_order IsText pe t;
                is_shallow = shallow_from (opens v.mode ev) refl e3;
                has-entries = subst (InLimits ver) (sym tables_are) few;
                has_room = room_if m.1 (can_say i.0 t) e3 few e5;
              },
              next_stands m.1 (can_say i.0 t) e3 few,
              one m.1 (can_say i.0 t) e3 few,
            )

    pub verdict : Verdict (judge ver text room at v e wi hs)
    unfolding judge
    verdict = verdict_from (well_made text e.kind e && goes_on v ev) (all_text text ev) (opens v.mode ev && leb ver.depth v.level) (within ver wi.state.tables) (fits ver text room (at + length hs)) refl refl refl refl refl

  -- ---- a run
  module _ (short : length text ≤ ver.octets) (room : ℕ) where
    -- What a result says of the records `before`, which were right, and the records es from here on, where ks is known after each of es.
    abbrev pub Judged : (before : List Event) (at : ℕ) (v : State Located) (es : List Event) (ks : List (State Located)) → Result → Type 0
    Judged before at v es ks (written items hs z) =
        Knows ver at (plain_state text v) (map (plain text) items) hs (plain_state text z) (map (plain_state text) ks)
        × (map (plain text) items ≡ chosen ver (plain_tables text v.tables) (plains text es))
        × AllRight ver h text room (before ++ es)
    Judged before at v es ks (refusal n p) = Refused ver h text room (before ++ es) n p

    right_last : (before : List Event) (e : Event) → AllRight ver h text room before → Right ver h text room before e → AllRight ver h text room (before ++ (e ∷ []))
    right_last before e all r b y after q =
        splits_last before e b y after q (λ same is. subst (λ (l : List Event). Right ver h text room l y) same (subst (Right ver h text room before) is r)) (λ mid p. all b y mid p)

    module _ (before : List Event) (at : ℕ) (v : State Located) (i : ℕ) (is : i ≡ length before) (st : Stands (plains text before) at v []) (all : AllRight ver h text room before) where
      nothing-more : AllRight ver h text room (before ++ [])
      nothing-more = rw (append-nil before) all

      refused_at : {n : ℕ} → Refused ver h text room before n (length before) → Refused ver h text room (before ++ []) n i
      refused_at r = rw (append-nil before, is) r

      at_end : IsDocument (plains text before) → (is_content v.mode && (eqb v.level 0 && v.root)) ≡ true
      at_end d =
          let r = Tree.ended (plain_state text v) st.sane (st.forth [] refl (rw (append-nil (plains text before)) d)) in
          rw (r.0, r.1, r.2)

      content_is : (m : Mode) → is_content m ≡ true → m ≡ content
      content_is content y = refl
      content_is (declaring b) y = clash y
      content_is (listing any) y = clash y

      module _ (t : (is_content v.mode && (eqb v.level 0 && v.root)) ≡ true) where
        ended : (v.mode ≡ content) × (v.level ≡ 0) × (v.root ≡ true)
        ended =
            let a = both_true (is_content v.mode) _ t in
            let b = both_true (eqb v.level 0) v.root a.1 in
            (content_is v.mode a.0, eqb-true v.level 0 b.0, b.1)

        a_document : IsDocument (plains text before)
        a_document = rw (append-nil (plains text before)) at (st.back [] (Tree.ended_back (plain_state text v) ended))

        -- the whole, if the rules write it, is as long as what the writer counts
        whole-fits : WrittenIn ver h room (items_of ver h (plains text before)) → fits ver text room (suc at) ≡ true
        unfolding fits
        whole-fits w =
            let ours = Begun.begun_written st.begun (document_end_lem {at = 2 * length lead + length st.halves} ended.0 ended.1 ended.2) in
            let o : w.writes.before ≡ lead = (one_head w.writes.opens op).0 in
            let same = (one_writing (rw o at (rule_headed w.writes)) (rw (append-nil (items_of ver h (plains text before))) at ours)).0 in
            let l0 = ap length o in
            let l1 = ap length w.writes.here in
            let l2 = halves-length w.octets in
            let l3 = length-append (halves w.writes.before) w.writes.body in
            let l4 = halves-length w.writes.before in
            let l5 = ap length same in
            let l6 = length-append st.halves (15 ∷ pad (suc (2 * length lead + length st.halves))) in
            let l7 = pad-length (suc (2 * length lead + length st.halves)) in
            let l8 = align_is (suc (2 * length lead + length st.halves)) in
            rw st.at_is (le-leb (aligned (suc (2 * length lead + length st.halves)) / 2) (min room ver.octets) (omega arith))

      finish_judged : Judged before at v [] [] (finish ver text room at v i)
      unfolding finish chosen known_after
      finish_judged = from_end (is_content v.mode && (eqb v.level 0 && v.root)) refl
        where
          from_end : (b : Bool) → (is_content v.mode && (eqb v.level 0 && v.root)) ≡ b
              → Judged before at v [] [] (pick b (pick (fits ver text room (suc at)) (written [] (15 ∷ pad (suc at)) v) (refusal 14 i)) (refusal 16 i))
          from_end false t = refused_at (too_soon all (λ d. clash (sym t ∙ at_end d)))
          from_end true t = from_room (fits ver text room (suc at)) refl
            where
              from_room : (f : Bool) → fits ver text room (suc at) ≡ f → Judged before at v [] [] (pick f (written [] (15 ∷ pad (suc at)) v) (refusal 14 i))
              from_room true f = ((document_end_lem (ended t).0 (ended t).1 (ended t).2, refl), refl, nothing-more)
              from_room false f = refused_at (no_room_for_end all (a_document t) (λ w. clash (sym f ∙ whole-fits t w)))

    -- an event in front of the rest
    module _ (before : List Event) (e : Event) (es : List Event) (at : ℕ) (v : State Located) (st : Stands (plains text before) at v (e ∷ es)) (all : AllRight ver h text room before) where
      abbrev item : WroteItem
      item = wi short room before e es at v st

      abbrev own : Octets
      own = hs short room before e es at v st

      regrouped : (before ++ (e ∷ [])) ++ es ≡ before ++ (e ∷ es)
      regrouped = append_assoc before (e ∷ []) es

      in_front : Begun ver at (plain_state text v) ((plain_of text e by (choose_for ver (plain_tables text v.tables) (plain_of text e)).how) ∷ []) own (plain_state text item.state)
          → (ks : List (State Located)) (r : Result) → Judged (before ++ (e ∷ [])) (at + length own) item.state es ks r
          → Judged before at v (e ∷ es) (item.state ∷ ks) (plus (event_of e.kind e by item.choice) own r)
      unfolding chosen
      in_front b ks (written items rest z) j =
          let f = Begun.front b j.0.0 in
          let c = choice_plain ver text (announced (e ∷ es)) v (event_of e.kind e) in
          let same = ap₂ (λ (x : Item Octets) (l : List (Item Octets)). x ∷ l) (ap (λ (h : E.Choice). plain_of text e by h) c)
          (j.1 ∙ ap (λ (w : Vocabulary Octets). chosen ver w (plains text es)) (words_next short room before e es at v st)) in (
            subst (λ (l : List (Item Octets)). Knows ver at (plain_state text v) (l) (own ++ rest) (plain_state text z) (map (plain_state text) (item.state ∷ ks)))
                (ap (λ (h : E.Choice). (plain_of text e by h) ∷ map (plain text) items) (sym c)) (f.0, f.1 ∙ ap (λ (l : List (State Octets)). plain_state text item.state ∷ l) j.0.1),
            same,
            rw regrouped at j.2,
          )
      in_front b ks (refusal n p) j = rw regrouped at j

      turned : (i : ℕ) → i ≡ length before → (ks : List (State Located)) (r : Result)
          → (Stands (plains text (before ++ (e ∷ []))) (at + length own) item.state es → AllRight ver h text room (before ++ (e ∷ [])) → Judged (before ++ (e ∷ [])) (at + length own) item.state es ks r)
          → (n : ℕ) → Verdict short room before e es at v st n
          → Judged before at v (e ∷ es) (elim n [ zero ↦ item.state ∷ ks | suc k ↦ [] ]) (elim n [ zero ↦ plus (event_of e.kind e by item.choice) own r | suc k ↦ refusal (suc k) i ])
      turned i is ks r rec zero o = in_front o.2 ks r (rec o.1 (right_last before e all o.0))
      turned i is ks r rec (suc k) f = rw is (at_event es refl all f)

    pub run_judged : (es : List Event) (before : List Event) (at : ℕ) (v : State Located) (i : ℕ) → i ≡ length before → Stands (plains text before) at v es → AllRight ver h text room before
        → Judged before at v es (trace ver text room at v es) (run ver text room at v i es)
    unfolding run trace
    run_judged [] before at v i is st all = finish_judged before at v i is st all
    run_judged (e ∷ es) before at v i is st all =
        let l = length-append before (e ∷ []) in
        let w = wi short room before e es at v st in
        let k = hs short room before e es at v st in
        turned before e es at v st all i is (trace ver text room (at + length k) w.state es) (run ver text room (at + length k) w.state (suc i) es)
        (λ s r. run_judged es (before ++ (e ∷ [])) (at + length k) w.state (suc i) (omega arith) s r) (judge ver text room at v e w k) (verdict short room before e es at v st)
