-- Where the rules write a list of well_made records with the required choices, and it fits, each of its events is right; so the writer accepts it.
use mathlib.Core.Path.{◌≡◌, refl, sym, ap, ◌∙◌, subst}
use mathlib.Core.Bool.{Bool, true, false, ◌||◌, not}
use mathlib.Core.List.{List, [], ◌∷◌, ◌++◌, append_assoc}
use Prim.Native.Nat.{ℕ, ◌+◌, ◌*◌, ◌/◌, ◌≤◌, ◌<◌, min}
use native.Mathlib.Omega.{arith}
use lib.ListN.{length, length-append}
use Rattle.format.specs.Octets.{Octets}
use Rattle.format.specs.Characters.{IsText}
use Rattle.format.specs.Events as E
use Rattle.format.specs.Events.{Item, ◌by◌, IsDocument, open_after, declares_last, is_declaration, is_start, opens_element}
use Rattle.format.specs.Tables.{InLimits, Version}
use Rattle.format.specs.Head.{Head}
use Rattle.format.specs.Items.{State}
use Rattle.format.specs.Document.{halves, aligned, beginning, Document}
use Rattle.format.specs.Allowed.{All, Allowed}
use Rattle.events.specs.declared.Event.{Event}
use Rattle.events.specs.WellMade.{WellMade}
use Rattle.write_names.specs.Chosen.{choose_for, chosen, tables_after}
use Rattle.write_head.specs.Given.{Given}
use Rattle.writer.specs.Writing.{Result, written, refusal, writing}
use Rattle.tables.proofs.Found.{clash, both_true}
use Rattle.theorems.specs.Bounded.{Bounded}
use Rattle.theorems.specs.Heads.{headed}
use Rattle.theorems.specs.Verdicts.{plain_of, plains, items_of, head_of, AreEntries, HeadRight, HeadFault, AllRight, Refused}
use Rattle.theorems.specs.Demands.{Wrote}
use Rattle.theorems.proofs.Lists.{halves-length, aligned_in}
use Rattle.theorems.proofs.Words.{map_append}
use Rattle.theorems.proofs.Documents.{is_document}
use Rattle.theorems.proofs.Plain.{all_allowed}
use Rattle.theorems.proofs.Begun as Begun
use Rattle.theorems.proofs.Sayable.{in_order, allowed_text}
use Rattle.theorems.proofs.Append.{chosen_append}
use Rattle.theorems.proofs.RuleTables.{begun_words}
use Rattle.theorems.proofs.Entries.{chosen_events}
use Rattle.theorems.proofs.Turns.{head_refused}
use Rattle.theorems.proofs.GivenHeads.{is_fault, fault_some, not_faulty, opened_right}
use Rattle.theorems.proofs.WriterDocument.{RefusedWith, by_head, by_event, meant, refused_by}
use Rattle.theorems.proofs.OneVerdict.{refused_one, not_refused}
use Rattle.theorems.proofs.Heads.{head_allowed, opened_ranged}
use Rattle.theorems.proofs.Headed.{opens-headed, rule_headed, one_document}

all_at : {A : Type 0} (P : A → Type 0) (b : List A) (x : A) (l : List A) → All P (b ++ (x ∷ l)) → P x
all_at P [] x l a = a.0
all_at P (y ∷ b) x l a = all_at P b x l a.1

-- a written list is a document
pub written_document : (ver : Version) (h : Head) (es : List (E.Event Octets)) (z : State Octets) (s : Octets) → Document ver h (items_of ver h es) z s → IsDocument es
written_document ver h es z s w = subst IsDocument (chosen_events ver (headed ver h) es) (is_document w)

module _ (ver : Version) (ok : Bounded ver) (h : Head) (text : Octets) (room : ℕ) (ps rest : List (E.Event Octets)) (pe : E.Event Octets) (z : State Octets) (s : Octets) (w : Document ver h (items_of ver h (ps ++ (pe ∷ rest))) z s) where
  abbrev choice : Item Octets
  choice = pe by (choose_for ver (tables_after ver (headed ver h) ps) pe).how

  abbrev others : List (Item Octets)
  others = chosen ver (choose_for ver (tables_after ver (headed ver h) ps) pe).tables rest

  at_event : items_of ver h (ps ++ (pe ∷ rest)) ≡ items_of ver h ps ++ (choice ∷ others)
  unfolding chosen
  at_event = chosen_append ver (headed ver h) ps (pe ∷ rest)

  behind_event : items_of ver h (ps ++ (pe ∷ rest)) ≡ items_of ver h (ps ++ (pe ∷ [])) ++ chosen ver (tables_after ver (headed ver h) (ps ++ (pe ∷ []))) rest
  behind_event = ap (items_of ver h) (sym (append_assoc ps (pe ∷ []) rest)) ∙ chosen_append ver (headed ver h) (ps ++ (pe ∷ [])) rest

  is_allowed : Allowed pe
  is_allowed = all_at (λ (i : Item Octets). Allowed i.event) (items_of ver h ps) choice others (rw at_event at (all_allowed w))

  before_it : Begun.Split ver (2 * length w.before) (beginning (headed ver h)) (items_of ver h ps) (choice ∷ others) w.body z
  before_it = Begun.begun_of_written (items_of ver h ps) (choice ∷ others) (rw at_event at (rule_headed w))

  shallow : opens_element ps pe ≡ true → open_after 0 ps < ver.depth
  unfolding opens_element beginning
  shallow o =
      let b = before_it in
      let lv = Begun.level_is b.begun ∙ ap (open_after 0) (chosen_events ver (headed ver h) ps) in
      let dc = Begun.declaring_is b.begun ∙ ap (declares_last false) (chosen_events ver (headed ver h) ps) in
      let k = both_true (is_declaration pe || is_start pe) _ o in
      let d = Begun.written_shallow b.rest k.0 (dc ∙ flip (declares_last false ps) k.1) in
      omega arith
    where
      flip : (b : Bool) → not b ≡ true → b ≡ false
      flip true y = clash y
      flip false y = refl

  with_it : Begun.Split ver (2 * length w.before) (beginning (headed ver h)) (items_of ver h (ps ++ (pe ∷ []))) (chosen ver (tables_after ver (headed ver h) (ps ++ (pe ∷ []))) rest) w.body z
  with_it = Begun.begun_of_written (items_of ver h (ps ++ (pe ∷ []))) _ (rw behind_event at (rule_headed w))

  entries : InLimits ver (tables_after ver (headed ver h) (ps ++ (pe ∷ [])))
  unfolding beginning
  entries = subst (InLimits ver) (begun_words ver (ps ++ (pe ∷ [])) with_it.begun (opened_ranged (opens-headed w))) (Begun.fits_on with_it.begun (head_allowed ok w.opens).0.in_limits)

  fits : length s ≤ room → aligned (2 * length w.before + length with_it.front_halves) / 2 ≤ min room ver.octets
  fits few =
      let l1 = ap length w.here in
      let l2 = halves-length s in
      let l3 = length-append (halves w.before) w.body in
      let l4 = halves-length w.before in
      let l5 = ap length with_it.are in
      let l6 = length-append with_it.front_halves with_it.rest_halves in
      let m = aligned_in (2 * length w.before + length with_it.front_halves) (length s) (omega arith) in
      omega arith

module _ (ver : Version) (ok : Bounded ver) (h : Head) (text : Octets) (room : ℕ) (es : List Event) (made : All (WellMade text) es) (z : State Octets) (s : Octets) (w : Document ver h (items_of ver h (plains text es)) z s) (fit : length s ≤ room) where
  all_right : AllRight ver h text room es
  all_right before e after is =
      let ps = plains text before in
      let pe = plain_of text e in
      let rest = plains text after in
      let split : plains text es ≡ ps ++ (pe ∷ rest) = ap (plains text) is ∙ map_append (plain_of text) before (e ∷ after) in
      let v : Document ver h (items_of ver h (ps ++ (pe ∷ rest))) z s = subst (λ (l : List (E.Event Octets)). Document ver h (items_of ver h l) z s) split w in
      record {
        is_event = (all_at (WellMade text) before e after (rw is at made), record { rest = rest; whole = rw append_assoc (written_document ver h (ps ++ (pe ∷ rest)) z s v) });
        is_text_lem = in_order IsText pe (allowed_text pe (is_allowed ver ok h text room ps rest pe z s v));
        is_shallow = shallow ver ok h text room ps rest pe z s v;
        has-entries = entries ver ok h text room ps rest pe z s v;
        has_room = record { before = v.before; opens = opens-headed v; halves = _; last = _; are = (with_it ver ok h text room ps rest pe z s v).begun; fit = fits ver ok h text room ps rest pe z s v fit };
      }

module _ (ver : Version) (ok : Bounded ver) (text : Octets) (room : ℕ) (g : Given) (es : List Event) (short : length text ≤ ver.octets) where
  abbrev head : Head
  head = head_of ver text g

  module _ (a : AreEntries ver text g) (made : All (WellMade text) es) (z : State Octets) (s : Octets) (w : Document ver head (items_of ver head (plains text es)) z s) (fit : length s ≤ room) where
    pub right_head : HeadRight ver text g room
    right_head =
        let l1 = ap length w.here in
        let l2 = halves-length s in
        let l3 = length-append (halves w.before) w.body in
        let l4 = halves-length w.before in
        let l5 = w.short in
        opened_right ver text g room ok a w.opens (omega arith)

    not_refused_here : {n p : ℕ} → RefusedWith ver ok text short room g es n p → ⊥
    not_refused_here (by_head f) = not_faulty ver text g room right_head f
    not_refused_here (by_event right r) =
        not_refused ver head text room (all_right ver ok head text room es made z s w fit) (record { octets = s; last = z; writes = w; fit = fit }) (written_document ver head (plains text es) z s w) r

    -- The writer writes it, as the rules do.
    writes_from : (r : Result) → writing ver g text room es ≡ r → Wrote ver g es text room s z
    writes_from (written items hs y) q =
        let m = meant ver ok text short room g es items hs y q in
        let o = one_document (rw m.chosen_by at m.writes) w in
        record { items = items; halves = hs; last = y; is = q; octets = o.0; known = o.1 }
    writes_from (refusal n p) q = absurd (not_refused_here (refused_by ver ok text short room g es n p q))

    pub writes_it : Wrote ver g es text room s z
    writes_it = writes_from (writing ver g text room es) refl

  -- What the requirements refuse is refused so: the head,
  pub refuses_head : {n : ℕ} → HeadFault ver text g room n → writing ver g text room es ≡ refusal n 0
  refuses_head {n} f = head_refused ver text room g es n (is_fault ver text g room f) (fault_some ver text g room f)

  -- or a list of records behind it.
  module _ (right : HeadRight ver text g room) (n p : ℕ) (r : Refused ver head text room es n p) where
    same_refusal : {k i : ℕ} → RefusedWith ver ok text short room g es k i → refusal k i ≡ refusal n p
    same_refusal (by_head f) = absurd (not_faulty ver text g room right f)
    same_refusal (by_event right' r') = let o = refused_one ver head text room r' r in λ j. refusal (o.0 j) (o.1 j)

    refuses_from : (a : Result) → writing ver g text room es ≡ a → writing ver g text room es ≡ refusal n p
    refuses_from (written items hs y) q =
        let m = meant ver ok text short room g es items hs y q in
        let v = rw m.chosen_by at m.writes in
        absurd (not_refused ver head text room m.all_right (record { octets = _; last = _; writes = v; fit = m.fits }) (written_document ver head (plains text es) _ _ v) r)
    refuses_from (refusal k i) q = q ∙ same_refusal (refused_by ver ok text short room g es k i q)

    pub refuses_it : writing ver g text room es ≡ refusal n p
    refuses_it = refuses_from (writing ver g text room es) refl
