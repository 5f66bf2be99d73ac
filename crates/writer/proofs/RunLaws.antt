-- A law for each way out of the functions of a run, on plain values; and what holds while a run is underway.
-- Assumes nothing.
use mathlib.Core.Path.{◌≡◌, refl, sym, ap, ◌∙◌}
use mathlib.Core.Bool.{Bool, true, false, true≢false, ◌&&◌}
use mathlib.Core.List.{List, ◌∷◌, ◌++◌, append_assoc}
use Prim.Native.Nat.{ℕ, zero, suc, ◌+◌, ◌-◌, ◌*◌, ◌/◌, ◌%◌, ◌≤◌, ◌<◌, min}
use native.Mathlib.Omega.{arith}
use native.Mathlib.Numerals.{add-one}
use borrow.Author.Tests.{le-leb, lt-leb}
use lib.Dec.{eqb}
use lib.ListN.{length, drop, set, replicate, drop_of_length-le}
use lib.Seq.{take-append_seam}
use Rattle.format.specs.Numbers.{pick}
use Rattle.format.specs.Tables.{Vocabulary, link}
use Rattle.format.specs.Events as E
use Rattle.format.specs.Events.{Item, ◌by◌}
use Rattle.format.specs.Items as F
use Rattle.format.specs.Document.{halves, aligned, beginning}
use Rattle.format.specs.Refusals.{refusal_number}
use Rattle.format.specs.declared.refusals.Fault.{Fault}
use Rattle.format.specs.declared.refusals.Refusal as R
use Rattle.format.specs.declared.refusals.Refusal.{Refusal}
use Rattle.std.specs.Prelude as Std
use Rattle.std.specs.Prelude.{Ok, Err}
use Rattle.tables.specs.Located.{Located}
use Rattle.tables.specs.Counts.{table_words}
use Rattle.tables.specs.Rows.{vocabulary}
use Rattle.tables.specs.Kept.{listed, unlisted, Clean}
use Rattle.tables.specs.Told.{told_accepted}
use Rattle.tables.proofs.Laws.{entries_are, counts_are}
use Rattle.index.proofs.Counted.{words-listed}
use Rattle.states.specs.declared.State.{State}
use Rattle.states.specs.States.{mode_of, root_of, fresh}
use Rattle.states.proofs.Modes.{mode_content, coming_low}
use Rattle.events.specs.declared.Kind.{Kind}
use Rattle.events.specs.declared.Kind.TheVariants.{Blank, Namespace, Start, Attribute, Chunk, Comment, Instruction, End}
use Rattle.events.specs.declared.Event.{Event}
use Rattle.tables.proofs.Found.{both_true}
use Rattle.write_head.specs.Given.{given_of}
use Rattle.write_head.specs.Head.{tables_of, head_octets}
use Rattle.write_head.specs.Promises.{Opened}
use Rattle.write_items.specs.Events.{event_of, is_content, among_children, goes_on, well_made}
use Rattle.write_items.specs.Items.{write_item}
use Rattle.write_items.specs.Steps.{announced, is_attribute, fits, judge, settled, joined}
use Rattle.write_items.specs.OutputContracts.{end_octet}
use Rattle.write_items.specs.StepContracts.{known, item_of, halves_for, verdict, Steps}
use Rattle.write_items.proofs.OutputLaws.{head_held, joined_head, held_length, held_size, document_end_held}
use Rattle.writer.specs.Writing.{Result, written, refusal, plus, finish, run, Outcome, outcome, refusing}
use Rattle.writer.specs.RanContracts.{reached}
use Rattle.writer.specs.RunContracts.{Foretold, behind, remains, Underway, Finishes}
use Rattle.writer.proofs.AheadLaws.{announced_on}

-- a refusal's number is not that of what is accepted
pub refusal_some : (r : Refusal) → 1 ≤ refusal_number r
refusal_some R.TheVariants.Size = omega arith
refusal_some R.TheVariants.Truncated = omega arith
refusal_some R.TheVariants.Header = omega arith
refusal_some R.TheVariants.OptionalPart = omega arith
refusal_some R.TheVariants.Code = omega arith
refusal_some R.TheVariants.Padding = omega arith
refusal_some R.TheVariants.Range = omega arith
refusal_some R.TheVariants.Format = omega arith
refusal_some R.TheVariants.Text = omega arith
refusal_some R.TheVariants.Index = omega arith
refusal_some R.TheVariants.Repeat = omega arith
refusal_some R.TheVariants.Full = omega arith
refusal_some R.TheVariants.Depth = omega arith
refusal_some R.TheVariants.Room = omega arith
refusal_some R.TheVariants.Structure = omega arith
refusal_some R.TheVariants.Event = omega arith

-- ---- the attribute bit
pub bit-started : (a b : Bool) → Foretold (F.after_start a) b
bit-started true b = tt
bit-started false b = tt

bit-settled : (w : Vocabulary Located) (l : ℕ) (r : Bool) (m : F.Mode) (x : E.Event Located) (b : Bool) → is_attribute x ≡ false → among_children m ≡ true
    → Foretold (settled (record { tables = w; level = l; root = r; mode = m }) x).mode b
unfolding settled
bit-settled w l r F.content x b f h = tt
bit-settled w l r (F.declaring a) x b f h = absurd (true≢false (sym h))
bit-settled w l r (F.listing any) x b f h = rw f tt

-- declarations go on only behind one of them, whose own bit is theirs
bit-behind : (text : List ℕ) (a : Bool) (v : F.State Located) (k : Kind) (e : Event) (b : Bool) → (k ≡ Namespace → a ≡ b) → well_made text k e ≡ true → goes_on v (event_of k e) ≡ true
    → Foretold (write_item link text a (settled v (event_of k e)) (event_of k e)).state.mode b
unfolding well_made goes_on event_of write_item
bit-behind text a v Blank e b q h g = absurd (true≢false (sym h))
bit-behind text a v Namespace e b q h g = q refl
bit-behind text a v Start e b q h g = bit-started a b
bit-behind text a v Attribute e b q h g = tt
bit-behind text a v Chunk e b q h g = bit-settled _ _ _ _ _ b refl (both_true _ _ g).0
bit-behind text a v Comment e b q h g = bit-settled _ _ _ _ _ b refl g
bit-behind text a v Instruction e b q h g = bit-settled _ _ _ _ _ b refl g
bit-behind text a v End e b q h g = tt

first_test : (b : Bool) (n : ℕ) → pick b n 16 ≡ 0 → b ≡ true
first_test true n h = refl
first_test false n h = absurd (omega arith)

behind-plus : (i : Item Located) (hs ks : List ℕ) (x : Result) (size : ℕ) → behind hs (plus i ks x) size ≡ behind (hs ++ ks) x size
behind-plus i hs ks (written is js z) size = rw (append_assoc hs ks js)
behind-plus i hs ks (refusal n p) size = refl

module _ (text : List ℕ) (room at : ℕ) (v : F.State Located) (e : Event) (es : List Event) where
  abbrev pub bit : Bool
  bit = announced (e ∷ es)

  bit_next : verdict text room bit at v e ≡ 0 → Foretold (item_of text bit v e).state.mode (announced es)
  unfolding verdict judge item_of
  bit_next h =
      let g = both_true _ _ (first_test _ _ h) in
      bit-behind text bit v e.kind e (announced es) (λ k. announced_on e es k) g.0 g.1

  -- ---- one event of a run
  module _ (i : ℕ) where
    abbrev pub wrote : Item Located
    wrote = event_of e.kind e by (item_of text bit v e).choice

    abbrev pub rest : Result
    rest = run link text room (at + length (halves_for text room bit at v e)) (item_of text bit v e).state (suc i) es

    pub run_on : {n : ℕ} → verdict text room bit at v e ≡ n → run link text room at v i (e ∷ es) ≡ elim n [ zero ↦ plus wrote (halves_for text room bit at v e) rest | suc k ↦ refusal (suc k) i ]
    unfolding run verdict item_of halves_for
    run_on h = ap (λ (n : ℕ). elim n [ zero ↦ plus wrote (halves_for text room bit at v e) rest | suc k ↦ refusal (suc k) i ]) h

    pub behind_on : (hs : List ℕ) (size : ℕ) → verdict text room bit at v e ≡ 0 → behind hs (run link text room at v i (e ∷ es)) size ≡ behind (hs ++ halves_for text room bit at v e) rest size
    behind_on hs size h = ap (λ (x : Result). behind hs x size) (run_on h) ∙ behind-plus wrote hs (halves_for text room bit at v e) rest size

    run_stop : (n : ℕ) → verdict text room bit at v e ≡ n → 1 ≤ n → run link text room at v i (e ∷ es) ≡ refusal n i
    run_stop zero h l = absurd (omega arith)
    run_stop (suc n) h l = run_on h

behind_head_lem : (before : List ℕ) (x : Result) (room size : ℕ) → behind (halves before) x size ≡ reached size (outcome link before x room)
behind_head_lem before (written is hs z) room size =
    let s : List ℕ = before ++ joined hs in
    rw (joined_head before hs, take-append_seam s (replicate (room - length s) 0))
behind_head_lem before (refusal n p) room size = refl

-- ---- behind the head, before the events es
module _ {g text : List ℕ} {room at : ℕ} {out c w ix : List ℕ} (o : Opened g text room at out c w ix) (es : List Event) where
  abbrev before : List ℕ
  before = head_octets link text (given_of g)

  start-known : known (fresh at) c w ≡ beginning (tables_of link (given_of g))
  unfolding beginning mode_of root_of
  start-known = rw o.tables

  pub underway_start : Underway (reached (length out) (outcome link before (run link text room (2 * length before) (beginning (tables_of link (given_of g))) 0 es) room)) text room es 0 (fresh at) c out w ix
  underway_start =
      let near = o.near in
      let none = coming_low 0 (omega arith) in
      record {
        hs = halves before;
        holds = head_held before o.behind o.written;
        ready = record { order = o.order; at = omega arith; shallow = omega arith };
        bit-known = rw mode_content tt;
        small = omega arith;
        leads = rw (start-known, o.behind) (behind_head_lem before (run link text room (2 * length before) (beginning (tables_of link (given_of g))) 0 es) room (length out));
      }

module _ {to : Outcome} {text : List ℕ} {room : ℕ} {es : List Event} {i : ℕ} {st : State} {c out w ix : List ℕ} (u : Underway to text room es i st c out w ix) where
  pub underway_number : i ≤ 32768
  underway_number = let l = u.ready.at in let m = u.small in omega arith

  -- a step with the next event
  module _ {e : Event} (d : drop i es ≡ e ∷ drop (suc i) es) {a : Bool} (b : a ≡ announced (drop i es)) (r : Std.Result State Refusal) (out' c' w' ix' : List ℕ) (p : Steps text room a st c out w e r out' c' w' ix') where
    leads_here : behind u.hs (run link text room st.at (known st c w) i (e ∷ drop (suc i) es)) (length out) ≡ to
    leads_here = rw d at u.leads

    stepped : Steps text room (announced (e ∷ drop (suc i) es)) st c out w e r out' c' w' ix'
    stepped = rw (b ∙ ap announced d) at p

    pub underway_on : {next : State} → r ≡ Ok next → Underway to text room es (i + 1) next c' out' w' ix'
    underway_on {next} q =
        let g = rw q at stepped in
        let l = u.small in
        let o = g.onward in
        let k = halves_for text room (announced (e ∷ drop (suc i) es)) st.at (known st c w) e in
        let grown = g.grown u.hs u.holds in
        let m : mode_of next.mode ≡ (item_of text (announced (e ∷ drop (suc i) es)) (known st c w) e).state.mode = ap (λ (v : F.State Located). v.mode) g.state in
        record {
          hs = u.hs ++ k;
          holds = rw (grown.place, held_size grown.holds) grown.holds;
          ready = g.ready;
          bit-known = rw (m, add-one i) (bit_next text room st.at (known st c w) e (drop (suc i) es) g.judged);
          small = omega arith;
          leads = rw (g.state, grown.place, add-one i, held_size grown.holds) (sym (behind_on text room st.at (known st c w) e (drop (suc i) es) i u.hs (length out) g.judged) ∙ leads_here);
        }

    pub run_refused : {k : Refusal} → r ≡ Err k → refusing (refusal_number k) i (length out) table_words ≡ to
    run_refused {k} q =
        let g = rw q at stepped in
        sym (ap (λ (x : Result). behind u.hs x (length out)) (run_stop text room st.at (known st c w) e (drop (suc i) es) i (refusal_number k) g (refusal_some k))) ∙ leads_here

-- the end behind the last event
pub run_finished : {to : Outcome} {text : List ℕ} {room : ℕ} {es : List Event} {i : ℕ} {st : State} {c out w ix : List ℕ} → Underway to text room es i st c out w ix → length es ≤ i
    → (r : Std.Result ℕ Fault) (out' : List ℕ) → Finishes room st out i r out' → remains (length out) table_words r c out' w ≡ to
unfolding run
run_finished {text = text} {es = es} {c = c} {w = w} {ix = ix} u l r out' f = f text c w ix u.hs u.ready u.holds ∙ (rw (drop_of_length-le es l) at u.leads)

-- ---- the document's end
module _ (text : List ℕ) (room at : ℕ) where
  fits_not : min room 16384 < (at + 2) / 2 → fits link text room (suc at) ≡ false
  unfolding fits link aligned
  fits_not l = let k : min room 16384 < (suc at + suc at % 2) / 2 = omega arith in lt-leb _ _ k

  fits_so : (at + 2) / 2 ≤ min room 16384 → fits link text room (suc at) ≡ true
  unfolding fits link aligned
  fits_so l = let k : (suc at + suc at % 2) / 2 ≤ min room 16384 = omega arith in le-leb _ _ k

whole-octets : (at : ℕ) → aligned (aligned (suc at)) / 2 ≡ (at + 2) / 2
unfolding aligned
whole-octets at = omega arith

module _ (room : ℕ) (st : State) (out : List ℕ) (i : ℕ) where
  abbrev complete : Bool
  complete = is_content (mode_of st.mode) && (eqb st.level 0 && root_of st.root)

  pub finish_owed : false ≡ complete → Finishes room st out i (Err (record { refusal = R.TheVariants.Event; at = i })) out
  unfolding finish
  finish_owed e text c w ix hs g h = rw (← e)

  module _ (e : true ≡ complete) where
    pub finish_full : min room 16384 < (st.at + 2) / 2 → Finishes room st out i (Err (record { refusal = R.TheVariants.Room; at = i })) out
    unfolding finish
    finish_full l text c w ix hs g h = rw (← e, fits_not text room st.at l)

    pub finish_written : (st.at + 2) / 2 ≤ min room 16384 → {out' : List ℕ} → out' ≡ set out (st.at / 2) (end_octet st.at)
        → Finishes room st out i (Ok ((st.at + 2) / 2)) out'
    unfolding finish Clean
    finish_written l {out'} p text c w ix hs g h =
        let held = document_end_held h p in
        let n = held_length held ∙ whole-octets st.at in
        let o = held.is in
        let t = sym (entries_are (vocabulary (unlisted c) w) ∙ ap listed (counts_are (unlisted c) w) ∙ words-listed c g.order.ten) in
        rw (← e, fits_so text room st.at l) (λ j. record { told = told_accepted (sym n j) (t j); out = o j; tables = sym g.order.clean j })
