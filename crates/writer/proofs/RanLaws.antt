-- What a call leaves that judges by a room of its own: where this is the output's length, what the definition says, since what is accepted fits.
-- Assumes nothing.
use mathlib.Core.Path.{◌≡◌, refl, sym, subst}
use mathlib.Core.Bool.{Bool, true, false, ◌&&◌}
use mathlib.Core.List.{List, [], ◌∷◌, ◌++◌}
use Prim.Native.Nat.{ℕ, zero, suc, ◌+◌, ◌-◌, ◌*◌, ◌/◌, ◌≤◌, min}
use native.Mathlib.Nat.{min-le_left}
use native.Mathlib.Omega.{arith}
use borrow.Author.Tests.{leb-true}
use lib.Dec.{eqb, leb}
use lib.ListN.{length, replicate, length-append}
use lib.Seq.{take-append_seam}
use Rattle.format.specs.Numbers.{pick}
use Rattle.format.specs.Events.{Item, ◌by◌}
use Rattle.format.specs.Tables.{link}
use Rattle.format.specs.Items as F
use Rattle.format.specs.Document.{pad, aligned, beginning}
use Rattle.tables.specs.Located.{Located}
use Rattle.tables.specs.Counts.{table_words}
use Rattle.events.specs.declared.Event.{Event}
use Rattle.write_head.specs.Given.{Given, is_given, given_of}
use Rattle.write_head.specs.Head.{tables_of, head_octets, fault_of_head}
use Rattle.write_items.specs.Events.{event_of, is_content}
use Rattle.write_items.specs.Steps.{announced, fits, joined}
use Rattle.write_items.specs.StepContracts.{item_of, halves_for, verdict}
use Rattle.write_items.proofs.OutputLaws.{length-joined, length-pad, sets_whole}
use Rattle.writer.specs.Writing.{Result, written, refusal, plus, finish, run, Outcome, outcome, refusing, writing, write_of}
use Rattle.writer.specs.RanContracts.{reached, ran_of}
use Rattle.writer.proofs.RunLaws.{run_on}

-- ---- what a run accepts fits
-- from the half `at` on, in `room` octets
unfoldable Fitting : (room at : ℕ) → Result → Type 0
Fitting room at (written is hs z) = (at + length hs + 1) / 2 ≤ room
Fitting room at (refusal n p) = Unit {0}

module _ (room at : ℕ) where
  fitting-plus : (i : Item Located) (hs : List ℕ) (x : Result) → Fitting room (at + length hs) x → Fitting room at (plus i hs x)
  unfolding Fitting
  fitting-plus i hs (written is ks z) f = let n = length-append hs ks in omega arith
  fitting-plus i hs (refusal n p) f = tt

  fitting_judged : (n i : ℕ) (x : Result) → Fitting room at x → Fitting room at (elim n [ zero ↦ x | suc k ↦ refusal (suc k) i ])
  unfolding Fitting
  fitting_judged zero i x f = f
  fitting_judged (suc k) i x f = tt

  fitting_end : (text : List ℕ) (v : F.State Located) (i : ℕ) (a b : Bool) → fits link text room (suc at) ≡ b
      → Fitting room at (pick a (pick b (written [] (15 ∷ pad (suc at)) v) (refusal 14 i)) (refusal 16 i))
  unfolding Fitting fits link aligned
  fitting_end text v i true true q = let l = leb-true (aligned (suc at) / 2) (min room 16384) q in let m = min-le_left room 16384 in let n = length-pad (suc at) in omega arith
  fitting_end text v i true false q = tt
  fitting_end text v i false b q = tt

module _ (text : List ℕ) (room : ℕ) where
  fitting_run : (at : ℕ) (v : F.State Located) (i : ℕ) (es : List Event) → Fitting room at (run link text room at v i es)
  unfolding run finish
  fitting_run at v i [] = fitting_end room at text v i (is_content v.mode && (eqb v.level 0 && v.root)) _ refl
  fitting_run at v i (e ∷ es) =
      let b : Bool = announced (e ∷ es) in
      let w : Item Located = event_of e.kind e by (item_of text b v e).choice in
      let hs : List ℕ = halves_for text room b at v e in
      let rest : Result = run link text room (at + length hs) (item_of text b v e).state (suc i) es in
      subst (Fitting room at) (sym (run_on text room at v e es i refl))
      (fitting_judged room at (verdict text room b at v e) i (plus w hs rest) (fitting-plus room at w hs rest (fitting_run (at + length hs) (item_of text b v e).state (suc i) es)))

  fitting_writing : (g : Given) (es : List Event) → Fitting room (2 * length (head_octets link text g)) (writing link g text room es)
  unfolding writing
  fitting_writing g es =
      let at = 2 * length (head_octets link text g) in
      fitting_judged room at (fault_of_head link text g room) 0 (run link text room at (beginning (tables_of link g)) 0 es) (fitting_run at (beginning (tables_of link g)) 0 es)

-- ---- so that all of it is reached
module _ (room : ℕ) where
  reached-outcome : (before : List ℕ) (x : Result) → Fitting room (2 * length before) x → reached room (outcome link before x room) ≡ outcome link before x room
  unfolding Fitting
  reached-outcome before (written is hs z) f =
      let s : List ℕ = before ++ joined hs in
      let n = length-append before (joined hs) in
      let m = length-joined hs in
      let l : length s ≤ room = omega arith in
      rw (take-append_seam s (replicate (room - length s) 0), sets_whole s room l)
  reached-outcome before (refusal n p) f = refl

  reached-pick : (b : Bool) (x : Outcome) (n table : ℕ) → reached room x ≡ x → reached room (pick b x (refusing n 0 room table)) ≡ pick b x (refusing n 0 room table)
  reached-pick true x n table p = p
  reached-pick false x n table p = refl

pub ran_whole : (given : List ℕ) (es : List Event) (text : List ℕ) (room table : ℕ) → ran_of given es text room room table ≡ write_of link given es text room table
unfolding ran_of write_of
ran_whole given es text room table =
    let before = head_octets link text (given_of given) in
    let x = writing link (given_of given) text room es in
    let judged = pick (is_given given) (outcome link before x room) (refusing 16 0 room table) in
    reached-pick room (leb (length text) link.octets) (pick (eqb table table_words) judged (refusing 14 0 room table)) 1 table
    (reached-pick room (eqb table table_words) judged 14 table
    (reached-pick room (is_given given) (outcome link before x room) 16 table (reached-outcome room before x (fitting_writing text room (given_of given) es))))
