-- A law for each way out of what stands before the first record, on plain values; and one step of a run.
-- Assumes nothing.
use mathlib.Core.Path.{◌≡◌, refl, sym, ap, subst, ◌∙◌}
use mathlib.Core.Bool.{Bool, true, false}
use mathlib.Core.List.{List, ◌∷◌}
use Prim.Native.Nat.{ℕ, zero, suc, ◌+◌, ◌*◌, ◌≤◌, ◌<◌}
use native.Mathlib.Omega.{arith}
use borrow.Author.Tests.{eq-eqb, ne_eqb, le-leb, lt-leb}
use lib.ListN.{length, drop}
use Rattle.format.specs.Numbers.{pick}
use Rattle.format.specs.Tables.{link}
use Rattle.format.specs.Items.{Mode, content, declaring, listing}
use Rattle.format.specs.Document.{beginning}
use Rattle.format.specs.Refusals.{refusal_number}
use Rattle.format.specs.declared.refusals.Fault.{Fault}
use Rattle.format.specs.declared.refusals.Refusal.{Refusal}
use Rattle.std.specs.Prelude as Std
use Rattle.std.specs.Prelude.{Ok, Err}
use Rattle.tables.specs.Counts.{table_words}
use Rattle.states.specs.declared.State.{State}
use Rattle.states.specs.States.{mode_of, fresh}
use Rattle.events.specs.declared.Event.{Event}
use Rattle.write_head.specs.Given.{is_given, given_of}
use Rattle.write_head.specs.Head.{tables_of, head_octets, fault_of_head, fault_of_given}
use Rattle.write_head.specs.Promises.{Opened}
use Rattle.write_items.specs.Steps.{announced}
use Rattle.write_items.specs.StepContracts.{Steps}
use Rattle.writer.specs.Writing.{Result, refusal, run, writing, Outcome, outcome, refusing, write_of}
use Rattle.writer.specs.RanContracts.{reached, ran_of}
use Rattle.writer.specs.RunContracts.{Foretold, Underway, bit_of, Going, Readies, remains}
use Rattle.writer.proofs.RunLaws.{refusal_some, underway_start, underway_on, run_refused}

-- ---- before the first record
-- what is wrong with the words of the head or with its tables, by the judgement of both
given_right : (b : Bool) (n : ℕ) → pick b n 16 ≡ 0 → (b ≡ true) × (n ≡ 0)
given_right true n h = (refl, h)
given_right false n h = absurd (omega arith)

module _ (given : List ℕ) (es : List Event) (text : List ℕ) (room size table : ℕ) where
  pub going_size : 16384 < length text → refusing 1 0 size table ≡ ran_of given es text room size table
  unfolding ran_of write_of link
  going_size l = rw (lt-leb _ _ l)

  module _ (short : length text ≤ 16384) where
    pub going_room : (table ≡ table_words → ⊥) → refusing 14 0 size table ≡ ran_of given es text room size table
    unfolding ran_of write_of link
    going_room n = rw (le-leb _ _ short, ne_eqb _ _ n)

    module _ (all : table ≡ table_words) where
      refused_words : is_given given ≡ false → refusing 16 0 size table ≡ ran_of given es text room size table
      unfolding ran_of write_of link
      refused_words q = rw (le-leb _ _ short, eq-eqb _ _ all, q)

      write_is : is_given given ≡ true → {x : Result} → writing link (given_of given) text room es ≡ x
          → reached size (outcome link (head_octets link text (given_of given)) x room) ≡ ran_of given es text room size table
      unfolding ran_of write_of link
      write_is q e = rw (le-leb _ _ short, eq-eqb _ _ all, q, e)

      head_is : {n : ℕ} → fault_of_head link text (given_of given) room ≡ n
          → writing link (given_of given) text room es ≡ elim n [ zero ↦ run link text room (2 * length (head_octets link text (given_of given))) (beginning (tables_of link (given_of given))) 0 es | suc k ↦ refusal (suc k) 0 ]
      unfolding writing
      head_is f =
          ap (λ (n : ℕ). elim n [ zero ↦ run link text room (2 * length (head_octets link text (given_of given))) (beginning (tables_of link (given_of given))) 0 es | suc k ↦ refusal (suc k) 0 ]) f

      refused_by : (b : Bool) (n k : ℕ) → is_given given ≡ b → fault_of_head link text (given_of given) room ≡ k → pick b k 16 ≡ n → 1 ≤ n → refusing n 0 size table ≡ ran_of given es text room size table
      refused_by true n zero q f e l = absurd (omega arith)
      refused_by true n (suc k) q f e l = rw (← e) (ap (λ (t : ℕ). refusing (suc k) 0 size t) all ∙ write_is q (head_is f))
      refused_by false n k q f e l = rw (← e) (refused_words q)

      pub going_refused : (r : Refusal) → fault_of_given link text given room ≡ refusal_number r → refusing (refusal_number r) 0 size table ≡ ran_of given es text room size table
      unfolding fault_of_given
      going_refused r e = refused_by _ (refusal_number r) _ refl refl e (refusal_some r)

      -- what the run behind the head leaves is left by the call
      run_is : fault_of_given link text given room ≡ 0
          → reached size (outcome link (head_octets link text (given_of given)) (run link text room (2 * length (head_octets link text (given_of given))) (beginning (tables_of link (given_of given))) 0 es) room)
          ≡ ran_of given es text room size table
      unfolding fault_of_given
      run_is e = let r = given_right (is_given given) _ e in write_is r.0 (head_is r.1)

pub going_start : (given : List ℕ) (es : List Event) (text : List ℕ) (room table : ℕ) → length text ≤ 16384 → table ≡ table_words → {at : ℕ} {out c w ix : List ℕ} → Opened given text room at out c w ix
    → {st : State} → st ≡ fresh at → Going (ran_of given es text room (length out) table) es text room table 0 (Ok st) c out w ix
going_start given es text room table short all {out = out} o p = (all, rw (p, ← (run_is given es text room (length out) table short all o.right)) (underway_start o es))

-- the same for the lengths of lists that were lent
pub readied : (given text : List ℕ) (room table : ℕ) (r : Std.Result State Fault) (c out w ix : List ℕ) → Readies given text room table r c out w ix → {size : ℕ} → length out ≡ size → (es : List Event)
    → Going (ran_of given es text room size table) es text room table 0 r c out w ix
readied given text room table r c out w ix h q es = subst (λ (n : ℕ). Going (ran_of given es text room n table) es text room table 0 r c out w ix) q (h es)

pub readied_not : (given text : List ℕ) (room table : ℕ) (f : Fault) (c out w ix : List ℕ) → Readies given text room table (Err f) c out w ix → {size : ℕ} → length out ≡ size → (es : List Event)
    → refusing (refusal_number f.refusal) f.at size table ≡ ran_of given es text room size table
readied_not given text room table f c out w ix h q es = subst (λ (n : ℕ). refusing (refusal_number f.refusal) f.at n table ≡ ran_of given es text room n table) q (h es)

-- what an answer leaves in what was lent
pub remains_in : (r : Std.Result ℕ Fault) (c out w : List ℕ) {k size table : ℕ} {o : Outcome} → remains k table_words r c out w ≡ o → k ≡ size → table ≡ table_words → remains size table r c out w ≡ o
remains_in r c out w e q t = (λ i. remains (sym q i) (t i) r c out w) ∙ e

-- ---- one step
pub bit_chosen : (m : Mode) (b : Bool) → Foretold m b → bit_of m b ≡ b
bit_chosen content b f = refl
bit_chosen (declaring a) b f = f
bit_chosen (listing any) b f = refl

module _ {to : Outcome} {es : List Event} {text : List ℕ} {room i : ℕ} {st : State} {c out w ix : List ℕ} (u : Underway to text room es i st c out w ix) {e : Event} (d : drop i es ≡ e ∷ drop (suc i) es)
    {a : Bool} (f : a ≡ bit_of (mode_of st.mode) (announced (drop i es))) (r : Std.Result State Refusal) (out' c' w' ix' : List ℕ) (s : Steps text room a st c out w e r out' c' w' ix') where
  bit_is : a ≡ announced (drop i es)
  bit_is = f ∙ bit_chosen (mode_of st.mode) (announced (drop i es)) u.bit-known

  pub moved_on : {next : State} → r ≡ Ok next → Underway to text room es (i + 1) next c' out' w' ix'
  moved_on o = underway_on u d bit_is r out' c' w' ix' s o

  pub moved_not : {k : Refusal} → r ≡ Err k → length out' ≡ length out → refusing (refusal_number k) i (length out') table_words ≡ to
  moved_not {k} o kept = ap (λ (n : ℕ). refusing (refusal_number k) i n table_words) kept ∙ run_refused u d bit_is r out' c' w' ix' s o
