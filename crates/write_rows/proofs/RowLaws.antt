-- What a writing from a row comes to, by each way out.
-- Assumes nothing.
use mathlib.Core.Path.{◌≡◌, sym, ◌∙◌}
use mathlib.Core.Bool.{Bool}
use mathlib.Core.List.{List}
use Prim.Native.Nat.{ℕ, ◌+◌, ◌<◌}
use lib.ListN.{length, get_or, drop}
use lib.Seq.{drop-cons}
use Rattle.std.specs.Prelude as Std
use Rattle.std.specs.Prelude.{Ok, Err}
use Rattle.format.specs.Tables.{link}
use Rattle.format.specs.Refusals.{refusal_number}
use Rattle.format.specs.declared.refusals.Fault.{Fault}
use Rattle.format.specs.declared.refusals.Refusal.{Refusal}
use Rattle.tables.specs.Counts.{table_words}
use Rattle.states.specs.declared.State.{State}
use Rattle.states.specs.States.{mode_of}
use Rattle.events.specs.declared.Event.{Event}
use Rattle.events.specs.Records.{blank}
use Rattle.write_items.specs.Steps.{announced}
use Rattle.write_items.specs.StepContracts.{Steps}
use Rattle.writer.specs.Writing.{Outcome, refusing, write_of}
use Rattle.writer.specs.RunContracts.{Underway, bit_of, Readies}
use Rattle.writer.proofs.RanLaws.{ran_whole}
use Rattle.writer.proofs.StartLaws.{readied, readied_not, moved_on, moved_not}

-- ---- before the first record
module _ (given text : List ℕ) (table : ℕ) (c out w ix : List ℕ) {size : ℕ} (q : length out ≡ size) (es : List Event) where
  pub row_begun : (st : State) → Readies given text size table (Ok st) c out w ix → (table ≡ table_words) × Underway (write_of link given es text size table) text size es 0 st c out w ix
  row_begun st h = let g = readied given text size table (Ok st) c out w ix h q es in (g.0, rw (ran_whole given es text size table) at g.1)

  pub row_refused : (f : Fault) → Readies given text size table (Err f) c out w ix → refusing (refusal_number f.refusal) f.at size table ≡ write_of link given es text size table
  row_refused f h = readied_not given text size table f c out w ix h q es ∙ ran_whole given es text size table

-- ---- one record further
module _ {to : Outcome} {es : List Event} {text : List ℕ} {room i : ℕ} {st : State} {c out w ix : List ℕ} (u : Underway to text room es i st c out w ix) (l : i < length es)
    {a : Bool} (f : a ≡ bit_of (mode_of st.mode) (announced (drop i es))) (r : Std.Result State Refusal) (out' c' w' ix' : List ℕ) (s : Steps text room a st c out w (get_or es i blank) r out' c' w' ix') where
  pub row_on : {next : State} → r ≡ Ok next → Underway to text room es (i + 1) next c' out' w' ix'
  row_on q = moved_on u (drop-cons es i blank l) f r out' c' w' ix' s q

  pub row_stopped : {k : Refusal} → r ≡ Err k → length out' ≡ length out → {size table : ℕ} → length out ≡ size → table ≡ table_words → refusing (refusal_number k) i size table ≡ to
  row_stopped {k} q kept e t = (λ j. refusing (refusal_number k) i (sym (kept ∙ e) j) (t j)) ∙ moved_not u (drop-cons es i blank l) f r out' c' w' ix' s q kept
