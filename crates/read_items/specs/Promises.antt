-- Contracts of the code, not definitions to be believed. How a step's answer stands for the reading definition, and
-- what the reader keeps in order from step to step.
use Rattle.std.specs.Prelude.{ℕ, ◌+◌, ◌*◌, ◌≤◌, ◌≡◌, length, Result, Ok, Err}
use Rattle.format.specs.Octets.{Octets, Words}
use Rattle.format.specs.Refusals.{refusal_number}
use Rattle.format.specs.declared.refusals.Fault.{Fault}
use Rattle.format.specs.Items as F
use Rattle.tables.specs.Located.{Located}
use Rattle.tables.specs.Rows.{vocabulary}
use Rattle.tables.specs.Kept.{unlisted}
use Rattle.states.specs.declared.State.{State}
use Rattle.states.specs.States.{state_of, coming}
use Rattle.events.specs.Records.{record_of}
use Rattle.events.specs.Kept.{kept}
use Rattle.read_names.specs.Promises.{Tidy, Rooms}
use Rattle.read_items.specs.declared.Step.{Step}
use Rattle.read_items.specs.declared.Step.TheVariants.{Event, Quiet, Done}
use Rattle.read_items.specs.Items as I
use Rattle.read_items.specs.Items.{Stand}

-- What is lent to a step: words of tables and counts, octets of the index, words of event records.
pub record Lent : Type 0 where
  pub tables : Words
  pub counts : Words
  pub index : Octets
  pub records : Words

abbrev pub lent : (tables counts : Words) → Octets → (records : Words) → Lent
lent t c x r = record { tables = t; counts = c; index = x; records = r }

abbrev pub stand_of : State → Lent → Stand
stand_of st a = record { at = st.at; state = state_of st (vocabulary (unlisted a.counts) a.tables) }

-- ---- a step's answer, without the event, which is in its record
pub data SeenStep : Type 0 where
  more : (place : ℕ) → Stand → SeenStep
  quiet : Stand → SeenStep
  done : SeenStep
  stop : (number place : ℕ) → SeenStep

abbrev pub seen_step : Result Step Fault → Lent → SeenStep
seen_step (Ok (Event st p)) b = more p (stand_of st b)
seen_step (Ok (Quiet st)) b = quiet (stand_of st b)
seen_step (Ok Done) b = done
seen_step (Err f) b = stop (refusal_number f.refusal) f.at

abbrev pub step_seen : I.Step → SeenStep
step_seen (I.more p i m) = more p m
step_seen (I.quiet m) = quiet m
step_seen I.done = done
step_seen (I.stop n p) = stop n p

-- The records with the step's event in record n.
abbrev pub kept_by : Words → ℕ → I.Step → Words
kept_by r n (I.more p i m) = kept r n p (record_of i.event)
kept_by r n (I.quiet m) = r
kept_by r n I.done = r
kept_by r n (I.stop k p) = r

-- The reader stands in the document, and not too deep.
pub record Good (s : Octets) (st : State) (a : Lent) : Type 0 where
  pub tidy : Tidy s a.counts a.tables a.index
  pub at : st.at ≤ 2 * length s
  pub shallow : st.level + coming st.mode ≤ 32

abbrev pub StepGood : Octets → Lent → Result Step Fault → Lent → Type 0
StepGood s a (Ok (Event st p)) b = Good s st b
StepGood s a (Ok (Quiet st)) b = Good s st b
StepGood s a (Ok Done) b = (b.counts ≡ a.counts) × (b.tables ≡ a.tables)
StepGood s a (Err f) b = Rooms b.counts b.tables

-- What was lent was a and is b: the answer stands for the definition's, what it leaves is in order, and its event is kept.
pub record Met (s : Octets) (st : State) (n : ℕ) (a : Lent) (r : Result Step Fault) (b : Lent) (d : Stand → I.Step) : Type 0 where
  pub is : seen_step r b ≡ step_seen (d (stand_of st a))
  pub good : StepGood s a r b
  pub keeps : b.records ≡ kept_by a.records n (d (stand_of st a))

-- The same of a definition that does not ask at which half the reader stands.
abbrev pub Meets : Octets → State → ℕ → Lent → Result Step Fault → Lent → (F.State Located → I.Step) → Type 0
Meets s st n a r b d = Met s st n a r b (λ m. d m.state)
