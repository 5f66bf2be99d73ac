-- Contracts of the code, not definitions to be believed. The writer over words: which Starts are remembered, and the quick lane between two steps of a run.
use Rattle.std.specs.Prelude as Std
use Rattle.std.specs.Prelude.{ℕ, ◌*◌, ◌/◌, ◌<◌, ◌≡◌, List, length}
use Rattle.format.specs.Octets.{Octets, Words}
use Rattle.format.specs.Numbers.{pick}
use Rattle.format.specs.Tables.{Vocabulary}
use Rattle.format.specs.declared.refusals.Fault.{Fault}
use Rattle.tables.specs.Counts.{table_words}
use Rattle.tables.specs.Located.{Located}
use Rattle.states.specs.declared.State.{State}
use Rattle.events.specs.declared.Kind.TheVariants.{Start}
use Rattle.events.specs.declared.Event.{Event}
use Rattle.events.specs.FromWords.{record_at, records_of}
use Rattle.write_names.specs.Promises.{tables_in}
use Rattle.writer.specs.declared.lane.Lane.{Lane}
use Rattle.writer.specs.Writing.{Outcome}
use Rattle.writer.specs.RunContracts.{Underway, Going}
use Rattle.writer.specs.LaneContracts.{Taught, Remembered, Onward}

-- What is remembered is still so, with record i or without it: there are n names of elements then, and if there were fewer before, a Start was that of the last.
abbrev pub Learns : Words → (i before n : ℕ) → (memory memory' : Words) → Type 0
Learns w i before n memory memory' =
    (text : Octets) (v : Vocabulary Located) → (before < n → (record_at w (14 * i)).kind ≡ Start → Taught text v (record_at w (14 * i)) n) → Remembered (records_of w) text v memory → Remembered (records_of w) text v memory'

-- The state behind the records that the lane took.
abbrev pub arrived_at : State → Lane → State
arrived_at st l = record { at = l.at; level = l.level; root = st.root; mode = pick l.listing 1 st.mode }

-- From record i on the lane took those before its next: a run that was underway is so still.
pub record Rides (w memory : Words) (room i : ℕ) (st : State) (out : Octets) (l : Lane) (out' : Octets) : Type 0 where
  pub onward : Onward i l.i (length w / 14)
  pub under : (o : Outcome) (text : Octets) (c t : Words) (index : Octets) → Remembered (records_of w) text (tables_in c t) memory → Underway o text room (records_of w) i st c out t index
      → Underway o text room (records_of w) l.i (arrived_at st l) c out' t index

-- Before the events es, a run leads to something.
pub record Leading (es : List Event) (text : Octets) (room : ℕ) (st : State) (c : Words) (out : Octets) (w : Words) (index : Octets) : Type 0 where
  pub to : Outcome
  pub under : Underway to text room es 0 st c out w index

-- The events es were taken, all or up to the first refusal, and what it led to it leads to still: the state, c, out, w and the index became r, c', out', w' and index'.
abbrev pub Through : List Event → Octets → (room : ℕ) → State → (c : Words) (out : Octets) (w : Words) (index : Octets) → Std.Result State Fault → (c' : Words) (out' : Octets) (w' : Words) (index' : Octets) → Type 0
Through es text room st c out w index r c' out' w' index' =
    (o : Outcome) → Underway o text room es 0 st c out w index → Going o es text room table_words (length es) r c' out' w' index'
