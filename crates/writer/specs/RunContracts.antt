-- Contracts of the code, not definitions to be believed. How a run of the writer stands for its definition: what is still to be written, behind what is, leaves what the definition says.
use Rattle.std.specs.Prelude as Std
use Rattle.std.specs.Prelude.{ℕ, ◌+◌, ◌*◌, ◌^◌, ◌≤◌, ◌≡◌, Bool, List, ◌++◌, length, drop, replicate, Ok, Err}
use Rattle.std.proofs.lemmas.List.Edits.{sets}
use Rattle.format.specs.Octets.{Octets, Halves, Words}
use Rattle.format.specs.Tables.{Vocabulary, link}
use Rattle.format.specs.Items.{Mode, content, declaring, listing}
use Rattle.format.specs.Refusals.{refusal_number}
use Rattle.format.specs.declared.refusals.Fault.{Fault}
use Rattle.tables.specs.Located.{Located}
use Rattle.tables.specs.Counts.{table_words, entry_words, words_of}
use Rattle.tables.specs.Told.{told_accepted, entries_of}
use Rattle.states.specs.declared.State.{State}
use Rattle.states.specs.States.{mode_of}
use Rattle.events.specs.declared.Event.{Event}
use Rattle.write_items.specs.Steps.{announced, joined}
use Rattle.write_items.specs.OutputContracts.{Holds}
use Rattle.write_items.specs.StepContracts.{Ready, known}
use Rattle.writer.specs.Writing.{Result, written, refusal, finish, run, Outcome, refusing}
use Rattle.writer.specs.Words.{WordsLeft, leaving, nothing}
use Rattle.writer.specs.RanContracts.{ran_of}

-- The attribute bit in front of an element's declarations is b.
abbrev pub Foretold : Mode → Bool → Type 0
Foretold content b = Unit {0}
Foretold (declaring a) b = a ≡ b
Foretold (listing any) b = Unit {0}

-- What a call leaves in `size` octets of output that makes the document s: as much of it as they reach, and 0 behind it.
abbrev pub reaching : Octets → Vocabulary Located → (size : ℕ) → Outcome
reaching s v size =
    record {
      told = told_accepted (length s) (entries_of v);
      out = sets (replicate size 0) 0 s;
      tables = words_of entry_words v;
    }

-- What a call leaves whose run has the halves hs behind it and then comes out so.
abbrev pub behind : Halves → Result → (size : ℕ) → Outcome
behind hs (written is ks z) size = reaching (joined (hs ++ ks)) z.tables size
behind hs (refusal n p) size = refusing n p size table_words

-- What a run's answer, the number of octets, leaves in `size` octets and `table` words, with counts in the words c: on a refusal,
-- nothing.
abbrev pub remains : (size table : ℕ) → Std.Result ℕ Fault → (c : Words) (out : Octets) (tables : Words) → Outcome
remains size table (Ok n) c out tables = record { told = told_accepted n c; out = out; tables = tables }
remains size table (Err f) c out tables = refusing (refusal_number f.refusal) f.at size table

-- A refusal's place is that of an event: no large number.
abbrev pub Small : {A : Type 0} → Std.Result A Fault → Type 0
Small (Ok x) = Unit {0}
Small (Err f) = f.at ≤ 32768

-- Behind i of the events es, which are judged by `room`; out, c and w are the output and the words of counts and tables, beside the index. Each event took a half. The others lead to what the call is to leave, o.
pub record Underway (o : Outcome) (text : Octets) (room : ℕ) (es : List Event) (i : ℕ) (st : State) (c : Words) (out : Octets) (w : Words) (index : Octets) : Type 0 where
  pub hs : Halves
  pub holds : Holds (length out) hs st.at out
  pub ready : Ready text st c w index
  pub bit-known : Foretold (mode_of st.mode) (announced (drop i es))
  pub small : i ≤ st.at
  pub leads : behind hs (run link text room st.at (known st c w) i (drop i es)) (length out) ≡ o

-- The document's end behind i events came out as the definition says; out and out' are the output before and then.
abbrev pub Finishes : (room : ℕ) → State → Octets → ℕ → Std.Result ℕ Fault → Octets → Type 0
Finishes room st out i r out' =
    (text : Octets) (c w : Words) (index : Octets) (hs : Halves) → Ready text st c w index → Holds (length out) hs st.at out
    → remains (length out) table_words r c out' w ≡ behind hs (finish link text room st.at (known st c w) i) (length out)

-- ---- between two events
-- The attribute bit of the element, if an attribute is announced or not: among declarations, in front of which it stands, it is known.
abbrev pub bit_of : Mode → Bool → Bool
bit_of content a = a
bit_of (declaring b) a = b
bit_of (listing any) a = a

-- Behind i of the events es, which are judged by `room`, with `table` table words lent: a run is underway, or it was refused.
abbrev pub Going : Outcome → List Event → Octets → (room table i : ℕ) → Std.Result State Fault → (c : Words) (out : Octets) (w : Words) (index : Octets) → Type 0
Going o es text room table i (Ok st) c out w index = (table ≡ table_words) × Underway o text room es i st c out w index
Going o es text room table i (Err f) c out w index = refusing (refusal_number f.refusal) f.at (length out) table ≡ o

-- Before the events, whichever they are, with the words `given` for the head: the run leads to what a call leaves that judges by `room`.
abbrev pub Readies : (given : Words) → Octets → (room table : ℕ) → Std.Result State Fault → (c : Words) (out : Octets) (w : Words) (index : Octets) → Type 0
Readies given text room table r c out w index = (es : List Event) → Going (ran_of given es text room (length out) table) es text room table 0 r c out w index

-- What a call of words leaves in r, t and c words, which are out, w and d then: on a refusal, every word is still to be made 0.
abbrev pub left_by : Std.Result ℕ Fault → (r t c : ℕ) → (out : Octets) (w d : Words) → WordsLeft
left_by (Ok n) r t c out w d = leaving (n * 2 ^ 32) out w d
left_by (Err f) r t c out w d = nothing (f.at * 32 + refusal_number f.refusal) r t c
