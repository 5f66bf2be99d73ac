-- Contracts of the code, not definitions to be believed. How a step of the code stands for the writer's definition: one event, judged and written.
use Rattle.std.specs.Prelude.{ℕ, ◌+◌, ◌<◌, ◌≤◌, ◌≡◌, Bool, length, Result, Ok, Err}
use Rattle.format.specs.Octets.{Octets, Halves, Words}
use Rattle.format.specs.Tables.{link}
use Rattle.format.specs.Items as F
use Rattle.format.specs.Refusals.{refusal_number}
use Rattle.format.specs.declared.refusals.Refusal.{Refusal}
use Rattle.tables.specs.Located.{Located}
use Rattle.states.specs.declared.State.{State}
use Rattle.states.specs.States.{state_of, coming}
use Rattle.events.specs.declared.Event.{Event}
use Rattle.write_names.specs.Promises.{tables_in, InOrder}
use Rattle.write_items.specs.Events.{event_of}
use Rattle.write_items.specs.Items.{WroteItem, write_item}
use Rattle.write_items.specs.Steps.{settled, halves_of, judge}
use Rattle.write_items.specs.OutputContracts.{Holds, Grown}

-- The writer stands where a document fits its limits, and the tables in lent words are in order: c are those of the counts, w those of the tables.
pub record Ready (text : Octets) (st : State) (c w : Words) (index : Octets) : Type 0 where
  pub order : InOrder text c w index
  pub at : st.at ≤ 32768
  pub shallow : st.level + coming st.mode ≤ 32

-- What is known where the writer stands, with tables in lent words.
abbrev pub known : State → (c w : Words) → F.State Located
known st c w = state_of st (tables_in c w)

-- What an event is written as from there, and its halves: `a` says whether its element's Start is followed by an attribute.
unfoldable pub item_of : Octets → Bool → F.State Located → Event → WroteItem
item_of text a v e = write_item link text a (settled v (event_of e.kind e)) (event_of e.kind e)

unfoldable pub halves_for : Octets → (room : ℕ) → Bool → ℕ → F.State Located → Event → Halves
halves_for text room a at v e = halves_of link text room at v (event_of e.kind e) (item_of text a v e)

unfoldable pub verdict : Octets → (room : ℕ) → Bool → ℕ → F.State Located → Event → ℕ
verdict text room a at v e = judge link text room at v e (item_of text a v e) (halves_for text room a at v e)

-- The event is in the output, and the writer stands behind it; out, c and w were the output and the words of counts and tables before, out', c' and w' are those then, and the index is index'.
pub record Went (text : Octets) (room : ℕ) (a : Bool) (st : State) (c : Words) (out : Octets) (w : Words) (e : Event) (next : State) (out' : Octets) (c' w' : Words) (index' : Octets) : Type 0 where
  pub judged : verdict text room a st.at (known st c w) e ≡ 0
  pub state : known next c' w' ≡ (item_of text a (known st c w) e).state
  pub grown : (hs : Halves) → Holds (length out) hs st.at out → Grown (length out) hs (halves_for text room a st.at (known st c w) e) st.at next.at out'
  pub ready : Ready text next c' w' index'
  pub onward : st.at < next.at

-- Or it is refused by the definition's number.
abbrev pub Steps : Octets → (room : ℕ) → Bool → State → (c : Words) → Octets → (w : Words) → Event → Result State Refusal → Octets → (c' w' : Words) (index' : Octets) → Type 0
Steps text room a st c out w e (Ok next) out' c' w' index' = Went text room a st c out w e next out' c' w' index'
Steps text room a st c out w e (Err r) out' c' w' index' = verdict text room a st.at (known st c w) e ≡ refusal_number r
