-- Contracts of the code, not definitions to be believed. What each function of a step writes: the end that an attribute list owes, the item behind it, and whether all of it fits.
use Rattle.std.specs.Prelude.{ℕ, ◌+◌, ◌*◌, ◌/◌, ◌<◌, ◌≤◌, ◌≡◌, Bool, true, false, not, ◌&&◌, length, set, leb, Result, Ok, Err}
use Rattle.format.specs.Octets.{Octets, Words}
use Rattle.format.specs.Numbers.{pick}
use Rattle.format.specs.Events as E
use Rattle.format.specs.Tables.{link}
use Rattle.format.specs.Document.{aligned}
use Rattle.format.specs.declared.refusals.Refusal.{Refusal}
use Rattle.format.specs.declared.refusals.Refusal.TheVariants.{Full, Room}
use Rattle.fields.specs.PutContracts.{Puts}
use Rattle.tables.specs.Located.{Located}
use Rattle.states.specs.declared.State.{State}
use Rattle.states.specs.States.{farthest, mode_of, coming, after_end}
use Rattle.events.specs.declared.Kind.{Kind}
use Rattle.events.specs.declared.Event.{Event}
use Rattle.write_names.specs.declared.QualifiedName.{QualifiedName}
use Rattle.write_names.specs.Choices.{within}
use Rattle.write_names.specs.Promises.{InOrder}
use Rattle.write_items.specs.Events.{well_made, event_of, all_text, is_listing}
use Rattle.write_items.specs.Items.{write_item}
use Rattle.write_items.specs.Steps.{is_attribute, is_end, opens, fits}
use Rattle.write_items.specs.OutputContracts.{end_octet}
use Rattle.write_items.specs.StepContracts.{known}

-- The end of an attribute list is owed; the state and the output behind it, where it is.
unfoldable pub owes : State → Event → Bool
owes st e = is_listing (mode_of st.mode) && not (is_attribute (event_of e.kind e))

abbrev pub list_ended : Bool → State → State
list_ended true st = after_end st st.level
list_ended false st = st

abbrev pub end_put : Bool → (out : Octets) (at : ℕ) → Octets
end_put true out at = set out (at / 2) (end_octet at)
end_put false out at = out

-- What an event of this kind is written from: it is well made and text, and the state is one that its item may follow.
pub record Fit (text : Octets) (st : State) (c w : Words) (index : Octets) (k : Kind) (e : Event) : Type 0 where
  pub order : InOrder text c w index
  pub at : st.at ≤ 32769
  pub shallow : st.level + coming st.mode ≤ 32
  pub made : well_made text k e ≡ true
  pub texts : all_text text (event_of k e) ≡ true
  pub roomy : (opens (mode_of st.mode) (event_of k e) && leb link.depth st.level) ≡ false
  pub inside : is_end (event_of k e) ≡ true → 0 < st.level

-- The name of an event in a table, behind the bits `lead`.
abbrev pub qualified_of : (table lead : ℕ) → Event → QualifiedName
qualified_of table lead e = record { table = table; lead = lead; prefix = e.prefix; namespace = e.namespace; local = e.name }

-- From the half `at` to the half `next`: an end, or an item's octets from the next whole octet.
abbrev pub Laid : (end : Bool) → (out : Octets) (at next : ℕ) (out' os : Octets) → Type 0
Laid true out at next out' os = (next ≡ at + 1) × (out' ≡ set out (at / 2) (end_octet at))
Laid false out at next out' os = Puts out (aligned at / 2) (next / 2) out' os × (next ≡ 2 * (next / 2)) × (1 ≤ length os)

-- The item of the event is in the output, behind the end owed, and the writer stands behind it.
pub record Landed (text : Octets) (a : Bool) (st : State) (c : Words) (out : Octets) (w : Words) (e : E.Event Located) (next : State) (out' : Octets) (c' w' : Words) (index' : Octets) : Type 0 where
  pub laid : Laid (is_end e) out st.at next.at out' (write_item link text a (known st c w) e).octets
  pub near : next.at ≤ 2 * farthest
  pub state : known next c' w' ≡ (write_item link text a (known st c w) e).state
  pub order : InOrder text c' w' index'
  pub shallow : next.level + coming next.mode ≤ 32

-- Or a table is full, and the definition's has an entry too many.
abbrev pub Lands : Octets → Bool → State → (c : Words) → Octets → (w : Words) → E.Event Located → Result State Refusal → Octets → (c' w' : Words) (index' : Octets) → Type 0
Lands text a st c out w e (Ok next) out' c' w' index' = Landed text a st c out w e next out' c' w' index'
Lands text a st c out w e (Err r) out' c' w' index' = (r ≡ Full) × (within link (write_item link text a (known st c w) e).state.tables ≡ false)

-- The state, if what is written up to it fits the room.
unfoldable pub holding : Octets → (room : ℕ) → State → Result State Refusal
holding text room st = pick (fits link text room st.at) (Ok st) (Err Room)
