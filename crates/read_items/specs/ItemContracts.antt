-- Contracts of the code, not definitions to be believed. What the functions of a step hand on.
use Rattle.std.specs.Prelude.{ℕ, ◌/◌, ◌≡◌, Bool, eqb, ltb, Result, Ok, Err}
use Rattle.format.specs.Octets.{Octets, Words}
use Rattle.format.specs.Numbers.{pick}
use Rattle.format.specs.Tables.{link}
use Rattle.format.specs.declared.refusals.Refusal.{Refusal}
use Rattle.format.specs.declared.refusals.Refusal.TheVariants.{Code, Padding, Format, Depth}
use Rattle.format.specs.declared.refusals.Fault.{Fault}
use Rattle.fields.specs.declared.Read.{Read}
use Rattle.states.specs.declared.State.{State}
use Rattle.states.specs.States.{opened_at}
use Rattle.events.specs.declared.EventString.{EventString}
use Rattle.events.specs.declared.EventString.TheVariants.{Absent}
use Rattle.events.specs.declared.Kind.{Kind}
use Rattle.events.specs.declared.Kind.TheVariants.{Start}
use Rattle.events.specs.declared.Event as E
use Rattle.events.specs.Kept.{kept}
use Rattle.read_names.specs.declared.Parts.{Parts}
use Rattle.read_names.specs.Promises.{name_strings_at}
use Rattle.read_items.specs.declared.Step.{Step}
use Rattle.read_items.specs.declared.Step.TheVariants.{Event}
use Rattle.read_items.specs.Items as I
use Rattle.read_items.specs.Items.{Stand}
use Rattle.read_items.specs.Steps.{end_at}
use Rattle.read_items.specs.Promises.{Lent, lent, Good, Met}

-- A refusal at an octet.
abbrev pub Stopped : Refusal → (at : ℕ) → Result Step Fault
Stopped r at = Err (record { refusal = r; at = at })

-- The same for anything lent, for code that touches none of it.
abbrev pub Keeps : Octets → State → ℕ → Result Step Fault → (Stand → I.Step) → Type 0
Keeps s st n r d = (a : Lent) → Good s st a → Met s st n a r a d

-- An end: it touches the records alone.
abbrev pub Ended : Octets → State → ℕ → Words → Result Step Fault → Words → Type 0
Ended s st n r x r' =
    (t c : Words) (i : Octets) → Good s st (lent t c i r)
    → Met s st n (lent t c i r) x (lent t c i r') (λ m. end_at s m m.state.mode)

-- The record of a Start or an attribute, from its name's strings.
abbrev pub named_record : Kind → Parts → EventString → E.Event
named_record kind x value =
    record { kind = kind; prefix = x.prefix; namespace = x.namespace; name = x.local; value = value; place = 0 }

-- A Start at octet k, whose name is read: no more elements may be open, or its event is kept in record n.
unfoldable pub start_step : State → ℕ → Bool → Read ℕ → Result Step Fault
start_step st k a name = pick (ltb st.level link.depth) (Ok (Event (opened_at st name.next.at a) k)) (Stopped Depth k)

unfoldable pub start_records : State → ℕ → Words → Read ℕ → Words → ℕ → Words
start_records st k t name r n =
    pick (ltb st.level link.depth) (kept r n k (named_record Start (name_strings_at t 8 name.value) Absent)) r

pub record StartsBy (st : State) (k : ℕ) (a : Bool) (t : Words) (name : Read ℕ) (r : Words) (n : ℕ) (y : Result Step Fault) (r' : Words) : Type 0 where
  pub is : y ≡ start_step st k a name
  pub keeps : r' ≡ start_records st k t name r n

-- Why an octet starts no item.
unfoldable pub other_refusal : (level o : ℕ) → Refusal
other_refusal level o = pick (ltb o 0xF0) (pick (eqb (o / 4) (pick (ltb 0 level) 0x32 0x31)) Format Code) Padding
