-- Contracts of the code, not definitions to be believed. What an item's first octets say, and what is left to read
-- then.
use Rattle.std.specs.Prelude.{ℕ, ◌≤◌, ◌<◌, ◌≡◌, Bool, true, length, get_or, eqb, ltb, Result, Ok, Err}
use Rattle.format.specs.Octets.{Octets}
use Rattle.format.specs.Numbers.{pick}
use Rattle.format.specs.Refusals.{DEPTH, refusal_number}
use Rattle.format.specs.declared.refusals.Fault.{Fault}
use Rattle.format.specs.Events.{Start, Attribute, for_start, for_attribute, ◌by◌}
use Rattle.format.specs.Tables.{ATTRIBUTE_VALUE, Vocabulary, link}
use Rattle.format.specs.Names.{of_element, of_attribute}
use Rattle.format.specs.Items as F
use Rattle.tables.specs.Located.{Located}
use Rattle.states.specs.declared.State.{State}
use Rattle.states.specs.States.{state_of}
use Rattle.read_names.specs.Strings as S
use Rattle.read_names.specs.Strings.{value_at}
use Rattle.read_names.specs.Names.{NameRead, name_at}
use Rattle.read_items.specs.declared.items.Spot.{Spot}
use Rattle.read_items.specs.declared.items.Head.{Head}
use Rattle.read_items.specs.declared.items.Head.TheVariants.{Named, Declared, Child}
use Rattle.read_items.specs.Items as I
use Rattle.read_items.specs.Items.{namespace_at, child_at}

-- A Start whose name is read: depth after the name's own faults.
unfoldable pub start_by : ℕ → Bool → F.State Located → S.Got NameRead → I.Step
start_by k l v g =
    I.into g λ x next w. pick (ltb v.level link.depth)
    (I.more k (Start x.name by for_start x.how) (I.octet next (F.opened v w l))) (I.stop DEPTH k)

-- The name, and then the value.
abbrev pub attribute_by : Octets → ℕ → F.State Located → I.Step
attribute_by s k v =
    I.into (name_at link of_attribute s (get_or s k 0) k v.tables)
    λ x k₁ w₁. I.into (value_at link s ATTRIBUTE_VALUE k₁ w₁)
    λ y k₂ w₂. I.more k (Attribute x.name y.string by for_attribute x.how y.how) (I.octet k₂ (F.moved v w₂ (F.listing true)))

-- An element's name, or an attribute's.
abbrev pub named_by : Octets → Spot → F.State Located → I.Step
named_by s x v =
    pick (eqb x.table 8) (start_by x.at x.listing v (name_at link of_element s x.first x.at v.tables))
    (attribute_by s x.at v)

-- It stands in the octets, its table is one of names, and an attribute's octet is told whole.
pub record SpotNamed (s : Octets) (x : Spot) : Type 0 where
  pub inside : x.at < length s
  pub low : 8 ≤ x.table
  pub high : x.table < 10
  pub octet : x.table ≡ 9 → x.first ≡ get_or s x.at 0

-- What is left to read.
abbrev pub told : Octets → Result Head Fault → F.State Located → I.Step
told s (Err f) v = I.stop (refusal_number f.refusal) f.at
told s (Ok (Named x)) v = named_by s x v
told s (Ok (Declared at listing)) v = namespace_at link s at v listing
told s (Ok (Child k)) v = child_at link s k v

-- And what holds where it stands.
abbrev pub Stands : Octets → State → Result Head Fault → Type 0
Stands s st (Err f) = Unit {0}
Stands s st (Ok (Named x)) = SpotNamed s x
Stands s st (Ok (Declared at listing)) = (at ≤ length s) × (st.level < 32)
Stands s st (Ok (Child k)) = (k ≤ length s) × (k < length s → 0x80 ≤ get_or s k 0)

-- The definition d says what the head does, whatever the tables are.
pub record Tells (s : Octets) (st : State) (r : Result Head Fault) (d : F.State Located → I.Step) : Type 0 where
  pub is : (w : Vocabulary Located) → d (state_of st w) ≡ told s r (state_of st w)
  pub stands : Stands s st r
