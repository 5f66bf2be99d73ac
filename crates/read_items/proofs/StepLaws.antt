-- How a step's answer meets the definition: a refusal, an event, and the definition's own cases.
-- Assumes nothing.
use mathlib.Core.Path.{◌≡◌, refl}
use mathlib.Core.Bool.{Bool, true, false}
use Prim.Native.Nat.{ℕ, ◌/◌, ◌%◌, ◌≤◌, ◌<◌}
use native.Mathlib.Omega.{arith}
use borrow.Author.Tests.{lt-ltb, le-ltb, eq-eqb, ne_eqb}
use lib.Dec.{eqb, ltb}
use lib.ListN.{get_or}
use Rattle.std.specs.Prelude.{Result, Ok, Err}
use Rattle.format.specs.Octets.{Octets, Words}
use Rattle.format.specs.Numbers.{pick}
use Rattle.format.specs.Events.{Item}
use Rattle.format.specs.Refusals.{refusal_number}
use Rattle.format.specs.Tables.{link}
use Rattle.format.specs.declared.refusals.Fault.{Fault}
use Rattle.format.specs.declared.refusals.Refusal.TheVariants.{Code, Padding, Format, Depth}
use Rattle.fields.specs.declared.Read.{Read}
use Rattle.tables.specs.Located.{Located}
use Rattle.states.specs.declared.State.{State}
use Rattle.states.specs.States.{opened_at}
use Rattle.events.specs.declared.EventString.TheVariants.{Absent}
use Rattle.events.specs.declared.Kind.TheVariants.{Start}
use Rattle.events.specs.declared.Event as E
use Rattle.events.specs.Records.{record_of}
use Rattle.events.specs.Kept.{kept}
use Rattle.read_names.specs.Promises.{Rooms, name_strings_at}
use Rattle.read_items.specs.declared.Step.{Step}
use Rattle.read_items.specs.declared.Step.TheVariants.{Event}
use Rattle.read_items.specs.Items as I
use Rattle.read_items.specs.Items.{Stand, other_at}
use Rattle.read_items.specs.Promises.{Lent, stand_of, Good, Met, Meets}
use Rattle.read_items.specs.ItemContracts.{Stopped, named_record, start_step, start_records, StartsBy, other_refusal}

module _ {s : Octets} {st : State} {n : ℕ} {a b : Lent} where
  -- The answer for a definition is that for another which says the same here.
  pub met_by : {r : Result Step Fault} {d e : Stand → I.Step} → Met s st n a r b e → d (stand_of st a) ≡ e (stand_of st a) → Met s st n a r b d
  met_by m q = record { is = rw q m.is; good = m.good; keeps = rw q m.keeps }

  pub refuse : {d : Stand → I.Step} {f : Fault} → Rooms b.counts b.tables → b.records ≡ a.records
      → d (stand_of st a) ≡ I.stop (refusal_number f.refusal) f.at → Met s st n a (Err f) b d
  refuse l r e = record { is = rw e refl; good = l; keeps = rw e r }

  -- An event i, kept as the record e.
  pub tell : {d : Stand → I.Step} {st' : State} {p : ℕ} {e : E.Event} (i : Item Located) → Good s st' b → b.records ≡ kept a.records n p e → record_of i.event ≡ e
      → d (stand_of st a) ≡ I.more p i (stand_of st' b) → Met s st n a (Ok (Event st' p)) b d
  tell i g r q e = record { is = rw e refl; good = g; keeps = rw (e, q) r }

module _ {s : Octets} {st : State} {n : ℕ} {a : Lent} (g : Good s st a) where
  -- A refusal before anything was touched.
  pub refuse_here : {d : Stand → I.Step} {f : Fault} → d (stand_of st a) ≡ I.stop (refusal_number f.refusal) f.at → Met s st n a (Err f) a d
  refuse_here e = refuse (g.tidy.ten, g.tidy.room) refl e

  -- ---- what is no item
  others : {d : Stand → I.Step} (k : ℕ) (t u : Bool) → d (stand_of st a) ≡ pick t (pick u (I.stop 8 k) (I.stop 5 k)) (I.stop 6 k)
      → Met s st n a (Stopped (pick t (pick u Format Code) Padding) k) a d
  others k true true e = refuse_here e
  others k true false e = refuse_here e
  others k false u e = refuse_here e

  pub other : (k : ℕ) → Meets s st n a (Stopped (other_refusal st.level (get_or s k 0)) k) a (other_at link s k)
  unfolding other_refusal other_at
  other k = others k (ltb (get_or s k 0) 0xF0) (eqb (get_or s k 0 / 4) (pick (ltb 0 st.level) 0x32 0x31)) refl

-- What is no item, as the code tells it: o is an octet.
module _ (level o : ℕ) where
  pub other_end : 0xF0 ≤ o → Padding ≡ other_refusal level o
  unfolding other_refusal
  other_end h = rw (le-ltb _ _ h)

  module _ (h : o < 0xF0) (b c : ℕ) (eb : b ≡ o / 4 % 64) (ec : c ≡ pick (ltb 0 level) 0x32 0x31) where
    pub other_format : b ≡ c → Format ≡ other_refusal level o
    unfolding other_refusal
    other_format e = let z : o / 4 ≡ pick (ltb 0 level) 0x32 0x31 = omega arith in rw (lt-ltb _ _ h, eq-eqb _ _ z)

    pub other_none : (b ≡ c → ⊥) → Code ≡ other_refusal level o
    unfolding other_refusal
    other_none e = let z : o / 4 ≡ pick (ltb 0 level) 0x32 0x31 → ⊥ = λ x. e (omega arith) in rw (lt-ltb _ _ h, ne_eqb _ _ z)

-- ---- a Start whose name is read, by the level
module _ (st : State) (k : ℕ) (l : Bool) (t r : Words) (n : ℕ) {x : Read ℕ} {y : Result Step Fault} where
  pub start_deep : 32 ≤ st.level → y ≡ Stopped Depth k → StartsBy st k l t x r n y r
  unfolding start_step start_records link
  start_deep h q = record { is = rw (le-ltb _ _ h) q; keeps = rw (le-ltb _ _ h) refl }

  pub start-opened : {r' : Words} → st.level < 32 → y ≡ Ok (Event (opened_at st x.next.at l) k)
      → r' ≡ kept r n k (named_record Start (name_strings_at t 8 x.value) Absent) → StartsBy st k l t x r n y r'
  unfolding start_step start_records link
  start-opened h q z = record { is = rw (lt-ltb _ _ h) q; keeps = rw (lt-ltb _ _ h) z }
