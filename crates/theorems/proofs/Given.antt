-- The events that the writer writes are the records that it was given, but for their places.
use mathlib.Core.Path.{◌≡◌, refl, ap₂}
use mathlib.Core.Bool.{Bool, true, false, ◌&&◌}
use native.Mathlib.Omega.{arith}
use mathlib.Core.List.{List, ◌∷◌, map}
use Prim.Native.Nat.{ℕ}
use Rattle.format.specs.Octets.{Octets, Halves}
use Rattle.format.specs.Numbers.{pick}
use Rattle.format.specs.Events.{Item}
use Rattle.format.specs.Tables.{Version}
use Rattle.format.specs.Items.{State}
use Rattle.events.specs.declared.Event.{Event}
use Rattle.events.specs.Records.{record_of, unplaced}
use Rattle.tables.specs.Located.{Located}
use Rattle.write_head.specs.Given.{Given}
use Rattle.write_items.specs.Events.{well_made, event_of, goes_on}
use Rattle.write_items.specs.Steps.{judge}
use Rattle.writer.specs.Writing.{written, writing}
use Rattle.theorems.proofs.Turns.{as_written}
use Rattle.theorems.proofs.Sayable.{made_is, record_back}

-- an event that is passed is a record that is well made
passed : (text : Octets) (e : Event) (goes : Bool) (n : ℕ) → pick (well_made text e.kind e && goes) n 16 ≡ 0 → record_of (event_of e.kind e) ≡ unplaced e
passed text e goes n q = record_back text (made_is text e e.kind refl (from (well_made text e.kind e) goes q))
  where
    from : (a b : Bool) → pick (a && b) n 16 ≡ 0 → a ≡ true
    from true b q = refl
    from false b q = absurd (omega arith)

abbrev pub records_of : List (Item Located) → List Event
records_of items = map (λ (i : Item Located). record_of i.event) items

pub given_back : (ver : Version) (text : Octets) (room : ℕ) (g : Given) (es : List Event) (items : List (Item Located)) (hs : Halves) (z : State Located) → writing ver g text room es ≡ written items hs z → records_of items ≡ map unplaced es
unfolding judge
given_back ver text room =
    as_written ver text room (λ es at v items hs z. records_of items ≡ map unplaced es) (λ at v f. refl)
    (λ e es at v items rest z q h. ap₂ (λ (a : Event) (l : List Event). a ∷ l) (passed text e (goes_on v (event_of e.kind e)) _ q) h)
