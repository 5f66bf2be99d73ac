-- An accepted document has a record for each event, and a document's size.
use Prim.Native.Nat.{ℕ, zero, suc, ◌≤◌}
use mathlib.Core.Path.{◌≡◌, refl, ap, subst}
use mathlib.Core.Bool.{Bool, true, false}
use mathlib.Core.List.{List}
use native.Mathlib.Omega.{arith}
use lib.ListN.{length, length-map}
use Rattle.format.specs.Octets.{Octets}
use Rattle.format.specs.Events.{Item}
use Rattle.format.specs.Tables.{Version}
use Rattle.format.specs.Items.{State}
use Rattle.tables.specs.Located.{plain}
use Rattle.read_items.specs.Items.{Stand, Step, more, quiet, done, stop}
use Rattle.read_items.specs.Steps.{step}
use Rattle.reader.specs.Reading.{EventRead, items_read, Result, accepted, refusal, plus, turn, run, Opening, onward, halt, opening, origin, fuel_of, result_from, sized, reading, Accepts}

abbrev Fits : ℕ → Result → Type 0
Fits room (accepted es m) = length es ≤ room
Fits room (refusal n p) = Unit {0}

plus-fits : (room : ℕ) (e : EventRead) (a : Result) → Fits room a → Fits (suc room) (plus e a)
plus-fits room e (accepted es m) h = omega arith
plus-fits room e (refusal n p) h = tt

turn-fits : (go : ℕ → Stand → Result) → ((r : ℕ) (n : Stand) → Fits r (go r n)) → (room : ℕ) (m : Stand) (a : Step) → Fits room (turn go room m a)
turn-fits go rec zero m (more p i n) = tt
turn-fits go rec (suc r) m (more p i n) = plus-fits r _ (go r n) (rec r n)
turn-fits go rec room m (quiet n) = rec room n
turn-fits go rec room m done = omega arith
turn-fits go rec room m (stop n p) = tt

run_fits : (ver : Version) (s : Octets) (fuel room : ℕ) (m : Stand) → Fits room (run ver s fuel room m)
unfolding run
run_fits ver s zero room m = tt
run_fits ver s (suc fuel) room m = turn-fits (λ r n. run ver s fuel r n) (λ r n. run_fits ver s fuel r n) room m (step ver s m)

from_fits : (ver : Version) (s : Octets) (room : ℕ) (o : Opening) → Fits room (result_from ver s room o)
from_fits ver s room (onward body tables) = run_fits ver s (fuel_of s) room (origin body tables)
from_fits ver s room (halt n p) = tt

pub accepted_fits : (ver : Version) (s : Octets) (room : ℕ) (items : List (Item Octets)) (z : State Octets) → Accepts ver s room items z → length items ≤ room
unfolding reading
accepted_fits ver s room items z a =
    let h : length a.events ≤ room = subst (Fits room) a.reads (from_fits ver s room (opening ver s)) in
    let l = length-map (items_read a.events) (plain s) in
    let j = length-map a.events (λ (e : EventRead). e.item) in
    let k = ap length a.are in
    omega arith

-- and it has a document's size
sized_is : (ver : Version) (s : Octets) (room : ℕ) (es : List EventRead) (m : Stand) → reading ver s room ≡ accepted es m → (b : Bool) → sized ver s ≡ b → sized ver s ≡ true
unfolding reading opening
sized_is ver s room es m r true e = e
sized_is ver s room es m r false e = let q = rw e at r in absurd (let z : ◌≡◌ {A = ℕ} 0 1 = cc in omega arith)

pub accepted_sized : (ver : Version) (s : Octets) (room : ℕ) (es : List EventRead) (m : Stand) → reading ver s room ≡ accepted es m → sized ver s ≡ true
accepted_sized ver s room es m r = sized_is ver s room es m r (sized ver s) refl
