-- No two answers are told alike in the requirements' numbers: what is told of a call is all that it answers.
use mathlib.Core.Path.{◌≡◌, refl, sym, ap, ◌∙◌}
use Prim.Native.Nat.{ℕ, ◌≤◌}
use native.Mathlib.Omega.{arith}
use lib.Dec.{eqb}
use Rattle.std.specs.Prelude.{Result, Ok, Err}
use Rattle.format.specs.Numbers.{pick}
use Rattle.format.specs.Refusals.{refusal_number}
use Rattle.format.specs.declared.refusals.Fault.{Fault}
use Rattle.format.specs.declared.refusals.Refusal.{Refusal}
use Rattle.format.specs.declared.refusals.Refusal.TheVariants.{Size, Truncated, Header, OptionalPart, Code, Padding, Range, Format, Text, Index, Repeat, Full, Depth, Room, Structure, Event}
use Rattle.tables.specs.declared.Counts.{Counts}
use Rattle.tables.specs.Kept.{listed, unlisted}
use Rattle.tables.specs.Told.{Told}
use Rattle.reader.specs.declared.Accepted as Reader
use Rattle.reader.specs.Reading as Read
use Rattle.writer.specs.declared.Accepted as Writer
use Rattle.writer.specs.Writing as Write

-- a refusal from its number
refusal_of : ℕ → Refusal
refusal_of n =
    pick (eqb n 1) Size
    (pick (eqb n 2) Truncated
    (pick (eqb n 3) Header
    (pick (eqb n 4) OptionalPart
    (pick (eqb n 5) Code
    (pick (eqb n 6) Padding
    (pick (eqb n 7) Range
    (pick (eqb n 8) Format
    (pick (eqb n 9) Text
    (pick (eqb n 10) Index
    (pick (eqb n 11) Repeat
    (pick (eqb n 12) Full
    (pick (eqb n 13) Depth
    (pick (eqb n 14) Room
    (pick (eqb n 15) Structure Event))))))))))))))

from_number : (r : Refusal) → (refusal_of (refusal_number r) ≡ r) × (1 ≤ refusal_number r)
unfolding refusal_of
from_number Size = (refl, omega arith)
from_number Truncated = (refl, omega arith)
from_number Header = (refl, omega arith)
from_number OptionalPart = (refl, omega arith)
from_number Code = (refl, omega arith)
from_number Padding = (refl, omega arith)
from_number Range = (refl, omega arith)
from_number Format = (refl, omega arith)
from_number Text = (refl, omega arith)
from_number Index = (refl, omega arith)
from_number Repeat = (refl, omega arith)
from_number Full = (refl, omega arith)
from_number Depth = (refl, omega arith)
from_number Room = (refl, omega arith)
from_number Structure = (refl, omega arith)
from_number Event = (refl, omega arith)

fault_alike : (f g : Fault) → refusal_number f.refusal ≡ refusal_number g.refusal → f.at ≡ g.at → f ≡ g
fault_alike f g e h =
    let r : f.refusal ≡ g.refusal = sym (from_number f.refusal).0 ∙ ap refusal_of e ∙ (from_number g.refusal).0 in
    λ i. record { refusal = r i; at = h i }

pub read_alike : (a b : Result Reader.Accepted Fault) → Read.told a ≡ Read.told b → a ≡ b
read_alike (Ok a) (Ok b) e =
    let n : a.events ≡ b.events = ap (λ (t : Told). t.count) e in
    let c : a.counts ≡ b.counts = ap (λ (t : Told). unlisted t.counts) e in
    ap Ok (λ i. record { events = n i; counts = c i })
read_alike (Ok a) (Err g) e = absurd (let z : 0 ≡ refusal_number g.refusal = ap (λ (t : Told). t.number) e in let y = (from_number g.refusal).1 in omega arith)
read_alike (Err f) (Ok b) e = absurd (let z : refusal_number f.refusal ≡ 0 = ap (λ (t : Told). t.number) e in let y = (from_number f.refusal).1 in omega arith)
read_alike (Err f) (Err g) e = ap Err (fault_alike f g (ap (λ (t : Told). t.number) e) (ap (λ (t : Told). t.place) e))

pub write_alike : (a b : Result Writer.Accepted Fault) → Write.told a ≡ Write.told b → a ≡ b
write_alike (Ok a) (Ok b) e =
    let n : a.octets ≡ b.octets = ap (λ (t : Told). t.count) e in
    let c : a.counts ≡ b.counts = ap (λ (t : Told). unlisted t.counts) e in
    ap Ok (λ i. record { octets = n i; counts = c i })
write_alike (Ok a) (Err g) e = absurd (let z : 0 ≡ refusal_number g.refusal = ap (λ (t : Told). t.number) e in let y = (from_number g.refusal).1 in omega arith)
write_alike (Err f) (Ok b) e = absurd (let z : refusal_number f.refusal ≡ 0 = ap (λ (t : Told). t.number) e in let y = (from_number f.refusal).1 in omega arith)
write_alike (Err f) (Err g) e = ap Err (fault_alike f g (ap (λ (t : Told). t.number) e) (ap (λ (t : Told). t.place) e))
