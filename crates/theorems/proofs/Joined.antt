-- The octets of a document: the halves that the rules write, joined two by two behind what stands before the body.
use Prim.Native.Nat.{ℕ, zero, suc, ◌+◌, ◌*◌, ◌/◌, ◌%◌, ◌≤◌, ◌<◌}
use mathlib.Core.Path.{◌≡◌, refl, ap, ◌∙◌}
use mathlib.Core.List.{List, [], ◌∷◌, ◌++◌}
use native.Mathlib.Omega.{arith}
use lib.ListN.{length}
use Rattle.format.specs.Octets.{Octets, Halves}
use Rattle.format.specs.Events.{Item}
use Rattle.format.specs.Tables.{Vocabulary, Version}
use Rattle.format.specs.Head.{Head, Opens}
use Rattle.format.specs.Items.{State}
use Rattle.format.specs.Document.{halves, pad, aligned, Written, document_end_lem, attributes_end, element_end, item, beginning, Document}
use Rattle.write_items.specs.Steps.{joined}
use Rattle.theorems.proofs.Lists.{parity, halves_append}

-- ---- halves joined to octets are those halves, where the first starts an octet
-- from an odd half: whatever half stands before it
abbrev Joins : ℕ → Octets → Type 0
Joins zero hs = halves (joined hs) ≡ hs
Joins (suc n) hs = (h : ℕ) → halves (joined (h ∷ hs)) ≡ h ∷ hs

one_octet : (h l : ℕ) → l < 16 → ((16 * h + l) / 16 ≡ h) × ((16 * h + l) % 16 ≡ l)
one_octet h l k = omega arith

join_two : (h l : ℕ) (hs : Halves) → l < 16 → halves (joined hs) ≡ hs → halves (joined (h ∷ l ∷ hs)) ≡ h ∷ l ∷ hs
unfolding halves joined
join_two h l hs k e = let o = one_octet h l k in rw (o.0, o.1, e)

join_octets : (o : Octets) (hs : Halves) → halves (joined hs) ≡ hs → halves (joined (halves o ++ hs)) ≡ halves o ++ hs
unfolding halves
join_octets [] hs e = e
join_octets (x ∷ o) hs e = join_two (x / 16) (x % 16) (halves o ++ hs) (omega arith) (join_octets o hs e)

-- one more end in front
join_end : (at : ℕ) (hs : Halves) → Joins (suc at % 2) hs → Joins (at % 2) (15 ∷ hs)
join_end at hs k =
    parity at (λ z. let y : suc at % 2 ≡ 1 = omega arith in rw z (rw y at k 15))
    (λ z. let y : suc at % 2 ≡ 0 = omega arith in rw z (λ h. join_two h 15 hs (omega arith) (rw y at k)))

-- octets in front, from the next whole octet on
join_item : (at : ℕ) (o : Octets) (hs : Halves) → halves (joined hs) ≡ hs → Joins (at % 2) (pad at ++ (halves o ++ hs))
unfolding pad
join_item at o hs k = parity at (λ z. rw z (join_octets o hs k)) (λ z. rw z (λ h. join_two h 0 (halves o ++ hs) (omega arith) (join_octets o hs k)))

joins_from : {ver : Version} {at : ℕ} {v z : State Octets} {items : List (Item Octets)} {hs : Halves} → Written ver at v items hs z → Joins (at % 2) hs
unfolding pad aligned halves joined
joins_from (document_end_lem {at = at} md lv rt) =
    parity at (λ z. let y : suc at % 2 ≡ 1 = omega arith in rw (z, y)) (λ z. let y : suc at % 2 ≡ 0 = omega arith in rw (z, y) (λ h. join_two h 15 [] (omega arith) refl))
joins_from (attributes_end {at = at} {hs = hs} md w) = join_end at hs (joins_from w)
joins_from (element_end {at = at} {hs = hs} md lv w) = join_end at hs (joins_from w)
joins_from (item {at = at} {o = o} {hs = hs} u w) =
    let y : (at + at % 2 + 2 * length o) % 2 ≡ 0 = omega arith in
    join_item at o hs (rw y at (joins_from w))

-- ---- from a whole octet
pub joins : {ver : Version} (n : ℕ) {v z : State Octets} {items : List (Item Octets)} {hs : Halves} → Written ver (2 * n) v items hs z → halves (joined hs) ≡ hs
joins n w = let e : 2 * n % 2 ≡ 0 = omega arith in rw e at (joins_from w)

-- A document: behind these octets, which open it with these tables.
module _ {ver : Version} {h : Head} {o : Octets} {v : Vocabulary Octets} (op : Opens ver h o v) where
  abbrev pub document_of : {z : State Octets} {items : List (Item Octets)} {hs : Halves} → Written ver (2 * length o) (beginning v) items hs z → length (o ++ joined hs) ≤ ver.octets
      → Document ver h items z (o ++ joined hs)
  document_of {hs = hs} w short =
      record { before = o; listed = v; opens = op; body = hs; here = halves_append o (joined hs) ∙ ap (λ (l : Octets). halves o ++ l) (joins (length o) w); rule = w; short = short }
